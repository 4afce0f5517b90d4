-- What an operand says of x, in 32 bits, and that it says what the kind says.
use mathlib.Core.Path.{◌≡◌, refl}
use Prim.Native.Nat.{ℕ, ◌<◌}
use native.Mathlib.Omega.{arith}
use lib.IntN.{ℤ, pos, negsuc, nat_abs}
use mir.Syntax.{w32}
use mir.Val.{SFits, of_z, bool_byte}
use mathlib.Core.Bool.{true, false}
use lib.Dec.{eqb}
use borrow.Author.Tests.{ne_eqb}
use Rattle.numbers.specs.Whole.{eq_z}
use Rattle.language.specs.Meaning.{is_one, number}
use Rattle.table.specs.Records.{bits_of}
use Rattle.table.specs.Kinds.{kinds, kind_of}
use Rattle.kinds.specs.declared.Operand.{Operand}
use Rattle.kinds.specs.declared.Operand.TheVariants.{Missing, Unused, AnyNumber, TruthValue, Slot, BooleanVariable, IntegerVariable, BooleanArray, IntegerArray, BooleanNode, IntegerNode}
use Rattle.kinds.specs.Entries.{operand_of, operand_x}
use Rattle.answers.specs.Sections.{listed}
use Rattle.translator.specs.Words.{literal, looks_up}
use Rattle.translator.proofs.Planned.{same-below}
use Rattle.writing.specs.Operands.{stands_for, names_array}

-- The machine's bits are the number's.
pub machine-bits : (z : ℤ) → of_z w32 z ≡ bits_of z
unfolding bits_of
machine-bits (pos n) = refl
machine-bits (negsuc n) = omega arith

pub truth-bits : (z : ℤ) → SFits w32 z → bool_byte (eqb (of_z w32 z) 1) ≡ bits_of (number (is_one z))
unfolding is_one eq_z number bits_of
truth-bits (pos n) h = elim (eqb n 1) as (λ b. bool_byte b ≡ bits_of (number b)) [ true ↦ refl | false ↦ refl ]
truth-bits (negsuc n) h = rw (ne_eqb (of_z w32 (negsuc n)) 1 (λ e. omega (arith, h.sfits)))

-- What is no number and no truth value names something.
pub other-stands : (operand : Operand) (x : ℤ) → (operand ≡ AnyNumber → ⊥) → (operand ≡ TruthValue → ⊥) → stands_for operand x ≡ pos (nat_abs x)
unfolding stands_for
other-stands AnyNumber x h k = absurd (h refl)
other-stands TruthValue x h k = absurd (k refl)
other-stands Missing x h k = refl
other-stands Unused x h k = refl
other-stands Slot x h k = refl
other-stands BooleanVariable x h k = refl
other-stands IntegerVariable x h k = refl
other-stands BooleanArray x h k = refl
other-stands IntegerArray x h k = refl
other-stands BooleanNode x h k = refl
other-stands IntegerNode x h k = refl

-- For every kind: one computed test each.
all-stand : (x : ℤ) → listed 31 (λ k. stands_for (operand_x (kind_of k)) x) ≡ listed 31 (λ k. literal k x)
unfolding stands_for literal operand_x operand_of kind_of kinds listed
all-stand x = refl

all-look_up : listed 31 (λ k. names_array (operand_x (kind_of k))) ≡ listed 31 looks_up
unfolding looks_up operand_x operand_of kind_of kinds listed
all-look_up = refl

-- So the operand of a kind's x says what the kind does.
pub stands : (x : ℤ) (k : ℕ) → k < 31 → stands_for (operand_x (kind_of k)) x ≡ literal k x
stands x k h = same-below 31 (λ k. stands_for (operand_x (kind_of k)) x) (λ k. literal k x) (all-stand x) k h

pub looked_up : (k : ℕ) → k < 31 → names_array (operand_x (kind_of k)) ≡ looks_up k
looked_up k h = same-below 31 (λ k. names_array (operand_x (kind_of k))) looks_up all-look_up k h
