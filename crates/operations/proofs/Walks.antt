-- Values and back, and values held to the limit.
use mathlib.Core.Path.{◌≡◌, refl}
use mathlib.Core.Bool.{Bool, true, false}
use mathlib.Core.Option.{Option, none, some}
use lib.IntN.{ℤ, pos}
use lib.Dec.{eqb}
use native.Mathlib.Omega.{arith}
use mir.Syntax.{w32}
use mir.Val.{SFits, of_z}
use Rattle.numbers.specs.Whole.{within_limit}
use Rattle.numbers.proofs.Widths.{eq_bits}
use Rattle.language.specs.Meaning.{value_within, is_one}
use Rattle.operations.specs.declared.values.Value.{Value}
use Rattle.operations.specs.declared.values.Value.TheVariants.{Integer, Truth, Undefined}
use Rattle.operations.specs.Values.{of_integer, integer_of, truth_of, of_walk, limited_to}

pub integer_of-of_integer : (v : Option ℤ) → integer_of (of_integer v) ≡ v
integer_of-of_integer none = refl
integer_of-of_integer (some z) = refl

-- A value that is no integer reads as none, and so does one that is no truth value.
pub not_integer : (v : Value) → ((z : ℤ) → v ≡ Integer z → ⊥) → integer_of v ≡ none
not_integer (Integer z) h = absurd (h z refl)
not_integer (Truth b) h = refl
not_integer Undefined h = refl

pub not_truth : (v : Value) → ((b : Bool) → v ≡ Truth b → ⊥) → truth_of v ≡ none
not_truth (Integer z) h = refl
not_truth (Truth b) h = absurd (h b refl)
not_truth Undefined h = refl

-- The code's test for 1 compares bits.
pub same_as_one : (z : ℤ) → SFits w32 z → eqb (of_z w32 z) 1 ≡ is_one z
unfolding is_one
same_as_one z f = eq_bits z (pos 1) f (record { sfits = omega arith })

-- No value is within the limit.
pub missing : (within : Bool) → of_walk within Undefined ≡ limited_to within none
unfolding limited_to value_within
missing true = refl
missing false = refl

pub kept : (within : Bool) (z : ℤ) → within_limit z ≡ true → of_walk within (Integer z) ≡ limited_to within (some z)
unfolding limited_to value_within
kept true z h = rw h
kept false z h = refl

pub dropped : (within : Bool) (z : ℤ) → within_limit z ≡ false → of_walk false Undefined ≡ limited_to within (some z)
unfolding limited_to value_within
dropped true z h = rw h
dropped false z h = refl
