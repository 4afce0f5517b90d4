-- The numbers of a row have 32 bits: what it names is counted within 31 bits, and a constant has 32 by itself.
use mathlib.Core.Path.{◌≡◌, refl}
use Prim.Native.Nat.{◌≤◌}
use native.Mathlib.Omega.{arith}
use mathlib.Core.Bool.{true, false}
use mathlib.Core.List.{List}
use lib.IntN.{ℤ}
use lib.ListN.{length}
use Rattle.language.specs.Syntax.{Declarations}
use Rattle.language.specs.Tables.{Row, constant_row, variable_row, slot_row, arith_row, divide_row, negate_row, bool_to_int_row, lookup_row, sum_row, truth_row, variable_b_row, lookup_b_row, connect_row, negation_row, compare_row, quantify_row}
use Rattle.language.specs.Meaning.{number}
use Rattle.rules.specs.Soundness.{RowFits}
use Rattle.table.proofs.Words.{InWord}
use Rattle.answers.proofs.RowRecords.{x_of, y_of}

-- the rows and declarations can be counted in 31 bits
pub record Countable (Γ : Declarations) (before : List Row) : Type 0 where
  pub variables : length Γ.variables ≤ 0x8000_0000
  pub slots : length Γ.slots ≤ 0x8000_0000
  pub arrays : length Γ.arrays ≤ 0x8000_0000
  pub nodes : length before ≤ 0x8000_0000

-- a constant has 32 bits
abbrev pub ConstantInWord : Row → Type 0
ConstantInWord r = (z : ℤ) → r ≡ constant_row z → InWord z

-- The numbers of a row that fits, and whose constant has 32 bits, have 32 bits.
pub RowFits→InWord : (Γ : Declarations) (before : List Row) → Countable Γ before → (r : Row) → RowFits Γ before r → ConstantInWord r → InWord (x_of r) × InWord (y_of r)
unfolding number
RowFits→InWord Γ before c (constant_row z) h w = (w z refl, omega arith)
RowFits→InWord Γ before c (truth_row true) h w = (omega arith, omega arith)
RowFits→InWord Γ before c (truth_row false) h w = (omega arith, omega arith)
RowFits→InWord Γ before c (variable_row v) h w = (omega (arith, h.declared, c.variables), omega arith)
RowFits→InWord Γ before c (variable_b_row v) h w = (omega (arith, h.declared, c.variables), omega arith)
RowFits→InWord Γ before c (slot_row s) h w = (omega (arith, h, c.slots), omega arith)
RowFits→InWord Γ before c (arith_row op k l) h w = (omega (arith, h.0.earlier, c.nodes), omega (arith, h.1.earlier, c.nodes))
RowFits→InWord Γ before c (divide_row op k l) h w = (omega (arith, h.0.earlier, c.nodes), omega (arith, h.1.earlier, c.nodes))
RowFits→InWord Γ before c (negate_row a) h w = (omega (arith, h.earlier, c.nodes), omega arith)
RowFits→InWord Γ before c (bool_to_int_row a) h w = (omega (arith, h.earlier, c.nodes), omega arith)
RowFits→InWord Γ before c (lookup_row A i) h w = (omega (arith, h.0.declared, c.arrays), omega (arith, h.1.earlier, c.nodes))
RowFits→InWord Γ before c (lookup_b_row A i) h w = (omega (arith, h.0.declared, c.arrays), omega (arith, h.1.earlier, c.nodes))
RowFits→InWord Γ before c (sum_row s a) h w = (omega (arith, h.0, c.slots), omega (arith, h.1.earlier, c.nodes))
RowFits→InWord Γ before c (connect_row o k l) h w = (omega (arith, h.0.earlier, c.nodes), omega (arith, h.1.earlier, c.nodes))
RowFits→InWord Γ before c (negation_row a) h w = (omega (arith, h.earlier, c.nodes), omega arith)
RowFits→InWord Γ before c (compare_row o k l) h w = (omega (arith, h.0.earlier, c.nodes), omega (arith, h.1.earlier, c.nodes))
RowFits→InWord Γ before c (quantify_row q s a) h w = (omega (arith, h.0, c.slots), omega (arith, h.1.earlier, c.nodes))
