-- The rows of each kind under each reading are its rule, written out over references: one computed test.
use mathlib.Core.Path.{◌≡◌, refl, ap}
use Prim.Native.Nat.{ℕ, ◌+◌, ◌*◌, ◌<◌}
use mathlib.Core.Bool.{cond}
use mathlib.Core.List.{List, [], ◌∷◌, map}
use mathlib.Core.Option.{none, some}
use lib.Dec.{eqb}
use borrow.Author.Tests.{ne_eqb}
use lib.IntN.{ℤ, pos}
use Rattle.language.specs.Syntax.{integer, iref, bref, fixed, Declarations}
use Rattle.language.specs.Readings.{Reading, strict, kleene, relational}
use Rattle.language.specs.Meaning.{array_at, no_array, is_one, number}
use Rattle.rules.specs.Formulas.{divide_v, divide_d, inside, clamped, refuted, behind, settled, connect_p, connect_n, quantify_p, quantify_n}
use Rattle.rules.specs.Rules.{Rule, rule, guard, index, last}
use Rattle.rules.specs.Writing.{leaf, unary, binary, write_i, write_b, in_turn, write_rule}
use Rattle.table.specs.Records.{bits_of}
use Rattle.table.specs.Kinds.{Field, unused, any_number, truth_value, variable_number, slot_number, array_number, node_number, kinds, kind_of, row_in, arithmetic_kind, division_kind, connective_kind, comparison_kind, quantifier_kind}
use Rattle.answers.specs.Sections.{listed}
use Rattle.translator.specs.Cells.{Cell, words, fields, place_of, number_of, over_references}
use Rattle.translator.specs.Plans.{rule_rows, rules, under, plan_at, rows_of, plan_rows}
use Rattle.translator.proofs.Planned.{same-below}

-- an array whose first and last index are the references to them
unfoldable pub references : Declarations
references = record { variables = []; slots = []; arrays = no_array ∷ no_array ∷ no_array ∷ no_array ∷ no_array ∷ no_array ∷ record { sort = integer; first = pos 7; elements = fixed (pos 0) ∷ fixed (pos 0) ∷ [] } ∷ [] }

-- x as a reference: node 0, whose companions are references 2 and 3, or the reference to what it names
unfoldable pub reference_of : Field → ℤ
reference_of unused = pos 6
reference_of any_number = pos 6
reference_of truth_value = pos 6
reference_of (variable_number t) = pos 6
reference_of slot_number = pos 6
reference_of (array_number t) = pos 6
reference_of (node_number t) = pos 0

unfoldable pub reference_x : ℕ → ℤ
reference_x k = elim (kind_of k) [ none ↦ pos 6 | some q ↦ reference_of q.field_x ]

-- the rule of a kind over references; y is node 1, whose companions are references 4 and 5
unfoldable pub symbolic : Reading → ℕ → Rule ℕ
symbolic ρ k = rule ρ references (λ a. iref (2 + 2 * a)) (λ a. bref (3 + 2 * a)) (λ a. bref (2 + 2 * a)) (λ a. bref (3 + 2 * a)) (row_in (kind_of k) (reference_x k) (pos 1))

-- what a kind's rule writes over references, or what its plan says of it: the rows, and where both companions stand
record Says : Type 0 where
  rows : List Cell
  first : ℕ
  second : ℕ

-- A Boolean constant's number is no formula: its rows are held to its rule by themselves.
abbrev but_2 : (ℕ → Says) → ℕ → Says
but_2 f k = cond (eqb k 2) (record { rows = []; first = 0; second = 0 }) (f k)

abbrev by_rule : Reading → ℕ → Says
by_rule ρ k = let w = write_rule (symbolic ρ k) words in record { rows = map fields w.rows; first = w.first; second = w.second }

abbrev by_plan : Reading → ℕ → Says
by_plan ρ k = record { rows = map (over_references k) (plan_rows ρ k); first = number_of (plan_at ρ k).first; second = number_of (plan_at ρ k).second }

all-compiled : (ρ : Reading) → listed 31 (but_2 (by_rule ρ)) ≡ listed 31 (but_2 (by_plan ρ))
unfolding fields symbolic references reference_x reference_of row_in rule guard index last divide_v divide_d inside clamped refuted behind settled connect_p connect_n quantify_p quantify_n array_at no_array is_one number write_rule write_i write_b in_turn leaf unary binary bits_of kind_of kinds arithmetic_kind division_kind connective_kind comparison_kind quantifier_kind plan_rows rows_of plan_at under rule_rows rules over_references number_of place_of listed
all-compiled strict = refl
all-compiled kleene = refl
all-compiled relational = refl

-- kind k's plan under ρ is its rule
pub record Right (ρ : Reading) (k : ℕ) : Type 0 where
  pub rows : map fields (write_rule (symbolic ρ k) words).rows ≡ map (over_references k) (plan_rows ρ k)
  pub first : (write_rule (symbolic ρ k) words).first ≡ number_of (plan_at ρ k).first
  pub second : (write_rule (symbolic ρ k) words).second ≡ number_of (plan_at ρ k).second

pub compiled : (ρ : Reading) (k : ℕ) → k < 31 → (k ≡ 2 → ⊥) → Right ρ k
compiled ρ k h other =
    let e : by_rule ρ k ≡ by_plan ρ k = rw (ne_eqb k 2 other) at (same-below 31 (but_2 (by_rule ρ)) (but_2 (by_plan ρ)) (all-compiled ρ) k h) in
    record { rows = ap (λ (s : Says). s.rows) e; first = ap (λ (s : Says). s.first) e; second = ap (λ (s : Says). s.second) e }
