-- The steps of the constraints, one after the other.
use mathlib.Core.Path.{◌≡◌, refl, ◌∙◌}
use Prim.Native.Nat.{ℕ, ◌+◌, ◌<◌}
use native.Mathlib.Omega.{arith}
use native.Mathlib.Numerals.{add-one}
use mathlib.Core.List.{List, [], ◌∷◌, ◌++◌}
use mathlib.Core.Option.{none}
use lib.IntN.{nat_abs}
use lib.ListN.{get_or}
use Rattle.language.specs.Syntax.{boolean}
use Rattle.language.specs.Tables.{tree_b}
use Rattle.language.specs.Steps.{cost_b}
use Rattle.table.specs.Records.{x_at}
use Rattle.table.specs.Kinds.{node_number}
use Rattle.answers.specs.Sections.{listed, node_count, rows, node_trees, declarations, constraints_at, constraint_count, constraints}
use Rattle.answers.specs.Check.{check_fault}
use Rattle.answers.specs.Answers.{costs, total_cost}
use Rattle.answers.proofs.ConstraintsFit.{none→ConstraintPassed}
use Rattle.answers.proofs.Passed.{check_fault≡none→Passed}
use Rattle.steps.specs.Capped.{capped}
use Rattle.steps.specs.Kept.{Kept}
use Rattle.steps.proofs.Caps.{capped-sum}
use Rattle.steps.proofs.Nodes.{field_kept}

module _ (bs : List ℕ) where
  costs-snoc : (ks : List ℕ) (k : ℕ) → costs bs (ks ++ (k ∷ [])) ≡ costs bs ks + cost_b (declarations bs) (tree_b (node_trees bs) k)
  unfolding costs
  costs-snoc [] k = omega arith
  costs-snoc (j ∷ ks) k = omega (arith, costs-snoc ks k)

  -- the first i constraints
  abbrev pub constraints_below : ℕ → List ℕ
  constraints_below i = listed i (λ j. nat_abs (x_at bs (constraints_at bs + j)))

  pub total-none : 0 ≡ capped (costs bs (constraints_below 0))
  unfolding costs listed capped
  total-none = refl

  pub total-more : check_fault bs ≡ none → {kept : List ℕ} → Kept bs (node_count bs) kept → (i : ℕ) → i < constraint_count bs → {p total c r : ℕ} → p ≡ constraints_at bs + i
      → total ≡ capped (costs bs (constraints_below i)) → c ≡ get_or kept (nat_abs (x_at bs p)) 0 → r ≡ capped (total + c) → r ≡ capped (costs bs (constraints_below (i + 1)))
  unfolding rows listed
  total-more sound {kept} k i h {p} e t c r =
      let passed = none→ConstraintPassed bs (constraints_at bs + i) ((check_fault≡none→Passed bs sound).constraints_passed i h) in
      let own = field_kept bs k (omega arith) (node_number boolean) (x_at bs (constraints_at bs + i)) (passed.nonneg, passed.node) in
      r ∙ rw (t, c, e, own, add-one, costs-snoc) (capped-sum (costs bs (constraints_below i)) (cost_b (declarations bs) (tree_b (node_trees bs) (nat_abs (x_at bs (constraints_at bs + i))))))

  pub total-all : (i : ℕ) → i ≡ constraint_count bs → capped (costs bs (constraints_below i)) ≡ capped (total_cost bs)
  unfolding total_cost constraints
  total-all i e = rw e
