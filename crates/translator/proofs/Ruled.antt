-- What a node's rule writes is its plan's rows, with the node's words in place of the references.
use mathlib.Core.Path.{◌≡◌, refl, ap, ◌∙◌}
use Prim.Native.Nat.{ℕ, ◌+◌, ◌<◌}
use native.Mathlib.Omega.{arith}
use mathlib.Core.Bool.{Bool, true, false}
use mathlib.Core.List.{List, [], ◌∷◌, map}
use lib.Dec.{eqb}
use borrow.Author.Tests.{eqb-true, eqb-false}
use lib.IntN.{ℤ, pos}
use lib.ListN.{get_or}
use Rattle.numbers.proofs.Splits.{Below, split, below_at}
use Rattle.language.specs.Syntax.{iref, bref, Declarations}
use Rattle.language.specs.Readings.{Reading, strict, kleene, relational}
use Rattle.language.specs.Meaning.{array_at, no_array, is_one, number}
use Rattle.rules.specs.Formulas.{divide_v, divide_d, inside, clamped, refuted, behind, settled, connect_p, connect_n, quantify_p, quantify_n}
use Rattle.rules.specs.Rules.{Rule, rule, guard, index, last}
use Rattle.rules.specs.Writing.{write_rule, write_b, leaf, unary, in_turn}
use Rattle.table.specs.Records.{bits_of}
use Rattle.table.specs.Kinds.{kinds, kind_of, row_in}
use Rattle.translator.specs.Cells.{place_of, number_of, place, over_references, fields, resolve}
use Rattle.translator.specs.Plans.{rule_rows, rules, under, plan_at, rows_of, plan_rows}
use Rattle.translator.specs.Words.{literal, looks_up, node_numbers, node_words}
use Rattle.translator.proofs.Moved.{moved, over_i, over_b, Fit, Over, moves_rule}
use Rattle.translator.proofs.Compiled.{references, reference_of, reference_x, symbolic, compiled}

module _ (ρ : Reading) (Γ : Declarations) (firsts seconds : List ℕ) (x y : ℤ) (n : ℕ) where
  abbrev env : ℕ → List ℕ
  env k = node_words Γ firsts seconds k x y

  -- the number that each reference stands for
  abbrev numbers : ℕ → ℕ → ℤ
  numbers k t = get_or (node_numbers Γ firsts seconds k x y) t (pos (place (env k) n t))

  fit : (k : ℕ) → Fit (env k) n (numbers k)
  unfolding place node_words node_numbers bits_of
  fit k =
      record {
        bits = split 9 (λ t. bits_of (numbers k t) ≡ place (env k) n t) (refl, (refl, (refl, (refl, (refl, (refl, (refl, (refl, (refl, tt))))))))) (λ t. refl);
        zero_is = refl;
        one_is = refl;
      }

  -- the node's rule over the companions of the nodes before it
  abbrev pub rule_of : ℕ → Rule ℕ
  rule_of k = rule ρ Γ (λ a. iref (get_or firsts a 0)) (λ a. bref (get_or seconds a 0)) (λ a. bref (get_or firsts a 0)) (λ a. bref (get_or seconds a 0)) (row_in (kind_of k) x y)

  abbrev Ruled : ℕ → Type 0
  Ruled k = (k ≡ 2 → ⊥) → Over (env k) n (numbers k) (fit k) (symbolic ρ k) (rule_of k)

-- The rule over references, over the words, is the node's rule.
ruled : (ρ : Reading) (Γ : Declarations) (firsts seconds : List ℕ) (x y : ℤ) (n : ℕ) → Below 31 (Ruled ρ Γ firsts seconds x y n)
unfolding rule guard index last divide_v divide_d inside clamped refuted behind settled connect_p connect_n quantify_p quantify_n array_at no_array is_one number bits_of kind_of kinds symbolic references reference_x reference_of row_in over_i over_b place node_words node_numbers literal looks_up
ruled strict Γ firsts seconds x y n = ((λ h. (refl, λ r. refl)), ((λ h. (refl, refl)), ((λ h. absurd (h refl)), ((λ h. (refl, refl)), ((λ h. (refl, λ r. refl)), ((λ h. (refl, refl)), ((λ h. (refl, refl)), ((λ h. (refl, refl)), ((λ h. (refl, refl)), ((λ h. (refl, refl)), ((λ h. (refl, refl)), ((λ h. (refl, refl)), ((λ h. (refl, refl)), ((λ h. (refl, refl)), ((λ h. (refl, refl)), ((λ h. (refl, refl)), ((λ h. (refl, λ r. refl)), ((λ h. (refl, refl)), ((λ h. (refl, λ r. refl)), ((λ h. (refl, λ r. refl)), ((λ h. (refl, λ r. refl)), ((λ h. (refl, λ r. refl)), ((λ h. (refl, λ r. refl)), ((λ h. (refl, λ r. refl)), ((λ h. (refl, λ r. refl)), ((λ h. (refl, λ r. refl)), ((λ h. (refl, λ r. refl)), ((λ h. (refl, λ r. refl)), ((λ h. (refl, λ r. refl)), ((λ h. (refl, λ r. refl)), ((λ h. (refl, λ r. refl)), tt)))))))))))))))))))))))))))))))
ruled kleene Γ firsts seconds x y n = ((λ h. (refl, λ r. refl)), ((λ h. (refl, refl)), ((λ h. absurd (h refl)), ((λ h. (refl, refl)), ((λ h. (refl, λ r. refl)), ((λ h. (refl, refl)), ((λ h. (refl, refl)), ((λ h. (refl, refl)), ((λ h. (refl, refl)), ((λ h. (refl, refl)), ((λ h. (refl, refl)), ((λ h. (refl, refl)), ((λ h. (refl, refl)), ((λ h. (refl, refl)), ((λ h. (refl, refl)), ((λ h. (refl, refl)), ((λ h. (refl, λ r. refl)), ((λ h. (refl, refl)), ((λ h. (refl, λ r. refl)), ((λ h. (refl, λ r. refl)), ((λ h. (refl, λ r. refl)), ((λ h. (refl, λ r. refl)), ((λ h. (refl, λ r. refl)), ((λ h. (refl, λ r. refl)), ((λ h. (refl, λ r. refl)), ((λ h. (refl, λ r. refl)), ((λ h. (refl, λ r. refl)), ((λ h. (refl, λ r. refl)), ((λ h. (refl, λ r. refl)), ((λ h. (refl, λ r. refl)), ((λ h. (refl, λ r. refl)), tt)))))))))))))))))))))))))))))))
ruled relational Γ firsts seconds x y n = ((λ h. (refl, λ r. refl)), ((λ h. (refl, refl)), ((λ h. absurd (h refl)), ((λ h. (refl, refl)), ((λ h. (refl, λ r. refl)), ((λ h. (refl, refl)), ((λ h. (refl, refl)), ((λ h. (refl, refl)), ((λ h. (refl, refl)), ((λ h. (refl, refl)), ((λ h. (refl, refl)), ((λ h. (refl, refl)), ((λ h. (refl, refl)), ((λ h. (refl, refl)), ((λ h. (refl, refl)), ((λ h. (refl, refl)), ((λ h. (refl, λ r. refl)), ((λ h. (refl, refl)), ((λ h. (refl, λ r. refl)), ((λ h. (refl, λ r. refl)), ((λ h. (refl, λ r. refl)), ((λ h. (refl, λ r. refl)), ((λ h. (refl, λ r. refl)), ((λ h. (refl, λ r. refl)), ((λ h. (refl, λ r. refl)), ((λ h. (refl, λ r. refl)), ((λ h. (refl, λ r. refl)), ((λ h. (refl, λ r. refl)), ((λ h. (refl, λ r. refl)), ((λ h. (refl, λ r. refl)), ((λ h. (refl, λ r. refl)), tt)))))))))))))))))))))))))))))))

-- ---- what a node writes

map-map : {A B C : Type 0} (f : B → C) (g : A → B) (l : List A) → map f (map g l) ≡ map (λ a. f (g a)) l
map-map f g [] = refl
map-map f g (a ∷ l) = ap (λ m. f (g a) ∷ m) (map-map f g l)

module _ (ρ : Reading) (Γ : Declarations) (firsts seconds : List ℕ) (x y : ℤ) (n : ℕ) where
  -- The rows of the plan with the words in place, and the places of both companions.
  pub record WritesPlan (k : ℕ) : Type 0 where
    pub rows : map fields (write_rule (rule_of ρ Γ firsts seconds x y n k) n).rows ≡ map (resolve (node_words Γ firsts seconds k x y) n k) (plan_rows ρ k)
    pub first : (write_rule (rule_of ρ Γ firsts seconds x y n k) n).first ≡ place (node_words Γ firsts seconds k x y) n (number_of (plan_at ρ k).first)
    pub second : (write_rule (rule_of ρ Γ firsts seconds x y n k) n).second ≡ place (node_words Γ firsts seconds k x y) n (number_of (plan_at ρ k).second)

  formula_writes : (k : ℕ) → k < 31 → (k ≡ 2 → ⊥) → WritesPlan k
  unfolding resolve over_references
  formula_writes k h two =
      let w = node_words Γ firsts seconds k x y in
      let v = numbers ρ Γ firsts seconds x y n k in
      let m = moves_rule w n v (fit ρ Γ firsts seconds x y n k) (symbolic ρ k) (rule_of ρ Γ firsts seconds x y n k) (below_at 31 (Ruled ρ Γ firsts seconds x y n) (ruled ρ Γ firsts seconds x y n) k h two) in
      let r = compiled ρ k h two in
      record {
        rows = m.rows ∙ ap (map (moved w n v)) r.rows ∙ map-map (moved w n v) (over_references k) (plan_rows ρ k);
        first = m.first ∙ ap (place w n) r.first;
        second = m.second ∙ ap (place w n) r.second;
      }

-- A Boolean constant's rows: its truth value as a number, and its negation.
module _ (Γ : Declarations) (firsts seconds : List ℕ) (x y : ℤ) (n : ℕ) where
  next : n ≡ n + 0
  next = omega arith

  constant-writes : (ρ : Reading) → WritesPlan ρ Γ firsts seconds x y n 2
  unfolding rule row_in kind_of kinds write_rule write_b leaf unary in_turn fields bits_of resolve place node_words node_numbers literal looks_up plan_rows rows_of plan_at under rule_rows rules number_of place_of
  constant-writes strict = record { rows = rw (← next); first = next; second = omega arith }
  constant-writes kleene = record { rows = rw (← next); first = next; second = omega arith }
  constant-writes relational = record { rows = rw (← next); first = next; second = omega arith }

-- Every kind that a table can have writes its plan.
pub writes_plan : (ρ : Reading) (Γ : Declarations) (firsts seconds : List ℕ) (x y : ℤ) (n k : ℕ) → k < 31 → WritesPlan ρ Γ firsts seconds x y n k
writes_plan ρ Γ firsts seconds x y n k h = by_test (eqb k 2) refl
  where
    by_test : (t : Bool) → eqb k 2 ≡ t → WritesPlan ρ Γ firsts seconds x y n k
    by_test true e = let z : k ≡ 2 = eqb-true k 2 e in rw z (constant-writes Γ firsts seconds x y n ρ)
    by_test false e = formula_writes ρ Γ firsts seconds x y n k h (eqb-false k 2 e)
