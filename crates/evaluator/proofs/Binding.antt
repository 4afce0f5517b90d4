-- Walks over a slot's values: the value that is put, one value more, and all of them.
use mathlib.Core.Path.{◌≡◌, refl, sym, fun_ext}
use Prim.Native.Nat.{ℕ, suc, ◌<◌}
use mathlib.Core.Bool.{Bool, true, false, not, ◌&&◌}
use mathlib.Core.List.{List}
use mathlib.Core.Option.{Option, none, some}
use lib.Dec.{T, eqb, eqb→eq, eqb_refl}
use lib.IntN.{ℤ, pos, ◌+ℤ◌}
use lib.ListN.{length, get_or, set}
use lib.Seq.{get_or-set_same, get_or-set_other}
use Rattle.numbers.proofs.Tests.{cond_cases}
use Rattle.language.specs.Syntax as syntax
use Rattle.language.specs.Tables.{tree_i, tree_b}
use Rattle.language.specs.Readings as readings
use Rattle.language.specs.Readings.{both, connective, joins, of_none, over, quantified, summed}
use Rattle.language.specs.Meaning.{Assignment, put, slot_at, count, value_i, value_b, value_within, throughout, met_within_i, met_within_b}
use Rattle.operations.specs.declared.values.Walked.{Walked}
use Rattle.operations.specs.declared.sums.Total.{Total}
use Rattle.operations.specs.Values.{of_integer, of_truth, of_walk, limited_to}
use Rattle.operations.specs.Truths.{connected}
use Rattle.operations.specs.Sums.{total_of, total_value, plus_to}
use Rattle.evaluator.specs.declared.places.TablePlaces.{TablePlaces}
use Rattle.evaluator.specs.Walks.{declared, trees_of, setting_of, integer_walked, truth_walked, integer_at, truth_at, sum_at, quantified_at}
use Rattle.evaluator.proofs.Walking.{both-truths}

-- A value that is stored is the value that is put.
pub setting_of-set : (values : List ℤ) (s : ℕ) (d : ℤ) → s < length values → setting_of (set values s d) ≡ put (setting_of values) s d
unfolding setting_of put
setting_of-set values s d h =
    fun_ext λ t. sym (cond_cases (λ z. z ≡ get_or (set values s d) t (pos 0)) (eqb t s) (λ e. rw (eqb→eq t s e) (sym (get_or-set_same values s d (pos 0) h)))
    (λ e. sym (get_or-set_other values s t d (pos 0) (λ q. differ t s e q))))
  where
    differ : (t s : ℕ) → T (not (eqb t s)) → t ≡ s → ⊥
    differ t s e q = no (eqb t s) e (rw q (eqb_refl s))
      where
        no : (b : Bool) → T (not b) → T b → ⊥
        no true e t = e
        no false e t = t

-- ---- sums

plus-total : (c d : Bool) (u v : Option ℤ) → plus_to (total_of c u) (of_walk d (of_integer v)) ≡ total_of (c && d) (both (λ x y. some (x +ℤ y)) u v)
unfolding plus_to both
plus-total true true (some x) (some y) = refl
plus-total true true (some x) none = refl
plus-total true true none v = refl
plus-total true false (some x) v = refl
plus-total true false none v = refl
plus-total false d u v = refl

limited-total : (c : Bool) (v : Option ℤ) → limited_to (total_of c v).within (total_value (total_of c v)) ≡ of_walk (c && value_within v) (of_integer v)
unfolding limited_to value_within
limited-total true (some z) = refl
limited-total true none = refl
limited-total false v = refl

module _ (ρ : readings.Reading) (bs : List ℕ) (places : TablePlaces) (α : Assignment) (values : List ℤ) (s a : ℕ) where
  -- the sum of the first k values
  unfoldable pub total_to : ℕ → Total
  total_to k =
      total_of (throughout (slot_at (declared bs places) s).low k (λ d. met_within_i ρ (declared bs places) α (tree_i (trees_of bs places) a) (put (setting_of values) s d)))
      (summed (slot_at (declared bs places) s).low k (λ d. value_i ρ (declared bs places) α (tree_i (trees_of bs places) a) (put (setting_of values) s d)))

  pub total-none : total_of true (some (pos 0)) ≡ total_to 0
  unfolding total_to throughout summed over
  total-none = refl

  pub total-more : (k : ℕ) → s < length values → plus_to (total_to k) (integer_at ρ bs places α (set values s ((slot_at (declared bs places) s).low +ℤ pos k)) a) ≡ total_to (suc k)
  unfolding total_to integer_at integer_walked throughout summed over
  total-more k h =
      rw (setting_of-set values s ((slot_at (declared bs places) s).low +ℤ pos k) h)
      (plus-total (over ◌&&◌ true (slot_at (declared bs places) s).low k (λ d. met_within_i ρ (declared bs places) α (tree_i (trees_of bs places) a) (put (setting_of values) s d)))
      (met_within_i ρ (declared bs places) α (tree_i (trees_of bs places) a) (put (setting_of values) s ((slot_at (declared bs places) s).low +ℤ pos k)))
      (over (both (λ x y. some (x +ℤ y))) (some (pos 0)) (slot_at (declared bs places) s).low k (λ d. value_i ρ (declared bs places) α (tree_i (trees_of bs places) a) (put (setting_of values) s d)))
      (value_i ρ (declared bs places) α (tree_i (trees_of bs places) a) (put (setting_of values) s ((slot_at (declared bs places) s).low +ℤ pos k))))

  pub sum-total : limited_to (total_to (count (slot_at (declared bs places) s))).within (total_value (total_to (count (slot_at (declared bs places) s)))) ≡ sum_at ρ bs places α values s a
  unfolding total_to sum_at integer_walked value_i met_within_i
  sum-total =
      limited-total
      (throughout (slot_at (declared bs places) s).low (count (slot_at (declared bs places) s)) (λ d. met_within_i ρ (declared bs places) α (tree_i (trees_of bs places) a) (put (setting_of values) s d)))
      (summed (slot_at (declared bs places) s).low (count (slot_at (declared bs places) s)) (λ d. value_i ρ (declared bs places) α (tree_i (trees_of bs places) a) (put (setting_of values) s d)))

-- ---- quantifiers

module _ (ρ : readings.Reading) (bs : List ℕ) (places : TablePlaces) (α : Assignment) (values : List ℤ) (q : syntax.Quantifier) (s a : ℕ) where
  -- the quantifier over the first k values
  unfoldable pub joint_to : ℕ → Walked
  joint_to k =
      of_walk (throughout (slot_at (declared bs places) s).low k (λ d. met_within_b ρ (declared bs places) α (tree_b (trees_of bs places) a) (put (setting_of values) s d)))
      (of_truth (quantified ρ q (slot_at (declared bs places) s).low k (λ d. value_b ρ (declared bs places) α (tree_b (trees_of bs places) a) (put (setting_of values) s d))))

  pub joint_none : of_walk true (of_truth (some (of_none q))) ≡ joint_to 0
  unfolding joint_to throughout quantified over
  joint_none = refl

  pub joint_more : (k : ℕ) → s < length values →
      connected ρ (joins q) (joint_to k) (truth_at ρ bs places α (set values s ((slot_at (declared bs places) s).low +ℤ pos k)) a) ≡ joint_to (suc k)
  unfolding joint_to truth_at truth_walked throughout quantified over connected
  joint_more k h =
      rw (setting_of-set values s ((slot_at (declared bs places) s).low +ℤ pos k) h)
      (both-truths (connective ρ (joins q))
      (over ◌&&◌ true (slot_at (declared bs places) s).low k (λ d. met_within_b ρ (declared bs places) α (tree_b (trees_of bs places) a) (put (setting_of values) s d)))
      (met_within_b ρ (declared bs places) α (tree_b (trees_of bs places) a) (put (setting_of values) s ((slot_at (declared bs places) s).low +ℤ pos k)))
      (over (connective ρ (joins q)) (some (of_none q)) (slot_at (declared bs places) s).low k (λ d. value_b ρ (declared bs places) α (tree_b (trees_of bs places) a) (put (setting_of values) s d)))
      (value_b ρ (declared bs places) α (tree_b (trees_of bs places) a) (put (setting_of values) s ((slot_at (declared bs places) s).low +ℤ pos k))))

  pub quantified-joint : joint_to (count (slot_at (declared bs places) s)) ≡ quantified_at ρ bs places α values q s a
  unfolding joint_to quantified_at truth_walked value_b met_within_b
  quantified-joint = refl
