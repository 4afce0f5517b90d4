-- The interval of a node by its record's kind.
use mathlib.Core.Path.{◌≡◌, refl, sym, ap, ◌∙◌}
use Prim.Native.Nat.{ℕ, ◌+◌, ◌≤◌, ◌<◌}
use native.Mathlib.Omega.{arith}
use mathlib.Core.Bool.{true, false}
use mathlib.Core.Logic.{⊎_elim}
use mathlib.Core.List.{List}
use mathlib.Core.Option.{Option, none}
use lib.IntN.{pos, nat_abs}
use lib.ListN.{set, take, replicate, get_or-eq_default}
use Rattle.std.proofs.lemmas.List.{get_or-take, length-take}
use Rattle.numbers.specs.Whole.{within_limit}
use Rattle.numbers.proofs.Naturals.{lt_or_ge}
use Rattle.language.specs.Syntax.{constant, plus, minus, times, minimum, maximum, quot, rem, Declarations}
use Rattle.language.specs.Tables.{truth_row, Tree, whole, bool, as_i, tree_at, tree_i, fill, trees}
use Rattle.language.proofs.Trees.{length-trees, tree_at-take}
use Rattle.language.specs.Meaning.{slot_at, array_at, count}
use Rattle.rules.specs.Bounds.{Interval, ◌to◌, only, arith_interval, divide_interval, slot_interval, variable_interval, elements_interval, interval, within_bounds}
use Rattle.table.specs.Records.{kind_at, x_at, y_at}
use Rattle.table.specs.KindNumbers.{number_of}
use Rattle.table.specs.declared.kind.Kind.{Kind}
use Rattle.table.specs.declared.kind.Kind.TheVariants.{Constant, TruthValue, Variable, BooleanVariable, Slot, Add, Subtract, Multiply, Div, Mod, Negate, Min, Max, BoolToInt, Lookup, BooleanLookup, Sum, And, Or, Implies, Iff, Not, Equal, Unequal, AtMost, Below, Exists, Forall}
use Rattle.table.specs.Kinds.{kinds, kind_of, row_in}
use Rattle.answers.specs.Sections.{listed, nodes_at, node_count, row_of, rows, node_trees, declarations}
use Rattle.answers.specs.Check.{refuse, unless, first_fault}
use Rattle.answers.specs.Answers.{bounds_fault}
use Rattle.answers.proofs.Faults.{first_more, first-at}
use Rattle.intervals.specs.Spans.{interval_of, opposite, repeated, is_within}
use Rattle.bounds.specs.Kept.{trees_before, ends_of, node_ends, Kept}
use Rattle.bounds.proofs.Declared.{held, nothing}
use Rattle.intervals.specs.declared.Interval as Declared
use Rattle.answers.proofs.Listed.{length-listed, get_d_listed, take-listed}
use Rattle.numbers.proofs.Lists.{Filled, filled_none, filled_more}

-- ---- kinds

-- a kind of no integer node, as a match tells it
pub record NoInteger (k : Kind) : Type 0 where
  pub not-Constant : k ≡ Constant → ⊥
  pub not-Variable : k ≡ Variable → ⊥
  pub not-Slot : k ≡ Slot → ⊥
  pub not-Add : k ≡ Add → ⊥
  pub not-Subtract : k ≡ Subtract → ⊥
  pub not-Multiply : k ≡ Multiply → ⊥
  pub not-Div : k ≡ Div → ⊥
  pub not-Mod : k ≡ Mod → ⊥
  pub not-Negate : k ≡ Negate → ⊥
  pub not-Min : k ≡ Min → ⊥
  pub not-Max : k ≡ Max → ⊥
  pub not-BoolToInt : k ≡ BoolToInt → ⊥
  pub not-Lookup : k ≡ Lookup → ⊥
  pub not-Sum : k ≡ Sum → ⊥

module _ (bs : List ℕ) (n : ℕ) {p : ℕ} (e : p ≡ nodes_at bs + n) where
  abbrev Γ : Declarations
  Γ = declarations bs

  abbrev ts : List Tree
  ts = trees_before bs n

  abbrev x : ℕ
  x = nat_abs (x_at bs p)

  abbrev y : ℕ
  y = nat_abs (y_at bs p)

  ends_at : (k : ℕ) → kind_at bs p ≡ k → ends_of Γ (fill ts (row_in (kind_of k) (x_at bs p) (y_at bs p))) ≡ node_ends bs n
  unfolding node_ends row_in row_of
  ends_at k h = rw (← h, e)

  -- what a node of each kind makes of its operands' intervals; 0..0 where it is no integer
  abbrev pub made : Kind → Interval
  made Constant = only (x_at bs p)
  made Variable = variable_interval Γ x
  made Slot = slot_interval (slot_at Γ x)
  made Add = arith_interval plus (interval Γ (tree_i ts x)) (interval Γ (tree_i ts y))
  made Subtract = arith_interval minus (interval Γ (tree_i ts x)) (interval Γ (tree_i ts y))
  made Multiply = arith_interval times (interval Γ (tree_i ts x)) (interval Γ (tree_i ts y))
  made Div = divide_interval quot (interval Γ (tree_i ts x)) (interval Γ (tree_i ts y))
  made Mod = divide_interval rem (interval Γ (tree_i ts x)) (interval Γ (tree_i ts y))
  made Negate = opposite (interval Γ (tree_i ts x))
  made Min = arith_interval minimum (interval Γ (tree_i ts x)) (interval Γ (tree_i ts y))
  made Max = arith_interval maximum (interval Γ (tree_i ts x)) (interval Γ (tree_i ts y))
  made BoolToInt = pos 0 to pos 1
  made Lookup = elements_interval Γ (array_at Γ x).elements
  made Sum = repeated (count (slot_at Γ x)) (interval Γ (tree_i ts y))
  made _ = pos 0 to pos 0

  pub made-is : (k : Kind) → number_of k ≡ kind_at bs p → made k ≡ node_ends bs n
  unfolding ends_of fill row_in kind_of kinds as_i interval only
  made-is Constant h = ends_at 1 (sym h)
  made-is TruthValue h = ends_at 2 (sym h)
  made-is Variable h = ends_at 3 (sym h)
  made-is BooleanVariable h = ends_at 4 (sym h)
  made-is Slot h = ends_at 5 (sym h)
  made-is Add h = ends_at 6 (sym h)
  made-is Subtract h = ends_at 7 (sym h)
  made-is Multiply h = ends_at 8 (sym h)
  made-is Div h = ends_at 9 (sym h)
  made-is Mod h = ends_at 10 (sym h)
  made-is Negate h = ends_at 11 (sym h)
  made-is Min h = ends_at 12 (sym h)
  made-is Max h = ends_at 13 (sym h)
  made-is BoolToInt h = ends_at 14 (sym h)
  made-is Lookup h = ends_at 15 (sym h)
  made-is BooleanLookup h = ends_at 16 (sym h)
  made-is Sum h = ends_at 17 (sym h)
  made-is And h = ends_at 20 (sym h)
  made-is Or h = ends_at 21 (sym h)
  made-is Implies h = ends_at 22 (sym h)
  made-is Iff h = ends_at 23 (sym h)
  made-is Not h = ends_at 24 (sym h)
  made-is Equal h = ends_at 25 (sym h)
  made-is Unequal h = ends_at 26 (sym h)
  made-is AtMost h = ends_at 27 (sym h)
  made-is Below h = ends_at 28 (sym h)
  made-is Exists h = ends_at 29 (sym h)
  made-is Forall h = ends_at 30 (sym h)

  pub made-other : (k : Kind) → NoInteger k → (pos 0 to pos 0) ≡ made k
  made-other Constant o = absurd (o.not-Constant refl)
  made-other Variable o = absurd (o.not-Variable refl)
  made-other Slot o = absurd (o.not-Slot refl)
  made-other Add o = absurd (o.not-Add refl)
  made-other Subtract o = absurd (o.not-Subtract refl)
  made-other Multiply o = absurd (o.not-Multiply refl)
  made-other Div o = absurd (o.not-Div refl)
  made-other Mod o = absurd (o.not-Mod refl)
  made-other Negate o = absurd (o.not-Negate refl)
  made-other Min o = absurd (o.not-Min refl)
  made-other Max o = absurd (o.not-Max refl)
  made-other BoolToInt o = absurd (o.not-BoolToInt refl)
  made-other Lookup o = absurd (o.not-Lookup refl)
  made-other Sum o = absurd (o.not-Sum refl)
  made-other _ o = refl

  -- A number that no kind has keeps 0..0.
  pub made-none : kind_of (kind_at bs p) ≡ none → (pos 0 to pos 0) ≡ node_ends bs n
  unfolding ends_of fill row_in as_i interval only
  made-none h = ap (λ o. ends_of Γ (fill ts (row_in o (x_at bs p) (y_at bs p)))) (sym h) ∙ ends_at (kind_at bs p) refl

-- ---- the nodes before

module _ (bs : List ℕ) where
  pub tree-ends : (n k : ℕ) → k < n → interval (declarations bs) (tree_i (trees_before bs n) k) ≡ node_ends bs k
  unfolding node_ends ends_of trees_before tree_i
  tree-ends n k h =
      ap (λ t. interval (declarations bs) (as_i t))
      (tree_at-take (listed n (λ i. row_of bs (nodes_at bs + i))) k (truth_row false) (rw length-listed h)
      ∙ rw (take-listed k n (λ i. row_of bs (nodes_at bs + i)) (omega arith), get_d_listed n (λ i. row_of bs (nodes_at bs + i)) (truth_row false) k h))

  pub no-tree-ends : (n k : ℕ) → n ≤ k → interval (declarations bs) (tree_i (trees_before bs n) k) ≡ only (pos 0)
  unfolding trees_before tree_i tree_at as_i interval
  no-tree-ends n k h =
      ap (λ t. interval (declarations bs) (as_i t))
      (get_or-eq_default (trees (listed n (λ i. row_of bs (nodes_at bs + i)))) (whole (constant (pos 0))) {n = k} (omega (arith, length-trees (listed n (λ i. row_of bs (nodes_at bs + i))), length-listed n (λ i. row_of bs (nodes_at bs + i)))))

  -- What is filled in node by node is what is kept.
  pub kept_of : {is : List Declared.Interval} {size n : ℕ} → Filled nothing size (λ k. held (node_ends bs k)) is n → n ≤ size → Kept (declarations bs) (trees_before bs n) (take n is)
  unfolding only
  kept_of {is} {size} {n} w h =
      record {
        same = λ k. ⊎_elim (λ m. ap interval_of (get_or-take n is k nothing m ∙ w.before k m) ∙ sym (tree-ends n k m)) (λ m. ap interval_of (get_or-eq_default (take n is) nothing {n = k} (omega (arith, length-take n is, w.sized))) ∙ sym (no-tree-ends n k m)) (lt_or_ge k n);
      }

-- ---- the first node beyond the limit

module _ (bs : List ℕ) where
  abbrev pub own_fault : ℕ → Option ℕ
  own_fault n = unless 8 (within_bounds (declarations bs) (tree_at (node_trees bs) n))

  within-tree : (t : Tree) → within_bounds (declarations bs) t ≡ is_within (ends_of (declarations bs) t)
  unfolding within_bounds ends_of as_i interval only within_limit
  within-tree (whole e) = refl
  within-tree (bool e) = refl

  pub own-fault : (n : ℕ) → n < node_count bs → own_fault n ≡ unless 8 (is_within (node_ends bs n))
  unfolding node_ends trees_before node_trees rows
  own-fault n h =
      ap (unless 8) (ap (within_bounds (declarations bs))
      (tree_at-take (listed (node_count bs) (λ i. row_of bs (nodes_at bs + i))) n (truth_row false) (rw length-listed h)
      ∙ rw (take-listed n (node_count bs) (λ i. row_of bs (nodes_at bs + i)) (omega arith), get_d_listed (node_count bs) (λ i. row_of bs (nodes_at bs + i)) (truth_row false) n h))
      ∙ within-tree (fill (trees (listed n (λ i. row_of bs (nodes_at bs + i)))) (row_of bs (nodes_at bs + n))))

  -- The first n nodes: their intervals are kept, and none is beyond the limit.
  pub record Passing (is : List Declared.Interval) (n : ℕ) : Type 0 where
    pub filled : Filled nothing 5_000 (λ k. held (node_ends bs k)) is n
    pub no_fault : first_fault own_fault (nodes_at bs) n ≡ none

  pub passing_none : {is : List Declared.Interval} → is ≡ replicate 5_000 nothing → Passing is 0
  unfolding first_fault
  passing_none e = record { filled = filled_none _ _ _ e; no_fault = refl }

  module _ {is : List Declared.Interval} {n : ℕ} (w : Passing is n) (h : n < node_count bs) where
    pub passing_more : n < 5_000 → {i : Declared.Interval} → i ≡ held (node_ends bs n) → is_within (node_ends bs n) ≡ true → Passing (set is n i) (n + 1)
    unfolding unless
    passing_more few e t =
        record {
          filled = filled_more _ _ _ w.filled few e;
          no_fault = first_more own_fault (nodes_at bs) n w.no_fault (own-fault n h ∙ ap (unless 8) t);
        }

    pub beyond-at : is_within (node_ends bs n) ≡ false → refuse 8 (nodes_at bs + n) ≡ bounds_fault bs
    unfolding unless bounds_fault rows
    beyond-at t = rw length-listed (sym (first-at own_fault (nodes_at bs) n w.no_fault (own-fault n h ∙ ap (unless 8) t) h))

  pub passing_all : {is : List Declared.Interval} {n : ℕ} → Passing is n → n ≡ node_count bs → none ≡ bounds_fault bs
  unfolding bounds_fault rows
  passing_all w e = rw (length-listed, ← e) (sym w.no_fault)
