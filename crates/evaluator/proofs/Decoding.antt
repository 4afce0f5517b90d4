-- What each kind of record is decoded to.
use mathlib.Core.Path.{◌≡◌, refl, ap, ◌∙◌}
use Prim.Native.Nat.{ℕ}
use native.Mathlib.Omega.{arith}
use mathlib.Core.Option.{none}
use lib.Dec.{eqb}
use lib.IntN.{ℤ, pos, nat_abs}
use mir.Syntax.{w32}
use mir.Val.{SFits, of_z}
use Rattle.numbers.specs.Whole.{eq_z}
use Rattle.numbers.proofs.Widths.{eq_bits}
use Rattle.table.specs.Kinds.{kinds, kind_of, row_in}
use Rattle.table.specs.KindNumbers.{number_of}
use Rattle.table.specs.declared.kind.Kind.{Kind}
use Rattle.table.specs.declared.kind.Kind.TheVariants.{Constant, TruthValue, Variable, BooleanVariable, Slot, Add, Subtract, Multiply, Div, Mod, Negate, Min, Max, BoolToInt, Lookup, BooleanLookup, Sum, And, Or, Implies, Iff, Not, Equal, Unequal, AtMost, Below, Exists, Forall}
use mathlib.Core.Bool.{false}
use mathlib.Core.Bool.{true}
use mathlib.Core.Option.{some}
use mathlib.Core.List.{List}
use Rattle.std.proofs.Common.{Option, Some, None}
use Rattle.language.specs.Meaning.{Assignment, Setting, is_one, value_of}
use Rattle.table.specs.Records.{kind_at, x_at, y_at}
use Rattle.answers.specs.Sections.{row_of}
use Rattle.operations.specs.Values.{limited_to}
use Rattle.operations.specs.declared.values.Walked.{Walked}
use Rattle.evaluator.specs.Walks.{leaf_of}
use Rattle.operations.specs.declared.integers.Arithmetic.TheVariants as arithmetic
use Rattle.operations.specs.declared.integers.Division.TheVariants as division
use Rattle.operations.specs.declared.truths.Comparison.TheVariants as comparison
use Rattle.operations.specs.declared.truths.Connective.TheVariants as connective
use Rattle.operations.specs.declared.values.Quantifier.TheVariants as quantifier
use Rattle.operations.specs.declared.values.Value.TheVariants.{Integer, Truth}
use Rattle.evaluator.specs.declared.decoded.IntegerNode.{IntegerNode}
use Rattle.evaluator.specs.declared.decoded.IntegerNode.TheVariants as integer
use Rattle.evaluator.specs.declared.decoded.TruthNode.{TruthNode}
use Rattle.evaluator.specs.declared.decoded.TruthNode.TheVariants as truth
use Rattle.evaluator.specs.Nodes.{node, variable, slot, array, integer_case, truth_case}

-- the node of a kind, from the field x and the numbers that x and y name
abbrev pub integer_by : Kind → ℤ → ℕ → ℕ → IntegerNode
integer_by Constant z a b = integer.Constant (Integer z)
integer_by Variable z a b = integer.Variable (variable a)
integer_by Slot z a b = integer.Slot (slot a)
integer_by Add z a b = integer.Calculated arithmetic.Plus (node a) (node b)
integer_by Subtract z a b = integer.Calculated arithmetic.Minus (node a) (node b)
integer_by Multiply z a b = integer.Calculated arithmetic.Times (node a) (node b)
integer_by Div z a b = integer.Divided division.Quotient (node a) (node b)
integer_by Mod z a b = integer.Divided division.Remainder (node a) (node b)
integer_by Negate z a b = integer.Negate (node a)
integer_by Min z a b = integer.Calculated arithmetic.Minimum (node a) (node b)
integer_by Max z a b = integer.Calculated arithmetic.Maximum (node a) (node b)
integer_by BoolToInt z a b = integer.BoolToInt (node a)
integer_by Lookup z a b = integer.Lookup (array a) (node b)
integer_by Sum z a b = integer.Sum (slot a) (node b)
integer_by _ z a b = integer.Constant (Integer (pos 0))

integer-row : (k : Kind) (x y : ℤ) → integer_by k x (nat_abs x) (nat_abs y) ≡ integer_case (row_in (kind_of (number_of k)) x y)
unfolding kind_of kinds row_in integer_case
integer-row Constant x y = refl
integer-row TruthValue x y = refl
integer-row Variable x y = refl
integer-row BooleanVariable x y = refl
integer-row Slot x y = refl
integer-row Add x y = refl
integer-row Subtract x y = refl
integer-row Multiply x y = refl
integer-row Div x y = refl
integer-row Mod x y = refl
integer-row Negate x y = refl
integer-row Min x y = refl
integer-row Max x y = refl
integer-row BoolToInt x y = refl
integer-row Lookup x y = refl
integer-row BooleanLookup x y = refl
integer-row Sum x y = refl
integer-row And x y = refl
integer-row Or x y = refl
integer-row Implies x y = refl
integer-row Iff x y = refl
integer-row Not x y = refl
integer-row Equal x y = refl
integer-row Unequal x y = refl
integer-row AtMost x y = refl
integer-row Below x y = refl
integer-row Exists x y = refl
integer-row Forall x y = refl

-- the same of a Boolean node
abbrev pub truth_by : Kind → ℤ → ℕ → ℕ → TruthNode
truth_by TruthValue z a b = truth.Constant (Truth (is_one z))
truth_by BooleanVariable z a b = truth.Variable (variable a)
truth_by BooleanLookup z a b = truth.Lookup (array a) (node b)
truth_by And z a b = truth.Connected connective.And (node a) (node b)
truth_by Or z a b = truth.Connected connective.Or (node a) (node b)
truth_by Implies z a b = truth.Connected connective.Implies (node a) (node b)
truth_by Iff z a b = truth.Connected connective.Iff (node a) (node b)
truth_by Not z a b = truth.Not (node a)
truth_by Equal z a b = truth.Compared comparison.Equal (node a) (node b)
truth_by Unequal z a b = truth.Compared comparison.Unequal (node a) (node b)
truth_by AtMost z a b = truth.Compared comparison.AtMost (node a) (node b)
truth_by Below z a b = truth.Compared comparison.Below (node a) (node b)
truth_by Exists z a b = truth.Quantified quantifier.Exists (slot a) (node b)
truth_by Forall z a b = truth.Quantified quantifier.Forall (slot a) (node b)
truth_by _ z a b = truth.Constant (Truth false)

truth-row : (k : Kind) (x y : ℤ) → truth_by k x (nat_abs x) (nat_abs y) ≡ truth_case (row_in (kind_of (number_of k)) x y)
unfolding kind_of kinds row_in truth_case
truth-row Constant x y = refl
truth-row TruthValue x y = refl
truth-row Variable x y = refl
truth-row BooleanVariable x y = refl
truth-row Slot x y = refl
truth-row Add x y = refl
truth-row Subtract x y = refl
truth-row Multiply x y = refl
truth-row Div x y = refl
truth-row Mod x y = refl
truth-row Negate x y = refl
truth-row Min x y = refl
truth-row Max x y = refl
truth-row BoolToInt x y = refl
truth-row Lookup x y = refl
truth-row BooleanLookup x y = refl
truth-row Sum x y = refl
truth-row And x y = refl
truth-row Or x y = refl
truth-row Implies x y = refl
truth-row Iff x y = refl
truth-row Not x y = refl
truth-row Equal x y = refl
truth-row Unequal x y = refl
truth-row AtMost x y = refl
truth-row Below x y = refl
truth-row Exists x y = refl
truth-row Forall x y = refl

-- An arm of the decoding gives the row's case.
pub integer-arm : {k v : Kind} {n a b : ℕ} (x y : ℤ) → number_of k ≡ n → k ≡ v → a ≡ nat_abs x → b ≡ nat_abs y → integer_by v x a b ≡ integer_case (row_in (kind_of n) x y)
integer-arm {k} x y e h p q = rw (← e, ← h, p, q) (integer-row k x y)

pub truth-arm : {k v : Kind} {n a b : ℕ} (x y : ℤ) → number_of k ≡ n → k ≡ v → a ≡ nat_abs x → b ≡ nat_abs y → truth_by v x a b ≡ truth_case (row_in (kind_of n) x y)
truth-arm {k} x y e h p q = rw (← e, ← h, p, q) (truth-row k x y)

-- A kind of the other type reads as 0, or as false,
pub record NotInteger (k : Kind) : Type 0 where
  pub not-Constant : k ≡ Constant → ⊥
  pub not-Variable : k ≡ Variable → ⊥
  pub not-Slot : k ≡ Slot → ⊥
  pub not-Add : k ≡ Add → ⊥
  pub not-Subtract : k ≡ Subtract → ⊥
  pub not-Multiply : k ≡ Multiply → ⊥
  pub not-Div : k ≡ Div → ⊥
  pub not-Mod : k ≡ Mod → ⊥
  pub not-Negate : k ≡ Negate → ⊥
  pub not-Min : k ≡ Min → ⊥
  pub not-Max : k ≡ Max → ⊥
  pub not-BoolToInt : k ≡ BoolToInt → ⊥
  pub not-Lookup : k ≡ Lookup → ⊥
  pub not-Sum : k ≡ Sum → ⊥

pub integer-other : {k : Kind} → NotInteger k → {n : ℕ} (x y : ℤ) → number_of k ≡ n → integer.Constant (Integer (pos 0)) ≡ integer_case (row_in (kind_of n) x y)
integer-other {k} h x y e = other k h ∙ integer-arm x y e refl refl refl
  where
    other : (k : Kind) → NotInteger k → integer.Constant (Integer (pos 0)) ≡ integer_by k x (nat_abs x) (nat_abs y)
    other Constant h = absurd (h.not-Constant refl)
    other TruthValue h = refl
    other Variable h = absurd (h.not-Variable refl)
    other BooleanVariable h = refl
    other Slot h = absurd (h.not-Slot refl)
    other Add h = absurd (h.not-Add refl)
    other Subtract h = absurd (h.not-Subtract refl)
    other Multiply h = absurd (h.not-Multiply refl)
    other Div h = absurd (h.not-Div refl)
    other Mod h = absurd (h.not-Mod refl)
    other Negate h = absurd (h.not-Negate refl)
    other Min h = absurd (h.not-Min refl)
    other Max h = absurd (h.not-Max refl)
    other BoolToInt h = absurd (h.not-BoolToInt refl)
    other Lookup h = absurd (h.not-Lookup refl)
    other BooleanLookup h = refl
    other Sum h = absurd (h.not-Sum refl)
    other And h = refl
    other Or h = refl
    other Implies h = refl
    other Iff h = refl
    other Not h = refl
    other Equal h = refl
    other Unequal h = refl
    other AtMost h = refl
    other Below h = refl
    other Exists h = refl
    other Forall h = refl

pub record NotTruth (k : Kind) : Type 0 where
  pub not-TruthValue : k ≡ TruthValue → ⊥
  pub not-BooleanVariable : k ≡ BooleanVariable → ⊥
  pub not-BooleanLookup : k ≡ BooleanLookup → ⊥
  pub not-And : k ≡ And → ⊥
  pub not-Or : k ≡ Or → ⊥
  pub not-Implies : k ≡ Implies → ⊥
  pub not-Iff : k ≡ Iff → ⊥
  pub not-Not : k ≡ Not → ⊥
  pub not-Equal : k ≡ Equal → ⊥
  pub not-Unequal : k ≡ Unequal → ⊥
  pub not-AtMost : k ≡ AtMost → ⊥
  pub not-Below : k ≡ Below → ⊥
  pub not-Exists : k ≡ Exists → ⊥
  pub not-Forall : k ≡ Forall → ⊥

pub truth-other : {k : Kind} → NotTruth k → {n : ℕ} (x y : ℤ) → number_of k ≡ n → truth.Constant (Truth false) ≡ truth_case (row_in (kind_of n) x y)
truth-other {k} h x y e = other k h ∙ truth-arm x y e refl refl refl
  where
    other : (k : Kind) → NotTruth k → truth.Constant (Truth false) ≡ truth_by k x (nat_abs x) (nat_abs y)
    other Constant h = refl
    other TruthValue h = absurd (h.not-TruthValue refl)
    other Variable h = refl
    other BooleanVariable h = absurd (h.not-BooleanVariable refl)
    other Slot h = refl
    other Add h = refl
    other Subtract h = refl
    other Multiply h = refl
    other Div h = refl
    other Mod h = refl
    other Negate h = refl
    other Min h = refl
    other Max h = refl
    other BoolToInt h = refl
    other Lookup h = refl
    other BooleanLookup h = absurd (h.not-BooleanLookup refl)
    other Sum h = refl
    other And h = absurd (h.not-And refl)
    other Or h = absurd (h.not-Or refl)
    other Implies h = absurd (h.not-Implies refl)
    other Iff h = absurd (h.not-Iff refl)
    other Not h = absurd (h.not-Not refl)
    other Equal h = absurd (h.not-Equal refl)
    other Unequal h = absurd (h.not-Unequal refl)
    other AtMost h = absurd (h.not-AtMost refl)
    other Below h = absurd (h.not-Below refl)
    other Exists h = absurd (h.not-Exists refl)
    other Forall h = absurd (h.not-Forall refl)

-- and so does a number that no kind has.
pub integer-none : (n : ℕ) (x y : ℤ) → kind_of n ≡ none → integer.Constant (Integer (pos 0)) ≡ integer_case (row_in (kind_of n) x y)
unfolding row_in integer_case
integer-none n x y e = rw e refl

pub truth-none : (n : ℕ) (x y : ℤ) → kind_of n ≡ none → truth.Constant (Truth false) ≡ truth_case (row_in (kind_of n) x y)
unfolding row_in truth_case
truth-none n x y e = rw e refl

-- A truth value kept as a number: it is true where the number's bits are those of 1.
pub eqb-is_one : {r x : ℤ} → SFits w32 r → r ≡ x → eqb (of_z w32 r) 1 ≡ is_one x
unfolding is_one
eqb-is_one {r} f e = eq_bits r (pos 1) f (record { sfits = omega arith }) ∙ ap (λ z. eq_z z (pos 1)) e

-- ---- leaves

abbrev pub leaf_by : Assignment → Setting → Kind → ℤ → ℕ → Option Walked
leaf_by α σ Constant z a = Some (limited_to true (some z))
leaf_by α σ Variable z a = Some (limited_to true (some (value_of α a)))
leaf_by α σ Slot z a = Some (limited_to true (some (σ a)))
leaf_by α σ _ z a = None

leaf-row : (α : Assignment) (σ : Setting) (k : Kind) (x y : ℤ) → leaf_by α σ k x (nat_abs x) ≡ leaf_of α σ (row_in (kind_of (number_of k)) x y)
unfolding kind_of kinds row_in leaf_of
leaf-row α σ Constant x y = refl
leaf-row α σ TruthValue x y = refl
leaf-row α σ Variable x y = refl
leaf-row α σ BooleanVariable x y = refl
leaf-row α σ Slot x y = refl
leaf-row α σ Add x y = refl
leaf-row α σ Subtract x y = refl
leaf-row α σ Multiply x y = refl
leaf-row α σ Div x y = refl
leaf-row α σ Mod x y = refl
leaf-row α σ Negate x y = refl
leaf-row α σ Min x y = refl
leaf-row α σ Max x y = refl
leaf-row α σ BoolToInt x y = refl
leaf-row α σ Lookup x y = refl
leaf-row α σ BooleanLookup x y = refl
leaf-row α σ Sum x y = refl
leaf-row α σ And x y = refl
leaf-row α σ Or x y = refl
leaf-row α σ Implies x y = refl
leaf-row α σ Iff x y = refl
leaf-row α σ Not x y = refl
leaf-row α σ Equal x y = refl
leaf-row α σ Unequal x y = refl
leaf-row α σ AtMost x y = refl
leaf-row α σ Below x y = refl
leaf-row α σ Exists x y = refl
leaf-row α σ Forall x y = refl

module _ (α : Assignment) (σ : Setting) (bs : List ℕ) (p : ℕ) where
  pub leaf-arm : {k v : Kind} {n a : ℕ} {x : ℤ} → number_of k ≡ n → k ≡ v → n ≡ kind_at bs p → x ≡ x_at bs p → a ≡ nat_abs x → leaf_by α σ v x a ≡ leaf_of α σ (row_of bs p)
  unfolding row_of
  leaf-arm {k} e h m g i = rw (← h, i, g, ← m, ← e) (leaf-row α σ k (x_at bs p) (y_at bs p))

  pub leaf-none : {n : ℕ} → n ≡ kind_at bs p → kind_of n ≡ none → None ≡ leaf_of α σ (row_of bs p)
  unfolding row_of row_in leaf_of
  leaf-none m e = rw (← m, e) refl

  pub leaf-other : {k : Kind} {n : ℕ} → number_of k ≡ n → n ≡ kind_at bs p → (k ≡ Constant → ⊥) → (k ≡ Variable → ⊥) → (k ≡ Slot → ⊥) → None ≡ leaf_of α σ (row_of bs p)
  leaf-other {k} e m c v s = other k c v s ∙ leaf-arm e refl m refl refl
    where
      other : (k : Kind) → (k ≡ Constant → ⊥) → (k ≡ Variable → ⊥) → (k ≡ Slot → ⊥) → None ≡ leaf_by α σ k (x_at bs p) (nat_abs (x_at bs p))
      other Constant c v s = absurd (c refl)
      other TruthValue c v s = refl
      other Variable c v s = absurd (v refl)
      other BooleanVariable c v s = refl
      other Slot c v s = absurd (s refl)
      other Add c v s = refl
      other Subtract c v s = refl
      other Multiply c v s = refl
      other Div c v s = refl
      other Mod c v s = refl
      other Negate c v s = refl
      other Min c v s = refl
      other Max c v s = refl
      other BoolToInt c v s = refl
      other Lookup c v s = refl
      other BooleanLookup c v s = refl
      other Sum c v s = refl
      other And c v s = refl
      other Or c v s = refl
      other Implies c v s = refl
      other Iff c v s = refl
      other Not c v s = refl
      other Equal c v s = refl
      other Unequal c v s = refl
      other AtMost c v s = refl
      other Below c v s = refl
      other Exists c v s = refl
      other Forall c v s = refl
