-- Total formulas: an operator of total formulas is total.
use mathlib.Core.Path.{◌≡◌, refl}
use Prim.Native.Nat.{ℕ}
use mathlib.Core.Bool.{Bool, true, false, not}
use mathlib.Core.Option.{none, some}
use lib.Dec.{T}
use lib.IntN.{ℤ, pos, ◌+ℤ◌}
use Rattle.numbers.specs.Whole.{within_limit}
use Rattle.language.specs.Syntax.{Arithmetic, Connective, Comparison, equal, Quantifier, IExp, constant, variable, slot, arith, divide, negate, bool_to_int, BExp, lookup, sum, iref, truth, variable_b, lookup_b, connect, negation, compare, quantify, bref, Declarations}
use Rattle.language.specs.Readings.{Reading, arithmetic, comparison, logic, connective, joins, of_none, quantified}
use Rattle.language.specs.Meaning.{Assignment, Setting, put, slot_at, count, is_one, number, value_of, value_b}
use Rattle.language.proofs.Agreement.{connective-of}
use Rattle.language.proofs.Ranges.{over-relates}
use Rattle.rules.specs.Soundness.{Fits}
use Rattle.rules.proofs.Claims.{TotalI, TotalB, AllTotalI, AllTotalB}
use Rattle.rules.proofs.Intervals.{put-fits}
use Rattle.rules.proofs.Operands.{corrected, corrected-cases}
use Rattle.rules.proofs.Formulas.{corrected_v, HasI, HasB, constant-has, truth-has, arith-has, bool_to_int-has, compare-has, corrected-has, connect-has, negation-has}

-- 0 and 1 are within the limit.
number-limit : (b : Bool) → T (within_limit (number b))
unfolding within_limit number
number-limit true = tt
number-limit false = tt

module _ (Γ : Declarations) (α : Assignment) where
  -- A formula that is total with all below it is total.
  total-of-I : (e : IExp ⊥) → AllTotalI Γ α e → TotalI Γ α e
  unfolding AllTotalI
  total-of-I (constant z) t = t
  total-of-I (variable v) t = t
  total-of-I (slot s) t = t
  total-of-I (arith op a b) t = t.2
  total-of-I (divide op a b) t = t.2
  total-of-I (negate a) t = t.1
  total-of-I (bool_to_int a) t = t.1
  total-of-I (lookup A i) t = t.1
  total-of-I (sum s a) t = t.1
  total-of-I (iref r) t = absurd r

  -- The same for a Boolean formula.
  total-of-B : (e : BExp ⊥) → AllTotalB Γ α e → TotalB Γ α e
  unfolding AllTotalB
  total-of-B (truth b) t = t
  total-of-B (variable_b v) t = t
  total-of-B (lookup_b A i) t = t.1
  total-of-B (connect c a b) t = t.2
  total-of-B (negation a) t = t.1
  total-of-B (compare c a b) t = t.2
  total-of-B (quantify q s a) t = t.1
  total-of-B (bref r) t = absurd r

  -- an integer formula that is total, with every expression below
  pub record EachI (e : IExp ⊥) : Type 0 where
    pub total : AllTotalI Γ α e

  -- the same for a Boolean formula
  pub record EachB (e : BExp ⊥) : Type 0 where
    pub total : AllTotalB Γ α e

module _ {Γ : Declarations} {α : Assignment} where
  module _ (ρ' : Reading) (σ : Setting) (f : Fits Γ α σ) where
    -- Such a formula has a value, and that is within the limit.
    some-I : {e : IExp ⊥} → EachI Γ α e → (z : ℤ) × HasI ρ' Γ α σ e z × T (within_limit z)
    unfolding TotalI
    some-I {e} t = let v = total-of-I Γ α e t.total ρ' σ f in (v.0, record { is = v.1 }, v.2)

    -- Or a truth value.
    some-B : {e : BExp ⊥} → EachB Γ α e → (b : Bool) × HasB ρ' Γ α σ e b
    unfolding TotalB
    some-B {e} t = let v = total-of-B Γ α e t.total ρ' σ f in (v.0, record { is = v.1 })

  -- ---- Boolean operators

  -- A constant truth value.
  pub truth-each : (b : Bool) → EachB Γ α (truth b)
  unfolding AllTotalB TotalB
  truth-each b = record { total = λ ρ' σ f. (b, (truth-has b).is) }

  -- A Boolean variable.
  pub variable_b-each : (v : ℕ) → EachB Γ α (variable_b v)
  unfolding AllTotalB TotalB value_b
  variable_b-each v = record { total = λ ρ' σ f. (is_one (value_of α v), refl) }

  -- A connective.
  pub connect-each : (c : Connective) {a b : BExp ⊥} → EachB Γ α a → EachB Γ α b → EachB Γ α (connect c a b)
  unfolding AllTotalB TotalB
  connect-each c t u = record {
    total = (t.total, u.total, λ ρ' σ f. let x = some-B ρ' σ f t in let y = some-B ρ' σ f u in (logic c x.0 y.0, (connect-has c x.1 y.1).is));
  }

  -- A negation.
  pub negation-each : {a : BExp ⊥} → EachB Γ α a → EachB Γ α (negation a)
  unfolding AllTotalB TotalB
  negation-each t = record { total = (t.total, λ ρ' σ f. let x = some-B ρ' σ f t in (not x.0, (negation-has x.1).is)) }

  -- A comparison.
  pub compare-each : (c : Comparison) {a b : IExp ⊥} → EachI Γ α a → EachI Γ α b → EachB Γ α (compare c a b)
  unfolding AllTotalB TotalB
  compare-each c t u = record {
    total = (t.total, u.total, λ ρ' σ f. let x = some-I ρ' σ f t in let y = some-I ρ' σ f u in (comparison c x.0 y.0, (compare-has c x.1 y.1).is));
  }

  -- A quantifier.
  pub quantify-each : (q : Quantifier) (s : ℕ) {a : BExp ⊥} → EachB Γ α a → EachB Γ α (quantify q s a)
  unfolding AllTotalB TotalB value_b quantified
  quantify-each q s {a} t = record {
    total = (
      t.total,
      λ ρ' σ f.
          over-relates (connective ρ' (joins q)) (connective ρ' (joins q)) (slot_at Γ s).low (λ d. value_b ρ' Γ α a (put σ s d)) (λ d. value_b ρ' Γ α a (put σ s d))
          (λ k v w. (b : Bool) × (v ≡ some b)) {b = none} (of_none q, refl) (count (slot_at Γ s))
          (λ k l v w e. let x = some-B ρ' (put σ s ((slot_at Γ s).low +ℤ pos k)) (put-fits f s k l) t in (logic (joins q) e.0 x.0, connective-of ρ' (joins q) e.1 x.1.is)),
    );
  }

  -- ---- integer operators

  -- A constant within the limit.
  pub constant-each : {z : ℤ} → T (within_limit z) → EachI Γ α (constant z)
  unfolding AllTotalI TotalI
  constant-each {z} w = record { total = λ ρ' σ f. (z, (constant-has z).is, w) }

  -- The constant 0.
  pub zero-each : EachI Γ α (constant (pos 0))
  unfolding within_limit
  zero-each = constant-each {z = pos 0} tt

  -- A truth value as a number.
  pub bool_to_int-each : {a : BExp ⊥} → EachB Γ α a → EachI Γ α (bool_to_int a)
  unfolding AllTotalI TotalI
  bool_to_int-each t = record { total = (t.total, λ ρ' σ f. let x = some-B ρ' σ f t in (number x.0, (bool_to_int-has x.1).is, number-limit x.0)) }

  -- An arithmetic operation that keeps within the limit.
  pub arith-each : (op : Arithmetic) → ((x y : ℤ) → T (within_limit x) → T (within_limit y) → T (within_limit (arithmetic op x y))) →
      {a b : IExp ⊥} → EachI Γ α a → EachI Γ α b → EachI Γ α (arith op a b)
  unfolding AllTotalI TotalI
  arith-each op keeps t u = record {
    total = (
      t.total,
      u.total,
      λ ρ' σ f. let x = some-I ρ' σ f t in let y = some-I ρ' σ f u in
          (arithmetic op x.0 y.0, (arith-has op x.1 y.1).is, keeps x.0 y.0 x.2 y.2),
    );
  }

  -- The corrected divisor is within the limit where the divisor is.
  pub corrected-each : {b : IExp ⊥} → EachI Γ α b → EachI Γ α (corrected_v b)
  unfolding AllTotalI TotalI within_limit
  corrected-each t = record {
    total = (
      t.total,
      (bool_to_int-each (compare-each equal t zero-each)).total,
      λ ρ' σ f. let x = some-I ρ' σ f t in
          (corrected x.0, (corrected-has x.1).is, corrected-cases (λ z. T (within_limit z)) x.0 (λ e. tt) (λ e. x.2)),
    );
  }
