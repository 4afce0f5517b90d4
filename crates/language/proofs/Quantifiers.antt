-- The fold that defines a quantifier keeps document 000's rule under each reading.
use mathlib.Core.Path.{◌≡◌, refl, sym, ap, ◌∙◌}
use Prim.Native.Nat.{ℕ, zero, suc, ◌<◌, ◌≤◌}
use native.Mathlib.Omega.{arith}
use mathlib.Core.Bool.{Bool, true, false, not, ◌&&◌, ◌||◌, beq, true≢false, false≢true}
use mathlib.Core.Logic.{◌↔◌, ◌⊎◌, inl, inr, ⊎_elim, ⊎_map}
use mathlib.Core.Option.{Option, none, some, some-ne-none, some-injective}
use lib.Dec.{T}
use lib.IntN.{ℤ, pos, ◌+ℤ◌, ◌-ℤ◌, nat_abs}
use lib.Signed.{le_z, ◌≤ℤ◌}
use Rattle.numbers.proofs.Naturals.{lt_or_ge}
use Rattle.numbers.proofs.Parts.{+-parts, ≤→parts}
use Rattle.numbers.proofs.Order.{≤_trans, +-difference}
use Rattle.numbers.proofs.Tests.{T→≡true, &&-intro, &&-fst, &&-snd, ||-cases, ||-intro}
use Rattle.language.specs.Syntax.{Connective, Quantifier, exists, forall, BExp, truth, variable_b, lookup_b, connect, negation, compare, quantify, bref, Slot, Declarations}
use Rattle.language.specs.Readings.{Reading, strict, kleene, relational, over, both, logic, strictly, kleene_and, kleene_or, opposite, kleenely, connective, atomic, joins, of_none, quantified}
use Rattle.language.specs.Meaning.{Assignment, Setting, put, slot_at, count, value_b}
use Rattle.language.specs.Quantified.{ForSome, ForAll, settles, rests, KleeneRule, StrictRule, RelationalRule, RuleUnder}
use Rattle.language.proofs.Agreement.{connective-some}
use Rattle.language.proofs.Finite.{◌⊗◌, quantifiers, truths, beq→≡, same, same→≡, ≡→same}
use Rattle.language.proofs.Ranges.{low-≤-slot-value, slot-value-≤-high}

-- ---- a fold over the numbers below n

-- one of them, and each of them
pub record Somewhere (n : ℕ) (P : ℕ → Type 0) : Type 0 where
  place : ℕ
  inside : place < n
  holds : P place

abbrev Everywhere : ℕ → (ℕ → Type 0) → Type 0
Everywhere n P = (k : ℕ) → k < n → P k

module _ {A : Type 0} (f : A → A → A) (a v : A) (low : ℤ) (g : ℤ → A) where
  -- A value that either operand brings about is the fold's where it is some turn's,
  over-somewhere : (a ≡ v → ⊥) → ((x y : A) → f x y ≡ v ↔ ((x ≡ v) ⊎ (y ≡ v))) → (n : ℕ) → over f a low n g ≡ v ↔ Somewhere n (λ k. g (low +ℤ pos k) ≡ v)
  unfolding over
  over-somewhere start turn zero = (λ h. absurd (start h), λ w. absurd (omega (arith, w.inside)))
  over-somewhere start turn (suc n) =
      let before = over-somewhere start turn n in (
        λ h.
            ⊎_elim (λ p. let w = before.0 p in record { place = w.place; inside = omega (arith, w.inside); holds = w.holds })
            (λ p. record { place = n; inside = omega arith; holds = p }) ((turn _ _).0 h),
        λ w.
            (turn _ _).1
            (⊎_elim (λ l. inl (before.1 (record { place = w.place; inside = l; holds = w.holds })))
            (λ l. let e : w.place ≡ n = omega (arith, w.inside) in inr (rw e at w.holds)) (lt_or_ge w.place n)),
      )

  -- and one that takes both operands is the fold's where it is every turn's.
  over-everywhere : a ≡ v → ((x y : A) → f x y ≡ v ↔ ((x ≡ v) × (y ≡ v))) → (n : ℕ) → over f a low n g ≡ v ↔ Everywhere n (λ k. g (low +ℤ pos k) ≡ v)
  unfolding over
  over-everywhere start turn zero = (λ h k l. absurd (omega (arith, l)), λ w. start)
  over-everywhere start turn (suc n) =
      let before = over-everywhere start turn n in (
        λ h k l. ⊎_elim (before.0 ((turn _ _).0 h).0 k) (λ m. let e : k ≡ n = omega arith in rw e ((turn _ _).0 h).1) (lt_or_ge k n),
        λ w. (turn _ _).1 (before.1 (λ k l. w k (omega arith)), w n (omega arith)),
      )

-- ---- a slot's values are the numbers of its range

module _ (range : Slot) (P : ℤ → Type 0) where
  -- A number of the range is the low end and a count below the slot's.
  place_of : (d : ℤ) → range.low ≤ℤ d → d ≤ℤ range.high → (nat_abs (d -ℤ range.low) < count range) × (range.low +ℤ pos (nat_abs (d -ℤ range.low)) ≡ d)
  unfolding count
  place_of d a b =
      let i : ℕ = nat_abs (d -ℤ range.low) in
      let j : ℕ = nat_abs (range.high -ℤ range.low) in
      let i-is : range.low +ℤ pos i ≡ d = +-difference a in
      let j-is : range.low +ℤ pos j ≡ range.high = +-difference (≤_trans a b) in
      let no-farther : i ≤ j =
      omega (arith, rw i-is at (+-parts range.low (pos i)), rw j-is at (+-parts range.low (pos j)), ≤→parts d range.high b) in
      (rw (T→≡true (le_z range.low range.high) (≤_trans a b).le) (omega (arith, no-farther)), i-is)

  pub somewhere_in_range : Somewhere (count range) (λ k. P (range.low +ℤ pos k)) ↔ ForSome range P
  somewhere_in_range = (
    λ w. record {
      value = range.low +ℤ pos w.place;
      above = low-≤-slot-value range w.place;
      below = slot-value-≤-high range w.place w.inside;
      holds = w.holds;
    },
    λ w.
        let p = place_of w.value w.above w.below in
        record { place = nat_abs (w.value -ℤ range.low); inside = p.0; holds = rw p.1 w.holds },
  )

  pub everywhere_in_range : Everywhere (count range) (λ k. P (range.low +ℤ pos k)) ↔ ForAll range P
  everywhere_in_range = (
    λ w d a b. let p = place_of d a b in rw p.1 at (w (nat_abs (d -ℤ range.low)) p.0),
    λ w k l. w (range.low +ℤ pos k) (low-≤-slot-value range k) (slot-value-≤-high range k l),
  )

-- ---- what a table says of a value

module _ (f : Option Bool → Option Bool → Option Bool) (v x y : Option Bool) where
  -- Where a test finds v in a result exactly if it finds it in an operand, v is some operand's;
  either_operand : T (beq (same (f x y) v) (same x v || same y v)) → f x y ≡ v ↔ ((x ≡ v) ⊎ (y ≡ v))
  either_operand told =
      let e : same (f x y) v ≡ (same x v || same y v) = beq→≡ (same (f x y) v) (same x v || same y v) told in (
        λ h. ⊎_map (same→≡ x v) (same→≡ y v) (||-cases (same x v) (same y v) (rw e at (≡→same h))),
        λ w. same→≡ (f x y) v (rw e (||-intro (same x v) (same y v) (⊎_map ≡→same ≡→same w))),
      )

  -- where it finds it in both, v is both operands'.
  both-operands : T (beq (same (f x y) v) (same x v && same y v)) → f x y ≡ v ↔ ((x ≡ v) × (y ≡ v))
  both-operands told =
      let e : same (f x y) v ≡ (same x v && same y v) = beq→≡ (same (f x y) v) (same x v && same y v) told in (
        λ h.
            let t : T (same x v && same y v) = rw e at (≡→same h) in
            (same→≡ x v (&&-fst (same x v) (same y v) t), same→≡ y v (&&-snd (same x v) (same y v) t)),
        λ w. same→≡ (f x y) v (rw e (&&-intro (same x v) (same y v) (≡→same w.0) (≡→same w.1))),
      )

-- the tables of a reading's or and and, as tests: one truth value settles them, the other takes both operands, undefined is kept under strict
settles-table : (q : Quantifier) (x y : Option Bool) → T (beq (same (connective kleene (joins q) x y) (some (settles q))) (same x (some (settles q)) || same y (some (settles q))))
unfolding connective kleenely kleene_and kleene_or joins settles
settles-table q x y = (quantifiers ⊗ (truths ⊗ truths)).at (λ p. beq (same (connective kleene (joins p.0) p.1.0 p.1.1) (some (settles p.0))) (same p.1.0 (some (settles p.0)) || same p.1.1 (some (settles p.0)))) tt (q, (x, y))

rests-table : (q : Quantifier) (x y : Option Bool) → T (beq (same (connective kleene (joins q) x y) (some (rests q))) (same x (some (rests q)) && same y (some (rests q))))
unfolding connective kleenely kleene_and kleene_or joins rests
rests-table q x y = (quantifiers ⊗ (truths ⊗ truths)).at (λ p. beq (same (connective kleene (joins p.0) p.1.0 p.1.1) (some (rests p.0))) (same p.1.0 (some (rests p.0)) && same p.1.1 (some (rests p.0)))) tt (q, (x, y))

undefined-table : (q : Quantifier) (x y : Option Bool) → T (beq (same (connective strict (joins q) x y) none) (same x none || same y none))
unfolding connective strictly both logic joins
undefined-table q x y = (quantifiers ⊗ (truths ⊗ truths)).at (λ p. beq (same (connective strict (joins p.0) p.1.0 p.1.1) none) (same p.1.0 none || same p.1.1 none)) tt (q, (x, y))

-- where both operands are defined, strict's and Kleene's give the same
agreement_table : (q : Quantifier) (x y : Option Bool) → T ((same x none || same y none) || same (connective strict (joins q) x y) (connective kleene (joins q) x y))
unfolding connective strictly both logic kleenely kleene_and kleene_or joins
agreement_table q x y = (quantifiers ⊗ (truths ⊗ truths)).at (λ p. (same p.1.0 none || same p.1.1 none) || same (connective strict (joins p.0) p.1.0 p.1.1) (connective kleene (joins p.0) p.1.0 p.1.1)) tt (q, (x, y))

-- Two operands that are defined give the same under strict as under Kleene.
agree-defined : (q : Quantifier) (x y : Option Bool) → (x ≡ none → ⊥) → (y ≡ none → ⊥) → connective strict (joins q) x y ≡ connective kleene (joins q) x y
agree-defined q x y p r =
    ⊎_elim (λ t. ⊎_elim (λ u. absurd (p (same→≡ x none u))) (λ u. absurd (r (same→≡ y none u))) (||-cases (same x none) (same y none) t))
    (λ t. same→≡ (connective strict (joins q) x y) (connective kleene (joins q) x y) t)
    (||-cases (same x none || same y none) _ (agreement_table q x y))

-- ---- the rules

-- one equivalence behind another
infixr 10 ◌⇔◌
◌⇔◌ : {A B C : Type 0} → A ↔ B → B ↔ C → A ↔ C
p ⇔ q = (λ a. q.0 (p.0 a), λ c. p.1 (q.1 c))

-- Nothing is settled over no value, and the two truth values differ.
unsettled : (q : Quantifier) → some (of_none q) ≡ some (settles q) → ⊥
unfolding of_none settles
unsettled exists e = false≢true (some-injective false true e)
unsettled forall e = true≢false (some-injective true false e)

rested-none : (q : Quantifier) → ◌≡◌ {A = Option Bool} (some (of_none q)) (some (rests q))
unfolding of_none rests
rested-none exists = refl
rested-none forall = refl

-- A truth value that does not settle a quantifier is the other.
settles-or-rests : (q : Quantifier) (b : Bool) → (b ≡ settles q) ⊎ (b ≡ rests q)
unfolding settles rests
settles-or-rests exists true = inl refl
settles-or-rests exists false = inr refl
settles-or-rests forall true = inr refl
settles-or-rests forall false = inl refl

rests-≢-settles : (q : Quantifier) → rests q ≡ settles q → ⊥
unfolding settles rests
rests-≢-settles exists e = false≢true e
rests-≢-settles forall e = true≢false e

-- "F otherwise": a value that is defined, and is T exactly where S holds, is F exactly where it does not.
module _ (q : Quantifier) (value : Option Bool) {S : Type 0} (defined : value ≡ none → ⊥) (settled : value ≡ some (settles q) ↔ S) where
  otherwise : value ≡ some (rests q) ↔ (S → ⊥)
  otherwise = (λ h w. rests-≢-settles q (some-injective (rests q) (settles q) (sym h ∙ settled.1 w)), λ h. go h value refl)
    where
      go : (S → ⊥) → (v : Option Bool) → value ≡ v → value ≡ some (rests q)
      go h none e = absurd (defined e)
      go h (some b) e = ⊎_elim (λ s. absurd (h (settled.0 (e ∙ ap some s)))) (λ r. e ∙ ap some r) (settles-or-rests q b)

module _ (q : Quantifier) (range : Slot) (g : ℤ → Option Bool) where
  abbrev value : Reading → Option Bool
  value ρ = quantified ρ q range.low (count range) g

  -- Kleene's or and and: "T if exp = T for some d; F if exp = F for all d".
  pub kleene-rule : KleeneRule q range (value kleene) g
  unfolding quantified
  kleene-rule =
      let f = connective kleene (joins q) in
      record {
        settled =
            over-somewhere f (some (of_none q)) (some (settles q)) range.low g (unsettled q)
            (λ x y. either_operand f (some (settles q)) x y (settles-table q x y)) (count range)
            ⇔ somewhere_in_range range (λ d. g d ≡ some (settles q));
        rested =
            over-everywhere f (some (of_none q)) (some (rests q)) range.low g (rested-none q)
            (λ x y. both-operands f (some (rests q)) x y (rests-table q x y)) (count range)
            ⇔ everywhere_in_range range (λ d. g d ≡ some (rests q));
      }

  -- Strict: "if exp = ⊥ for some d then ⊥",
  strict-somewhere : (n : ℕ) → quantified strict q range.low n g ≡ none ↔ Somewhere n (λ k. g (range.low +ℤ pos k) ≡ none)
  unfolding quantified
  strict-somewhere =
      let f = connective strict (joins q) in
      over-somewhere f (some (of_none q)) none range.low g (some-ne-none (of_none q)) (λ x y. either_operand f none x y (undefined-table q x y))

  pub strict-undefined : value strict ≡ none ↔ ForSome range (λ d. g d ≡ none)
  strict-undefined = strict-somewhere (count range) ⇔ somewhere_in_range range (λ d. g d ≡ none)

  -- and where it is not, strict's value is Kleene's.
  agrees : (n : ℕ) → (Somewhere n (λ k. g (range.low +ℤ pos k) ≡ none) → ⊥) → quantified strict q range.low n g ≡ quantified kleene q range.low n g
  unfolding quantified over
  agrees zero h = refl
  agrees (suc n) h =
      let before : Somewhere n (λ k. g (range.low +ℤ pos k) ≡ none) → ⊥ = λ w. h (record { place = w.place; inside = omega (arith, w.inside); holds = w.holds }) in
      rw (← agrees n before)
      (agree-defined q (quantified strict q range.low n g) (g (range.low +ℤ pos n)) (λ e. before ((strict-somewhere n).0 e)) (λ e. h (record { place = n; inside = omega arith; holds = e })))

  module _ (none-undefined : ForSome range (λ d. g d ≡ none) → ⊥) where
    strict-settled : value strict ≡ some (settles q) ↔ ForSome range (λ d. g d ≡ some (settles q))
    strict-settled = rw (agrees (count range) (λ w. none-undefined ((somewhere_in_range range (λ d. g d ≡ none)).0 w))) kleene-rule.settled

    strict-rested : value strict ≡ some (rests q) ↔ (ForSome range (λ d. g d ≡ some (settles q)) → ⊥)
    strict-rested = otherwise q (value strict) (λ e. none-undefined (strict-undefined.0 e)) strict-settled

  pub strict-rule : StrictRule q range (value strict) g
  strict-rule = record { undefined = strict-undefined; settled = strict-settled; rested = strict-rested }

  -- Relational, where no body is undefined: "T if exp = T for some d; F otherwise".
  pub relational-rule : (value relational ≡ none → ⊥) → RelationalRule q range (value relational) g
  unfolding quantified connective
  relational-rule defined =
      record { settled = kleene-rule.settled; rested = otherwise q (value relational) defined kleene-rule.settled }

-- ---- relational values are defined

atomic-defined : (v : Option Bool) → atomic relational v ≡ none → ⊥
unfolding atomic
atomic-defined none = some-ne-none false
atomic-defined (some b) = some-ne-none b

connective-defined : (c : Connective) (x y : Option Bool) → (x ≡ none → ⊥) → (y ≡ none → ⊥) → connective relational c x y ≡ none → ⊥
connective-defined c none y p r = absurd (p refl)
connective-defined c (some a) none p r = absurd (r refl)
connective-defined c (some a) (some b) p r = rw (connective-some relational c a b) (some-ne-none (logic c a b))

opposite-defined : (x : Option Bool) → (x ≡ none → ⊥) → opposite x ≡ none → ⊥
unfolding opposite
opposite-defined none p = absurd (p refl)
opposite-defined (some b) p = some-ne-none (not b)

quantified-defined : (q : Quantifier) (low : ℤ) (n : ℕ) (g : ℤ → Option Bool) → ((d : ℤ) → g d ≡ none → ⊥) → quantified relational q low n g ≡ none → ⊥
unfolding quantified over
quantified-defined q low zero g h = some-ne-none (of_none q)
quantified-defined q low (suc n) g h = connective-defined (joins q) (quantified relational q low n g) _ (quantified-defined q low n g h) (h (low +ℤ pos n))

-- ---- expressions

module _ (Γ : Declarations) (α : Assignment) where
  -- "all Boolean expressions are either T or F" under relational.
  pub relational_defined : (e : BExp ⊥) (σ : Setting) → value_b relational Γ α e σ ≡ none → ⊥
  unfolding value_b
  relational_defined (truth b) σ = some-ne-none b
  relational_defined (variable_b v) σ = some-ne-none _
  relational_defined (lookup_b A i) σ = atomic-defined _
  relational_defined (connect c a b) σ = connective-defined c _ _ (relational_defined a σ) (relational_defined b σ)
  relational_defined (negation a) σ = opposite-defined _ (relational_defined a σ)
  relational_defined (compare c a b) σ = atomic-defined _
  relational_defined (quantify q s a) σ = quantified-defined q (slot_at Γ s).low (count (slot_at Γ s)) _ (λ d. relational_defined a (put σ s d))
  relational_defined (bref r) σ = absurd r

-- The value of a quantifier is the one that document 000's rule gives it, under each reading.
pub quantifier-rule : (ρ : Reading) (Γ : Declarations) (α : Assignment) (q : Quantifier) (s : ℕ) (e : BExp ⊥) (σ : Setting)
    → RuleUnder q (slot_at Γ s) (value_b ρ Γ α (quantify q s e) σ) (λ d. value_b ρ Γ α e (put σ s d)) ρ
unfolding value_b
quantifier-rule strict Γ α q s e σ = strict-rule q (slot_at Γ s) (λ d. value_b strict Γ α e (put σ s d))
quantifier-rule kleene Γ α q s e σ = kleene-rule q (slot_at Γ s) (λ d. value_b kleene Γ α e (put σ s d))
quantifier-rule relational Γ α q s e σ = relational-rule q (slot_at Γ s) (λ d. value_b relational Γ α e (put σ s d)) (relational_defined Γ α (quantify q s e) σ)
