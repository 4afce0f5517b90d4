-- Document 000's rule for each quantifier under each reading, in its words: "for some d" and "for all d" of a range. The definition folds the range
-- (`quantified` in Readings); that it keeps these rules is proofs/Quantifiers.antt.
use Rattle.std.specs.Prelude.{◌≡◌, Bool, true, false, ◌↔◌, ℤ, ◌≤ℤ◌}
use Rattle.std.proofs.Math.Option.{Option, none, some}
use Rattle.language.specs.Syntax.{Slot, Quantifier, exists, forall}
use Rattle.language.specs.Readings.{Reading, strict, kleene, relational}

-- "for some d" of the range x..y of a slot
pub record ForSome (range : Slot) (P : ℤ → Type 0) : Type 0 where
  pub value : ℤ
  pub above : range.low ≤ℤ value
  pub below : value ≤ℤ range.high
  pub holds : P value

-- "for all d" of it
abbrev pub ForAll : Slot → (ℤ → Type 0) → Type 0
ForAll range P = (d : ℤ) → range.low ≤ℤ d → d ≤ℤ range.high → P d

-- `settles` is the truth value that one body settles the quantifier with, `rests` the other: T and F of an exists. "The rule for universal quantification is
-- obtained from this by interchanging T and F."
unfoldable pub settles : Quantifier → Bool
settles exists = true
settles forall = false

unfoldable pub rests : Quantifier → Bool
rests exists = false
rests forall = true

-- The value of a quantifier over a range, and its body's value at each d.
module _ (q : Quantifier) (range : Slot) (value : Option Bool) (body : ℤ → Option Bool) where
  -- "T if exp = T for some d; F if exp = F for all d; ⊥ otherwise"
  pub record KleeneRule : Type 0 where
    pub settled : value ≡ some (settles q) ↔ ForSome range (λ d. body d ≡ some (settles q))
    pub rested : value ≡ some (rests q) ↔ ForAll range (λ d. body d ≡ some (rests q))

  -- "if exp = ⊥ for some d then ⊥ else if exp = T for some d then T else F"
  pub record StrictRule : Type 0 where
    pub undefined : value ≡ none ↔ ForSome range (λ d. body d ≡ none)
    pub settled : (ForSome range (λ d. body d ≡ none) → ⊥) → value ≡ some (settles q) ↔ ForSome range (λ d. body d ≡ some (settles q))
    pub rested : (ForSome range (λ d. body d ≡ none) → ⊥) → value ≡ some (rests q) ↔ (ForSome range (λ d. body d ≡ some (settles q)) → ⊥)

  -- "T if exp = T for some d; F otherwise"
  pub record RelationalRule : Type 0 where
    pub settled : value ≡ some (settles q) ↔ ForSome range (λ d. body d ≡ some (settles q))
    pub rested : value ≡ some (rests q) ↔ (ForSome range (λ d. body d ≡ some (settles q)) → ⊥)

  -- the rule of each reading
  abbrev pub RuleUnder : Reading → Type 0
  RuleUnder strict = StrictRule
  RuleUnder kleene = KleeneRule
  RuleUnder relational = RelationalRule
