-- The right-hand sides of document 01's rules, in its letters: Va and Da are an integer operand's companions, Pa and Na a Boolean
-- operand's. What `R` is stays open: node numbers where a table is written, nothing where trees are compared.
use Rattle.std.specs.Prelude.{ℕ, ℤ, pos}
use Rattle.language.specs.Syntax.{plus, minimum, maximum, Division, Connective, conj, disj, implies, iff, equal, unequal, at_most, Quantifier, exists, forall, IExp, constant, arith, divide, bool_to_int, BExp, connect, negation, compare, quantify}
use Rattle.language.specs.Readings.{Reading, strict, kleene, relational}

infixl 35 ◌and◌
infixl 30 ◌or◌
abbrev pub ◌and◌ : {R : Type 0} → BExp R → BExp R → BExp R
a and b = connect conj a b

abbrev pub ◌or◌ : {R : Type 0} → BExp R → BExp R → BExp R
a or b = connect disj a b

module _ {R : Type 0} where
  -- "div, mod: V = Va op (Vb + boolToInt(Vb = 0)), D = (Da ∧ Db) ∧ (Vb ≠ 0)."
  unfoldable pub divide_v : Division → (Va Vb : IExp R) → IExp R
  divide_v op Va Vb = divide op Va (arith plus Vb (bool_to_int (compare equal Vb (constant (pos 0)))))

  unfoldable pub divide_d : (Da Db : BExp R) (Vb : IExp R) → BExp R
  divide_d Da Db Vb = (Da and Db) and compare unequal Vb (constant (pos 0))

  -- "Lookup, indices l..u: g = (Di ∧ (l ≤ Vi)) ∧ (Vi ≤ u), h = A[max(l, min(u, Vi))]."
  unfoldable pub inside : (l u : ℤ) (Di : BExp R) (Vi : IExp R) → BExp R
  inside l u Di Vi = (Di and compare at_most (constant l) Vi) and compare at_most Vi (constant u)

  unfoldable pub clamped : (l u : ℤ) (Vi : IExp R) → IExp R
  clamped l u Vi = arith maximum (constant l) (arith minimum (constant u) Vi)

  -- N of a comparison or Boolean lookup with the guard g and the test e: "N = g ∧ ¬h; relational N = ¬P"
  unfoldable pub refuted : Reading → (g e P : BExp R) → BExp R
  refuted strict g e P = g and negation e
  refuted kleene g e P = g and negation e
  refuted relational g e P = negation P

  -- what strict alone puts in front of a formula
  unfoldable pub behind : Reading → (B e : BExp R) → BExp R
  behind strict B e = B and e
  behind kleene B e = e
  behind relational B e = e

  -- "Strict, B = (Pa ∨ Na) ∧ (Pb ∨ Nb)."
  unfoldable pub settled : (Pa Na Pb Nb : BExp R) → BExp R
  settled Pa Na Pb Nb = (Pa or Na) and (Pb or Nb)

  -- "and: Pa ∧ Pb; .. or: Pa ∨ Pb; .. implies: Na ∨ Pb; ..", the last two behind B under strict;
  -- "iff: P = (Pa ∧ Pb) ∨ (Na ∧ Nb)" in all readings
  unfoldable pub connect_p : Reading → Connective → (Pa Na Pb Nb : BExp R) → BExp R
  connect_p ρ conj Pa Na Pb Nb = Pa and Pb
  connect_p ρ disj Pa Na Pb Nb = behind ρ (settled Pa Na Pb Nb) (Pa or Pb)
  connect_p ρ implies Pa Na Pb Nb = behind ρ (settled Pa Na Pb Nb) (Na or Pb)
  connect_p ρ iff Pa Na Pb Nb = (Pa and Pb) or (Na and Nb)

  -- "and: .. Na ∨ Nb. or: .. Na ∧ Nb. implies: .. Pa ∧ Nb", the first behind B under strict;
  -- "iff: .. N = (Pa ∧ Nb) ∨ (Na ∧ Pb)"
  unfoldable pub connect_n : Reading → Connective → (Pa Na Pb Nb : BExp R) → BExp R
  connect_n ρ conj Pa Na Pb Nb = behind ρ (settled Pa Na Pb Nb) (Na or Nb)
  connect_n ρ disj Pa Na Pb Nb = Na and Nb
  connect_n ρ implies Pa Na Pb Nb = Pa and Nb
  connect_n ρ iff Pa Na Pb Nb = (Pa and Nb) or (Na and Pb)

  -- "exists: ∃Pa; .. forall: ∀Pa", the first behind ∀(Pa ∨ Na) under strict
  unfoldable pub quantify_p : Reading → Quantifier → (s : ℕ) (Pa Na : BExp R) → BExp R
  quantify_p ρ exists s Pa Na = behind ρ (quantify forall s (Pa or Na)) (quantify exists s Pa)
  quantify_p ρ forall s Pa Na = quantify forall s Pa

  -- "exists: .. ∀Na. forall: .. ∃Na", the second behind ∀(Pa ∨ Na) under strict
  unfoldable pub quantify_n : Reading → Quantifier → (s : ℕ) (Pa Na : BExp R) → BExp R
  quantify_n ρ exists s Pa Na = quantify forall s Na
  quantify_n ρ forall s Pa Na = behind ρ (quantify forall s (Pa or Na)) (quantify exists s Na)
