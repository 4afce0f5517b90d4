-- The rules as rows, and where each kind's rows stand under each reading, as the code holds them. `Compiled` of proofs/ holds them to the
-- rules themselves.
-- Internal: a contract behind the public ones; no public promise cites it.
use Rattle.std.specs.Prelude.{ℕ, List, [], ◌∷◌, get_or, map, take, drop, Some, None}
use Rattle.language.specs.Readings.{Reading, strict, kleene, relational}
use Rattle.table.specs.declared.kind.Kind.{Kind}
use Rattle.table.specs.declared.kind.Kind.TheVariants.{Constant, TruthValue, Add, Negate, Min, Max, BoolToInt, Sum, And, Or, Not, Equal, Unequal, AtMost, Exists, Forall}
use Rattle.table.specs.KindNumbers.{number_of}
use Rattle.translator.specs.declared.tables.Word.TheVariants.{Zero, One, FirstOfX, SecondOfX, FirstOfY, SecondOfY, Named, FirstIndex, LastIndex}
use Rattle.translator.specs.declared.tables.Reference.{Reference}
use Rattle.translator.specs.declared.tables.Reference.TheVariants.{Handed, Written}
use Rattle.translator.specs.declared.tables.Row.{Row}
use Rattle.translator.specs.declared.plans.Plan.{Plan}
use Rattle.translator.specs.declared.plans.Rule.{Rule}

-- a row of this kind, and one of the node's own kind
abbrev row : Kind → Reference → Reference → Row
row k a b = record { kind = Some (number_of k); x = a; y = b }

abbrev own : Reference → Reference → Row
own a b = record { kind = None; x = a; y = b }

-- 0 and 1,
abbrev zero : Reference
zero = Handed Zero

abbrev one : Reference
one = Handed One

-- the companions of the node that x names, V and D or P and N, and of the node that y names,
abbrev va : Reference
va = Handed FirstOfX

abbrev da : Reference
da = Handed SecondOfX

abbrev vb : Reference
vb = Handed FirstOfY

abbrev db : Reference
db = Handed SecondOfY

-- what x itself is, and the first and the last index of the array that it names
abbrev named : Reference
named = Handed Named

abbrev l : Reference
l = Handed FirstIndex

abbrev u : Reference
u = Handed LastIndex

-- each rule's rows behind those of the rule before it
unfoldable pub rule_rows : List Row
rule_rows =
    own named zero ∷ row TruthValue one zero  -- Constant, variable, slot: V itself, D true.
    ∷ own named zero ∷ row Not (Written 0) zero  -- Boolean constant or variable: P itself, N = ¬P.
    ∷ row TruthValue zero zero ∷ row Not (Written 0) zero  -- A kind that does not exist reads as false.
    ∷ own va vb ∷ row And da db  -- Arithmetic: V = Va op Vb, D = Da ∧ Db.
    ∷ row Constant zero zero ∷ row Equal vb (Written 0) ∷ row BoolToInt (Written 1) zero ∷ row Add vb (Written 2) ∷ own va (Written 3) ∷ row And da db ∷ row Constant zero zero ∷ row Unequal vb (Written 6) ∷ row And (Written 5) (Written 7)  -- div, mod: V = Va op (Vb + boolToInt(Vb = 0)), D = (Da ∧ Db) ∧ (Vb ≠ 0).
    ∷ row Negate va zero  -- Negate: V = −Va, D = Da.
    ∷ row BoolToInt va zero ∷ row Or va da  -- boolToInt: V = boolToInt(Pa), D = Pa ∨ Na.
    ∷ row Constant l zero ∷ row Constant u zero ∷ row Min (Written 1) vb ∷ row Max (Written 0) (Written 2) ∷ own named (Written 3) ∷ row Constant l zero ∷ row AtMost (Written 5) vb ∷ row And db (Written 6) ∷ row Constant u zero ∷ row AtMost vb (Written 8) ∷ row And (Written 7) (Written 9)  -- Integer lookup: V = h, D = g, with h = A[max(l, min(u, Vi))], g = (Di ∧ (l ≤ Vi)) ∧ (Vi ≤ u).
    ∷ row Constant l zero ∷ row AtMost (Written 0) vb ∷ row And db (Written 1) ∷ row Constant u zero ∷ row AtMost vb (Written 3) ∷ row And (Written 2) (Written 4) ∷ row Constant l zero ∷ row Constant u zero ∷ row Min (Written 7) vb ∷ row Max (Written 6) (Written 8) ∷ own named (Written 9) ∷ row And (Written 5) (Written 10) ∷ row Constant l zero ∷ row AtMost (Written 12) vb ∷ row And db (Written 13) ∷ row Constant u zero ∷ row AtMost vb (Written 15) ∷ row And (Written 14) (Written 16) ∷ row Constant l zero ∷ row Constant u zero ∷ row Min (Written 19) vb ∷ row Max (Written 18) (Written 20) ∷ own named (Written 21) ∷ row Not (Written 22) zero ∷ row And (Written 17) (Written 23)  -- Boolean lookup, strict and Kleene: P = g ∧ h, N = g ∧ ¬h.
    ∷ row Constant l zero ∷ row AtMost (Written 0) vb ∷ row And db (Written 1) ∷ row Constant u zero ∷ row AtMost vb (Written 3) ∷ row And (Written 2) (Written 4) ∷ row Constant l zero ∷ row Constant u zero ∷ row Min (Written 7) vb ∷ row Max (Written 6) (Written 8) ∷ own named (Written 9) ∷ row And (Written 5) (Written 10) ∷ row Not (Written 11) zero  -- Boolean lookup, relational: P = g ∧ h, N = ¬P.
    ∷ row Sum named vb ∷ row Forall named db  -- Sum: V = sum of Va, D = forall of Da.
    ∷ row And da db ∷ own va vb ∷ row And (Written 0) (Written 1) ∷ row And da db ∷ own va vb ∷ row Not (Written 4) zero ∷ row And (Written 3) (Written 5)  -- Comparison, strict and Kleene: P = (Da ∧ Db) ∧ (Va op Vb), N = (Da ∧ Db) ∧ ¬(Va op Vb).
    ∷ row And da db ∷ own va vb ∷ row And (Written 0) (Written 1) ∷ row Not (Written 2) zero  -- Comparison, relational: P = (Da ∧ Db) ∧ (Va op Vb), N = ¬P.
    ∷ row And va vb ∷ row And da db ∷ row Or (Written 0) (Written 1) ∷ row And va db ∷ row And da vb ∷ row Or (Written 3) (Written 4)  -- iff: P = (Pa ∧ Pb) ∨ (Na ∧ Nb), N = (Pa ∧ Nb) ∨ (Na ∧ Pb).
    ∷ row And va vb ∷ row Or da db  -- and, Kleene and relational: P = Pa ∧ Pb, N = Na ∨ Nb.
    ∷ row Or va vb ∷ row And da db  -- or, Kleene and relational: P = Pa ∨ Pb, N = Na ∧ Nb.
    ∷ row Or da vb ∷ row And va db  -- implies, Kleene and relational: P = Na ∨ Pb, N = Pa ∧ Nb.
    ∷ row Exists named vb ∷ row Forall named db  -- exists, Kleene and relational: P = ∃Pa, N = ∀Na.
    ∷ row Forall named vb ∷ row Exists named db  -- forall, Kleene and relational: P = ∀Pa, N = ∃Na.
    ∷ row And va vb ∷ row Or va da ∷ row Or vb db ∷ row And (Written 1) (Written 2) ∷ row Or da db ∷ row And (Written 3) (Written 4)  -- and, strict: P = Pa ∧ Pb, N = B ∧ (Na ∨ Nb), with B = (Pa ∨ Na) ∧ (Pb ∨ Nb).
    ∷ row Or va da ∷ row Or vb db ∷ row And (Written 0) (Written 1) ∷ row Or va vb ∷ row And (Written 2) (Written 3) ∷ row And da db  -- or, strict: P = B ∧ (Pa ∨ Pb), N = Na ∧ Nb.
    ∷ row Or va da ∷ row Or vb db ∷ row And (Written 0) (Written 1) ∷ row Or da vb ∷ row And (Written 2) (Written 3) ∷ row And va db  -- implies, strict: P = B ∧ (Na ∨ Pb), N = Pa ∧ Nb.
    ∷ row Or vb db ∷ row Forall named (Written 0) ∷ row Exists named vb ∷ row And (Written 1) (Written 2) ∷ row Forall named db  -- exists, strict: P = (∀(Pa ∨ Na)) ∧ ∃Pa, N = ∀Na.
    ∷ row Forall named vb ∷ row Or vb db ∷ row Forall named (Written 1) ∷ row Exists named db ∷ row And (Written 2) (Written 3)  -- forall, strict: P = ∀Pa, N = (∀(Pa ∨ Na)) ∧ ∃Na.
    ∷ []

-- first row, count, V or P, D or N
abbrev pub plan : ℕ → ℕ → Reference → Reference → Plan
plan a n v d = record { from = a; count = n; first = v; second = d }

-- one plan under every reading
abbrev pub same : Plan → Rule
same p = record { strict = p; kleene = p; relational = p }

-- strict, Kleene, relational
abbrev each : Plan → Plan → Plan → Rule
each p q r = record { strict = p; kleene = q; relational = r }

-- a kind that does not exist,
abbrev pub no_kind : Rule
no_kind = same (plan 4 2 (Written 0) (Written 1))

-- a leaf: an integer one and a Boolean one,
abbrev leaf : Rule
leaf = same (plan 0 2 (Written 0) (Written 1))

abbrev leaf_b : Rule
leaf_b = same (plan 2 2 (Written 0) (Written 1))

-- add, subtract, multiply, min, max,
abbrev arithmetic : Rule
arithmetic = same (plan 6 2 (Written 0) (Written 1))

-- div, mod,
abbrev division : Rule
division = same (plan 8 9 (Written 4) (Written 8))

-- =, ≠, ≤, <
abbrev comparison : Rule
comparison = let guarded : Plan = plan 71 7 (Written 2) (Written 6) in each guarded guarded (plan 78 4 (Written 2) (Written 3))

-- the rule of each kind
unfoldable pub rules : List Rule
rules =
    no_kind  -- 0
    ∷ leaf  -- constant
    ∷ leaf_b  -- truth value
    ∷ leaf  -- variable
    ∷ leaf_b  -- Boolean variable
    ∷ leaf  -- slot
    ∷ arithmetic ∷ arithmetic ∷ arithmetic  -- add, subtract, multiply
    ∷ division ∷ division  -- div, mod
    ∷ same (plan 17 1 (Written 0) da)  -- negate
    ∷ arithmetic ∷ arithmetic  -- min, max
    ∷ same (plan 18 2 (Written 0) (Written 1))  -- boolToInt
    ∷ same (plan 20 11 (Written 4) (Written 10))  -- lookup
    ∷ each (plan 31 25 (Written 11) (Written 24)) (plan 31 25 (Written 11) (Written 24)) (plan 56 13 (Written 11) (Written 12))  -- Boolean lookup
    ∷ same (plan 69 2 (Written 0) (Written 1))  -- sum
    ∷ no_kind ∷ no_kind  -- 18, 19
    ∷ each (plan 98 6 (Written 0) (Written 5)) (plan 88 2 (Written 0) (Written 1)) (plan 88 2 (Written 0) (Written 1))  -- and
    ∷ each (plan 104 6 (Written 4) (Written 5)) (plan 90 2 (Written 0) (Written 1)) (plan 90 2 (Written 0) (Written 1))  -- or
    ∷ each (plan 110 6 (Written 4) (Written 5)) (plan 92 2 (Written 0) (Written 1)) (plan 92 2 (Written 0) (Written 1))  -- implies
    ∷ same (plan 82 6 (Written 2) (Written 5))  -- iff
    ∷ same (plan 0 0 da va)  -- not
    ∷ comparison ∷ comparison ∷ comparison ∷ comparison
    ∷ each (plan 116 5 (Written 3) (Written 4)) (plan 94 2 (Written 0) (Written 1)) (plan 94 2 (Written 0) (Written 1))  -- exists
    ∷ each (plan 121 5 (Written 0) (Written 4)) (plan 96 2 (Written 0) (Written 1)) (plan 96 2 (Written 0) (Written 1))  -- forall
    ∷ []

-- a rule's plan under a reading
unfoldable pub under : Reading → Rule → Plan
under strict r = r.strict
under kleene r = r.kleene
under relational r = r.relational

-- the plan of a kind under a reading
unfoldable pub plan_at : Reading → ℕ → Plan
plan_at ρ k = under ρ (get_or rules k no_kind)

-- the plans of a reading by kind
unfoldable pub rule_plans : Reading → List Plan
rule_plans ρ = map (under ρ) rules

-- the rows of a plan
unfoldable pub rows_of : Plan → List Row
rows_of p = take p.count (drop p.from rule_rows)

-- the rows of a kind under a reading
unfoldable pub plan_rows : Reading → ℕ → List Row
plan_rows ρ k = rows_of (plan_at ρ k)
