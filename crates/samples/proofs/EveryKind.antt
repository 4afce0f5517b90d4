-- Every kind on bytes: what each constraint of a table gives under strict, Kleene and relational, and the steps of them all. Rows of one table, and one
-- claim about all of them. The operands tell each kind from the others of its shape.
use mathlib.Core.Path.{◌≡◌, refl}
use Prim.Native.Nat.{ℕ, ◌+◌}
use mathlib.Core.Bool.{Bool, true, ◌&&◌}
use mathlib.Core.List.{List, [], ◌∷◌, ◌++◌, map}
use lib.Dec.{eqb}
use lib.IntN.{ℤ, pos, negsuc}
use lib.ListN.{length, replicate}
use Rattle.table.specs.Records.{HD, VR, SL, AR, EL, ND, CN}
use Rattle.answers.specs.Answers.{Outcome}
use Rattle.answers.proofs.Computed.{evaluated}
use Rattle.answers.proofs.TrialRecords.{at, joined}

-- ---- the rows

-- What is declared, the nodes and the constraints' nodes; the value of each variable; the verdicts (0 false, 1 true, 2 undefined) under each reading; the
-- total steps.
record Sample : Type 0 where
  declared : List (List ℕ)
  nodes : List (List ℕ)
  constraints : List ℕ
  assignment : List ℤ
  strict : List ℕ
  kleene : List ℕ
  relational : List ℕ
  steps : ℕ

abbrev sample : List (List ℕ) → List (List ℕ) → List ℕ → List ℤ → List ℕ → List ℕ → List ℕ → ℕ → Sample
sample ds ns ks α s k r n =
    record { declared = ds; nodes = ns; constraints = ks; assignment = α; strict = s; kleene = k; relational = r; steps = n }

-- a node, and a constant
abbrev node : ℕ → ℕ → ℕ → List ℕ
node kind x y = at ND kind (pos x) (pos y)

abbrev number : ℕ → List ℕ
number n = node 1 n 0

-- the same verdict for so many constraints
abbrev all : ℕ → ℕ → List ℕ
all n v = replicate n v

-- 1 and 0 as nodes 0 and 1, and 1 div 0, which is undefined, as node 2
abbrev undefined : List (List ℕ)
undefined = number 1 ∷ number 0 ∷ node 9 0 1 ∷ []

-- ---- integer kinds

-- 7 op 2 for the kinds 6 to 10, 12 and 13: 9, 5, 14, 3, 1, 2, 7
operations : Sample
operations =
    sample []
    (number 7 ∷ number 2 ∷ node 6 0 1 ∷ node 7 0 1 ∷ node 8 0 1 ∷ node 9 0 1 ∷ node 10 0 1 ∷ node 12 0 1 ∷ node 13 0 1 ∷ number 9 ∷ number 5 ∷ number 14
    ∷ number 3 ∷ number 1 ∷ number 2 ∷ number 7 ∷ node 25 2 9 ∷ node 25 3 10 ∷ node 25 4 11 ∷ node 25 5 12 ∷ node 25 6 13 ∷ node 25 7 14 ∷ node 25 8 15
    ∷ [])
    (16 ∷ 17 ∷ 18 ∷ 19 ∷ 20 ∷ 21 ∷ 22 ∷ []) [] (all 7 1) (all 7 1) (all 7 1) 35

-- Kinds 9 and 10 on −7 and 2, 7 and −2, −7 and −2: −3, −3, 3, and −1, 1, −1
signs : Sample
signs =
    sample []
    (number 7 ∷ number 2 ∷ node 11 0 0 ∷ node 11 1 0 ∷ number 3 ∷ node 11 4 0 ∷ number 1 ∷ node 11 6 0 ∷ node 9 2 1 ∷ node 9 0 3 ∷ node 9 2 3 ∷ node 10 2 1
    ∷ node 10 0 3 ∷ node 10 2 3 ∷ node 25 8 5 ∷ node 25 9 5 ∷ node 25 10 4 ∷ node 25 11 7 ∷ node 25 12 6 ∷ node 25 13 7 ∷ [])
    (14 ∷ 15 ∷ 16 ∷ 17 ∷ 18 ∷ 19 ∷ []) [] (all 6 1) (all 6 1) (all 6 1) 42

-- (1 div 0) op 1 = 1 and 1 op (1 div 0) = 1 for the same kinds
abbrev undefined-operand : ℕ → ℕ → Sample
undefined-operand x y =
    sample []
    (undefined ++ (node 6 x y ∷ node 7 x y ∷ node 8 x y ∷ node 9 x y ∷ node 10 x y ∷ node 12 x y ∷ node 13 x y ∷ node 25 3 0 ∷ node 25 4 0 ∷ node 25 5 0
    ∷ node 25 6 0 ∷ node 25 7 0 ∷ node 25 8 0 ∷ node 25 9 0 ∷ []))
    (10 ∷ 11 ∷ 12 ∷ 13 ∷ 14 ∷ 15 ∷ 16 ∷ []) [] (all 7 2) (all 7 2) (all 7 0) 49

undefined-left : Sample
undefined-left = undefined-operand 2 0

undefined-right : Sample
undefined-right = undefined-operand 0 2

-- Kind 11: −7 = −7, −7 = 7, −(1 div 0) = 1. Kind 1: −7 = 7.
negations : Sample
negations =
    sample []
    (undefined ++ (number 7 ∷ node 11 3 0 ∷ at ND 1 (negsuc 6) (pos 0) ∷ node 11 2 0 ∷ node 25 4 5 ∷ node 25 4 3 ∷ node 25 6 0 ∷ node 25 5 3 ∷ []))
    (7 ∷ 8 ∷ 9 ∷ 10 ∷ []) [] (1 ∷ 0 ∷ 2 ∷ 0 ∷ []) (1 ∷ 0 ∷ 2 ∷ 0 ∷ []) (1 ∷ 0 ∷ 0 ∷ 0 ∷ []) 17

-- Kinds 2 and 14: false, true; boolToInt of true = 1, of false = 0, of 1 div 0 = 1 is 0
numbers-of-truths : Sample
numbers-of-truths =
    sample []
    (undefined ++ (node 2 0 0 ∷ node 2 1 0 ∷ node 14 4 0 ∷ node 14 3 0 ∷ node 25 5 0 ∷ node 25 6 1 ∷ node 25 2 0 ∷ node 14 9 0 ∷ node 25 10 1 ∷ []))
    (3 ∷ 4 ∷ 7 ∷ 8 ∷ 11 ∷ []) [] (0 ∷ 1 ∷ 1 ∷ 1 ∷ 2 ∷ []) (0 ∷ 1 ∷ 1 ∷ 1 ∷ 2 ∷ []) (0 ∷ 1 ∷ 1 ∷ 1 ∷ 1 ∷ []) 18

-- Kinds 3 and 4: a Boolean variable and an integer one, and whether the second is −5, at these values
abbrev variables-at : ℕ → ℤ → ℕ → ℕ → Sample
variables-at b z is_true is-there =
    let verdicts : List ℕ = is_true ∷ is-there ∷ [] in
    sample (at VR 0 (pos 0) (pos 1) ∷ at VR 1 (negsuc 8) (pos 9) ∷ []) (node 4 0 0 ∷ node 3 1 0 ∷ at ND 1 (negsuc 4) (pos 0) ∷ node 25 1 2 ∷ [])
    (0 ∷ 3 ∷ []) (pos b ∷ z ∷ []) verdicts verdicts verdicts 4

variables-at-0 : Sample
variables-at-0 = variables-at 0 (negsuc 4) 0 1

variables-at-1 : Sample
variables-at-1 = variables-at 1 (pos 5) 1 0

-- Kinds 15 and 16: an array of false, true, a variable which is 1, and one of 4, a variable which is 5, 9, both from index 1 on; at 1, 2, 3, at 0 and 4,
-- which are outside, and at 1 div 0. The numbers looked up are compared with 4, 5, 9, 4, 4, 4.
abbrev arrays : List (List ℕ)
arrays =
    at VR 0 (pos 0) (pos 1)
    ∷ at VR 1 (pos 0) (pos 9)
    ∷ at AR 0 (pos 1) (pos 3)
    ∷ at EL 0 (pos 0) (pos 0)
    ∷ at EL 0 (pos 1) (pos 0)
    ∷ at EL 1 (pos 0) (pos 0)
    ∷ at AR 1 (pos 1) (pos 3)
    ∷ at EL 0 (pos 4) (pos 0)
    ∷ at EL 1 (pos 1) (pos 0)
    ∷ at EL 0 (pos 9) (pos 0)
    ∷ []

truths-looked-up : Sample
truths-looked-up =
    sample arrays
    (undefined ++ (number 2 ∷ number 3 ∷ number 4 ∷ node 16 0 0 ∷ node 16 0 3 ∷ node 16 0 4 ∷ node 16 0 1 ∷ node 16 0 5 ∷ node 16 0 2 ∷ []))
    (6 ∷ 7 ∷ 8 ∷ 9 ∷ 10 ∷ 11 ∷ []) (pos 1 ∷ pos 5 ∷ []) (0 ∷ 1 ∷ 1 ∷ 2 ∷ 2 ∷ 2 ∷ []) (0 ∷ 1 ∷ 1 ∷ 2 ∷ 2 ∷ 2 ∷ []) (0 ∷ 1 ∷ 1 ∷ 0 ∷ 0 ∷ 0 ∷ []) 14

numbers-looked-up : Sample
numbers-looked-up =
    sample arrays
    (undefined ++ (number 2 ∷ number 3 ∷ number 4 ∷ number 5 ∷ number 9 ∷ node 15 1 0 ∷ node 15 1 3 ∷ node 15 1 4 ∷ node 15 1 1 ∷ node 15 1 5 ∷ node 15 1 2
    ∷ node 25 8 5 ∷ node 25 9 6 ∷ node 25 10 7 ∷ node 25 11 5 ∷ node 25 12 5 ∷ node 25 13 5 ∷ []))
    (14 ∷ 15 ∷ 16 ∷ 17 ∷ 18 ∷ 19 ∷ []) (pos 0 ∷ pos 5 ∷ []) (1 ∷ 1 ∷ 1 ∷ 2 ∷ 2 ∷ 2 ∷ []) (1 ∷ 1 ∷ 1 ∷ 2 ∷ 2 ∷ 2 ∷ []) (1 ∷ 1 ∷ 1 ∷ 0 ∷ 0 ∷ 0 ∷ []) 26

-- A remainder as an index: an array of 5, 6, 7, 8 from index 0 on, and whether element x mod 4 is 5, and whether it is not; at values of x
abbrev offset_at : ℤ → List ℕ → List ℕ → List ℕ → Sample
offset_at x s k r =
    sample
    (at VR 1 (negsuc 7) (pos 8)
    ∷ at AR 1 (pos 0) (pos 4)
    ∷ at EL 0 (pos 5) (pos 0)
    ∷ at EL 0 (pos 6) (pos 0)
    ∷ at EL 0 (pos 7) (pos 0)
    ∷ at EL 0 (pos 8) (pos 0)
    ∷ [])
    (node 3 0 0 ∷ number 4 ∷ node 10 0 1 ∷ node 15 0 2 ∷ number 5 ∷ node 25 3 4 ∷ node 24 5 0 ∷ []) (5 ∷ 6 ∷ []) (x ∷ []) s k r 13

-- the index is 0 at 8 and at −4, 3 at 7, and −1 at −1, which is outside
offset_at_8 : Sample
offset_at_8 = offset_at (pos 8) (1 ∷ 0 ∷ []) (1 ∷ 0 ∷ []) (1 ∷ 0 ∷ [])

offset_at_7 : Sample
offset_at_7 = offset_at (pos 7) (0 ∷ 1 ∷ []) (0 ∷ 1 ∷ []) (0 ∷ 1 ∷ [])

offset_at_minus_4 : Sample
offset_at_minus_4 = offset_at (negsuc 3) (1 ∷ 0 ∷ []) (1 ∷ 0 ∷ []) (1 ∷ 0 ∷ [])

offset_at_minus_1 : Sample
offset_at_minus_1 = offset_at (negsuc 0) (2 ∷ 2 ∷ []) (2 ∷ 2 ∷ []) (0 ∷ 1 ∷ [])

-- ---- Boolean kinds

-- true, false, 1 div 0 = 1 as nodes 3, 4 and 5, and each pair of them under a connective: true with true, with false, with undefined; false with ..
abbrev connected : ℕ → List ℕ → List ℕ → List ℕ → Sample
connected kind s k r =
    sample []
    (undefined ++ (node 2 1 0 ∷ node 2 0 0 ∷ node 25 2 0 ∷ node kind 3 3 ∷ node kind 3 4 ∷ node kind 3 5 ∷ node kind 4 3 ∷ node kind 4 4 ∷ node kind 4 5
    ∷ node kind 5 3 ∷ node kind 5 4 ∷ node kind 5 5 ∷ []))
    (6 ∷ 7 ∷ 8 ∷ 9 ∷ 10 ∷ 11 ∷ 12 ∷ 13 ∷ 14 ∷ []) [] s k r 51

conjunctions : Sample
conjunctions =
    connected 20 (1 ∷ 0 ∷ 2 ∷ 0 ∷ 0 ∷ 2 ∷ 2 ∷ 2 ∷ 2 ∷ []) (1 ∷ 0 ∷ 2 ∷ 0 ∷ 0 ∷ 0 ∷ 2 ∷ 0 ∷ 2 ∷ []) (1 ∷ 0 ∷ 0 ∷ 0 ∷ 0 ∷ 0 ∷ 0 ∷ 0 ∷ 0 ∷ [])

disjunctions : Sample
disjunctions =
    connected 21 (1 ∷ 1 ∷ 2 ∷ 1 ∷ 0 ∷ 2 ∷ 2 ∷ 2 ∷ 2 ∷ []) (1 ∷ 1 ∷ 1 ∷ 1 ∷ 0 ∷ 2 ∷ 1 ∷ 2 ∷ 2 ∷ []) (1 ∷ 1 ∷ 1 ∷ 1 ∷ 0 ∷ 0 ∷ 1 ∷ 0 ∷ 0 ∷ [])

implications : Sample
implications =
    connected 22 (1 ∷ 0 ∷ 2 ∷ 1 ∷ 1 ∷ 2 ∷ 2 ∷ 2 ∷ 2 ∷ []) (1 ∷ 0 ∷ 2 ∷ 1 ∷ 1 ∷ 1 ∷ 1 ∷ 2 ∷ 2 ∷ []) (1 ∷ 0 ∷ 0 ∷ 1 ∷ 1 ∷ 1 ∷ 1 ∷ 1 ∷ 1 ∷ [])

equivalences : Sample
equivalences =
    connected 23 (1 ∷ 0 ∷ 2 ∷ 0 ∷ 1 ∷ 2 ∷ 2 ∷ 2 ∷ 2 ∷ []) (1 ∷ 0 ∷ 2 ∷ 0 ∷ 1 ∷ 2 ∷ 2 ∷ 2 ∷ 2 ∷ []) (1 ∷ 0 ∷ 0 ∷ 0 ∷ 1 ∷ 1 ∷ 0 ∷ 1 ∷ 1 ∷ [])

-- Kind 24: of true, of false, of 1 div 0 = 1
opposites : Sample
opposites =
    sample [] (undefined ++ (node 2 1 0 ∷ node 2 0 0 ∷ node 25 2 0 ∷ node 24 3 0 ∷ node 24 4 0 ∷ node 24 5 0 ∷ [])) (6 ∷ 7 ∷ 8 ∷ []) [] (0 ∷ 1 ∷ 2 ∷ [])
    (0 ∷ 1 ∷ 2 ∷ []) (0 ∷ 1 ∷ 1 ∷ []) 10

-- the pairs of 0 and 1, and 1 div 0 on either side: 0 with 0, 0 with 1, 1 with 0, 1 with 1 div 0, 1 div 0 with 1
abbrev compared : ℕ → ℕ → ℕ → ℕ → Sample
compared kind same less more =
    sample [] (undefined ++ (node kind 1 1 ∷ node kind 1 0 ∷ node kind 0 1 ∷ node kind 0 2 ∷ node kind 2 0 ∷ [])) (3 ∷ 4 ∷ 5 ∷ 6 ∷ 7 ∷ []) []
    (same ∷ less ∷ more ∷ 2 ∷ 2 ∷ []) (same ∷ less ∷ more ∷ 2 ∷ 2 ∷ []) (same ∷ less ∷ more ∷ 0 ∷ 0 ∷ []) 19

equalities : Sample
equalities = compared 25 1 0 0

inequalities : Sample
inequalities = compared 26 0 1 1

orders : Sample
orders = compared 27 1 1 0

strict-orders : Sample
strict-orders = compared 28 0 1 0

-- ---- ranges

-- Kinds 5, 17, 29 and 30 over no value, over 4 alone and over 3, 4, 5. Of each slot: some value is 4, every value is 4; some value has 4 div (it − 3) = 4 and
-- every value has, which is undefined at 3, true at 4 and false at 5; the sum of its values is 0, 4 or 12.
abbrev ranges : List (List ℕ)
ranges = at SL 0 (pos 1) (pos 0) ∷ at SL 0 (pos 4) (pos 4) ∷ at SL 0 (pos 3) (pos 5) ∷ []

abbrev ranged : ℕ → ℕ → List ℕ → List ℕ → List ℕ → ℕ → Sample
ranged slot total s k r n =
    sample ranges
    (number 4 ∷ node 5 slot 0 ∷ node 25 1 0 ∷ number 3 ∷ node 7 1 3 ∷ node 9 0 4 ∷ node 25 5 0 ∷ node 29 slot 2 ∷ node 30 slot 2 ∷ node 29 slot 6
    ∷ node 30 slot 6 ∷ node 17 slot 1 ∷ number total ∷ node 25 11 12 ∷ [])
    (7 ∷ 8 ∷ 9 ∷ 10 ∷ 13 ∷ []) [] s k r n

over_none : Sample
over_none = ranged 0 0 (0 ∷ 1 ∷ 0 ∷ 1 ∷ 1 ∷ []) (0 ∷ 1 ∷ 0 ∷ 1 ∷ 1 ∷ []) (0 ∷ 1 ∷ 0 ∷ 1 ∷ 1 ∷ []) 7

over-one : Sample
over-one = ranged 1 4 (all 5 1) (all 5 1) (all 5 1) 28

over-three : Sample
over-three = ranged 2 12 (1 ∷ 0 ∷ 2 ∷ 2 ∷ 1 ∷ []) (1 ∷ 0 ∷ 1 ∷ 0 ∷ 1 ∷ []) (1 ∷ 0 ∷ 1 ∷ 0 ∷ 1 ∷ []) 70

-- ---- the claim

samples : List Sample
samples =
    operations
    ∷ signs
    ∷ undefined-left
    ∷ undefined-right
    ∷ negations
    ∷ numbers-of-truths
    ∷ variables-at-0
    ∷ variables-at-1
    ∷ truths-looked-up
    ∷ numbers-looked-up
    ∷ offset_at_8
    ∷ offset_at_7
    ∷ offset_at_minus_4
    ∷ offset_at_minus_1
    ∷ conjunctions
    ∷ disjunctions
    ∷ implications
    ∷ equivalences
    ∷ opposites
    ∷ equalities
    ∷ inequalities
    ∷ orders
    ∷ strict-orders
    ∷ over_none
    ∷ over-one
    ∷ over-three
    ∷ []

-- a row's table
table : Sample → List ℕ
unfolding at joined
table r =
    joined
    (at HD 1 (pos (1 + (length r.declared + (length r.nodes + length r.constraints)))) (pos 0)
    ∷ (r.declared ++ (r.nodes ++ map (λ k. at CN 0 (pos k) (pos 0)) r.constraints)))

-- Each row under the three choices, with its steps for a budget and one byte more than its verdicts for them,
found : Sample → List Outcome
unfolding table evaluated
found r = map (λ choice. evaluated choice (table r) r.assignment r.steps (replicate (1 + length r.constraints) 9)) (1 ∷ 2 ∷ 3 ∷ [])

-- and what it should give: "all are 1" is yes where every verdict is 1.
all_ones : List ℕ → Bool
all_ones [] = true
all_ones (v ∷ vs) = eqb v 1 && all_ones vs

expected : Sample → List Outcome
unfolding all_ones
expected r =
    map
    (λ vs. record { answer = record { number = 0; at = 0; steps = r.steps; length_written = length r.constraints; all_true = all_ones vs }; lent = vs ++ (9 ∷ []) })
    (r.strict ∷ r.kleene ∷ r.relational ∷ [])

samples-hold : map found samples ≡ map expected samples
unfolding samples found expected operations signs undefined-left undefined-right negations numbers-of-truths variables-at-0 variables-at-1 truths-looked-up numbers-looked-up offset_at_8 offset_at_7 offset_at_minus_4 offset_at_minus_1 conjunctions disjunctions implications equivalences opposites equalities inequalities orders strict-orders over_none over-one over-three
samples-hold = refl
