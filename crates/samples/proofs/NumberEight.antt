-- Number 8 on bytes. Of evaluation: "an integer node met with a value beyond it", at each place where a walk goes; and where it does not go. Of
-- translation: above a remainder. Each is rows of one table, and one claim about all of them.
use mathlib.Core.Path.{◌≡◌, refl}
use Prim.Native.Nat.{ℕ}
use mathlib.Core.Bool.{false}
use mathlib.Core.List.{List, [], ◌∷◌, ◌++◌, map}
use lib.IntN.{ℤ, pos}
use Rattle.table.specs.Records.{VR, SL, AR, EL, ND, CN}
use Rattle.answers.specs.Answers.{Answer}
use Rattle.answers.proofs.Computed.{evaluated, translated}
use Rattle.answers.proofs.TrialRecords.{at, headed}

-- ---- evaluation

-- Nodes, behind what every table here declares, with one constraint; the value of the one variable; the number of the answer under strict (the other readings
-- meet the same: language/proofs/MetTrials.antt).
record Meeting : Type 0 where
  nodes : List (List ℕ)
  constraint : ℕ
  value : ℤ
  number : ℕ

-- variable 0 in 0..2,000,000,001; slot 0 of no value, slot 1 of 1..3; an array of 2,000,000,001 and 5, and one of false and true, both from index 1 on
abbrev declared : List (List ℕ)
declared =
    at VR 1 (pos 0) (pos 2000000001)
    ∷ at SL 0 (pos 1) (pos 0)
    ∷ at SL 0 (pos 1) (pos 3)
    ∷ at AR 1 (pos 1) (pos 2)
    ∷ at EL 0 (pos 2000000001) (pos 0)
    ∷ at EL 0 (pos 5) (pos 0)
    ∷ at AR 0 (pos 1) (pos 2)
    ∷ at EL 0 (pos 0) (pos 0)
    ∷ at EL 0 (pos 1) (pos 0)
    ∷ []

abbrev node : ℕ → ℕ → ℕ → List ℕ
node kind x y = at ND kind (pos x) (pos y)

-- 2,000,000,001 and 1 as nodes 0 and 1, "they are equal" as node 2, and what is tried behind them
abbrev meeting : List (List ℕ) → ℕ → ℕ → Meeting
meeting nodes k n = record { nodes = node 1 2000000001 0 ∷ node 1 1 0 ∷ node 25 0 1 ∷ nodes; constraint = k; value = pos 0; number = n }

-- one or the other side of a connective, beside false and beside 1 div 0 = 1
abbrev beside : ℕ → List Meeting
beside kind =
    meeting (node 2 0 0 ∷ node kind 3 2 ∷ []) 4 8
    ∷ meeting (node 2 0 0 ∷ node kind 2 3 ∷ []) 4 8
    ∷ meeting (node 1 0 0 ∷ node 9 1 3 ∷ node 25 4 1 ∷ node kind 5 2 ∷ []) 6 8
    ∷ meeting (node 1 0 0 ∷ node 9 1 3 ∷ node 25 4 1 ∷ node kind 2 5 ∷ []) 6 8
    ∷ []

-- one or the other side of a comparison, beside 1 div 0
abbrev compared : ℕ → List Meeting
compared kind =
    meeting (node 1 0 0 ∷ node 9 1 3 ∷ node kind 4 0 ∷ []) 5 8
    ∷ meeting (node 1 0 0 ∷ node 9 1 3 ∷ node kind 0 4 ∷ []) 5 8
    ∷ []

-- the same nodes with another value of the variable
abbrev at_value : ℤ → Meeting → Meeting
at_value z m = record { nodes = m.nodes; constraint = m.constraint; value = z; number = m.number }

meetings : List Meeting
meetings =
    -- a constant; a variable at a value beyond the limit and at one within; a node that no constraint reaches
    meeting [] 2 8
    ∷ at_value (pos 2000000001) (meeting (node 3 0 0 ∷ node 25 3 1 ∷ []) 4 8)
    ∷ at_value (pos 2000000000) (meeting (node 3 0 0 ∷ node 25 3 1 ∷ []) 4 0)
    ∷ meeting (node 25 1 1 ∷ []) 3 0
    -- under not and boolToInt
    ∷ meeting (node 24 2 0 ∷ []) 3 8
    ∷ meeting (node 14 2 0 ∷ node 25 3 1 ∷ []) 4 8
    -- as an index of each array
    ∷ meeting (node 15 0 0 ∷ node 25 3 1 ∷ []) 4 8
    ∷ meeting (node 16 1 0 ∷ []) 3 8
    -- an element that is looked up, and one that is not
    ∷ meeting (node 15 0 1 ∷ node 25 3 1 ∷ []) 4 8
    ∷ meeting (node 1 2 0 ∷ node 15 0 3 ∷ node 25 4 1 ∷ []) 5 0
    -- in the body of a sum and of each quantifier: over 1..3, and over no value
    ∷ meeting (node 14 2 0 ∷ node 17 1 3 ∷ node 25 4 1 ∷ []) 5 8
    ∷ meeting (node 14 2 0 ∷ node 17 0 3 ∷ node 25 4 1 ∷ []) 5 0
    ∷ meeting (node 29 1 2 ∷ []) 3 8
    ∷ meeting (node 29 0 2 ∷ []) 3 0
    ∷ meeting (node 30 1 2 ∷ []) 3 8
    ∷ meeting (node 30 0 2 ∷ []) 3 0
    -- at the last value of a slot alone: 700,000,000 times 3
    ∷ meeting (node 5 1 0 ∷ node 1 700000000 0 ∷ node 8 3 4 ∷ node 25 5 1 ∷ node 29 1 6 ∷ []) 7 8
    ∷ meeting (node 5 1 0 ∷ node 1 600000000 0 ∷ node 8 3 4 ∷ node 25 5 1 ∷ node 29 1 6 ∷ []) 7 0
    ∷ (beside 20 ++ (beside 21 ++ (beside 22 ++ (beside 23 ++ (compared 25 ++ (compared 26 ++ (compared 27 ++ compared 28)))))))

table : Meeting → List ℕ
unfolding at headed
table m = headed (declared ++ (m.nodes ++ (at CN 0 (pos m.constraint) (pos 0) ∷ [])))

meetings-hold : map (λ m. (evaluated 1 (table m) (m.value ∷ []) 100 (9 ∷ [])).answer.number) meetings ≡ map (λ m. m.number) meetings
unfolding meetings table evaluated
meetings-hold = refl

-- ---- translation

-- "Number 8 may now be given earlier in a table for nodes above a mod": x mod a divisor, less a number, as record 6, with x in 0..10; and 2,000,000,001 as
-- record 7. A remainder's interval goes as far below 0 as above it, though no x here is below 0.
record Difference : Type 0 where
  divisor : ℕ
  less : ℕ
  refused_at : ℕ

abbrev difference : ℕ → ℕ → ℕ → Difference
difference d n r = record { divisor = d; less = n; refused_at = r }

differences : List Difference
differences =
    difference 2000000000 2 6
    ∷ difference 2000000000 1 7
    ∷ difference 1999999999 3 6
    ∷ difference 1999999999 2 7
    ∷ difference 1 2000000000 7
    ∷ []

difference-table : Difference → List ℕ
unfolding at headed
difference-table d =
    headed
    (at VR 1 (pos 0) (pos 10) ∷ node 3 0 0 ∷ node 1 d.divisor 0 ∷ node 10 0 1 ∷ node 1 d.less 0 ∷ node 7 2 3 ∷ node 1 2000000001 0 ∷ [])

refused-8 : ℕ → Answer
refused-8 r = record { number = 8; at = r; steps = 0; length_written = 0; all_true = false }

differences-hold : map (λ d. (translated 1 (difference-table d) []).answer) differences ≡ map (λ d. refused-8 d.refused_at) differences
unfolding differences difference-table refused-8 translated
differences-hold = refl
