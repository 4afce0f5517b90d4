-- P1 to P9 of document 01, P8 as request L3 has it, on bytes: rows of one table, and one claim about all of them. And P4's translation under choice 3,
-- with its text.
use mathlib.Core.Path.{◌≡◌, refl}
use Prim.Native.Nat.{ℕ}
use mathlib.Core.Bool.{false}
use mathlib.Core.List.{List, [], ◌∷◌, ◌++◌, map}
use lib.Dec.{eqb}
use lib.IntN.{ℤ, pos}
use lib.ListN.{replicate}
use Rattle.answers.specs.Answers.{Outcome}
use Rattle.answers.proofs.Computed.{evaluated, translated, listed}

-- ---- the tables

-- P1: y in 0..1, 1/y = 2 ∨ y < 1
p1 : List ℕ
p1 =
    72 ∷ 68 ∷ 1 ∷ 0 ∷ 10 ∷ 0 ∷ 0 ∷ 0 ∷ 0 ∷ 0 ∷ 0 ∷ 0  -- HD 1 0 10 0
    ∷ 86 ∷ 82 ∷ 1 ∷ 0 ∷ 0 ∷ 0 ∷ 0 ∷ 0 ∷ 1 ∷ 0 ∷ 0 ∷ 0  -- VR 1 0 0 1
    ∷ 78 ∷ 68 ∷ 1 ∷ 0 ∷ 1 ∷ 0 ∷ 0 ∷ 0 ∷ 0 ∷ 0 ∷ 0 ∷ 0  -- ND 1 0 1 0
    ∷ 78 ∷ 68 ∷ 3 ∷ 0 ∷ 0 ∷ 0 ∷ 0 ∷ 0 ∷ 0 ∷ 0 ∷ 0 ∷ 0  -- ND 3 0 0 0
    ∷ 78 ∷ 68 ∷ 9 ∷ 0 ∷ 0 ∷ 0 ∷ 0 ∷ 0 ∷ 1 ∷ 0 ∷ 0 ∷ 0  -- ND 9 0 0 1
    ∷ 78 ∷ 68 ∷ 1 ∷ 0 ∷ 2 ∷ 0 ∷ 0 ∷ 0 ∷ 0 ∷ 0 ∷ 0 ∷ 0  -- ND 1 0 2 0
    ∷ 78 ∷ 68 ∷ 25 ∷ 0 ∷ 2 ∷ 0 ∷ 0 ∷ 0 ∷ 3 ∷ 0 ∷ 0 ∷ 0  -- ND 25 0 2 3
    ∷ 78 ∷ 68 ∷ 28 ∷ 0 ∷ 1 ∷ 0 ∷ 0 ∷ 0 ∷ 0 ∷ 0 ∷ 0 ∷ 0  -- ND 28 0 1 0
    ∷ 78 ∷ 68 ∷ 21 ∷ 0 ∷ 4 ∷ 0 ∷ 0 ∷ 0 ∷ 5 ∷ 0 ∷ 0 ∷ 0  -- ND 21 0 4 5
    ∷ 67 ∷ 78 ∷ 0 ∷ 0 ∷ 6 ∷ 0 ∷ 0 ∷ 0 ∷ 0 ∷ 0 ∷ 0 ∷ 0  -- CN 0 0 6 0
    ∷ []

-- P2: y in 3..4, a = [1,4,9] from index 1, a[y] = 1 ∨ y > 3
p2 : List ℕ
p2 =
    72 ∷ 68 ∷ 1 ∷ 0 ∷ 14 ∷ 0 ∷ 0 ∷ 0 ∷ 0 ∷ 0 ∷ 0 ∷ 0  -- HD 1 0 14 0
    ∷ 86 ∷ 82 ∷ 1 ∷ 0 ∷ 3 ∷ 0 ∷ 0 ∷ 0 ∷ 4 ∷ 0 ∷ 0 ∷ 0  -- VR 1 0 3 4
    ∷ 65 ∷ 82 ∷ 1 ∷ 0 ∷ 1 ∷ 0 ∷ 0 ∷ 0 ∷ 3 ∷ 0 ∷ 0 ∷ 0  -- AR 1 0 1 3
    ∷ 69 ∷ 76 ∷ 0 ∷ 0 ∷ 1 ∷ 0 ∷ 0 ∷ 0 ∷ 0 ∷ 0 ∷ 0 ∷ 0  -- EL 0 0 1 0
    ∷ 69 ∷ 76 ∷ 0 ∷ 0 ∷ 4 ∷ 0 ∷ 0 ∷ 0 ∷ 0 ∷ 0 ∷ 0 ∷ 0  -- EL 0 0 4 0
    ∷ 69 ∷ 76 ∷ 0 ∷ 0 ∷ 9 ∷ 0 ∷ 0 ∷ 0 ∷ 0 ∷ 0 ∷ 0 ∷ 0  -- EL 0 0 9 0
    ∷ 78 ∷ 68 ∷ 3 ∷ 0 ∷ 0 ∷ 0 ∷ 0 ∷ 0 ∷ 0 ∷ 0 ∷ 0 ∷ 0  -- ND 3 0 0 0
    ∷ 78 ∷ 68 ∷ 15 ∷ 0 ∷ 0 ∷ 0 ∷ 0 ∷ 0 ∷ 0 ∷ 0 ∷ 0 ∷ 0  -- ND 15 0 0 0
    ∷ 78 ∷ 68 ∷ 1 ∷ 0 ∷ 1 ∷ 0 ∷ 0 ∷ 0 ∷ 0 ∷ 0 ∷ 0 ∷ 0  -- ND 1 0 1 0
    ∷ 78 ∷ 68 ∷ 25 ∷ 0 ∷ 1 ∷ 0 ∷ 0 ∷ 0 ∷ 2 ∷ 0 ∷ 0 ∷ 0  -- ND 25 0 1 2
    ∷ 78 ∷ 68 ∷ 1 ∷ 0 ∷ 3 ∷ 0 ∷ 0 ∷ 0 ∷ 0 ∷ 0 ∷ 0 ∷ 0  -- ND 1 0 3 0
    ∷ 78 ∷ 68 ∷ 28 ∷ 0 ∷ 4 ∷ 0 ∷ 0 ∷ 0 ∷ 0 ∷ 0 ∷ 0 ∷ 0  -- ND 28 0 4 0
    ∷ 78 ∷ 68 ∷ 21 ∷ 0 ∷ 3 ∷ 0 ∷ 0 ∷ 0 ∷ 5 ∷ 0 ∷ 0 ∷ 0  -- ND 21 0 3 5
    ∷ 67 ∷ 78 ∷ 0 ∷ 0 ∷ 6 ∷ 0 ∷ 0 ∷ 0 ∷ 0 ∷ 0 ∷ 0 ∷ 0  -- CN 0 0 6 0
    ∷ []

-- P3: y in 0..2, true ∨ 1/y = 1
p3 : List ℕ
p3 =
    72 ∷ 68 ∷ 1 ∷ 0 ∷ 9 ∷ 0 ∷ 0 ∷ 0 ∷ 0 ∷ 0 ∷ 0 ∷ 0  -- HD 1 0 9 0
    ∷ 86 ∷ 82 ∷ 1 ∷ 0 ∷ 0 ∷ 0 ∷ 0 ∷ 0 ∷ 2 ∷ 0 ∷ 0 ∷ 0  -- VR 1 0 0 2
    ∷ 78 ∷ 68 ∷ 2 ∷ 0 ∷ 1 ∷ 0 ∷ 0 ∷ 0 ∷ 0 ∷ 0 ∷ 0 ∷ 0  -- ND 2 0 1 0
    ∷ 78 ∷ 68 ∷ 1 ∷ 0 ∷ 1 ∷ 0 ∷ 0 ∷ 0 ∷ 0 ∷ 0 ∷ 0 ∷ 0  -- ND 1 0 1 0
    ∷ 78 ∷ 68 ∷ 3 ∷ 0 ∷ 0 ∷ 0 ∷ 0 ∷ 0 ∷ 0 ∷ 0 ∷ 0 ∷ 0  -- ND 3 0 0 0
    ∷ 78 ∷ 68 ∷ 9 ∷ 0 ∷ 1 ∷ 0 ∷ 0 ∷ 0 ∷ 2 ∷ 0 ∷ 0 ∷ 0  -- ND 9 0 1 2
    ∷ 78 ∷ 68 ∷ 25 ∷ 0 ∷ 3 ∷ 0 ∷ 0 ∷ 0 ∷ 1 ∷ 0 ∷ 0 ∷ 0  -- ND 25 0 3 1
    ∷ 78 ∷ 68 ∷ 21 ∷ 0 ∷ 0 ∷ 0 ∷ 0 ∷ 0 ∷ 4 ∷ 0 ∷ 0 ∷ 0  -- ND 21 0 0 4
    ∷ 67 ∷ 78 ∷ 0 ∷ 0 ∷ 5 ∷ 0 ∷ 0 ∷ 0 ∷ 0 ∷ 0 ∷ 0 ∷ 0  -- CN 0 0 5 0
    ∷ []

-- P4: y in 0..1, ¬(1/y = 1)
unfoldable pub p4 : List ℕ
p4 =
    72 ∷ 68 ∷ 1 ∷ 0 ∷ 8 ∷ 0 ∷ 0 ∷ 0 ∷ 0 ∷ 0 ∷ 0 ∷ 0  -- HD 1 0 8 0
    ∷ 86 ∷ 82 ∷ 1 ∷ 0 ∷ 0 ∷ 0 ∷ 0 ∷ 0 ∷ 1 ∷ 0 ∷ 0 ∷ 0  -- VR 1 0 0 1
    ∷ 78 ∷ 68 ∷ 1 ∷ 0 ∷ 1 ∷ 0 ∷ 0 ∷ 0 ∷ 0 ∷ 0 ∷ 0 ∷ 0  -- ND 1 0 1 0
    ∷ 78 ∷ 68 ∷ 3 ∷ 0 ∷ 0 ∷ 0 ∷ 0 ∷ 0 ∷ 0 ∷ 0 ∷ 0 ∷ 0  -- ND 3 0 0 0
    ∷ 78 ∷ 68 ∷ 9 ∷ 0 ∷ 0 ∷ 0 ∷ 0 ∷ 0 ∷ 1 ∷ 0 ∷ 0 ∷ 0  -- ND 9 0 0 1
    ∷ 78 ∷ 68 ∷ 25 ∷ 0 ∷ 2 ∷ 0 ∷ 0 ∷ 0 ∷ 0 ∷ 0 ∷ 0 ∷ 0  -- ND 25 0 2 0
    ∷ 78 ∷ 68 ∷ 24 ∷ 0 ∷ 3 ∷ 0 ∷ 0 ∷ 0 ∷ 0 ∷ 0 ∷ 0 ∷ 0  -- ND 24 0 3 0
    ∷ 67 ∷ 78 ∷ 0 ∷ 0 ∷ 4 ∷ 0 ∷ 0 ∷ 0 ∷ 0 ∷ 0 ∷ 0 ∷ 0  -- CN 0 0 4 0
    ∷ []

-- P5: the sum over 1..−1 of x/0 is 0
p5 : List ℕ
p5 =
    72 ∷ 68 ∷ 1 ∷ 0 ∷ 8 ∷ 0 ∷ 0 ∷ 0 ∷ 0 ∷ 0 ∷ 0 ∷ 0  -- HD 1 0 8 0
    ∷ 83 ∷ 76 ∷ 0 ∷ 0 ∷ 1 ∷ 0 ∷ 0 ∷ 0 ∷ 255 ∷ 255 ∷ 255 ∷ 255  -- SL 0 0 1 -1
    ∷ 78 ∷ 68 ∷ 5 ∷ 0 ∷ 0 ∷ 0 ∷ 0 ∷ 0 ∷ 0 ∷ 0 ∷ 0 ∷ 0  -- ND 5 0 0 0
    ∷ 78 ∷ 68 ∷ 1 ∷ 0 ∷ 0 ∷ 0 ∷ 0 ∷ 0 ∷ 0 ∷ 0 ∷ 0 ∷ 0  -- ND 1 0 0 0
    ∷ 78 ∷ 68 ∷ 9 ∷ 0 ∷ 0 ∷ 0 ∷ 0 ∷ 0 ∷ 1 ∷ 0 ∷ 0 ∷ 0  -- ND 9 0 0 1
    ∷ 78 ∷ 68 ∷ 17 ∷ 0 ∷ 0 ∷ 0 ∷ 0 ∷ 0 ∷ 2 ∷ 0 ∷ 0 ∷ 0  -- ND 17 0 0 2
    ∷ 78 ∷ 68 ∷ 25 ∷ 0 ∷ 3 ∷ 0 ∷ 0 ∷ 0 ∷ 1 ∷ 0 ∷ 0 ∷ 0  -- ND 25 0 3 1
    ∷ 67 ∷ 78 ∷ 0 ∷ 0 ∷ 4 ∷ 0 ∷ 0 ∷ 0 ∷ 0 ∷ 0 ∷ 0 ∷ 0  -- CN 0 0 4 0
    ∷ []

-- P6: exists over 1..−1 of 1/0 = 7
p6 : List ℕ
p6 =
    72 ∷ 68 ∷ 1 ∷ 0 ∷ 9 ∷ 0 ∷ 0 ∷ 0 ∷ 0 ∷ 0 ∷ 0 ∷ 0  -- HD 1 0 9 0
    ∷ 83 ∷ 76 ∷ 0 ∷ 0 ∷ 1 ∷ 0 ∷ 0 ∷ 0 ∷ 255 ∷ 255 ∷ 255 ∷ 255  -- SL 0 0 1 -1
    ∷ 78 ∷ 68 ∷ 1 ∷ 0 ∷ 1 ∷ 0 ∷ 0 ∷ 0 ∷ 0 ∷ 0 ∷ 0 ∷ 0  -- ND 1 0 1 0
    ∷ 78 ∷ 68 ∷ 1 ∷ 0 ∷ 0 ∷ 0 ∷ 0 ∷ 0 ∷ 0 ∷ 0 ∷ 0 ∷ 0  -- ND 1 0 0 0
    ∷ 78 ∷ 68 ∷ 9 ∷ 0 ∷ 0 ∷ 0 ∷ 0 ∷ 0 ∷ 1 ∷ 0 ∷ 0 ∷ 0  -- ND 9 0 0 1
    ∷ 78 ∷ 68 ∷ 1 ∷ 0 ∷ 7 ∷ 0 ∷ 0 ∷ 0 ∷ 0 ∷ 0 ∷ 0 ∷ 0  -- ND 1 0 7 0
    ∷ 78 ∷ 68 ∷ 25 ∷ 0 ∷ 2 ∷ 0 ∷ 0 ∷ 0 ∷ 3 ∷ 0 ∷ 0 ∷ 0  -- ND 25 0 2 3
    ∷ 78 ∷ 68 ∷ 29 ∷ 0 ∷ 0 ∷ 0 ∷ 0 ∷ 0 ∷ 4 ∷ 0 ∷ 0 ∷ 0  -- ND 29 0 0 4
    ∷ 67 ∷ 78 ∷ 0 ∷ 0 ∷ 5 ∷ 0 ∷ 0 ∷ 0 ∷ 0 ∷ 0 ∷ 0 ∷ 0  -- CN 0 0 5 0
    ∷ []

-- P7: −7 div 2 = −3
p7 : List ℕ
p7 =
    72 ∷ 68 ∷ 1 ∷ 0 ∷ 7 ∷ 0 ∷ 0 ∷ 0 ∷ 0 ∷ 0 ∷ 0 ∷ 0  -- HD 1 0 7 0
    ∷ 78 ∷ 68 ∷ 1 ∷ 0 ∷ 249 ∷ 255 ∷ 255 ∷ 255 ∷ 0 ∷ 0 ∷ 0 ∷ 0  -- ND 1 0 -7 0
    ∷ 78 ∷ 68 ∷ 1 ∷ 0 ∷ 2 ∷ 0 ∷ 0 ∷ 0 ∷ 0 ∷ 0 ∷ 0 ∷ 0  -- ND 1 0 2 0
    ∷ 78 ∷ 68 ∷ 9 ∷ 0 ∷ 0 ∷ 0 ∷ 0 ∷ 0 ∷ 1 ∷ 0 ∷ 0 ∷ 0  -- ND 9 0 0 1
    ∷ 78 ∷ 68 ∷ 1 ∷ 0 ∷ 253 ∷ 255 ∷ 255 ∷ 255 ∷ 0 ∷ 0 ∷ 0 ∷ 0  -- ND 1 0 -3 0
    ∷ 78 ∷ 68 ∷ 25 ∷ 0 ∷ 2 ∷ 0 ∷ 0 ∷ 0 ∷ 3 ∷ 0 ∷ 0 ∷ 0  -- ND 25 0 2 3
    ∷ 67 ∷ 78 ∷ 0 ∷ 0 ∷ 4 ∷ 0 ∷ 0 ∷ 0 ∷ 0 ∷ 0 ∷ 0 ∷ 0  -- CN 0 0 4 0
    ∷ []

-- P8: −7 mod 2 = −1
p8 : List ℕ
p8 =
    72 ∷ 68 ∷ 1 ∷ 0 ∷ 7 ∷ 0 ∷ 0 ∷ 0 ∷ 0 ∷ 0 ∷ 0 ∷ 0  -- HD 1 0 7 0
    ∷ 78 ∷ 68 ∷ 1 ∷ 0 ∷ 249 ∷ 255 ∷ 255 ∷ 255 ∷ 0 ∷ 0 ∷ 0 ∷ 0  -- ND 1 0 -7 0
    ∷ 78 ∷ 68 ∷ 1 ∷ 0 ∷ 2 ∷ 0 ∷ 0 ∷ 0 ∷ 0 ∷ 0 ∷ 0 ∷ 0  -- ND 1 0 2 0
    ∷ 78 ∷ 68 ∷ 10 ∷ 0 ∷ 0 ∷ 0 ∷ 0 ∷ 0 ∷ 1 ∷ 0 ∷ 0 ∷ 0  -- ND 10 0 0 1
    ∷ 78 ∷ 68 ∷ 1 ∷ 0 ∷ 255 ∷ 255 ∷ 255 ∷ 255 ∷ 0 ∷ 0 ∷ 0 ∷ 0  -- ND 1 0 -1 0
    ∷ 78 ∷ 68 ∷ 25 ∷ 0 ∷ 2 ∷ 0 ∷ 0 ∷ 0 ∷ 3 ∷ 0 ∷ 0 ∷ 0  -- ND 25 0 2 3
    ∷ 67 ∷ 78 ∷ 0 ∷ 0 ∷ 4 ∷ 0 ∷ 0 ∷ 0 ∷ 0 ∷ 0 ∷ 0 ∷ 0  -- CN 0 0 4 0
    ∷ []

-- ---- the rows

-- A table with one constraint, an assignment, the verdict under strict, Kleene and relational (0 false, 1 true, 2 undefined), the steps.
pub record Trial : Type 0 where
  pub table : List ℕ
  pub assignment : List ℤ
  pub strict : ℕ
  pub kleene : ℕ
  pub relational : ℕ
  pub steps : ℕ

abbrev pub trial : List ℕ → List ℤ → ℕ → ℕ → ℕ → ℕ → Trial
trial table α s k r n = record { table = table; assignment = α; strict = s; kleene = k; relational = r; steps = n }

abbrev y : ℕ → List ℤ
y n = pos n ∷ []

-- The solutions are the assignments with a 1: P1 none / 0 / 0; P2 none / 4 / 4; P3 1,2 / 0,1,2 / 0,1,2; P4 none / none / 0. P9: P4's constraint costs 6 steps.
trials : List Trial
trials =
    trial p1 (y 0) 2 1 1 9
    ∷ trial p1 (y 1) 0 0 0 9
    ∷ trial p2 (y 3) 0 0 0 8
    ∷ trial p2 (y 4) 2 1 1 8
    ∷ trial p3 (y 0) 2 1 1 7
    ∷ trial p3 (y 1) 1 1 1 7
    ∷ trial p3 (y 2) 1 1 1 7
    ∷ trial p4 (y 0) 2 2 1 6
    ∷ trial p4 (y 1) 0 0 0 6
    ∷ trial p5 [] 1 1 1 3
    ∷ trial p6 [] 0 0 0 1
    ∷ trial p7 [] 1 1 1 5
    ∷ trial p8 [] 1 1 1 5
    ∷ []

-- a lent list of two bytes: the first takes the verdict, the second stays
abbrev lent : List ℕ
lent = 7 ∷ 9 ∷ []

-- what evaluation gives for a verdict: done, the steps, one byte written, "all are 1" where it is 1
abbrev outcome : ℕ → ℕ → Outcome
outcome v n = record { answer = record { number = 0; at = 0; steps = n; length_written = 1; all_true = eqb v 1 }; lent = v ∷ 9 ∷ [] }

-- each row under the three choices, with the steps for a budget
unfoldable pub evaluations : Trial → List Outcome
unfolding evaluated
evaluations r = map (λ choice. evaluated choice r.table r.assignment r.steps lent) (1 ∷ 2 ∷ 3 ∷ [])

-- and what they should give
unfoldable pub outcomes : Trial → List Outcome
outcomes r = outcome r.strict r.steps ∷ outcome r.kleene r.steps ∷ outcome r.relational r.steps ∷ []

-- P1 to P9
trials-hold : map evaluations trials ≡ map outcomes trials
unfolding p1 p2 p3 p4 p5 p6 p7 p8 trials evaluations outcomes
trials-hold = refl

-- ---- P4 under choice 3

-- the 20 records of document 01's listing
p4-translated : List ℕ
p4-translated =
    72 ∷ 68 ∷ 1 ∷ 0 ∷ 20 ∷ 0 ∷ 0 ∷ 0 ∷ 0 ∷ 0 ∷ 0 ∷ 0  -- HD 1 0 20 0
    ∷ 86 ∷ 82 ∷ 1 ∷ 0 ∷ 0 ∷ 0 ∷ 0 ∷ 0 ∷ 1 ∷ 0 ∷ 0 ∷ 0  -- VR 1 0 0 1
    ∷ 78 ∷ 68 ∷ 1 ∷ 0 ∷ 1 ∷ 0 ∷ 0 ∷ 0 ∷ 0 ∷ 0 ∷ 0 ∷ 0  -- ND 1 0 1 0
    ∷ 78 ∷ 68 ∷ 2 ∷ 0 ∷ 1 ∷ 0 ∷ 0 ∷ 0 ∷ 0 ∷ 0 ∷ 0 ∷ 0  -- ND 2 0 1 0
    ∷ 78 ∷ 68 ∷ 3 ∷ 0 ∷ 0 ∷ 0 ∷ 0 ∷ 0 ∷ 0 ∷ 0 ∷ 0 ∷ 0  -- ND 3 0 0 0
    ∷ 78 ∷ 68 ∷ 2 ∷ 0 ∷ 1 ∷ 0 ∷ 0 ∷ 0 ∷ 0 ∷ 0 ∷ 0 ∷ 0  -- ND 2 0 1 0
    ∷ 78 ∷ 68 ∷ 1 ∷ 0 ∷ 0 ∷ 0 ∷ 0 ∷ 0 ∷ 0 ∷ 0 ∷ 0 ∷ 0  -- ND 1 0 0 0
    ∷ 78 ∷ 68 ∷ 25 ∷ 0 ∷ 2 ∷ 0 ∷ 0 ∷ 0 ∷ 4 ∷ 0 ∷ 0 ∷ 0  -- ND 25 0 2 4
    ∷ 78 ∷ 68 ∷ 14 ∷ 0 ∷ 5 ∷ 0 ∷ 0 ∷ 0 ∷ 0 ∷ 0 ∷ 0 ∷ 0  -- ND 14 0 5 0
    ∷ 78 ∷ 68 ∷ 6 ∷ 0 ∷ 2 ∷ 0 ∷ 0 ∷ 0 ∷ 6 ∷ 0 ∷ 0 ∷ 0  -- ND 6 0 2 6
    ∷ 78 ∷ 68 ∷ 9 ∷ 0 ∷ 0 ∷ 0 ∷ 0 ∷ 0 ∷ 7 ∷ 0 ∷ 0 ∷ 0  -- ND 9 0 0 7
    ∷ 78 ∷ 68 ∷ 20 ∷ 0 ∷ 1 ∷ 0 ∷ 0 ∷ 0 ∷ 3 ∷ 0 ∷ 0 ∷ 0  -- ND 20 0 1 3
    ∷ 78 ∷ 68 ∷ 1 ∷ 0 ∷ 0 ∷ 0 ∷ 0 ∷ 0 ∷ 0 ∷ 0 ∷ 0 ∷ 0  -- ND 1 0 0 0
    ∷ 78 ∷ 68 ∷ 26 ∷ 0 ∷ 2 ∷ 0 ∷ 0 ∷ 0 ∷ 10 ∷ 0 ∷ 0 ∷ 0  -- ND 26 0 2 10
    ∷ 78 ∷ 68 ∷ 20 ∷ 0 ∷ 9 ∷ 0 ∷ 0 ∷ 0 ∷ 11 ∷ 0 ∷ 0 ∷ 0  -- ND 20 0 9 11
    ∷ 78 ∷ 68 ∷ 20 ∷ 0 ∷ 12 ∷ 0 ∷ 0 ∷ 0 ∷ 1 ∷ 0 ∷ 0 ∷ 0  -- ND 20 0 12 1
    ∷ 78 ∷ 68 ∷ 25 ∷ 0 ∷ 8 ∷ 0 ∷ 0 ∷ 0 ∷ 0 ∷ 0 ∷ 0 ∷ 0  -- ND 25 0 8 0
    ∷ 78 ∷ 68 ∷ 20 ∷ 0 ∷ 13 ∷ 0 ∷ 0 ∷ 0 ∷ 14 ∷ 0 ∷ 0 ∷ 0  -- ND 20 0 13 14
    ∷ 78 ∷ 68 ∷ 24 ∷ 0 ∷ 15 ∷ 0 ∷ 0 ∷ 0 ∷ 0 ∷ 0 ∷ 0 ∷ 0  -- ND 24 0 15 0
    ∷ 67 ∷ 78 ∷ 0 ∷ 0 ∷ 16 ∷ 0 ∷ 0 ∷ 0 ∷ 0 ∷ 0 ∷ 0 ∷ 0  -- CN 0 0 16 0
    ∷ []

-- as many bytes as that, and one more, which stays
p4-translates : translated 3 p4 (replicate 241 5) ≡
    record { answer = record { number = 0; at = 0; steps = 0; length_written = 240; all_true = false }; lent = p4-translated ++ (5 ∷ []) }
unfolding p4 p4-translated translated
p4-translates = refl

-- document 01's lines, a newline behind each
p4-text : List ℕ
p4-text =
    72 ∷ 68 ∷ 32 ∷ 49 ∷ 32 ∷ 48 ∷ 32 ∷ 50 ∷ 48 ∷ 32 ∷ 48 ∷ 10  -- HD 1 0 20 0
    ∷ 86 ∷ 82 ∷ 32 ∷ 49 ∷ 32 ∷ 48 ∷ 32 ∷ 48 ∷ 32 ∷ 49 ∷ 10  -- VR 1 0 0 1
    ∷ 78 ∷ 68 ∷ 32 ∷ 49 ∷ 32 ∷ 48 ∷ 32 ∷ 49 ∷ 32 ∷ 48 ∷ 10  -- ND 1 0 1 0
    ∷ 78 ∷ 68 ∷ 32 ∷ 50 ∷ 32 ∷ 48 ∷ 32 ∷ 49 ∷ 32 ∷ 48 ∷ 10  -- ND 2 0 1 0
    ∷ 78 ∷ 68 ∷ 32 ∷ 51 ∷ 32 ∷ 48 ∷ 32 ∷ 48 ∷ 32 ∷ 48 ∷ 10  -- ND 3 0 0 0
    ∷ 78 ∷ 68 ∷ 32 ∷ 50 ∷ 32 ∷ 48 ∷ 32 ∷ 49 ∷ 32 ∷ 48 ∷ 10  -- ND 2 0 1 0
    ∷ 78 ∷ 68 ∷ 32 ∷ 49 ∷ 32 ∷ 48 ∷ 32 ∷ 48 ∷ 32 ∷ 48 ∷ 10  -- ND 1 0 0 0
    ∷ 78 ∷ 68 ∷ 32 ∷ 50 ∷ 53 ∷ 32 ∷ 48 ∷ 32 ∷ 50 ∷ 32 ∷ 52 ∷ 10  -- ND 25 0 2 4
    ∷ 78 ∷ 68 ∷ 32 ∷ 49 ∷ 52 ∷ 32 ∷ 48 ∷ 32 ∷ 53 ∷ 32 ∷ 48 ∷ 10  -- ND 14 0 5 0
    ∷ 78 ∷ 68 ∷ 32 ∷ 54 ∷ 32 ∷ 48 ∷ 32 ∷ 50 ∷ 32 ∷ 54 ∷ 10  -- ND 6 0 2 6
    ∷ 78 ∷ 68 ∷ 32 ∷ 57 ∷ 32 ∷ 48 ∷ 32 ∷ 48 ∷ 32 ∷ 55 ∷ 10  -- ND 9 0 0 7
    ∷ 78 ∷ 68 ∷ 32 ∷ 50 ∷ 48 ∷ 32 ∷ 48 ∷ 32 ∷ 49 ∷ 32 ∷ 51 ∷ 10  -- ND 20 0 1 3
    ∷ 78 ∷ 68 ∷ 32 ∷ 49 ∷ 32 ∷ 48 ∷ 32 ∷ 48 ∷ 32 ∷ 48 ∷ 10  -- ND 1 0 0 0
    ∷ 78 ∷ 68 ∷ 32 ∷ 50 ∷ 54 ∷ 32 ∷ 48 ∷ 32 ∷ 50 ∷ 32 ∷ 49 ∷ 48 ∷ 10  -- ND 26 0 2 10
    ∷ 78 ∷ 68 ∷ 32 ∷ 50 ∷ 48 ∷ 32 ∷ 48 ∷ 32 ∷ 57 ∷ 32 ∷ 49 ∷ 49 ∷ 10  -- ND 20 0 9 11
    ∷ 78 ∷ 68 ∷ 32 ∷ 50 ∷ 48 ∷ 32 ∷ 48 ∷ 32 ∷ 49 ∷ 50 ∷ 32 ∷ 49 ∷ 10  -- ND 20 0 12 1
    ∷ 78 ∷ 68 ∷ 32 ∷ 50 ∷ 53 ∷ 32 ∷ 48 ∷ 32 ∷ 56 ∷ 32 ∷ 48 ∷ 10  -- ND 25 0 8 0
    ∷ 78 ∷ 68 ∷ 32 ∷ 50 ∷ 48 ∷ 32 ∷ 48 ∷ 32 ∷ 49 ∷ 51 ∷ 32 ∷ 49 ∷ 52 ∷ 10  -- ND 20 0 13 14
    ∷ 78 ∷ 68 ∷ 32 ∷ 50 ∷ 52 ∷ 32 ∷ 48 ∷ 32 ∷ 49 ∷ 53 ∷ 32 ∷ 48 ∷ 10  -- ND 24 0 15 0
    ∷ 67 ∷ 78 ∷ 32 ∷ 48 ∷ 32 ∷ 48 ∷ 32 ∷ 49 ∷ 54 ∷ 32 ∷ 48 ∷ 10  -- CN 0 0 16 0
    ∷ []

p4-listed : listed (51 ∷ p4) ≡ p4-text
unfolding p4 p4-text listed
p4-listed = refl
