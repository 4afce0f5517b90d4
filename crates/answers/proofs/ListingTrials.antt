-- Trials of the listing's text: numbers, the choice's byte, the lines of records with negative numbers, and refusals.
use mathlib.Core.Path.{◌≡◌, refl}
use Prim.Native.Nat.{ℕ}
use mathlib.Core.List.{List, [], ◌∷◌, ◌++◌, map}
use lib.IntN.{pos, negsuc}
use lib.ListN.{replicate}
use Rattle.table.specs.Records.{VR, ND}
use Rattle.answers.specs.Sections as Sections
use Rattle.answers.specs.Listing.{choice_of, signed_decimal}
use Rattle.answers.proofs.Computed.{listed}
use Rattle.answers.proofs.Trials.{p4}
use Rattle.answers.proofs.TrialRecords.{at, headed}

-- ---- numbers

-- 0, 9, 10, −1, −10, 2147483647, −2147483648
numbers-listed : map signed_decimal (pos 0 ∷ pos 9 ∷ pos 10 ∷ negsuc 0 ∷ negsuc 9 ∷ pos 2_147_483_647 ∷ negsuc 2_147_483_647 ∷ []) ≡
    (48 ∷ [])
    ∷ (57 ∷ [])
    ∷ (49 ∷ 48 ∷ [])
    ∷ (45 ∷ 49 ∷ [])
    ∷ (45 ∷ 49 ∷ 48 ∷ [])
    ∷ (50 ∷ 49 ∷ 52 ∷ 55 ∷ 52 ∷ 56 ∷ 51 ∷ 54 ∷ 52 ∷ 55 ∷ [])
    ∷ (45 ∷ 50 ∷ 49 ∷ 52 ∷ 55 ∷ 52 ∷ 56 ∷ 51 ∷ 54 ∷ 52 ∷ 56 ∷ [])
    ∷ []
unfolding listed
numbers-listed = refl

-- ---- the choice: "one digit of choice (any other byte, or none, counts as choice 0)"

-- every byte: the digits 0 to 9 have the codes 48 to 57
choices_read : Sections.listed 256 choice_of ≡ replicate 48 0 ++ ((0 ∷ 1 ∷ 2 ∷ 3 ∷ 4 ∷ 5 ∷ 6 ∷ 7 ∷ 8 ∷ 9 ∷ []) ++ replicate 198 0)
unfolding Sections.listed listed
choices_read = refl

-- ---- lines

-- `refused 7 0`
refused-choice : List ℕ
refused-choice = 114 ∷ 101 ∷ 102 ∷ 117 ∷ 115 ∷ 101 ∷ 100 ∷ 32 ∷ 55 ∷ 32 ∷ 48 ∷ 10 ∷ []

-- no input; `0`, `4`, `c` and a newline in front of P4
choices_refused : listed [] ∷ map (λ b. listed (b ∷ p4)) (48 ∷ 52 ∷ 99 ∷ 10 ∷ []) ≡ replicate 5 refused-choice
unfolding p4 refused-choice listed
choices_refused = refl

-- `3` alone is `refused 1 0`; a table whose record 12 is a node of kind 0 is `refused 3 12`
tables_refused : listed (51 ∷ []) ∷ listed (51 ∷ headed (replicate 11 (at VR 1 (pos 0) (pos 1)) ++ (at ND 0 (pos 0) (pos 0) ∷ []))) ∷ [] ≡
    (114 ∷ 101 ∷ 102 ∷ 117 ∷ 115 ∷ 101 ∷ 100 ∷ 32 ∷ 49 ∷ 32 ∷ 48 ∷ 10 ∷ [])
    ∷ (114 ∷ 101 ∷ 102 ∷ 117 ∷ 115 ∷ 101 ∷ 100 ∷ 32 ∷ 51 ∷ 32 ∷ 49 ∷ 50 ∷ 10 ∷ [])
    ∷ []
unfolding at headed listed
tables_refused = refl

-- negative numbers: a variable in −12..−3 and a constant −7
negative-listed : listed (51 ∷ headed (at VR 1 (negsuc 11) (negsuc 2) ∷ at ND 1 (negsuc 6) (pos 0) ∷ [])) ≡
    72 ∷ 68 ∷ 32 ∷ 49 ∷ 32 ∷ 48 ∷ 32 ∷ 52 ∷ 32 ∷ 48 ∷ 10  -- HD 1 0 4 0
    ∷ 86 ∷ 82 ∷ 32 ∷ 49 ∷ 32 ∷ 48 ∷ 32 ∷ 45 ∷ 49 ∷ 50 ∷ 32 ∷ 45 ∷ 51 ∷ 10  -- VR 1 0 -12 -3
    ∷ 78 ∷ 68 ∷ 32 ∷ 49 ∷ 32 ∷ 48 ∷ 32 ∷ 45 ∷ 55 ∷ 32 ∷ 48 ∷ 10  -- ND 1 0 -7 0
    ∷ 78 ∷ 68 ∷ 32 ∷ 50 ∷ 32 ∷ 48 ∷ 32 ∷ 49 ∷ 32 ∷ 48 ∷ 10  -- ND 2 0 1 0
    ∷ []
unfolding at headed listed
negative-listed = refl
