-- The smallest tables of each refusal number, and sound ones beside them: tables of rows, each with one computed claim.
use mathlib.Core.Path.{◌≡◌, refl}
use Prim.Native.Nat.{ℕ}
use mathlib.Core.Bool.{Bool, true, false}
use mathlib.Core.List.{List, [], ◌∷◌, ◌++◌, map}
use mathlib.Core.Option.{none, some}
use lib.IntN.{ℤ, pos, negsuc}
use lib.ListN.{replicate}
use Rattle.table.specs.Records.{HD, VR, SL, AR, EL, ND, CN}
use Rattle.answers.specs.Check.{variable_fault, slot_fault, array_fault}
use Rattle.answers.specs.Answers.{Answer}
use Rattle.answers.proofs.Computed.{checked, evaluated, translated}
use Rattle.answers.proofs.Trials.{p4}
use Rattle.answers.proofs.TrialRecords.{with_aux, at, headed}

-- the answer of a refusal, and of a sound table
abbrev refusal : ℕ → ℕ → Answer
refusal n k = record { number = n; at = k; steps = 0; length_written = 0; all_true = false }

abbrev sound : Answer
sound = refusal 0 0

-- ---- 1 to 6, by the check

record Checked : Type 0 where
  table : List ℕ
  number : ℕ
  place : ℕ

abbrev refused : List ℕ → ℕ → ℕ → Checked
refused table n k = record { table = table; number = n; place = k }

-- "length below 12, above 60,000, or no multiple of 12"
lengths : List Checked
lengths =
    refused [] 1 0
    ∷ refused (replicate 11 72) 1 0
    ∷ refused (replicate 13 72) 1 0
    ∷ refused (at HD 1 (pos 1) (pos 0) ++ (72 ∷ [])) 1 0
    ∷ refused (replicate 60_012 72) 1 0
    ∷ refused (replicate 60_000 72) 2 0
    ∷ []

-- 2: "wrong mark or order, an EL missing (at the end: the record count)"
misplaced : List Checked
misplaced =
    -- no HD
    refused (at VR 1 (pos 1) (pos 0)) 2 0
    -- a second HD
    ∷ refused (headed (at HD 1 (pos 2) (pos 0) ∷ [])) 2 1
    -- an EL that nothing asks for
    ∷ refused (headed (at EL 0 (pos 0) (pos 0) ∷ [])) 2 1
    -- an EL missing at the end
    ∷ refused (headed (at AR 1 (pos 0) (pos 1) ∷ [])) 2 2
    -- another mark while an EL is due
    ∷ refused (headed (at AR 1 (pos 0) (pos 1) ∷ at ND 1 (pos 0) (pos 0) ∷ [])) 2 2
    -- one EL too many
    ∷ refused (headed (at AR 1 (pos 0) (pos 1) ∷ at EL 0 (pos 0) (pos 0) ∷ at EL 0 (pos 0) (pos 0) ∷ [])) 2 3
    -- a VR behind an ND
    ∷ refused (headed (at ND 1 (pos 0) (pos 0) ∷ at VR 1 (pos 0) (pos 1) ∷ [])) 2 2
    -- an ND behind a CN
    ∷ refused (headed (at ND 2 (pos 1) (pos 0) ∷ at CN 0 (pos 0) (pos 0) ∷ at ND 2 (pos 1) (pos 0) ∷ [])) 2 3
    ∷ []

-- 3: "kind, unused field or number not allowed, too many of a mark, HD's count wrong"
disallowed : List Checked
disallowed =
    -- HD of another kind
    refused (at HD 2 (pos 1) (pos 0)) 3 0
    -- HD's count wrong
    ∷ refused (at HD 1 (pos 2) (pos 0)) 3 0
    -- VR of no kind
    ∷ refused (headed (at VR 2 (pos 0) (pos 1) ∷ [])) 3 1
    -- a bool VR that is not 0..1
    ∷ refused (headed (at VR 0 (pos 0) (pos 2) ∷ [])) 3 1
    -- an integer VR with x > y
    ∷ refused (headed (at VR 1 (pos 1) (pos 0) ∷ [])) 3 1
    -- a slot end too far, though the range is empty
    ∷ refused (headed (at SL 0 (pos 1000000001) (pos 0) ∷ [])) 3 1
    -- the other end
    ∷ refused (headed (at SL 0 (pos 0) (negsuc 1000000000) ∷ [])) 3 1
    -- 10,001 values
    ∷ refused (headed (at SL 0 (pos 1) (pos 10001) ∷ [])) 3 1
    -- SL of no kind
    ∷ refused (headed (at SL 1 (pos 1) (pos 2) ∷ [])) 3 1
    -- an array with no element, whatever follows
    ∷ refused (headed (at AR 1 (pos 0) (pos 0) ∷ at ND 99 (pos 0) (pos 0) ∷ [])) 3 1
    -- 1,025 elements
    ∷ refused (headed (at AR 1 (pos 0) (pos 1025) ∷ [])) 3 1
    -- 1,024 elements, of which the first is missing
    ∷ refused (headed (at AR 1 (pos 0) (pos 1024) ∷ [])) 2 2
    -- far more elements than records
    ∷ refused (headed (at AR 1 (pos 0) (pos 2147483647) ∷ [])) 3 1
    -- a first index too far below, and above
    ∷ refused (headed (at AR 1 (negsuc 1000000000) (pos 1) ∷ at EL 0 (pos 0) (pos 0) ∷ [])) 3 1
    ∷ refused (headed (at AR 1 (pos 1000000001) (pos 1) ∷ at EL 0 (pos 0) (pos 0) ∷ [])) 3 1
    -- 2 in a bool array
    ∷ refused (headed (at AR 0 (pos 0) (pos 1) ∷ at EL 0 (pos 2) (pos 0) ∷ [])) 3 2
    -- EL of no kind
    ∷ refused (headed (at AR 1 (pos 0) (pos 1) ∷ at EL 2 (pos 0) (pos 0) ∷ [])) 3 2
    -- kind 0
    ∷ refused (headed (at ND 0 (pos 0) (pos 0) ∷ [])) 3 1
    -- kind 18
    ∷ refused (headed (at ND 18 (pos 0) (pos 0) ∷ [])) 3 1
    -- kind 31
    ∷ refused (headed (at ND 31 (pos 0) (pos 0) ∷ [])) 3 1
    -- a truth constant 2
    ∷ refused (headed (at ND 2 (pos 2) (pos 0) ∷ [])) 3 1
    -- 3 before 4: y of a negation, whose x names nothing
    ∷ refused (headed (at ND 1 (pos 0) (pos 0) ∷ at ND 11 (pos 5) (pos 1) ∷ [])) 3 2
    -- CN of no kind
    ∷ refused (headed (at ND 2 (pos 1) (pos 0) ∷ at CN 1 (pos 0) (pos 0) ∷ [])) 3 2
    ∷ []

-- 3: "aux (1 byte, always 0)", in each mark
aux : List Checked
aux =
    refused (with_aux HD 1 1 (pos 1) (pos 0)) 3 0
    ∷ refused (headed (with_aux VR 0 1 (pos 0) (pos 1) ∷ [])) 3 1
    ∷ refused (headed (with_aux VR 1 1 (pos 0) (pos 1) ∷ [])) 3 1
    ∷ refused (headed (with_aux SL 0 1 (pos 0) (pos 1) ∷ [])) 3 1
    ∷ refused (headed (with_aux AR 0 1 (pos 0) (pos 1) ∷ at EL 0 (pos 0) (pos 0) ∷ [])) 3 1
    ∷ refused (headed (at AR 1 (pos 0) (pos 1) ∷ with_aux EL 0 1 (pos 0) (pos 0) ∷ [])) 3 2
    ∷ refused (headed (with_aux ND 1 1 (pos 0) (pos 0) ∷ [])) 3 1
    ∷ refused (headed (with_aux ND 2 255 (pos 0) (pos 0) ∷ [])) 3 1
    ∷ refused (headed (at ND 2 (pos 1) (pos 0) ∷ with_aux CN 0 1 (pos 0) (pos 0) ∷ [])) 3 2
    ∷ []

-- 3: "Fields not named below are 0": y of HD, EL, CN and of the kinds 1 to 5, 11, 14 and 24
unused-fields : List Checked
unused-fields =
    refused (at HD 1 (pos 1) (pos 1)) 3 0
    ∷ refused (headed (at AR 1 (pos 0) (pos 1) ∷ at EL 0 (pos 0) (pos 1) ∷ [])) 3 2
    ∷ refused (headed (at VR 1 (pos 0) (pos 1) ∷ at AR 1 (pos 0) (pos 1) ∷ at EL 1 (pos 0) (negsuc 0) ∷ [])) 3 3
    ∷ refused (headed (at ND 2 (pos 1) (pos 0) ∷ at CN 0 (pos 0) (pos 1) ∷ [])) 3 2
    ∷ refused (headed (at ND 1 (pos 0) (pos 1) ∷ [])) 3 1
    ∷ refused (headed (at ND 2 (pos 0) (negsuc 0) ∷ [])) 3 1
    ∷ refused (headed (at VR 1 (pos 0) (pos 1) ∷ at ND 3 (pos 0) (pos 1) ∷ [])) 3 2
    ∷ refused (headed (at VR 0 (pos 0) (pos 1) ∷ at ND 4 (pos 0) (pos 1) ∷ [])) 3 2
    ∷ refused (headed (at SL 0 (pos 0) (pos 1) ∷ at ND 5 (pos 0) (pos 1) ∷ [])) 3 2
    ∷ refused (headed (at ND 1 (pos 0) (pos 0) ∷ at ND 11 (pos 0) (pos 1) ∷ [])) 3 2
    ∷ refused (headed (at ND 2 (pos 0) (pos 0) ∷ at ND 14 (pos 0) (pos 1) ∷ [])) 3 2
    ∷ refused (headed (at ND 2 (pos 0) (pos 0) ∷ at ND 24 (pos 0) (pos 1) ∷ [])) 3 2
    ∷ []

-- 3: "too many of a mark": the 17th SL is the first record at fault, so 16 are allowed
too_many : List Checked
too_many = refused (headed (replicate 17 (at SL 0 (pos 0) (pos 1)))) 3 17 ∷ []

-- 4: "a number names nothing, or no earlier node"
unnamed : List Checked
unnamed =
    -- no such variable
    refused (headed (at VR 1 (pos 0) (pos 1) ∷ at ND 3 (pos 1) (pos 0) ∷ [])) 4 2
    -- a negative number
    ∷ refused (headed (at ND 3 (negsuc 0) (pos 0) ∷ [])) 4 1
    -- no such slot
    ∷ refused (headed (at ND 5 (pos 0) (pos 0) ∷ [])) 4 1
    -- no such array
    ∷ refused (headed (at ND 1 (pos 0) (pos 0) ∷ at ND 15 (pos 0) (pos 0) ∷ [])) 4 2
    -- its own number
    ∷ refused (headed (at ND 11 (pos 0) (pos 0) ∷ [])) 4 1
    -- y its own number
    ∷ refused (headed (at ND 1 (pos 0) (pos 0) ∷ at ND 6 (pos 0) (pos 1) ∷ [])) 4 2
    -- 4 before 5: x of the wrong type, y names nothing
    ∷ refused (headed (at ND 2 (pos 1) (pos 0) ∷ at ND 6 (pos 0) (pos 7) ∷ [])) 4 2
    -- an element that names no variable
    ∷ refused (headed (at AR 1 (pos 0) (pos 1) ∷ at EL 1 (pos 0) (pos 0) ∷ [])) 4 2
    -- a constraint that names no node
    ∷ refused (headed (at ND 2 (pos 1) (pos 0) ∷ at CN 0 (pos 1) (pos 0) ∷ [])) 4 2
    ∷ []

-- 5: "operand (node, variable, array) or element of the wrong type, constraint not Boolean"
mistyped : List Checked
mistyped =
    -- negate of a truth value
    refused (headed (at ND 2 (pos 1) (pos 0) ∷ at ND 11 (pos 0) (pos 0) ∷ [])) 5 2
    -- not of a number
    ∷ refused (headed (at ND 1 (pos 0) (pos 0) ∷ at ND 24 (pos 0) (pos 0) ∷ [])) 5 2
    -- y of the wrong type
    ∷ refused (headed (at ND 1 (pos 0) (pos 0) ∷ at ND 2 (pos 1) (pos 0) ∷ at ND 6 (pos 0) (pos 1) ∷ [])) 5 3
    -- a comparison of truth values
    ∷ refused (headed (at ND 2 (pos 1) (pos 0) ∷ at ND 2 (pos 1) (pos 0) ∷ at ND 25 (pos 0) (pos 1) ∷ [])) 5 3
    -- a bool variable as a number
    ∷ refused (headed (at VR 0 (pos 0) (pos 1) ∷ at ND 3 (pos 0) (pos 0) ∷ [])) 5 2
    -- an integer variable as a truth value
    ∷ refused (headed (at VR 1 (pos 0) (pos 1) ∷ at ND 4 (pos 0) (pos 0) ∷ [])) 5 2
    -- a bool array looked up as numbers
    ∷ refused (headed (at AR 0 (pos 0) (pos 1) ∷ at EL 0 (pos 1) (pos 0) ∷ at ND 1 (pos 0) (pos 0) ∷ at ND 15 (pos 0) (pos 0) ∷ [])) 5 4
    -- an element of the other type
    ∷ refused (headed (at VR 0 (pos 0) (pos 1) ∷ at AR 1 (pos 0) (pos 1) ∷ at EL 1 (pos 0) (pos 0) ∷ [])) 5 3
    -- a constraint that is a number
    ∷ refused (headed (at ND 1 (pos 0) (pos 0) ∷ at CN 0 (pos 0) (pos 0) ∷ [])) 5 2
    ∷ []

-- 6: "constraint with a free slot"
open_constraints : List Checked
open_constraints =
    -- a free slot
    refused (headed (at SL 0 (pos 1) (pos 1) ∷ at ND 5 (pos 0) (pos 0) ∷ at ND 25 (pos 0) (pos 0) ∷ at CN 0 (pos 1) (pos 0) ∷ [])) 6 4
    -- another slot is bound
    ∷ refused (headed (at SL 0 (pos 1) (pos 1) ∷ at SL 0 (pos 1) (pos 1) ∷ at ND 5 (pos 1) (pos 0) ∷ at ND 25 (pos 0) (pos 0) ∷ at ND 29 (pos 0) (pos 1) ∷ at CN 0 (pos 2) (pos 0) ∷ [])) 6 6
    -- the first of two slots
    ∷ refused (headed (at SL 0 (pos 1) (pos 1) ∷ at SL 0 (pos 1) (pos 1) ∷ at ND 5 (pos 0) (pos 0) ∷ at ND 25 (pos 0) (pos 0) ∷ at CN 0 (pos 1) (pos 0) ∷ [])) 6 5
    -- free in the left operand only
    ∷ refused (headed (at SL 0 (pos 1) (pos 1) ∷ at ND 5 (pos 0) (pos 0) ∷ at ND 1 (pos 0) (pos 0) ∷ at ND 25 (pos 0) (pos 1) ∷ at CN 0 (pos 2) (pos 0) ∷ [])) 6 5
    -- free in the right operand only
    ∷ refused (headed (at SL 0 (pos 1) (pos 1) ∷ at ND 5 (pos 0) (pos 0) ∷ at ND 1 (pos 0) (pos 0) ∷ at ND 25 (pos 1) (pos 0) ∷ at CN 0 (pos 2) (pos 0) ∷ [])) 6 5
    -- bound in one operand, free in the other; the second constraint
    ∷ refused (headed (at SL 0 (pos 1) (pos 1) ∷ at ND 5 (pos 0) (pos 0) ∷ at ND 25 (pos 0) (pos 0) ∷ at ND 30 (pos 0) (pos 1) ∷ at ND 20 (pos 2) (pos 1) ∷ at CN 0 (pos 2) (pos 0) ∷ at CN 0 (pos 3) (pos 0) ∷ [])) 6 7
    ∷ []

-- sound tables beside them
sounds : List Checked
sounds =
    -- HD alone
    refused (at HD 1 (pos 1) (pos 0)) 0 0
    -- a free slot that no constraint reaches
    ∷ refused (headed (at SL 0 (pos 2) (pos 1) ∷ at ND 5 (pos 0) (pos 0) ∷ [])) 0 0
    -- any 32-bit ends
    ∷ refused (headed (at VR 1 (negsuc 2147483647) (pos 2147483647) ∷ [])) 0 0
    -- 10,000 values
    ∷ refused (headed (at SL 0 (pos 1) (pos 10000) ∷ [])) 0 0
    -- slot ends and first indices as far as they may be
    ∷ refused (headed (at SL 0 (negsuc 999999999) (negsuc 999999999) ∷ at SL 0 (pos 1000000000) (pos 1000000000) ∷ [])) 0 0
    ∷ refused (headed (at AR 1 (negsuc 999999999) (pos 1) ∷ at EL 0 (pos 0) (pos 0) ∷ at AR 1 (pos 1000000000) (pos 1) ∷ at EL 0 (pos 0) (pos 0) ∷ [])) 0 0
    -- a bound slot
    ∷ refused (headed (at SL 0 (pos 1) (pos 1) ∷ at ND 5 (pos 0) (pos 0) ∷ at ND 25 (pos 0) (pos 0) ∷ at ND 30 (pos 0) (pos 1) ∷ at CN 0 (pos 2) (pos 0) ∷ [])) 0 0
    ∷ []

all-checks : List (List Checked)
all-checks = lengths ∷ misplaced ∷ disallowed ∷ aux ∷ unused-fields ∷ too_many ∷ unnamed ∷ mistyped ∷ open_constraints ∷ sounds ∷ []

checks_hold : map (λ rows. map (λ r. checked r.table) rows) all-checks ≡ map (λ rows. map (λ r. refusal r.number r.place) rows) all-checks
unfolding all-checks at headed lengths misplaced disallowed aux unused-fields too_many unnamed mistyped open_constraints sounds checked
checks_hold = refl

-- "at most 256", "at most 16", "at most 64": one record of each mark, as the last that is allowed in its section and as the next
one-of-each : List ℕ
unfolding at headed
one-of-each = headed (at VR 1 (pos 0) (pos 1) ∷ at SL 0 (pos 0) (pos 1) ∷ at AR 1 (pos 0) (pos 1) ∷ at EL 0 (pos 0) (pos 0) ∷ [])

limits-hold :
    map (λ i. variable_fault one-of-each i 1) (255 ∷ 256 ∷ []) ∷ map (λ i. slot_fault one-of-each i 2) (15 ∷ 16 ∷ []) ∷ map (λ i. array_fault one-of-each i 3) (63 ∷ 64 ∷ []) ∷ []
    ≡ (none ∷ some 3 ∷ []) ∷ (none ∷ some 3 ∷ []) ∷ (none ∷ some 3 ∷ []) ∷ []
unfolding one-of-each checked
limits-hold = refl

-- ---- 7 to 11, by the calls, and the order of refusals

-- a table for each of them
sentence : List ℕ
unfolding at headed
sentence = headed (at VR 1 (pos 0) (pos 1) ∷ at VR 1 (pos 2) (pos 5) ∷ at ND 3 (pos 0) (pos 0) ∷ at ND 3 (pos 1) (pos 0) ∷ at ND 27 (pos 0) (pos 1) ∷ at CN 0 (pos 2) (pos 0) ∷ [])

beyond : List ℕ
unfolding at headed
beyond = headed (at ND 1 (pos 2000000001) (pos 0) ∷ at ND 25 (pos 0) (pos 0) ∷ at CN 0 (pos 1) (pos 0) ∷ [])

at-the-limit : List ℕ
unfolding at headed
at-the-limit = headed (at ND 1 (pos 2000000000) (pos 0) ∷ at ND 25 (pos 0) (pos 0) ∷ at CN 0 (pos 1) (pos 0) ∷ [])

unreached : List ℕ
unfolding at headed
unreached = headed (at ND 1 (pos 2000000001) (pos 0) ∷ at ND 2 (pos 1) (pos 0) ∷ at CN 0 (pos 1) (pos 0) ∷ [])

headless : List ℕ
unfolding at
headless = at VR 1 (pos 0) (pos 1)

header : List ℕ
unfolding at
header = at HD 1 (pos 1) (pos 0)

record Call : Type 0 where
  choice : ℕ
  table : List ℕ
  assignment : List ℤ
  budget : ℕ
  lent : List ℕ
  evaluation : Answer
  translation : Answer

abbrev call : ℕ → List ℕ → List ℤ → ℕ → List ℕ → Answer → Answer → Call
call c t α n l e a = record { choice = c; table = t; assignment = α; budget = n; lent = l; evaluation = e; translation = a }

-- evaluation done: steps, bytes written, "all are 1"; translation done: bytes written
abbrev evaluation-done : ℕ → ℕ → Bool → Answer
evaluation-done n w b = record { number = 0; at = 0; steps = n; length_written = w; all_true = b }

abbrev translation-done : ℕ → Answer
translation-done n = record { number = 0; at = 0; steps = 0; length_written = n; all_true = false }

calls : List Call
calls =
    -- 7: "choice not 1 to 3"
    call 0 sentence (pos 0 ∷ pos 2 ∷ []) 9 (replicate 900 9) (refusal 7 0) (refusal 7 0)
    -- 7
    ∷ call 4 sentence (pos 0 ∷ pos 2 ∷ []) 9 (replicate 900 9) (refusal 7 0) (refusal 7 0)
    -- 7: 259 is not 3
    ∷ call 259 sentence (pos 0 ∷ pos 2 ∷ []) 9 (replicate 900 9) (refusal 7 0) (refusal 7 0)
    -- 7 before 1
    ∷ call 0 [] [] 0 (replicate 0 9) (refusal 7 0) (refusal 7 0)
    -- 1 before all else
    ∷ call 1 [] [] 0 (replicate 0 9) (refusal 1 0) (refusal 1 0)
    -- 2 before 8 to 11
    ∷ call 1 headless [] 0 (replicate 0 9) (refusal 2 0) (refusal 2 0)
    -- 10: "assignment of wrong length", before 9 and 11
    ∷ call 3 sentence (pos 0 ∷ []) 3 (replicate 0 9) (refusal 10 0) (refusal 9 0)
    -- 10
    ∷ call 3 sentence (pos 0 ∷ pos 2 ∷ pos 0 ∷ []) 3 (replicate 0 9) (refusal 10 0) (refusal 9 0)
    -- 10: the length before a value outside its domain
    ∷ call 3 sentence (pos 9 ∷ []) 3 (replicate 900 9) (refusal 10 0) (translation-done 144)
    -- 10: "first value outside its domain: that VR"
    ∷ call 3 sentence (pos 2 ∷ pos 9 ∷ []) 3 (replicate 900 9) (refusal 10 1) (translation-done 144)
    -- 10: below and above
    ∷ call 3 sentence (pos 0 ∷ pos 6 ∷ []) 3 (replicate 900 9) (refusal 10 2) (translation-done 144)
    -- 10
    ∷ call 3 sentence (pos 1 ∷ pos 1 ∷ []) 3 (replicate 900 9) (refusal 10 2) (translation-done 144)
    -- 9: "output longer than the buffer", before 11
    ∷ call 3 sentence (pos 0 ∷ pos 2 ∷ []) 2 (replicate 0 9) (refusal 9 0) (refusal 9 0)
    -- 11: "total steps above the budget"
    ∷ call 3 sentence (pos 0 ∷ pos 2 ∷ []) 2 (replicate 143 9) (refusal 11 0) (refusal 9 0)
    -- as much budget and room as it takes
    ∷ call 3 sentence (pos 0 ∷ pos 2 ∷ []) 3 (replicate 144 9) (evaluation-done 3 1 true) (translation-done 144)
    -- three more nodes under strict
    ∷ call 1 sentence (pos 0 ∷ pos 2 ∷ []) 3 (replicate 180 9) (evaluation-done 3 1 true) (translation-done 180)
    -- 11 before 8 of evaluation; 8 of translation: "that node"
    ∷ call 3 beyond [] 2 (replicate 900 9) (refusal 11 0) (refusal 8 1)
    -- 8 of evaluation: record 0
    ∷ call 3 beyond [] 3 (replicate 900 9) (refusal 8 0) (refusal 8 1)
    -- 8 before 9 in translation, 9 before 8 in evaluation
    ∷ call 3 beyond [] 3 (replicate 0 9) (refusal 9 0) (refusal 8 1)
    -- "a constant of 2,000,000,000 translates and 2,000,000,001 gives 8": the same with the constant at the limit
    ∷ call 3 at-the-limit [] 3 (replicate 900 9) (evaluation-done 3 1 true) (translation-done 96)
    -- "budget 6 passes P4 and 5 is refused with 11"
    ∷ call 3 p4 (pos 0 ∷ []) 6 (replicate 900 9) (evaluation-done 6 1 true) (translation-done 240)
    ∷ call 3 p4 (pos 0 ∷ []) 5 (replicate 900 9) (refusal 11 0) (translation-done 240)
    -- 8: a node that no constraint reaches counts for translation only
    ∷ call 3 unreached [] 1 (replicate 900 9) (evaluation-done 1 1 true) (refusal 8 1)
    -- no constraint: done, 0 steps, yes
    ∷ call 2 header [] 0 (replicate 0 9) (evaluation-done 0 0 true) (refusal 9 0)
    -- HD alone
    ∷ call 2 header [] 0 (replicate 12 9) (evaluation-done 0 0 true) (translation-done 12)
    ∷ []

-- the answers of both calls
answers_hold :
    map (λ r. (evaluated r.choice r.table r.assignment r.budget r.lent).answer) calls ≡ map (λ r. r.evaluation) calls
unfolding p4 sentence beyond at-the-limit unreached headless header calls evaluated
answers_hold = refl

translations_hold : map (λ r. (translated r.choice r.table r.lent).answer) calls ≡ map (λ r. r.translation) calls
unfolding p4 sentence beyond at-the-limit unreached headless header calls translated
translations_hold = refl

-- "changes no lent byte": the calls that both refuse
refusals : List Call
refusals =
    call 7 sentence (pos 0 ∷ pos 2 ∷ []) 9 (replicate 900 9) (refusal 7 0) (refusal 7 0)
    ∷ call 1 headless [] 9 (replicate 900 9) (refusal 2 0) (refusal 2 0)
    ∷ call 3 beyond [] 9 (replicate 900 9) (refusal 8 0) (refusal 8 1)
    ∷ call 3 sentence (pos 0 ∷ pos 2 ∷ []) 2 (replicate 143 9) (refusal 11 0) (refusal 9 0)
    ∷ []

nothing_written :
    map
    (λ r. evaluated r.choice r.table r.assignment r.budget r.lent ∷ translated r.choice r.table r.lent ∷ [])
    refusals
    ≡ map (λ r. record { answer = r.evaluation; lent = r.lent } ∷ record { answer = r.translation; lent = r.lent } ∷ []) refusals
unfolding sentence beyond headless refusals translated
nothing_written = refl
