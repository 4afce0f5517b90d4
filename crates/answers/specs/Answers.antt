-- What each public call gives for every input: number, record, steps, "all are 1", length, and all lent bytes after the call.
use Rattle.std.specs.Prelude.{ℕ, ◌+◌, ◌-◌, ◌*◌, Bool, true, false, cond, ◌&&◌, List, [], ◌∷◌, ◌++◌, map, eqb, leb, pos, length, get_or, take, drop}
use Rattle.std.proofs.Math.Option.{Option, none, some}
use Rattle.numbers.specs.Limits.{most_bytes}
use Rattle.numbers.specs.Whole.{between}
use Rattle.language.specs.Tables.{Row, tree_at, tree_b}
use Rattle.language.specs.Readings.{Reading, strict, kleene, relational}
use Rattle.language.specs.Meaning.{Assignment, Setting, value_of, value_b, met_within_b}
use Rattle.language.specs.Steps.{cost_b}
use Rattle.rules.specs.Bounds.{variable_at, within_bounds}
use Rattle.rules.specs.Writing.{Translated, translate_rows}
use Rattle.table.specs.Records.{HD, CN, record_size, record_bytes}
use Rattle.table.specs.Kinds.{node_bytes}
use Rattle.answers.specs.Sections.{variables_at, nodes_at, declarations, rows, node_trees, constraints}
use Rattle.answers.specs.Check.{Refusal, refuse, unless, first_fault, first, check_fault}

-- a call's result
pub record Answer : Type 0 where
  pub number : ℕ
  pub at : ℕ
  pub steps : ℕ
  pub length_written : ℕ
  pub all_true : Bool

-- a result and the lent bytes after the call
pub record Outcome : Type 0 where
  pub answer : Answer
  pub lent : List ℕ

-- "Each refusal gives its number and a record number, steps 0 and a no for "all are 1""
unfoldable pub refused : Refusal → Answer
refused r = record { number = r.number; at = r.at; steps = 0; length_written = 0; all_true = false }

unfoldable pub done : ℕ → ℕ → Bool → Answer
done steps written all = record { number = 0; at = 0; steps = steps; length_written = written; all_true = all }

-- A call's outcome: its refusal, or else its answer and the bytes that it writes. "Each refusal .. changes no lent byte. A success writes
-- from byte 0 and leaves the rest."
unfoldable pub outcome : Option Refusal → Answer → List ℕ → List ℕ → Outcome
outcome (some r) answer new lent = record { answer = refused r; lent = lent }
outcome none answer new lent = record { answer = answer; lent = new ++ drop (length new) lent }

-- "Choice 1 strict, 2 Kleene, 3 relational."; "7: choice not 1 to 3"
unfoldable pub reading_of : ℕ → Option Reading
reading_of c = cond (eqb c 1) (some strict) (cond (eqb c 2) (some kleene) (cond (eqb c 3) (some relational) none))

unfoldable pub is_reading : ℕ → Bool
is_reading c = elim (reading_of c) [ none ↦ false | some ρ ↦ true ]

-- the reading chosen; every call with another choice is refused, whatever stands here
unfoldable pub reading_chosen : ℕ → Reading
reading_chosen c = elim (reading_of c) [ none ↦ strict | some ρ ↦ ρ ]

-- number n, about no record, where the test fails
unfoldable pub refuse_unless : ℕ → Bool → Option Refusal
refuse_unless n test = cond test none (refuse n 0)

-- ---- check

unfoldable pub check : List ℕ → Answer
check table = elim (check_fault table) [ none ↦ done 0 0 false | some r ↦ refused r ]

-- ---- evaluate

-- before any slot is bound; a constraint has no free slot, so nothing reads it
unfoldable pub unset : Setting
unset s = pos 0

-- "one byte per constraint (0 false, 1 true, 2 undefined)"
abbrev pub verdict : Option Bool → ℕ
verdict (some false) = 0
verdict (some true) = 1
verdict none = 2

-- "whether all are 1 (yes where there is none)"
unfoldable pub all_one : List ℕ → Bool
all_one [] = true
all_one (v ∷ vs) = eqb v 1 && all_one vs

module _ (table : List ℕ) where
  -- "10: assignment of wrong length, or first value outside its domain: 0; that VR"
  unfoldable pub assignment_fault : Assignment → Option Refusal
  assignment_fault α =
      cond (eqb (length α) (length (declarations table).variables))
      (first_fault
      (λ v. unless 10 (between (variable_at (declarations table) v).low (variable_at (declarations table) v).high (value_of α v)))
      (variables_at table) (length (declarations table).variables))
      (refuse 10 0)

  -- "The total is the sum over all constraints, shared nodes counted each time."
  unfoldable pub costs : List ℕ → ℕ
  costs [] = 0
  costs (k ∷ ks) = cost_b (declarations table) (tree_b (node_trees table) k) + costs ks

  unfoldable pub total_cost : ℕ
  total_cost = costs (constraints table)

  module _ (ρ : Reading) (α : Assignment) where
    unfoldable pub value_of_constraint : ℕ → Option Bool
    value_of_constraint k = value_b ρ (declarations table) α (tree_b (node_trees table) k) unset

    unfoldable pub all_met_within : List ℕ → Bool
    all_met_within [] = true
    all_met_within (k ∷ ks) = met_within_b ρ (declarations table) α (tree_b (node_trees table) k) unset && all_met_within ks

    unfoldable pub verdicts : List ℕ
    verdicts = map (λ k. verdict (value_of_constraint k)) (constraints table)

-- "Order: 7, 1, then the first faulty record and in it 2 to 6 upward. .. Evaluate: then 10, 9, 11, 8."
unfoldable pub evaluate_order : ℕ → List ℕ → Assignment → ℕ → ℕ → List (Option Refusal)
evaluate_order choice table α budget room =
    refuse_unless 7 (is_reading choice)
    ∷ check_fault table
    ∷ assignment_fault table α
    ∷ refuse_unless 9 (leb (length (constraints table)) room)
    ∷ refuse_unless 11 (leb (total_cost table) budget)
    ∷ refuse_unless 8 (all_met_within table (reading_chosen choice) α (constraints table))
    ∷ []

-- what an evaluation under ρ answers where it is not refused
unfoldable pub evaluation_done : List ℕ → Reading → Assignment → Answer
evaluation_done table ρ α = done (total_cost table) (length (verdicts table ρ α)) (all_one (verdicts table ρ α))

unfoldable pub evaluate : ℕ → List ℕ → Assignment → ℕ → List ℕ → Outcome
evaluate choice table α budget lent =
    outcome (first (evaluate_order choice table α budget (length lent)))
    (evaluation_done table (reading_chosen choice) α) (verdicts table (reading_chosen choice) α) lent

-- ---- translate

module _ (table : List ℕ) where
  -- "8: translate: first interval beyond ±2,000,000,000: that node"
  unfoldable pub bounds_fault : Option Refusal
  bounds_fault =
      first_fault (λ n. unless 8 (within_bounds (declarations table) (tree_at (node_trees table) n))) (nodes_at table) (length (rows table))

  module _ (ρ : Reading) where
    unfoldable pub translated : Translated
    translated = translate_rows ρ (declarations table) (rows table)

    unfoldable pub new_nodes : List Row → List ℕ
    new_nodes [] = []
    new_nodes (r ∷ rs) = node_bytes r ++ new_nodes rs

    -- "Each CN becomes P of its node."
    unfoldable pub new_constraints : List ℕ → List ℕ
    new_constraints [] = []
    new_constraints (k ∷ ks) = record_bytes CN 0 (pos (get_or translated.firsts k 0)) (pos 0) ++ new_constraints ks

    -- how many records the new table has: "VR, SL, AR and EL are copied"
    unfoldable pub new_count : ℕ
    new_count = nodes_at table + (length translated.rows + length (constraints table))

    unfoldable pub translation : List ℕ
    translation =
        record_bytes HD 1 (pos new_count) (pos 0)
        ++ (take (record_size * nodes_at table - record_size) (drop record_size table)
        ++ (new_nodes translated.rows ++ new_constraints (constraints table)))

    -- "9: output longer than the buffer, or a translation beyond 60,000 bytes"
    unfoldable pub room_fault : ℕ → Option Refusal
    room_fault room = refuse_unless 9 (leb (record_size * new_count) room && leb (record_size * new_count) most_bytes)

-- "Order: 7, 1, then the first faulty record and in it 2 to 6 upward. Translate: then 8, 9."
unfoldable pub translate_order : ℕ → List ℕ → ℕ → List (Option Refusal)
translate_order choice table room =
    refuse_unless 7 (is_reading choice) ∷ check_fault table ∷ bounds_fault table ∷ room_fault table (reading_chosen choice) room ∷ []

-- what a translation under ρ answers where it is not refused
unfoldable pub translation_done : List ℕ → Reading → Answer
translation_done table ρ = done 0 (length (translation table ρ)) false

unfoldable pub translate : ℕ → List ℕ → List ℕ → Outcome
translate choice table lent =
    outcome (first (translate_order choice table (length lent)))
    (translation_done table (reading_chosen choice)) (translation table (reading_chosen choice)) lent
