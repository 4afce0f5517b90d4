-- The page of the three demands: the promise of each public function, and demands 1, 2 and 3, each in the user's words and then as a formal
-- statement about every result that the promise allows; and the law of division that request L3 asks for. The proofs are in proofs/Demands.antt;
-- that useless versions are shut out is in proofs/Useless.antt; that the functions of the code keep these promises and ask nothing is in the crate
-- `promises`. What the statements cite: numbers/specs (quotient and remainder), language/specs (the readings, values, steps), rules/specs
-- (intervals, the rules), answers/specs (the check, the three answers, the listing).
use Rattle.std.specs.Prelude.{◌≡◌, ℕ, ◌≤◌, ◌<◌, true, not, List, ◌++◌, ◌↔◌, T, ℤ, pos, ◌+ℤ◌, ◌*ℤ◌, nat_abs, length, get_or, take, drop, ◌≤ℤ◌}
use Rattle.std.proofs.Math.Option.{Option, none, some}
use Rattle.numbers.specs.Whole.{eq_z, quotient, remainder}
use Rattle.language.specs.Syntax.{Declarations}
use Rattle.language.specs.Tables.{Tree, free_in}
use Rattle.language.specs.Readings.{Reading}
use Rattle.language.specs.Meaning.{Assignment, Setting, value_of, slot_at}
use Rattle.rules.specs.Bounds.{variable_interval, slot_interval}
use Rattle.rules.specs.Soundness.{Within, All}
use Rattle.rules.specs.TotalRows.{HasValue, StaysWithin}
use Rattle.answers.specs.Sections.{declarations, node_trees, constraints}
use Rattle.answers.specs.Check.{Refusal, first, check_order, check_fault}
use Rattle.answers.specs.Answers as Answers
use Rattle.answers.specs.Answers.{Answer, Outcome, refused, reading_chosen, total_cost, value_of_constraint, verdict, translation, evaluate_order, translate_order}
use Rattle.answers.specs.Listing.{listing}

-- ---- the promises

-- Each public call, for every input: its answer, and all lent bytes after the call, are those of a definition.

abbrev pub Checks : List ℕ → Answer → Type 0
Checks table a = a ≡ Answers.check table

abbrev pub Evaluates : ℕ → List ℕ → Assignment → ℕ → List ℕ → Outcome → Type 0
Evaluates choice table α budget lent o = o ≡ Answers.evaluate choice table α budget lent

abbrev pub Translates : ℕ → List ℕ → List ℕ → Outcome → Type 0
Translates choice table lent o = o ≡ Answers.translate choice table lent

-- the listing's writer: how long the text is, the text from byte 0 on, and the rest as it was
pub record Lists (input lent : List ℕ) (long : ℕ) (after : List ℕ) : Type 0 where
  pub text_length : long ≡ length (listing input)
  pub text : after ≡ listing input ++ drop (length (listing input)) lent

-- "any two results allowed by it are equal"
pub record OneAnswer : Type 0 where
  pub check : (table : List ℕ) (a b : Answer) → Checks table a → Checks table b → a ≡ b
  pub evaluate : (choice : ℕ) (table : List ℕ) (α : Assignment) (budget : ℕ) (lent : List ℕ) (o p : Outcome)
      → Evaluates choice table α budget lent o → Evaluates choice table α budget lent p → o ≡ p
  pub translate : (choice : ℕ) (table lent : List ℕ) (o p : Outcome) → Translates choice table lent o → Translates choice table lent p → o ≡ p
  pub list : (input lent : List ℕ) (long far : ℕ) (after other : List ℕ) → Lists input lent long after → Lists input lent far other → (long ≡ far) × (after ≡ other)

-- ---- demand 1

-- "1. Every byte string, reading number, assignment and budget gets an answer. Bad input is refused with the number that the papers give it,
-- and a refused call changes no byte that was lent."

-- The orders of refusals are answers/specs: `check_order` (Check), `evaluate_order` and `translate_order` (Answers). Each answer is made of the first
-- fault in its call's list.

-- The answer of a call with these faults, whose numbers go up to `most`.
pub record Answered (most : ℕ) (faults : List (Option Refusal)) (a : Answer) : Type 0 where
  -- "refused with the number that the papers give it": number and record of the first fault, steps 0, length 0, and a no for "all are 1"
  pub refused_first : (r : Refusal) → first faults ≡ some r → a ≡ refused r
  -- "0: done"
  pub done_if_none : first faults ≡ none → a.number ≡ 0
  -- a refusal is no 0, and no number that the call does not give
  pub refused_not_0 : (r : Refusal) → first faults ≡ some r → (1 ≤ r.number) × (r.number ≤ most)

-- .. and its lent bytes
pub record AnsweredWith (most : ℕ) (faults : List (Option Refusal)) (lent : List ℕ) (o : Outcome) : Type 0 where
  pub answer : Answered most faults o.answer
  -- "a refused call changes no byte that was lent"
  pub unchanged : (o.answer.number ≡ 0 → ⊥) → o.lent ≡ lent

pub record Demand1 : Type 0 where
  pub check : (table : List ℕ) (a : Answer) → Checks table a → Answered 6 (check_order table) a
  pub evaluate : (choice : ℕ) (table : List ℕ) (α : Assignment) (budget : ℕ) (lent : List ℕ) (o : Outcome)
      → Evaluates choice table α budget lent o → AnsweredWith 11 (evaluate_order choice table α budget (length lent)) lent o
  pub translate : (choice : ℕ) (table lent : List ℕ) (o : Outcome)
      → Translates choice table lent o → AnsweredWith 9 (translate_order choice table (length lent)) lent o

-- ---- demand 2

-- "2. Where evaluation isn't refused, each constraint's value is the one that document 000 gives it under the reading chosen (document 01 for
-- what 000 lacks): true, false or undefined. The translated table is, byte for byte, the one that document 01's rules give."

-- the node that constraint i names
unfoldable pub constraint_at : List ℕ → ℕ → ℕ
constraint_at table i = get_or (constraints table) i 0

-- an evaluation that is not refused, under ρ
pub record Evaluated (table : List ℕ) (ρ : Reading) (α : Assignment) (lent : List ℕ) (o : Outcome) : Type 0 where
  -- 0 false, 1 true, 2 undefined
  pub values : (i : ℕ) → i < length (constraints table)
      → get_or o.lent i 0 ≡ verdict (value_of_constraint table ρ α (constraint_at table i))
  pub rest_as_it_was : drop (length (constraints table)) o.lent ≡ drop (length (constraints table)) lent
  pub one_byte_each : o.answer.length_written ≡ length (constraints table)
  -- "The total is the sum over all constraints, shared nodes counted each time."
  pub steps : o.answer.steps ≡ total_cost table
  -- "whether all are 1 (yes where there is none)"
  pub all_true : o.answer.all_true ≡ true ↔ ((i : ℕ) → i < length (constraints table) → value_of_constraint table ρ α (constraint_at table i) ≡ some true)

-- the bytes from 0 on that a call tells to have written
unfoldable pub written : Outcome → List ℕ
written o = take o.answer.length_written o.lent

pub record WrittenByRules (table : List ℕ) (ρ : Reading) (lent : List ℕ) (o : Outcome) : Type 0 where
  pub by_the_rules : written o ≡ translation table ρ
  pub rest_as_it_was : drop o.answer.length_written o.lent ≡ drop o.answer.length_written lent

pub record Demand2 : Type 0 where
  pub evaluate : (choice : ℕ) (table : List ℕ) (α : Assignment) (budget : ℕ) (lent : List ℕ) (o : Outcome)
      → Evaluates choice table α budget lent o → o.answer.number ≡ 0 → Evaluated table (reading_chosen choice) α lent o
  pub translate : (choice : ℕ) (table lent : List ℕ) (o : Outcome)
      → Translates choice table lent o → o.answer.number ≡ 0 → WrittenByRules table (reading_chosen choice) lent o

-- ---- demand 3

-- "3. For any table that is translated, any reading, any assignment within the domains: in the new table, under any reading, every node has a
-- value for each setting of its free slots, no number met leaves ±2,000,000,000, and each constraint is true exactly when the one in the same
-- place of the old table is true under the reading chosen."

-- "any assignment within the domains"
pub record WithinDomains (Γ : Declarations) (α : Assignment) : Type 0 where
  pub one_per_variable : length α ≡ length Γ.variables
  pub in_domain : (v : ℕ) → v < length Γ.variables → Within (variable_interval Γ v) (value_of α v)

-- "each setting of its free slots": each slot that is free in the node has a value of its range; where the range x..y is empty, x
abbrev pub SetsFree : Declarations → Tree → Setting → Type 0
SetsFree Γ node σ = (s : ℕ) → T (free_in s node) → Within (slot_interval (slot_at Γ s)) (σ s)

-- A new table, evaluated under ρ' at α, beside the old one under ρ.
pub record SameSolutions (table : List ℕ) (ρ : Reading) (new : List ℕ) (ρ' : Reading) (α : Assignment) : Type 0 where
  -- "every node has a value": an integer within the limit or a truth value; reached by a constraint or not
  pub every_node : All (λ node. (σ : Setting) → SetsFree (declarations new) node σ → HasValue ρ' (declarations new) α σ node) (node_trees new)
  -- "no number met leaves ±2,000,000,000"
  pub every_number : All (λ node. (σ : Setting) → SetsFree (declarations new) node σ → StaysWithin ρ' (declarations new) α σ node) (node_trees new)
  -- "each constraint is true exactly when the one in the same place .. is true under the reading chosen"
  pub as_many : length (constraints new) ≡ length (constraints table)
  pub same_place : (i : ℕ) → i < length (constraints table)
      → value_of_constraint new ρ' α (constraint_at new i) ≡ some true ↔ value_of_constraint table ρ α (constraint_at table i) ≡ some true

-- .. at every assignment within the domains, under any reading. The new table is one that the check passes, with the same declarations.
pub record TotalTable (table : List ℕ) (ρ : Reading) (new : List ℕ) : Type 0 where
  pub sound : check_fault new ≡ none
  pub same_declarations : declarations new ≡ declarations table
  pub solutions : (α : Assignment) → WithinDomains (declarations table) α → (ρ' : Reading) → SameSolutions table ρ new ρ' α

pub record Demand3 : Type 0 where
  pub translate : (choice : ℕ) (table lent : List ℕ) (o : Outcome)
      → Translates choice table lent o → o.answer.number ≡ 0 → TotalTable table (reading_chosen choice) (written o)

-- ---- division

-- q and r are quotient and remainder of a and b.
pub record Divided (a b q r : ℤ) : Type 0 where
  -- "a is always b times (a div b) plus (a mod b)"
  pub identity : a ≡ (b *ℤ q) +ℤ r
  -- "the sign of the dividend": the remainder is not on the other side of 0
  pub not_below : pos 0 ≤ℤ a → pos 0 ≤ℤ r
  pub not_above : a ≤ℤ pos 0 → r ≤ℤ pos 0
  -- and it is nearer to 0 than the divisor is
  pub nearer : nat_abs r < nat_abs b

-- "the identity above is proved for every non-zero b"
pub record DivisionLaw : Type 0 where
  pub divided : (a b : ℤ) → T (not (eq_z b (pos 0))) → Divided a b (quotient a b) (remainder a b)
