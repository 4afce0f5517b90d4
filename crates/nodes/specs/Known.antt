-- What the facts say of a table's variables, slots, arrays and nodes, and what the functions that enter them need.
-- Internal: a contract behind the public ones; no public promise cites it.
use Rattle.std.specs.Prelude.{◌≡◌, Bool, List, ℕ, zero, suc, ◌+◌, ◌/◌, ◌%◌, ◌^◌, ◌≤◌, ◌<◌, eqb, pos, length, get_or, set}
use Rattle.std.proofs.Math.Option.{Option, none, or_else}
use Rattle.language.specs.Tables.{tree_at, free_in}
use Rattle.table.specs.Records.{record_size, record_count, kind_at}
use Rattle.kinds.specs.declared.Sort.TheVariants.{Boolean, Integer}
use Rattle.kinds.specs.Entries.{declared_sort, sort_of}
use Rattle.answers.specs.Sections.{variables_at, slots_at, arrays_at, nodes_at, constraints_at, variable_count, slot_count, array_records, node_count, constraint_count, node_trees}
use Rattle.answers.specs.Check.{Refusal, first_fault, node_sort, variable_fault, slot_fault, arrays_fault, node_fault, constraint_fault}
use Rattle.sections.specs.declared.Places.{Places}
use Rattle.sections.specs.Places.{places_of}
use Rattle.sections.specs.Within.{Section}
use Rattle.operands.specs.declared.Fact.{Fact}
use Rattle.operands.specs.declared.Known.{Known}
use Rattle.operands.specs.Facts.{closed, ranges_of}

-- the slot t is in a set of slots, a bit for each
unfoldable pub has : ℕ → ℕ → Bool
has t m = eqb (m / 2 ^ t % 2) 1

-- values f 0, f 1, .., f (n − 1) put into a list from a place on
unfoldable pub entered : ℕ → (ℕ → Fact) → ℕ → List Fact → List Fact
entered base f zero facts = facts
entered base f (suc n) facts = set (entered base f n facts) (base + n) (f n)

abbrev pub slot_fact : ℕ → Fact
slot_fact s = record { free = 2 ^ s; yields = Integer }

-- of a variable or an array of that kind
abbrev pub declared_fact : ℕ → Fact
declared_fact kind = closed (declared_sort kind)

-- the fact of a node: its type and its free slots
pub record NodeFact (bs : List ℕ) (m : ℕ) (v : Fact) : Type 0 where
  pub sort : v.yields ≡ sort_of (node_sort bs (pos m))
  pub free : (t : ℕ) → t < 16 → has t v.free ≡ free_in t (tree_at (node_trees bs) m)

-- the facts of all that node n may name
pub record FactsKnown (bs : List ℕ) (n : ℕ) (facts : List Fact) : Type 0 where
  pub size : length facts ≡ 5_339
  pub few_slots : slot_count bs ≤ 16
  pub few_variables : variable_count bs ≤ 256
  pub few_arrays : length (array_records bs) ≤ 64
  pub few_nodes : node_count bs ≤ 5_000
  pub within : n ≤ node_count bs
  pub at_zero : get_or facts 0 (closed Boolean) ≡ closed Boolean
  pub at_one : get_or facts 1 (closed Boolean) ≡ closed Boolean
  pub at_number : get_or facts 2 (closed Boolean) ≡ closed Integer
  pub slots : (s : ℕ) → s < slot_count bs → get_or facts (3 + s) (closed Boolean) ≡ slot_fact s
  pub arrays : (a : ℕ) → a < length (array_records bs) → get_or facts (19 + a) (closed Boolean) ≡ declared_fact (kind_at bs (get_or (array_records bs) a 0))
  pub variables : (v : ℕ) → v < variable_count bs → get_or facts (83 + v) (closed Boolean) ≡ declared_fact (kind_at bs (variables_at bs + v))
  pub nodes : (m : ℕ) → m < n → NodeFact bs m (get_or facts (339 + m) (closed Boolean))

-- with these facts, node n may name what a table declares and the nodes before it
abbrev pub known_at : List ℕ → ℕ → List Fact → Known
known_at bs n facts = record { ranges = ranges_of (slot_count bs) (variable_count bs) (length (array_records bs)) n; facts = facts }

pub record IsKnown (bs : List ℕ) (n : ℕ) (known : Known) : Type 0 where
  pub ranged : known ≡ known_at bs n known.facts
  pub facts_known : FactsKnown bs n known.facts

-- the arrays of a table of whole records, from the first on
pub record Arrays (bs : List ℕ) (from count : ℕ) : Type 0 where
  pub whole : length bs % record_size ≡ 0
  pub few_records : record_count bs ≤ 5_000
  pub first : from ≡ arrays_at bs
  pub counted : count ≡ length (array_records bs)
  pub few : count ≤ 64

-- the nodes, with nothing known of them
pub record Nodes (bs : List ℕ) (from count : ℕ) (known : Known) : Type 0 where
  pub section : Section bs from count
  pub first : from ≡ nodes_at bs
  pub counted : count ≡ node_count bs
  pub is_known : IsKnown bs 0 known

-- the first fault, and the facts of all nodes where there is none
pub record NodesChecked (bs : List ℕ) (r : Option Refusal) (known : Known) : Type 0 where
  pub fault_found : r ≡ first_fault (λ n. node_fault bs n (nodes_at bs + n)) (nodes_at bs) (node_count bs)
  pub all_known : r ≡ none → IsKnown bs (node_count bs) known

-- a record within the table, the set of all slots, and the facts of all nodes
pub record ConstraintAt (bs : List ℕ) (p all : ℕ) (known : Known) : Type 0 where
  pub few : record_count bs ≤ 5_000
  pub within : p < record_count bs
  pub every_slot : all + 1 ≡ 2 ^ slot_count bs
  pub is_known : IsKnown bs (node_count bs) known

-- the constraints, behind the nodes
pub record Constraints (bs : List ℕ) (from count slots : ℕ) (known : Known) : Type 0 where
  pub section : Section bs from count
  pub slots_counted : slots ≡ slot_count bs
  pub is_known : IsKnown bs (node_count bs) known

-- a table of whole records, not too many, whose variables, slots and arrays have no fault, and where its sections begin
pub record DeclarationsSound (bs : List ℕ) (at : Places) : Type 0 where
  pub few : record_count bs ≤ 5_000
  pub whole : length bs % record_size ≡ 0
  pub places : at ≡ places_of bs
  pub variables : first_fault (λ i. variable_fault bs i (variables_at bs + i)) (variables_at bs) (variable_count bs) ≡ none
  pub slots : first_fault (λ i. slot_fault bs i (slots_at bs + i)) (slots_at bs) (slot_count bs) ≡ none
  pub arrays : arrays_fault bs (record_count bs) 0 (arrays_at bs) ≡ none

-- the first fault among the nodes and the constraints
unfoldable pub body_fault : List ℕ → Option Refusal
body_fault bs =
    or_else (first_fault (λ n. node_fault bs n (nodes_at bs + n)) (nodes_at bs) (node_count bs))
    (first_fault (λ i. constraint_fault bs (constraints_at bs + i)) (constraints_at bs) (constraint_count bs))
