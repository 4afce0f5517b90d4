-- The entries of the code's table of kinds, from the table of kinds of document 01.
-- Internal: a contract behind the public ones; no public promise cites it.
use Rattle.std.specs.Prelude.{ℕ, Bool, true, false, cond, List, eqb, ltb, map}
use Rattle.std.proofs.Math.Option.{Option, none, some}
use Rattle.language.specs.Syntax as Syntax
use Rattle.table.specs.Kinds as Kinds
use Rattle.kinds.specs.declared.Operand.{Operand}
use Rattle.kinds.specs.declared.Operand.TheVariants.{Missing, Unused, AnyNumber, TruthValue, Slot, BooleanVariable, IntegerVariable, BooleanArray, IntegerArray, BooleanNode, IntegerNode}
use Rattle.kinds.specs.declared.Sort.{Sort}
use Rattle.kinds.specs.declared.Sort.TheVariants.{Boolean, Integer}
use Rattle.kinds.specs.declared.Entry.{Entry}

unfoldable pub operand_of : Kinds.Field → Operand
operand_of Kinds.unused = Unused
operand_of Kinds.any_number = AnyNumber
operand_of Kinds.truth_value = TruthValue
operand_of Kinds.slot_number = Slot
operand_of (Kinds.variable_number Syntax.boolean) = BooleanVariable
operand_of (Kinds.variable_number Syntax.integer) = IntegerVariable
operand_of (Kinds.array_number Syntax.boolean) = BooleanArray
operand_of (Kinds.array_number Syntax.integer) = IntegerArray
operand_of (Kinds.node_number Syntax.boolean) = BooleanNode
operand_of (Kinds.node_number Syntax.integer) = IntegerNode

unfoldable pub sort_of : Syntax.Sort → Sort
sort_of Syntax.boolean = Boolean
sort_of Syntax.integer = Integer

-- and the other way round
abbrev pub type_of : Sort → Syntax.Sort
type_of Boolean = Syntax.boolean
type_of Integer = Syntax.integer

-- the type of a declared thing of that kind
abbrev pub declared_sort : ℕ → Sort
declared_sort kind = cond (eqb kind 0) Boolean Integer

-- the operand that x and y of a kind are; no kind has the operand `Missing`
unfoldable pub operand_x : Option Kinds.Kind → Operand
operand_x none = Missing
operand_x (some k) = operand_of k.field_x

unfoldable pub operand_y : Option Kinds.Kind → Operand
operand_y none = Missing
operand_y (some k) = operand_of k.field_y

unfoldable pub yields_of : Option Kinds.Kind → Sort
yields_of none = Boolean
yields_of (some k) = sort_of k.yields

-- a slot and a body
unfoldable pub binds_in : Kinds.Field → Kinds.Field → Bool
binds_in Kinds.slot_number Kinds.unused = false
binds_in Kinds.slot_number Kinds.any_number = false
binds_in Kinds.slot_number Kinds.truth_value = false
binds_in Kinds.slot_number Kinds.slot_number = false
binds_in Kinds.slot_number (Kinds.variable_number t) = false
binds_in Kinds.slot_number (Kinds.array_number t) = false
binds_in Kinds.slot_number (Kinds.node_number t) = true
binds_in Kinds.unused y = false
binds_in Kinds.any_number y = false
binds_in Kinds.truth_value y = false
binds_in (Kinds.variable_number t) y = false
binds_in (Kinds.array_number t) y = false
binds_in (Kinds.node_number t) y = false

unfoldable pub binds_of : Option Kinds.Kind → Bool
binds_of none = false
binds_of (some k) = binds_in k.field_x k.field_y

-- an entry of the code's table
unfoldable pub entry_of : Option Kinds.Kind → Entry
entry_of k = record { x = operand_x k; y = operand_y k; yields = yields_of k; binds = binds_of k }

unfoldable pub entries_of : List (Option Kinds.Kind) → List Entry
entries_of ks = map entry_of ks

-- the row of a kind number: row 0 where there is none
unfoldable pub row_of : ℕ → ℕ
row_of k = cond (ltb k 31) k 0
