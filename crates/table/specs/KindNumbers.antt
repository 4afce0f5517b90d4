-- The numbers of the code's kinds.
-- Internal: a contract behind the public ones; no public promise cites it.
use Rattle.std.specs.Prelude.{◌≡◌, ℕ, Result, MatchResult}
use Rattle.std.proofs.Math.Option.{none}
use Rattle.table.specs.Kinds.{kind_of}
use Rattle.table.specs.declared.kind.Kind.{Kind}
use Rattle.table.specs.declared.kind.Kind.TheVariants.{Constant, TruthValue, Variable, BooleanVariable, Slot, Add, Subtract, Multiply, Div, Mod, Negate, Min, Max, BoolToInt, Lookup, BooleanLookup, Sum, And, Or, Implies, Iff, Not, Equal, Unequal, AtMost, Below, Exists, Forall}
use Rattle.table.specs.declared.kind.NoKind.{NoKind}

abbrev pub number_of : Kind → ℕ
number_of Constant = 1
number_of TruthValue = 2
number_of Variable = 3
number_of BooleanVariable = 4
number_of Slot = 5
number_of Add = 6
number_of Subtract = 7
number_of Multiply = 8
number_of Div = 9
number_of Mod = 10
number_of Negate = 11
number_of Min = 12
number_of Max = 13
number_of BoolToInt = 14
number_of Lookup = 15
number_of BooleanLookup = 16
number_of Sum = 17
number_of And = 20
number_of Or = 21
number_of Implies = 22
number_of Iff = 23
number_of Not = 24
number_of Equal = 25
number_of Unequal = 26
number_of AtMost = 27
number_of Below = 28
number_of Exists = 29
number_of Forall = 30

-- the kind with this number, or an error where document 01's table has none
abbrev pub IsKindNumbered : ℕ → Result Kind NoKind → Type 0
IsKindNumbered n r = MatchResult r (λ k. number_of k ≡ n) (λ e. kind_of n ≡ none)
