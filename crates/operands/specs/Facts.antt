-- What the check of the nodes keeps of each thing that a node may name, and what looking at an operand finds.
-- Internal: a contract behind the public ones; no public promise cites it.
use Rattle.std.specs.Prelude.{◌≡◌, ◌<◌, ℤ, pos, nat_abs, ℕ, ◌+◌, ◌-◌, Bool, true, false, cond, not, ◌&&◌, ◌||◌, eqb, List, [], ◌∷◌, get_or, set, replicate, Option, Some, None, Result, Ok, Err}
use Rattle.std.specs.Int.Bits.{bit_and, bit_or}
use Rattle.answers.specs.Check.{names}
use Rattle.kinds.specs.declared.Operand.{Operand}
use Rattle.kinds.specs.declared.Operand.TheVariants.{Missing, Unused, AnyNumber, TruthValue, Slot, BooleanVariable, IntegerVariable, BooleanArray, IntegerArray, BooleanNode, IntegerNode}
use Rattle.kinds.specs.declared.Sort.{Sort}
use Rattle.kinds.specs.declared.Sort.TheVariants.{Boolean, Integer}
use Rattle.kinds.specs.declared.Entry.{Entry}
use Rattle.operands.specs.declared.Fact.{Fact}
use Rattle.operands.specs.declared.Range.{Range}
use Rattle.operands.specs.declared.Known.{Known}
use Rattle.operands.specs.declared.Miss.{Miss}
use Rattle.operands.specs.declared.Miss.TheVariants.{Beyond, OtherType}

-- of a thing without free slots
abbrev pub closed : Sort → Fact
closed t = record { free = 0; yields = t }

abbrev pub range : ℕ → ℕ → Sort → Range
range from count t = record { from = from; count = count; yields = t }

-- a range for each operand, in the order of `Operand`
unfoldable pub ranges_of : (slots variables arrays nodes : ℕ) → List Range
ranges_of s v a n =
    range 0 0 Boolean ∷ range 0 1 Boolean ∷ range 2 1 Integer ∷ range 0 2 Boolean ∷ range 3 s Integer ∷ range 83 v Boolean
    ∷ range 83 v Integer ∷ range 19 a Boolean ∷ range 19 a Integer ∷ range 339 n Boolean ∷ range 339 n Integer ∷ []

-- before the first node, with nothing known of the slots, the variables and the arrays
unfoldable pub known_first : (slots variables arrays : ℕ) → Known
known_first s v a = record { ranges = ranges_of s v a 0; facts = set (replicate 5_339 (closed Boolean)) 2 (closed Integer) }

abbrev pub counted : ℕ → Range → Range
counted n r = record { from = r.from; count = n; yields = r.yields }

-- one more for a place among the ranges
abbrev pub count_at : ℕ → ℕ → List Range → List Range
count_at i n rs = set rs i (counted n (get_or rs i (range 0 0 Boolean)))

-- the fact of node n noted
unfoldable pub noted : Known → ℕ → Fact → Known
noted known n fact = record { ranges = count_at 10 (n + 1) (count_at 9 (n + 1) known.ranges); facts = set known.facts (339 + n) fact }

-- where an operand's range stands
abbrev pub index_of : Operand → ℕ
index_of Missing = 0
index_of Unused = 1
index_of AnyNumber = 2
index_of TruthValue = 3
index_of Slot = 4
index_of BooleanVariable = 5
index_of IntegerVariable = 6
index_of BooleanArray = 7
index_of IntegerArray = 8
index_of BooleanNode = 9
index_of IntegerNode = 10

abbrev pub range_in : Known → Operand → Range
range_in known o = get_or known.ranges (index_of o) (range 0 0 Boolean)

-- the number that an operand is looked up by: any number has one fact
abbrev pub looked_by : Operand → ℤ → ℤ
looked_by Missing z = z
looked_by Unused z = z
looked_by AnyNumber z = pos 0
looked_by TruthValue z = z
looked_by Slot z = z
looked_by BooleanVariable z = z
looked_by IntegerVariable z = z
looked_by BooleanArray z = z
looked_by IntegerArray z = z
looked_by BooleanNode z = z
looked_by IntegerNode z = z

-- the place of an operand's fact
abbrev pub place_in : Known → Operand → ℤ → ℕ
place_in known o z = (range_in known o).from + nat_abs (looked_by o z)

-- the operand names something, and its fact is kept
abbrev pub in_range : Known → Operand → ℤ → Bool
in_range known o z = names (range_in known o).count (looked_by o z)

abbrev pub IsWithin : Known → Operand → ℤ → Type 0
IsWithin known o z = in_range known o z ≡ true → place_in known o z < 5_339

abbrev pub same : Sort → Sort → Bool
same Boolean Boolean = true
same Boolean Integer = false
same Integer Boolean = false
same Integer Integer = true

-- the free slots of a thing where that type is wanted
abbrev pub of_type : Sort → Fact → Result ℕ Miss
of_type t fact = cond (same fact.yields t) (Ok fact.free) (Err OtherType)

unfoldable pub looked : Known → Operand → ℤ → Result ℕ Miss
looked known o z =
    cond (in_range known o z) (of_type (range_in known o).yields (get_or known.facts (place_in known o z) (closed Boolean))) (Err Beyond)

-- the free slots of both operands, without the bound slot, and the type
unfoldable pub joined_of : ℕ → ℕ → Entry → Fact
joined_of a b k = record { free = bit_and (bit_or a b) (65_535 - cond k.binds a 0); yields = k.yields }

abbrev pub made_of : Bool → Entry → Result ℕ Miss → Result ℕ Miss → Option Fact
made_of false k x y = None
made_of true k (Ok a) (Ok b) = Some (joined_of a b k)
made_of true k (Ok a) (Err m) = None
made_of true k (Err m) y = None

-- a field that names nothing
abbrev pub is_plain : Operand → Bool
is_plain Missing = true
is_plain Unused = true
is_plain AnyNumber = true
is_plain TruthValue = true
is_plain Slot = false
is_plain BooleanVariable = false
is_plain IntegerVariable = false
is_plain BooleanArray = false
is_plain IntegerArray = false
is_plain BooleanNode = false
is_plain IntegerNode = false

abbrev pub is_beyond : Result ℕ Miss → Bool
is_beyond (Ok v) = false
is_beyond (Err Beyond) = true
is_beyond (Err OtherType) = false

-- which fault it is
abbrev pub fault_of : ℕ → Entry → Result ℕ Miss → Result ℕ Miss → ℕ
fault_of aux k x y =
    cond (not (eqb aux 0) || is_plain k.x && is_beyond x || is_plain k.y && is_beyond y) 3 (cond (is_beyond x || is_beyond y) 4 5)
