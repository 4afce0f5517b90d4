-- Intervals as the code holds them.
-- Internal: a contract behind the public ones; no public promise cites it.
use Rattle.std.specs.Prelude.{◌≡◌, ℕ, ◌≤◌, Bool, true, false, ◌&&◌, pos, neg_ℤ, ◌*ℤ◌, nat_abs, Option, MatchOption}
use Rattle.numbers.specs.Limits.{limit}
use Rattle.numbers.specs.Whole.{within_limit}
use Rattle.language.specs.Syntax as Syntax
use Rattle.rules.specs.Bounds as Bounds
use Rattle.rules.specs.Bounds.{◌to◌}
use Rattle.intervals.specs.declared.Ends.{Ends}
use Rattle.intervals.specs.declared.Interval.{Interval}
use Rattle.intervals.specs.declared.Slot.{Slot}

-- the interval, and the slot, with these ends
abbrev pub span : Ends → Bounds.Interval
span e = e.low to e.high

abbrev pub slot_of : Ends → Syntax.Slot
slot_of e = record { low = e.low; high = e.high }

abbrev pub interval_of : Interval → Bounds.Interval
interval_of i = i.low to i.high

abbrev pub as_slot : Slot → Syntax.Slot
as_slot s = record { low = s.low; high = s.high }

-- "negate the least and greatest value that the operands' ends give"
abbrev pub opposite : Bounds.Interval → Bounds.Interval
opposite i = neg_ℤ i.high to neg_ℤ i.low

-- "sum the body's ends times the slot's count"
abbrev pub repeated : ℕ → Bounds.Interval → Bounds.Interval
repeated n i = pos n *ℤ i.low to pos n *ℤ i.high

-- both ends are within the limit
pub record Small (e : Ends) : Type 0 where
  pub low : nat_abs e.low ≤ limit
  pub high : nat_abs e.high ≤ limit

-- both ends are of 32 bits, or 2^31
pub record Narrow (e : Ends) : Type 0 where
  pub low : nat_abs e.low ≤ 0x8000_0000
  pub high : nat_abs e.high ≤ 0x8000_0000

-- neither end is beyond the limit
abbrev pub is_within : Bounds.Interval → Bool
is_within i = within_limit i.low && within_limit i.high

-- the same interval where neither end is beyond the limit, and none where one is
abbrev pub IsNarrowed : Bounds.Interval → Option Interval → Type 0
IsNarrowed e r = MatchOption r (is_within e ≡ false) (λ i. (interval_of i ≡ e) × (is_within e ≡ true))
