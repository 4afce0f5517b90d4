-- The first fault that checks called in order give.
-- Internal: a contract behind the public ones; no public promise cites it.
use Rattle.std.specs.Prelude.{◌≡◌, ℕ, ◌<◌, Result, Ok, Err}
use Rattle.verdict.specs.declared.Fault.{Fault}

-- check i may be called where all before it have passed
abbrev pub InTurn : (ℕ → Type 0) → (ℕ → Result Unit Fault → Type 0) → ℕ → Type 0
InTurn may gives count = (i : ℕ) → i < count → ((k : ℕ) → k < i → gives k (Ok tt)) → may i

-- where r tells no fault, all of `count` checks passed; where it tells one, a check gave it, and all before that one passed
pub record FirstFaultOf (gives : ℕ → Result Unit Fault → Type 0) (count : ℕ) (r : Result Unit Fault) : Type 0 where
  pub passed : r ≡ Ok tt → (k : ℕ) → k < count → gives k (Ok tt)
  pub failed : (f : Fault) → r ≡ Err f → (i : ℕ) × (i < count) × ((k : ℕ) → k < i → gives k (Ok tt)) × gives i r
