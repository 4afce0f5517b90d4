-- `verdict::check_each` meets its contract: the checks called so far have passed.
use Prim.Native.Nat.{ℕ, ◌≤◌, ◌<◌}
use Rattle.std.specs.Prelude.{Ok}
use Rattle.verdict.proofs.check_each.Given as goal

abbrev pub invariant-loop-i : goal.invariant-loop-i
invariant-loop-i g l = (l.i ≤ l.count) × ((k : ℕ) → k < l.i → goal.F-post g l.check k (Ok tt))
