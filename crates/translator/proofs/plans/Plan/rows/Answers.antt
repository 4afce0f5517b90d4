-- `translator::plans::Plan::rows` meets its contract.
use mathlib.Core.Path.{◌≡◌}
use Prim.Native.Nat.{◌+◌, ◌-◌}
use native.Mathlib.Omega.{arith}
use Rattle.translator.specs.Plans.{rows_of}
use Rattle.translator.proofs.plans.Plan.rows.Goals as goal

pub returns : goal.returns
unfolding rows_of
returns c = let p = c.args.self in let e : p.from + p.count - p.from ≡ p.count = omega arith in rw (c.from-from.ensures, c.from.ensures, c.rows.ensures, e)
