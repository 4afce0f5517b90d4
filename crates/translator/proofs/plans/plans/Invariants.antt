-- The loop of `translator::plans::plans`: each kind that it has gone through has its plan.
use mathlib.Core.Path.{◌≡◌}
use Prim.Native.Nat.{ℕ, ◌<◌}
use lib.ListN.{length, get_or}
use Rattle.reading.specs.Readings.{meant}
use Rattle.translator.specs.declared.plans.Plan.{Plan}
use Rattle.translator.specs.Plans.{plan_at}
use Rattle.translator.proofs.plans.plans.Given as goal

abbrev pub invariant-loop-kind : goal.invariant-loop-kind
invariant-loop-kind l = (length l.plans ≡ 31) × ((k : ℕ) → k < l.kind → (d : Plan) → get_or l.plans k d ≡ plan_at (meant l.fn.reading) k)
