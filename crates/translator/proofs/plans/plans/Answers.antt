-- `translator::plans::plans` meets its contract.
use mathlib.Core.Path.{◌≡◌, sym, ◌∙◌}
use Prim.Native.Nat.{ℕ, ◌<◌}
use native.Mathlib.Omega.{arith}
use borrow.Author.Count.{below_more}
use lib.ListN.{length, get_or, length-set}
use Rattle.std.proofs.lemmas.List.{get_or-set_same, get_or-set_other, get_or-map, same_lists}
use Rattle.language.specs.Readings.{Reading}
use Rattle.reading.specs.Readings.{meant}
use Rattle.translator.specs.declared.plans.Plan.{Plan}
use Rattle.translator.specs.Plans.{no_kind, rules, under, plan_at, rule_plans}
use Rattle.translator.proofs.plans.plans.Goals as goal

pub loop-kind-preserved : goal.loop-kind-preserved
loop-kind-preserved c =
    let here : c.loop-kind.kind < length c.loop-kind.plans = omega arith in (
      rw length-set c.loop-kind.invariant.0,
      below_more _ _
          (λ k h d. let other : k ≡ c.loop-kind.kind → ⊥ = omega arith in rw get_or-set_other (c.loop-kind.invariant.1 k h d))
          (λ d. rw get_or-set_same c.plan_of.ensures),
    )

-- Among a reading's plans each kind's stands at its number.
get_or-rule_plans : (ρ : Reading) (k : ℕ) (d : Plan) → k < 31 → get_or (rule_plans ρ) k d ≡ plan_at ρ k
unfolding rule_plans rules plan_at
get_or-rule_plans ρ k d h = get_or-map (under ρ) rules k no_kind d h

pub returns : goal.returns
unfolding rule_plans rules
returns c =
    let ρ = meant c.args.reading in
    same_lists c.loop-kind.plans (rule_plans ρ) c.loop-kind.invariant.0
    (λ k d h. c.loop-kind.invariant.1 k (omega arith) d ∙ sym (get_or-rule_plans ρ k d (omega arith)))
