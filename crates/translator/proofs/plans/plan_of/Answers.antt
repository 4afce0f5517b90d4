-- `translator::plans::plan_of` meets its contract.
use mathlib.Core.Path.{ap}
use native.Mathlib.Omega.{arith}
use Rattle.std.proofs.lemmas.List.{get_or_default}
use Rattle.translator.specs.declared.plans.Rule.{Rule}
use Rattle.translator.specs.Plans.{no_kind, rules, under, plan_at}
use Rattle.translator.proofs.plans.plan_of.Goals as goal

pub returns-in-Strict : goal.returns-in-Strict
unfolding rules under plan_at
returns-in-Strict c = rw c.in-Strict.is (ap (λ (r : Rule). r.strict) (get_or_default rules c.args.kind _ no_kind (omega arith)))

pub returns-in-Kleene : goal.returns-in-Kleene
unfolding rules under plan_at
returns-in-Kleene c = rw c.in-Kleene.is (ap (λ (r : Rule). r.kleene) (get_or_default rules c.args.kind _ no_kind (omega arith)))

pub returns-in-Relational : goal.returns-in-Relational
unfolding rules under plan_at
returns-in-Relational c = rw c.in-Relational.is (ap (λ (r : Rule). r.relational) (get_or_default rules c.args.kind _ no_kind (omega arith)))
