-- `evaluator::decoded::truth_node` meets its contract, by the kind.
use borrow.Author.Rules.{rules}
use mathlib.Core.Path.{refl, ap, ◌∙◌}
use Rattle.operations.specs.declared.values.Value.TheVariants.{Truth}
use Rattle.evaluator.specs.declared.decoded.TruthNode.TheVariants as truth
use Rattle.evaluator.proofs.Decoding.{truth-arm, truth-none, truth-other, eqb-is_one}
use Rattle.evaluator.proofs.decoded.truth_node.Goals as goal

pub returns-in-TruthValue : goal.returns-in-TruthValue
returns-in-TruthValue c = ap (λ b. truth.Constant (Truth b)) (eqb-is_one (search rules) refl) ∙ truth-arm c.args.row.x c.args.row.y c.in-Ok.ensures c.in-TruthValue.is c.named-x.ensures.x c.named-x.ensures.y

pub returns-in_default : goal.returns-in_default
returns-in_default c = truth-none _ c.args.row.x c.args.row.y c.in_default.ensures

pub returns-in_default-kind : goal.returns-in_default-kind
returns-in_default-kind c = truth-other (record { not-TruthValue = c.in_default-kind.not-TruthValue; not-BooleanVariable = c.in_default-kind.not-BooleanVariable; not-BooleanLookup = c.in_default-kind.not-BooleanLookup; not-And = c.in_default-kind.not-And; not-Or = c.in_default-kind.not-Or; not-Implies = c.in_default-kind.not-Implies; not-Iff = c.in_default-kind.not-Iff; not-Not = c.in_default-kind.not-Not; not-Equal = c.in_default-kind.not-Equal; not-Unequal = c.in_default-kind.not-Unequal; not-AtMost = c.in_default-kind.not-AtMost; not-Below = c.in_default-kind.not-Below; not-Exists = c.in_default-kind.not-Exists; not-Forall = c.in_default-kind.not-Forall }) c.args.row.x c.args.row.y c.in-Ok.ensures

pub returns-in-BooleanVariable : goal.returns-in-BooleanVariable
returns-in-BooleanVariable c = truth-arm c.args.row.x c.args.row.y c.in-Ok.ensures c.in-BooleanVariable.is c.named-x.ensures.x c.named-x.ensures.y

pub returns-in-BooleanLookup : goal.returns-in-BooleanLookup
returns-in-BooleanLookup c = truth-arm c.args.row.x c.args.row.y c.in-Ok.ensures c.in-BooleanLookup.is c.named-x.ensures.x c.named-x.ensures.y

pub returns-in-And : goal.returns-in-And
returns-in-And c = truth-arm c.args.row.x c.args.row.y c.in-Ok.ensures c.in-And.is c.named-x.ensures.x c.named-x.ensures.y

pub returns-in-Or : goal.returns-in-Or
returns-in-Or c = truth-arm c.args.row.x c.args.row.y c.in-Ok.ensures c.in-Or.is c.named-x.ensures.x c.named-x.ensures.y

pub returns-in-Implies : goal.returns-in-Implies
returns-in-Implies c = truth-arm c.args.row.x c.args.row.y c.in-Ok.ensures c.in-Implies.is c.named-x.ensures.x c.named-x.ensures.y

pub returns-in-Iff : goal.returns-in-Iff
returns-in-Iff c = truth-arm c.args.row.x c.args.row.y c.in-Ok.ensures c.in-Iff.is c.named-x.ensures.x c.named-x.ensures.y

pub returns-in-Not : goal.returns-in-Not
returns-in-Not c = truth-arm c.args.row.x c.args.row.y c.in-Ok.ensures c.in-Not.is c.named-x.ensures.x c.named-x.ensures.y

pub returns-in-Equal : goal.returns-in-Equal
returns-in-Equal c = truth-arm c.args.row.x c.args.row.y c.in-Ok.ensures c.in-Equal.is c.named-x.ensures.x c.named-x.ensures.y

pub returns-in-Unequal : goal.returns-in-Unequal
returns-in-Unequal c = truth-arm c.args.row.x c.args.row.y c.in-Ok.ensures c.in-Unequal.is c.named-x.ensures.x c.named-x.ensures.y

pub returns-in-AtMost : goal.returns-in-AtMost
returns-in-AtMost c = truth-arm c.args.row.x c.args.row.y c.in-Ok.ensures c.in-AtMost.is c.named-x.ensures.x c.named-x.ensures.y

pub returns-in-Below : goal.returns-in-Below
returns-in-Below c = truth-arm c.args.row.x c.args.row.y c.in-Ok.ensures c.in-Below.is c.named-x.ensures.x c.named-x.ensures.y

pub returns-in-Exists : goal.returns-in-Exists
returns-in-Exists c = truth-arm c.args.row.x c.args.row.y c.in-Ok.ensures c.in-Exists.is c.named-x.ensures.x c.named-x.ensures.y

pub returns-in-Forall : goal.returns-in-Forall
returns-in-Forall c = truth-arm c.args.row.x c.args.row.y c.in-Ok.ensures c.in-Forall.is c.named-x.ensures.x c.named-x.ensures.y
