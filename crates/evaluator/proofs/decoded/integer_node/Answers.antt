-- `evaluator::decoded::integer_node` meets its contract, by the kind.
use borrow.Author.Rules.{rules}
use mathlib.Core.Path.{ap, ◌∙◌}
use mir.Syntax.{w32}
use mir.Val.{SFits}
use mir.Facts.{to_z-of_z}
use Rattle.operations.specs.declared.values.Value.TheVariants.{Integer}
use Rattle.evaluator.specs.declared.decoded.IntegerNode.TheVariants as integer
use Rattle.evaluator.proofs.Decoding.{integer-arm, integer-none, integer-other}
use Rattle.evaluator.proofs.decoded.integer_node.Goals as goal

pub returns-in-Constant : goal.returns-in-Constant
returns-in-Constant c = let f : SFits w32 c.args.row.x = search rules in ap (λ z. integer.Constant (Integer z)) (to_z-of_z f) ∙ integer-arm c.args.row.x c.args.row.y c.in-Ok.ensures c.in-Constant.is c.named-x.ensures.x c.named-x.ensures.y

pub returns-in_default : goal.returns-in_default
returns-in_default c = integer-none _ c.args.row.x c.args.row.y c.in_default.ensures

pub returns-in_default-kind : goal.returns-in_default-kind
returns-in_default-kind c = integer-other (record { not-Constant = c.in_default-kind.not-Constant; not-Variable = c.in_default-kind.not-Variable; not-Slot = c.in_default-kind.not-Slot; not-Add = c.in_default-kind.not-Add; not-Subtract = c.in_default-kind.not-Subtract; not-Multiply = c.in_default-kind.not-Multiply; not-Div = c.in_default-kind.not-Div; not-Mod = c.in_default-kind.not-Mod; not-Negate = c.in_default-kind.not-Negate; not-Min = c.in_default-kind.not-Min; not-Max = c.in_default-kind.not-Max; not-BoolToInt = c.in_default-kind.not-BoolToInt; not-Lookup = c.in_default-kind.not-Lookup; not-Sum = c.in_default-kind.not-Sum }) c.args.row.x c.args.row.y c.in-Ok.ensures

pub returns-in-Variable : goal.returns-in-Variable
returns-in-Variable c = integer-arm c.args.row.x c.args.row.y c.in-Ok.ensures c.in-Variable.is c.named-x.ensures.x c.named-x.ensures.y

pub returns-in-Slot : goal.returns-in-Slot
returns-in-Slot c = integer-arm c.args.row.x c.args.row.y c.in-Ok.ensures c.in-Slot.is c.named-x.ensures.x c.named-x.ensures.y

pub returns-in-Add : goal.returns-in-Add
returns-in-Add c = integer-arm c.args.row.x c.args.row.y c.in-Ok.ensures c.in-Add.is c.named-x.ensures.x c.named-x.ensures.y

pub returns-in-Subtract : goal.returns-in-Subtract
returns-in-Subtract c = integer-arm c.args.row.x c.args.row.y c.in-Ok.ensures c.in-Subtract.is c.named-x.ensures.x c.named-x.ensures.y

pub returns-in-Multiply : goal.returns-in-Multiply
returns-in-Multiply c = integer-arm c.args.row.x c.args.row.y c.in-Ok.ensures c.in-Multiply.is c.named-x.ensures.x c.named-x.ensures.y

pub returns-in-Div : goal.returns-in-Div
returns-in-Div c = integer-arm c.args.row.x c.args.row.y c.in-Ok.ensures c.in-Div.is c.named-x.ensures.x c.named-x.ensures.y

pub returns-in-Mod : goal.returns-in-Mod
returns-in-Mod c = integer-arm c.args.row.x c.args.row.y c.in-Ok.ensures c.in-Mod.is c.named-x.ensures.x c.named-x.ensures.y

pub returns-in-Negate : goal.returns-in-Negate
returns-in-Negate c = integer-arm c.args.row.x c.args.row.y c.in-Ok.ensures c.in-Negate.is c.named-x.ensures.x c.named-x.ensures.y

pub returns-in-Min : goal.returns-in-Min
returns-in-Min c = integer-arm c.args.row.x c.args.row.y c.in-Ok.ensures c.in-Min.is c.named-x.ensures.x c.named-x.ensures.y

pub returns-in-Max : goal.returns-in-Max
returns-in-Max c = integer-arm c.args.row.x c.args.row.y c.in-Ok.ensures c.in-Max.is c.named-x.ensures.x c.named-x.ensures.y

pub returns-in-BoolToInt : goal.returns-in-BoolToInt
returns-in-BoolToInt c = integer-arm c.args.row.x c.args.row.y c.in-Ok.ensures c.in-BoolToInt.is c.named-x.ensures.x c.named-x.ensures.y

pub returns-in-Lookup : goal.returns-in-Lookup
returns-in-Lookup c = integer-arm c.args.row.x c.args.row.y c.in-Ok.ensures c.in-Lookup.is c.named-x.ensures.x c.named-x.ensures.y

pub returns-in-Sum : goal.returns-in-Sum
returns-in-Sum c = integer-arm c.args.row.x c.args.row.y c.in-Ok.ensures c.in-Sum.is c.named-x.ensures.x c.named-x.ensures.y
