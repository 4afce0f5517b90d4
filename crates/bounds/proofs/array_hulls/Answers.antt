-- `bounds::array_hulls` meets its contract.
use native.Mathlib.Omega.{arith}
use mathlib.Core.Path.{refl, ap, ◌∙◌}
use Prim.Native.Nat.{◌<◌}
use lib.ListN.{length}
use Rattle.numbers.proofs.Lists.{filled_none, filled_more}
use Rattle.answers.specs.Sections.{array_records}
use Rattle.layout.proofs.Tables.{passed-in, laid-in}
use Rattle.bounds.proofs.Declared.{held, array-elements, behind-inside, hulls_of}
use Rattle.bounds.proofs.array_hulls.Goals.{In-loop-a}
use Rattle.bounds.proofs.array_hulls.Goals as goal

-- an array number below the count, and below the most arrays there are
counted : (c : In-loop-a) → c.loop-a.a < length (array_records c.args.table.now.bytes.now)
counted c = omega (arith, laid-in c.args.table.now)

few : (c : In-loop-a) → c.loop-a.a < 64
few c = omega (arith, counted c, (passed-in c.args.table.now).few_arrays)

pub loop-a-init : goal.loop-a-init
loop-a-init c = filled_none _ _ _ refl

pub offset_bounds-records-a : goal.offset_bounds-records-a
offset_bounds-records-a c = omega (arith, laid-in c.args.table.now, (passed-in c.args.table.now).few_arrays)

pub bounds-records-a : goal.bounds-records-a
bounds-records-a c = omega (arith, laid-in c.args.table.now, (passed-in c.args.table.now).few_arrays)

pub elements-requires : goal.elements-requires
elements-requires c = behind-inside _ (passed-in c.args.table.now) c.loop-a.a (counted c) (c.array_records-records.ensures.held c.loop-a.a)

pub offset_bounds-hulls-a : goal.offset_bounds-hulls-a
offset_bounds-hulls-a c = omega (arith, few (goal.at.offset_bounds-hulls-a c).In-loop-a)

pub bounds-hulls-a : goal.bounds-hulls-a
bounds-hulls-a c = few (goal.at.bounds-hulls-a c).In-loop-a

pub loop-a-preserved : goal.loop-a-preserved
loop-a-preserved c = let d = (goal.at.loop-a-preserved c).In-loop-a in
    filled_more _ _ _ c.loop-a.invariant (few d) (ap held (c.elements.ensures ∙ array-elements _ c.loop-a.a (counted d) (c.array_records-records.ensures.held c.loop-a.a)))

pub returns : goal.returns
returns c = hulls_of _ c.loop-a.invariant (omega (arith, laid-in c.args.table.now))
