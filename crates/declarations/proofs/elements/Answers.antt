-- `declarations::elements` meets its contract: the elements before one that is checked have no fault, so that one begins within the table.
use mathlib.Core.Path.{◌≡◌, refl}
use mathlib.Core.Option.{none}
use Prim.Native.Nat.{ℕ, zero, suc, ◌+◌, ◌≤◌, ◌<◌, ◌%◌}
use native.Mathlib.Omega.{arith}
use lib.ListN.{length}
use Rattle.std.specs.Prelude.{List}
use Rattle.std.proofs.Common.{rules}
use Rattle.table.specs.Records.{EL, record_count, record_size}
use Rattle.kinds.specs.declared.Sort.{Sort}
use Rattle.kinds.specs.Entries.{type_of}
use Rattle.answers.specs.Check.{element_fault}
use Rattle.answers.proofs.RunEnds.{marked-within}
use Rattle.verdict.proofs.Soundness.{no_fault, first_found}
use Rattle.declarations.proofs.ElementTests.{element_marked}
use Rattle.declarations.proofs.elements.Goals as goal

reached : (bs : List ℕ) (t : Sort) (from i : ℕ) → length bs % record_size ≡ 0 → from ≤ record_count bs
    → ((k : ℕ) → k < i → element_fault bs (type_of t) (from + k) ≡ none) → from + i ≤ record_count bs
reached bs t from zero whole start sound = omega arith
reached bs t from (suc i) whole start sound = omega (arith, marked-within bs whole EL _ (element_marked bs t _ (sound i (omega arith))))

pub check_each-requires : goal.check_each-requires
check_each-requires c = λ i l before.
    let sound : (k : ℕ) → k < i → element_fault c.args.table.now (type_of c.args.sort) (c.args.from + k) ≡ none =
    λ k b. no_fault (c.args.from + k) _ {r = none} (search (rules, before k b)) refl in
    let within : c.args.from + i ≤ record_count c.args.table.now =
    reached c.args.table.now c.args.sort c.args.from i c.requires.variables.whole c.requires.from_bound sound in
    search rules

pub returns : goal.returns
returns c = first_found _ _ c.check_each.ensures (λ i one l h. search rules)
