-- `declarations::header` meets its contract.
use mathlib.Core.Path.{◌≡◌, sym, ◌∙◌}
use mathlib.Core.Option.{Option, some, or_else}
use mathlib.Core.Bool.{Bool, true, false, ◌&&◌}
use Prim.Native.Nat.{ℕ}
use lib.Dec.{eqb}
use lib.IntN.{pos}
use Rattle.std.specs.Prelude.{List}
use Rattle.numbers.specs.Whole.{eq_z}
use Rattle.table.specs.Records.{HD, record_count, marked}
use Rattle.table.specs.Marks.{mark_of}
use Rattle.table.specs.Parts.{parts_of}
use Rattle.table.specs.declared.Record.{Record}
use Rattle.answers.specs.Check.{unless, is_zero, first_fault, header_fault}
use Rattle.verdict.specs.Results.{fault_at}
use Rattle.declarations.proofs.header.Goals as goal

-- the whole section is one record
only_one : (own : Option ℕ) {o : Option ℕ} → own ≡ o → fault_at 0 o ≡ first_fault (λ i. own) 0 1
unfolding first_fault or_else
only_one own e = rw (← e)

abbrev test : Record → ℕ → Bool
test r n = eqb r.kind 1 && eqb r.aux 0 && eq_z r.x (pos n) && is_zero r.y

tested : (bs : List ℕ) {r : Record} {n : ℕ} {b : Bool} → marked bs HD 0 ≡ true → r ≡ parts_of bs 0 → n ≡ record_count bs → test r n ≡ b → header_fault bs 0 ≡ unless 3 b
unfolding header_fault or_else unless
tested bs {r} {n} {b} m er en e = let f : test (parts_of bs 0) (record_count bs) ≡ b = rw (er, en) at e in rw (m, f)

pub returns-then-not-marked : goal.returns-then-not-marked
unfolding mark_of header_fault unless or_else
returns-then-not-marked c = only_one _ {o = some 2} (rw (sym c.marked.ensures ∙ c.if-not-marked.true))

pub returns-then-header_allowed : goal.returns-then-header_allowed
unfolding mark_of unless
returns-then-header_allowed c =
    only_one _ (tested _ {b = true} (sym c.marked.ensures ∙ c.if-not-marked.false) c.record_at.ensures c.record_count.ensures (sym c.header_allowed.ensures ∙ c.if-header_allowed.true))

pub returns-else-header_allowed : goal.returns-else-header_allowed
unfolding mark_of unless
returns-else-header_allowed c =
    only_one _ (tested _ {b = false} (sym c.marked.ensures ∙ c.if-not-marked.false) c.record_at.ensures c.record_count.ensures (sym c.header_allowed.ensures ∙ c.if-header_allowed.false))
