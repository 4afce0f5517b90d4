-- `table::marked` meets its contract: the record is within the table.
use mathlib.Core.Path.{◌≡◌, sym, ap, ◌∙◌}
use lib.ListN.{get_or}
use mathlib.Core.Bool.{Bool, ◌&&◌}
use Prim.Native.Nat.{ℕ}
use native.Mathlib.Omega.{arith}
use borrow.Author.Tests.{eq-eqb, ne_eqb}
use lib.Dec.{eqb}
use Rattle.table.specs.Records.{record_size, record_count, byte_at, marked}
use Rattle.table.specs.Marks.{letters_of}
use Rattle.table.proofs.marked.Goals as goal

-- the first letter stands there: the second decides
both-letters : (a b : ℕ) {f s f' s' : ℕ} → a ≡ f → f ≡ f' → s ≡ s' → eqb b s ≡ (eqb a f' && eqb b s')
both-letters a b {f' = f'} p q r = rw (r, eq-eqb a f' (p ∙ q))

-- it does not: no mark
other-letter : (a : ℕ) (t : Bool) {f f' : ℕ} → ¬ (a ≡ f) → f ≡ f' → eqb a f ≡ (eqb a f' && t)
other-letter a t {f} {f'} p q = ne_eqb a f p ∙ rw (ne_eqb a f' (λ e. p (e ∙ sym q)))

pub overflow_mul-at : goal.overflow_mul-at
unfolding record_size record_count
overflow_mul-at c = omega arith

pub bounds-table-at : goal.bounds-table-at
unfolding record_size record_count
bounds-table-at c = omega arith

pub overflow_add-result : goal.overflow_add-result
unfolding record_size record_count
overflow_add-result c = omega arith

pub bounds-table-at-then-table-at : goal.bounds-table-at-then-table-at
unfolding record_size record_count
bounds-table-at-then-table-at c = omega arith

pub returns-then-table-at : goal.returns-then-table-at
unfolding marked letters_of record_size byte_at
returns-then-table-at c = both-letters _ _ c.if-table-at.true (ap (λ l. get_or l 0 0) c.letters.ensures) (ap (λ l. get_or l 1 0) c.letters.ensures)

pub returns-else-table-at : goal.returns-else-table-at
unfolding marked letters_of record_size byte_at
returns-else-table-at c = other-letter _ _ c.if-table-at.false (ap (λ l. get_or l 0 0) c.letters.ensures)
