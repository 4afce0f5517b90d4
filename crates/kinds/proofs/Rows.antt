-- What the code's table has at the row of a kind number.
use mathlib.Core.Path.{◌≡◌, refl, sym, ◌∙◌}
use mathlib.Core.Option.{none}
use mathlib.Core.Bool.{Bool, true, false, cond}
use Prim.Native.Nat.{ℕ, ◌≤◌, ◌<◌}
use native.Mathlib.Omega.{arith}
use borrow.Author.Tests.{ltb-true, ltb-false}
use lib.Dec.{ltb}
use lib.ListN.{get_or, get_or-eq_default}
use Rattle.std.proofs.lemmas.List.{get_or-map}
use Rattle.table.specs.Kinds.{kinds, kind_of}
use Rattle.kinds.specs.declared.Entry.{Entry}
use Rattle.kinds.specs.Entries.{entry_of, entries_of, row_of}

pub row_within : (n : ℕ) → row_of n < 31
unfolding row_of
row_within n = go (ltb n 31) (ltb-true n 31)
  where
    go : (b : Bool) → (b ≡ true → n < 31) → cond b n 0 < 31
    go true h = h refl
    go false h = omega arith

-- The kind at a number's row is the number's: none where it has none.
kind-at-row : (n : ℕ) → get_or kinds (row_of n) none ≡ kind_of n
unfolding kind_of kinds row_of
kind-at-row n = go (ltb n 31) (ltb-false n 31)
  where
    go : (b : Bool) → (b ≡ false → 31 ≤ n) → get_or kinds (cond b n 0) none ≡ get_or kinds n none
    go true h = refl
    go false h = sym (get_or-eq_default kinds none (h refl))

pub entry-at-row : (n : ℕ) (d : Entry) → get_or (entries_of kinds) (row_of n) d ≡ entry_of (kind_of n)
unfolding kinds entries_of
entry-at-row n d = get_or-map entry_of kinds (row_of n) none d (row_within n) ∙ rw (kind-at-row n)
