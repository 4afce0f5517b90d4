-- A record that was read has the fields of the table's record.
use mathlib.Core.Path.{◌≡◌, ap, ◌∙◌}
use Prim.Native.Nat.{ℕ}
use mathlib.Core.List.{List}
use mir.Syntax.{w32}
use mir.Val.{SFits, to_z, of_z}
use Rattle.table.specs.Records.{kind_at, x_at, y_at}
use Rattle.table.specs.Parts.{parts_of}
use Rattle.table.specs.declared.Record.{Record}
use Rattle.table.proofs.Parts.{signed-fits, x-read, y-read}

module _ (bs : List ℕ) (p : ℕ) {r : Record} (e : r ≡ parts_of bs p) where
  pub kind-is : r.kind ≡ kind_at bs p
  kind-is = ap (λ (r : Record). r.kind) e

  pub x-is : r.x ≡ x_at bs p
  x-is = ap (λ (r : Record). r.x) e

  pub x-handed : to_z w32 (of_z w32 r.x) ≡ x_at bs p
  x-handed = ap (λ (r : Record). to_z w32 (of_z w32 r.x)) e ∙ x-read bs p

  pub y-handed : to_z w32 (of_z w32 r.y) ≡ y_at bs p
  y-handed = ap (λ (r : Record). to_z w32 (of_z w32 r.y)) e ∙ y-read bs p

  pub x-fits : SFits w32 r.x
  unfolding x_at
  x-fits = rw x-is (signed-fits _)
