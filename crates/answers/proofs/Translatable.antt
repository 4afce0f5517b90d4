-- Tables that are translated: none of the refusals of document 01 applies, and what follows from that.
use mathlib.Core.Path.{◌≡◌}
use Prim.Native.Nat.{ℕ, ◌+◌, ◌*◌, ◌≤◌, ◌<◌}
use mathlib.Core.Bool.{Bool, true, false, cond, ◌&&◌}
use mathlib.Core.List.{List}
use mathlib.Core.Option.{none}
use lib.Dec.{T, eqb, leb, leb→le}
use lib.IntN.{ℤ, pos}
use lib.ListN.{length}
use lib.Signed.{le_z, le_z_yes, ◌≤ℤ◌}
use Rattle.numbers.specs.Limits.{most_bytes}
use Rattle.numbers.specs.Whole.{eq_z}
use Rattle.numbers.proofs.Tests.{&&-fst, &&-snd}
use Rattle.numbers.proofs.Division.{eq_z→≡}
use Rattle.language.specs.Readings.{Reading}
use Rattle.language.specs.Tables.{tree_at}
use Rattle.language.proofs.Trees.{length-trees}
use Rattle.rules.specs.Bounds.{variable_at, within_bounds}
use Rattle.rules.specs.Soundness.{Bounded}
use Rattle.table.specs.Records.{record_size, kind_at, x_at, y_at}
use Rattle.answers.specs.Sections.{variables_at, nodes_at, variable_count, declarations, rows, variable_of, node_trees}
use Rattle.answers.specs.Check.{is_zero, domain_allowed, variable_fault, check_fault}
use Rattle.answers.specs.Answers.{refuse_unless, bounds_fault, new_count, room_fault}
use Rattle.answers.proofs.Faults.{none-unless, none-cond, none-first_fault}
use Rattle.answers.proofs.Listed.{All-at}
use Rattle.answers.proofs.Declared.{length-variables, variable_at-declarations}
use Rattle.answers.proofs.Passed.{Passed, check_fault≡none→Passed, SectionsOrdered, Passed→SectionsOrdered}

-- The table passes the check, its bounds hold, and its translation is not too long.
pub record Translatable (bs : List ℕ) (ρ : Reading) : Type 0 where
  pub passed : Passed bs
  pub sections : SectionsOrdered bs
  pub bounded : Bounded (declarations bs) (node_trees bs)
  pub few_bytes : record_size * new_count bs ρ ≤ most_bytes

module _ (bs : List ℕ) where
  -- Where no interval is beyond the limit, all bounds hold.
  bounds_fault→Bounded : bounds_fault bs ≡ none → Bounded (declarations bs) (node_trees bs)
  unfolding bounds_fault node_trees tree_at
  bounds_fault→Bounded h =
      All-at (λ t. T (within_bounds (declarations bs) t)) (node_trees bs) _
      (λ k l. none-unless 8 (within_bounds (declarations bs) (tree_at (node_trees bs) k)) (none-first_fault _ (nodes_at bs) (length (rows bs)) h k (rw length-trees at l)))

  module _ (ρ : Reading) where
    -- The translation that is not refused is not too long.
    room_fault→few : (room : ℕ) → room_fault bs ρ room ≡ none → record_size * new_count bs ρ ≤ most_bytes
    unfolding room_fault refuse_unless
    room_fault→few room h =
        let passed = none-cond (leb (record_size * new_count bs ρ) room && leb (record_size * new_count bs ρ) most_bytes) _ h in
        leb→le (record_size * new_count bs ρ) most_bytes (search &&-snd)

    -- A table with none of the three faults is translated.
    pub none→Translatable : (room : ℕ) → check_fault bs ≡ none → bounds_fault bs ≡ none → room_fault bs ρ room ≡ none → Translatable bs ρ
    none→Translatable room c b r =
        let passed : Passed bs = check_fault≡none→Passed bs c in
        record { passed = passed; sections = Passed→SectionsOrdered bs passed; bounded = bounds_fault→Bounded b; few_bytes = room_fault→few room r }

  -- ---- domains

  -- A domain that is allowed is not empty.
  domain_allowed→≤ : (k : ℕ) (x y : ℤ) → T (domain_allowed k x y) → x ≤ℤ y
  unfolding domain_allowed is_zero
  domain_allowed→≤ k x y = go (eqb k 0)
    where
      go : (b : Bool) → T (cond b (is_zero x && eq_z y (pos 1)) (le_z x y)) → x ≤ℤ y
      go true t = rw (eq_z→≡ x (pos 0) (&&-fst (eq_z x (pos 0)) (eq_z y (pos 1)) t), eq_z→≡ y (pos 1) (&&-snd (eq_z x (pos 0)) (eq_z y (pos 1)) t)) (le_z_yes tt)
      go false t = le_z_yes t

  -- So the domain of a variable without a fault is not empty.
  variable_fault→≤ : (i p : ℕ) → variable_fault bs i p ≡ none → x_at bs p ≤ℤ y_at bs p
  unfolding variable_fault
  variable_fault→≤ i p h = let passed = none-unless 3 _ h in domain_allowed→≤ (kind_at bs p) (x_at bs p) (y_at bs p) (search &&-snd)

  -- No variable of a table that has passed has an empty domain.
  pub Passed→domains : Passed bs → (v : ℕ) → v < length (declarations bs).variables → (variable_at (declarations bs) v).low ≤ℤ (variable_at (declarations bs) v).high
  unfolding variable_of
  Passed→domains p v h =
      let l : v < variable_count bs = rw length-variables at h in
      rw (variable_at-declarations bs v l) (variable_fault→≤ v (variables_at bs + v) (p.variables_passed v l))
