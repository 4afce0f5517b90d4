-- The sections of a checked table stand in order, within the table.
use mathlib.Core.Path.{◌≡◌, refl, ap}
use Prim.Native.Nat.{ℕ, zero, suc, ◌%◌, ◌≤◌, ◌<◌}
use native.Mathlib.Omega.{arith}
use mathlib.Core.Bool.{Bool, true, false}
use mathlib.Core.List.{List}
use lib.ListN.{length, get_or}
use Rattle.table.specs.Records.{Mark, VR, SL, AR, ND, CN, marked, record_count, record_size}
use Rattle.answers.specs.Sections.{run_end, end_of, behind_array, arrays_from, arrays_end, variables_at, slots_at, arrays_at, nodes_at, constraints_at, rest_at, array_records}
use Rattle.layout.specs.Passed.{Passed}
use Rattle.sections.specs.Places.{places_of}
use Rattle.sections.specs.declared.Places.{Places}
use Rattle.sections.proofs.Bounds.{slots-place, arrays-place, array_count, nodes-place, constraints-place, rest-place}
use Rattle.answers.proofs.RunEnds.{run_stop, run_on, arrays-end-stop, arrays-end-on, arrays-stop, arrays-on, marked-within, run_above}

module _ (bs : List ℕ) where
  -- A run that begins within the table ends there.
  run-≤ : (m : Mark) → length bs % record_size ≡ 0 → (f p : ℕ) → p ≤ record_count bs → run_end bs m f p ≤ record_count bs
  unfolding run_end
  run-≤ m w zero p h = h
  run-≤ m w (suc f) p h = by_mark (λ k. run-≤ m w f (suc p) k) (marked bs m p) refl
    where
      by_mark : (suc p ≤ record_count bs → run_end bs m f (suc p) ≤ record_count bs) → (b : Bool) → marked bs m p ≡ b → run_end bs m (suc f) p ≤ record_count bs
      by_mark more true e = rw (run_on bs m (suc f) f p refl e) (more (marked-within bs w m p e))
      by_mark more false e = rw (run_stop bs m (suc f) p e) h

  arrays-≥ : (f p : ℕ) → p ≤ arrays_end bs f p
  unfolding arrays_end behind_array
  arrays-≥ zero p = omega arith
  arrays-≥ (suc f) p = by_mark (arrays-≥ f (behind_array bs p)) (marked bs AR p) refl
    where
      by_mark : behind_array bs p ≤ arrays_end bs f (behind_array bs p) → (b : Bool) → marked bs AR p ≡ b → p ≤ arrays_end bs (suc f) p
      by_mark more true e = rw (arrays-end-on bs (suc f) f p refl e) (omega arith)
      by_mark more false e = rw (arrays-end-stop bs (suc f) p e) (omega arith)

  -- Each array's elements end before the arrays do.
  pub behind-≤ : (f p a : ℕ) → a < length (arrays_from bs f p) → behind_array bs (get_or (arrays_from bs f p) a 0) ≤ arrays_end bs f p
  unfolding arrays_from arrays_end
  behind-≤ zero p a h = absurd (omega arith)
  behind-≤ (suc f) p a h = by_mark (λ b l. behind-≤ f (behind_array bs p) b l) (marked bs AR p) refl a h
    where
      by_mark : ((b : ℕ) → b < length (arrays_from bs f (behind_array bs p)) → behind_array bs (get_or (arrays_from bs f (behind_array bs p)) b 0) ≤ arrays_end bs f (behind_array bs p)) → (b : Bool) → marked bs AR p ≡ b → (a : ℕ) → a < length (arrays_from bs (suc f) p) → behind_array bs (get_or (arrays_from bs (suc f) p) a 0) ≤ arrays_end bs (suc f) p
      by_mark more true e zero h = rw (arrays-on bs (suc f) f p refl e, arrays-end-on bs (suc f) f p refl e) (arrays-≥ f (behind_array bs p))
      by_mark more true e (suc a) h = rw (arrays-on bs (suc f) f p refl e, arrays-end-on bs (suc f) f p refl e) (more a (omega (arith, ap length (arrays-on bs (suc f) f p refl e))))
      by_mark more false e a h = absurd (omega (arith, ap length (arrays-stop bs (suc f) p e)))

  pub record Ordered : Type 0 where
    pub variables : 1 ≤ slots_at bs
    pub slots : slots_at bs ≤ arrays_at bs
    pub arrays : arrays_at bs ≤ nodes_at bs
    pub inside : nodes_at bs ≤ record_count bs
    pub nodes : nodes_at bs ≤ constraints_at bs
    pub constraints : constraints_at bs ≤ rest_at bs
    pub rest : rest_at bs ≤ record_count bs
    pub few : record_count bs ≤ 5_000

  pub ordered : Passed bs → Ordered
  unfolding variables_at slots_at arrays_at nodes_at constraints_at rest_at end_of record_count record_size
  ordered p =
      record {
        variables = run_above bs VR _ _;
        slots = run_above bs SL _ _;
        arrays = arrays-≥ _ _;
        inside = p.inside;
        nodes = run_above bs ND _ _;
        constraints = run_above bs CN _ _;
        rest = run-≤ CN p.whole _ _ (run-≤ ND p.whole _ _ p.inside);
        few = omega (arith, p.short);
      }

-- The places that the code holds are those of the sections, in order.
pub record Laid (bs : List ℕ) (at : Places) : Type 0 where
  pub slots : at.slots ≡ slots_at bs
  pub arrays : at.arrays ≡ arrays_at bs
  pub tally : at.array_count ≡ length (array_records bs)
  pub nodes : at.nodes ≡ nodes_at bs
  pub constraints : at.constraints ≡ constraints_at bs
  pub rest : at.rest ≡ rest_at bs
  pub order : Ordered bs

pub laid : (bs : List ℕ) {at : Places} → Passed bs → at ≡ places_of bs → Laid bs at
laid bs p e =
    record {
      slots = slots-place bs e;
      arrays = arrays-place bs e;
      tally = array_count bs e;
      nodes = nodes-place bs e;
      constraints = constraints-place bs e;
      rest = rest-place bs e;
      order = ordered bs p;
    }
