-- A table that has passed, made ready, is laid out as the walk relies on, and declares what it declared.
use mathlib.Core.Path.{◌≡◌, refl, ap, fun_ext, ◌∙◌}
use Prim.Native.Nat.{ℕ, zero, suc, ◌+◌, ◌-◌, ◌≤◌, ◌<◌}
use native.Mathlib.Omega.{arith}
use mathlib.Core.List.{List, [], ◌∷◌, map}
use mathlib.Core.Option.{none}
use lib.Dec.{leb→le}
use lib.IntN.{pos, nat_abs}
use lib.ListN.{length, get_or, take, replicate}
use lib.Seq.{ext_get_or, get_or-take, length-take-le}
use Rattle.numbers.specs.Limits.{most_slot_values, reach}
use Rattle.numbers.proofs.Tests.{&&-fst, &&-snd}
use Rattle.language.specs.Syntax.{Variable, Slot, Array, Declarations}
use Rattle.language.specs.Tables.{trees, tree_b}
use Rattle.language.specs.Readings.{Reading}
use Rattle.language.specs.Meaning.{Assignment, count}
use Rattle.table.specs.Records.{record_count}
use Rattle.answers.specs.Sections.{listed, variables_at, slots_at, arrays_at, nodes_at, variable_count, slot_count, array_records, node_count, variable_of, slot_of, array_of, behind_array, row_of, declarations, rows, node_trees}
use Rattle.answers.specs.Check.{near, slot_fault}
use Rattle.answers.specs.Answers.{unset}
use Rattle.answers.proofs.Faults.{none-unless}
use Rattle.answers.proofs.Listed.{listed-agree}
use Rattle.answers.proofs.SameFaults.{variable_of-alike, slot_of-alike}
use Rattle.answers.proofs.ArrayRuns.{ArraysPassed-at}
use Rattle.answers.proofs.Passed.{Passed, SectionsOrdered, Passed→SectionsOrdered, few_records}
use Rattle.evaluator.specs.Walks.{declared, trees_of, row_at, Laid, setting_of, truth_walked, truth_at}
use Rattle.evaluator.specs.declared.places.TablePlaces.{TablePlaces}
use Rattle.preparation.specs.Prepared.{padded, PlacesOf}
use Rattle.preparation.proofs.Alike.{padded-sized, padded-alike, row_of-padded, behind_array-padded, array_of-padded}
use Rattle.preparation.proofs.Below.{passed-below}

-- ---- small steps

-- what a slot's own test says
record SlotAllowed (bs : List ℕ) (p : ℕ) : Type 0 where
  near_enough : nat_abs (slot_of bs p).low ≤ reach
  few_values : count (slot_of bs p) ≤ most_slot_values

slot_fault→SlotAllowed : (bs : List ℕ) (i p : ℕ) → slot_fault bs i p ≡ none → SlotAllowed bs p
unfolding slot_fault near slot_of
slot_fault→SlotAllowed bs i p h =
    let passed = none-unless 3 _ h in
    record {
      near_enough = leb→le (nat_abs (slot_of bs p).low) reach (search (&&-fst, &&-snd));
      few_values = leb→le (count (slot_of bs p)) most_slot_values (search &&-snd);
    }

-- the first elements of a list, if they are those of another one
take-is : (xs ys : List ℕ) → length ys ≤ length xs → ((k : ℕ) → k < length ys → get_or xs k 0 ≡ get_or ys k 0) → take (length ys) xs ≡ ys
take-is xs ys l h =
    let e : length (take (length ys) xs) ≡ length ys = length-take-le (length ys) xs l in
    ext_get_or 0 (take (length ys) xs) ys e (λ k b. let c : k < length ys = rw e at b in get_or-take (length ys) xs k 0 c ∙ h k c)

-- functions that agree on a list map it to the same
map-agree : {A B : Type 0} (f g : A → B) (xs : List A) (d : A) → ((k : ℕ) → k < length xs → f (get_or xs k d) ≡ g (get_or xs k d)) → map f xs ≡ map g xs
map-agree f g [] d h = refl
map-agree f g (x ∷ xs) d h = rw (h 0 (omega arith), map-agree f g xs d (λ k l. h (suc k) (omega arith)))

same_declarations : {vs us : List Variable} {ss ts : List Slot} {xs ys : List Array} → vs ≡ us → ss ≡ ts → xs ≡ ys → ◌≡◌ {A = Declarations} (record { variables = vs; slots = ss; arrays = xs }) (record { variables = us; slots = ts; arrays = ys })
same_declarations e f g = cc

-- every slot begins with 0
begins_unset : setting_of (replicate 16 (pos 0)) ≡ unset
unfolding setting_of unset
begins_unset = fun_ext (λ s. at s 16)
  where
    at : (s n : ℕ) → get_or (replicate n (pos 0)) s (pos 0) ≡ pos 0
    at s zero = refl
    at zero (suc n) = refl
    at (suc s) (suc n) = at s n

module _ (bs : List ℕ) (places : TablePlaces) (passed : Passed bs) (held : PlacesOf bs places) where
  ordered : SectionsOrdered bs
  ordered = Passed→SectionsOrdered bs passed

  few : record_count bs ≤ 5000
  few = few_records bs passed.few_bytes

  -- ---- where things stand

  variable-within : (i : ℕ) → i < variable_count bs → variables_at bs + i < record_count bs
  unfolding variables_at
  variable-within i h = omega (arith, ordered)

  slot-within : (i : ℕ) → i < slot_count bs → slots_at bs + i < record_count bs
  slot-within i h = omega (arith, ordered)

  node-within : (i : ℕ) → i < node_count bs → nodes_at bs + i < record_count bs
  node-within i h = omega (arith, ordered)

  array-within : (a : ℕ) → a < length (array_records bs) → behind_array bs (get_or (array_records bs) a 0) ≤ record_count bs
  array-within a h = omega (arith, ordered, (ArraysPassed-at bs 0 (arrays_at bs) (array_records bs) passed.arrays_run a h).2)

  at-behind : (p : ℕ) → behind_array bs p ≤ record_count bs → p < record_count bs
  unfolding behind_array
  at-behind p h = omega arith

  -- ---- the same slots and rows

  slot_same : (i : ℕ) → i < slot_count bs → slot_of (padded bs) (places.slots_from + i) ≡ slot_of bs (slots_at bs + i)
  slot_same i h = rw held.slots (slot_of-alike (padded-alike bs passed.whole_records (slots_at bs + i) (slot-within i h)))

  row_same : (i : ℕ) → i < node_count bs → row_at (padded bs) places i ≡ row_of bs (nodes_at bs + i)
  unfolding row_at
  row_same i h = rw held.nodes (row_of-padded bs passed.whole_records (nodes_at bs + i) (node-within i h))

  array_same : (a : ℕ) → a < length (array_records bs) → get_or places.arrays a 0 ≡ get_or (array_records bs) a 0
  array_same a h = held.arrays a (omega (arith, passed.few_arrays))

  slot-allowed : (i : ℕ) → i < slot_count bs → SlotAllowed bs (slots_at bs + i)
  slot-allowed i h = slot_fault→SlotAllowed bs i (slots_at bs + i) (passed.slots_passed i h)

  -- ---- what the walk relies on

  pub prepared_laid : Laid (padded bs) places
  prepared_laid =
      record {
        sized = padded-sized bs passed.few_bytes;
        wide = held.wide;
        nodes_in = omega (arith, held.nodes, held.node_total, ordered, few);
        earlier = λ n h. let l : n < node_count bs = rw held.node_total at h in rw (row_same n l) (passed-below bs n (nodes_at bs + n) (passed.nodes_passed n l));
        few_slots = rw held.slot_total passed.few_slots;
        slots_in = omega (arith, held.slots, held.slot_total, ordered, few);
        few_values = λ s h. let l : s < slot_count bs = rw held.slot_total at h in rw (slot_same s l) (slot-allowed s l).few_values;
        near_slots = λ s h. let l : s < slot_count bs = rw held.slot_total at h in rw (slot_same s l) (slot-allowed s l).near_enough;
        few_arrays = rw held.array_count passed.few_arrays;
        arrays_in = λ a h.
            let l : a < length (array_records bs) = rw held.array_count at h in
            let w = array-within a l in
            rw (array_same a l, behind_array-padded bs passed.whole_records (get_or (array_records bs) a 0) (at-behind _ w)) (omega (arith, w, few));
      }

  -- ---- what it declares

  variables-same : listed (places.slots_from - 1) (λ i. variable_of (padded bs) (1 + i)) ≡ listed (variable_count bs) (λ i. variable_of bs (variables_at bs + i))
  unfolding variable_count variables_at
  variables-same = rw held.slots (listed-agree (slots_at bs - 1) _ _ (λ i h. variable_of-alike (padded-alike bs passed.whole_records (1 + i) (variable-within i h))))

  slots_same : listed places.slot_count (λ i. slot_of (padded bs) (places.slots_from + i)) ≡ listed (slot_count bs) (λ i. slot_of bs (slots_at bs + i))
  slots_same = rw held.slot_total (listed-agree (slot_count bs) _ _ slot_same)

  arrays-same : map (array_of (padded bs)) (take places.array_count places.arrays) ≡ map (array_of bs) (array_records bs)
  arrays-same =
      rw (held.array_count, take-is places.arrays (array_records bs) (omega (arith, held.wide, passed.few_arrays)) array_same)
      (map-agree (array_of (padded bs)) (array_of bs) (array_records bs) 0 (λ a h. array_of-padded bs passed.whole_records _ (array-within a h)))

  declared_same : declared (padded bs) places ≡ declarations bs
  unfolding declared declarations
  declared_same = same_declarations variables-same slots_same arrays-same

  trees-same : trees_of (padded bs) places ≡ node_trees bs
  unfolding trees_of node_trees rows row_at
  trees-same = ap trees (rw held.node_total (listed-agree (node_count bs) _ _ row_same))

  -- The walk over a node of a table made ready is the walk over that node of the table.
  pub truth_at-prepared : (ρ : Reading) (α : Assignment) (n : ℕ) → truth_at ρ (padded bs) places α (replicate 16 (pos 0)) n ≡ truth_walked ρ (declarations bs) α (tree_b (node_trees bs) n) unset
  unfolding truth_at
  truth_at-prepared ρ α n = rw (declared_same, trees-same, begins_unset)
