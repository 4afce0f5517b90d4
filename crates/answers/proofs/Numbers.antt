-- The numbers of refusals: those of each fault pass any test that the numbers which document 01 lists for it pass.
use Prim.Native.Nat.{ℕ, zero, suc, ◌+◌, ◌*◌, ◌≤◌}
use mathlib.Core.Bool.{Bool, true, false, cond, ◌&&◌}
use mathlib.Core.List.{List}
use mathlib.Core.Option.{Option, none, some, map, or_else}
use lib.Dec.{T, eqb, leb, ltb, leb→le}
use lib.IntN.{nat_abs}
use lib.ListN.{length}
use Rattle.numbers.specs.Limits.{most_bytes}
use Rattle.numbers.proofs.Tests.{&&-fst}
use Rattle.language.specs.Syntax.{Sort}
use Rattle.language.specs.Readings.{Reading}
use Rattle.language.specs.Meaning.{Assignment}
use Rattle.table.specs.Records.{AR, record_size, record_count, marked, kind_at, y_at}
use Rattle.table.specs.Kinds.{Kind, kind_of}
use Rattle.answers.specs.Sections.{sort_of_kind, behind_array, rest_at, declarations}
use Rattle.answers.specs.Check.{Refusal, refuse, unless, first_fault, header_fault, variable_fault, slot_fault, array_fault, element_fault, kind_fault, node_fault, constraint_fault, arrays_fault, rest_fault, length_allowed, length_fault, first, check_order, check_fault}
use Rattle.answers.specs.Answers.{reading_chosen, refuse_unless, assignment_fault, bounds_fault, new_count, room_fault, evaluate_order, translate_order}

-- a number from 1 to `most`
abbrev pub up_to : ℕ → ℕ → Bool
up_to most n = leb 1 n && leb n most

-- It is not 0.
pub up_to→1≤ : (most : ℕ) {n : ℕ} → T (up_to most n) → 1 ≤ n
up_to→1≤ most {n} t = leb→le 1 n (&&-fst (leb 1 n) (leb n most) t)

-- A record's own fault, and a refusal, has a number that passes the test, where there is one.
abbrev Own : (ℕ → Bool) → Option ℕ → Type 0
Own ok none = Unit {0}
Own ok (some n) = T (ok n)

abbrev pub Numbered : (ℕ → Bool) → Option Refusal → Type 0
Numbered ok none = Unit {0}
Numbered ok (some r) = T (ok r.number)

module _ (ok : ℕ → Bool) where
  -- ---- one fault behind another

  Own-or_else : (a b : Option ℕ) → Own ok a → Own ok b → Own ok (or_else a b)
  unfolding or_else
  Own-or_else none b p q = q
  Own-or_else (some x) b p q = p

  Own-unless : (n : ℕ) (b : Bool) → T (ok n) → Own ok (unless n b)
  unfolding unless
  Own-unless n true h = tt
  Own-unless n false h = h

  pub Numbered-or_else : (a b : Option Refusal) → Numbered ok a → Numbered ok b → Numbered ok (or_else a b)
  unfolding or_else
  Numbered-or_else none b p q = q
  Numbered-or_else (some x) b p q = p

  pub Numbered-unless : (n : ℕ) (b : Bool) → T (ok n) → Numbered ok (cond b none (refuse n 0))
  Numbered-unless n true h = tt
  Numbered-unless n false h = h

  Numbered-cond : (b : Bool) (o : Option Refusal) (n : ℕ) → Numbered ok o → T (ok n) → Numbered ok (cond b o (refuse n 0))
  Numbered-cond true o n p h = p
  Numbered-cond false o n p h = h

  Numbered-at : (p : ℕ) (o : Option ℕ) → Own ok o → Numbered ok (map (λ n. record { number = n; at = p }) o)
  Numbered-at p none h = tt
  Numbered-at p (some n) h = h

  Numbered-first_fault : (own : ℕ → Option ℕ) (p k : ℕ) → ((i : ℕ) → Own ok (own i)) → Numbered ok (first_fault own p k)
  unfolding first_fault
  Numbered-first_fault own p zero h = tt
  Numbered-first_fault own p (suc k) h = Numbered-or_else (first_fault own p k) _ (Numbered-first_fault own p k h) (Numbered-at (p + k) (own k) (h k))

  -- ---- the faults behind the check

  -- 8,
  pub Numbered-bounds : (table : List ℕ) → T (ok 8) → Numbered ok (bounds_fault table)
  unfolding bounds_fault
  Numbered-bounds table h = Numbered-first_fault _ _ _ (λ n. Own-unless 8 _ h)

  -- 9,
  pub Numbered-room : (table : List ℕ) (ρ : Reading) (room : ℕ) → T (ok 9) → Numbered ok (room_fault table ρ room)
  unfolding room_fault refuse_unless
  Numbered-room table ρ room h = Numbered-unless 9 (leb (record_size * new_count table ρ) room && leb (record_size * new_count table ρ) most_bytes) h

  -- and 10.
  pub Numbered-assignment : (table : List ℕ) (α : Assignment) → T (ok 10) → Numbered ok (assignment_fault table α)
  unfolding assignment_fault
  Numbered-assignment table α h =
      Numbered-cond (eqb (length α) (length (declarations table).variables)) _ 10 (Numbered-first_fault _ _ _ (λ v. Own-unless 10 _ h)) h

  -- ---- the check: 1 to 6

  module _ (ok1 : T (ok 1)) (ok2 : T (ok 2)) (ok3 : T (ok 3)) (ok4 : T (ok 4)) (ok5 : T (ok 5)) (ok6 : T (ok 6)) (table : List ℕ) where
    Own-header : (p : ℕ) → Own ok (header_fault table p)
    unfolding header_fault
    Own-header p = Own-or_else _ _ (Own-unless 2 _ ok2) (Own-unless 3 _ ok3)

    Own-variable : (i p : ℕ) → Own ok (variable_fault table i p)
    unfolding variable_fault
    Own-variable i p = Own-unless 3 _ ok3

    Own-slot : (i p : ℕ) → Own ok (slot_fault table i p)
    unfolding slot_fault
    Own-slot i p = Own-unless 3 _ ok3

    Own-array : (j p : ℕ) → Own ok (array_fault table j p)
    unfolding array_fault
    Own-array j p = Own-unless 3 _ ok3

    Own-element : (t : Sort) (p : ℕ) → Own ok (element_fault table t p)
    unfolding element_fault
    Own-element t p = Own-or_else _ _ (Own-unless 2 _ ok2) (Own-or_else _ _ (Own-unless 3 _ ok3) (Own-or_else _ _ (Own-unless 4 _ ok4) (Own-unless 5 _ ok5)))

    Own-kind : (n : ℕ) (k : Kind) (p : ℕ) → Own ok (kind_fault table n k p)
    unfolding kind_fault
    Own-kind n k p = Own-or_else _ _ (Own-unless 3 _ ok3) (Own-or_else _ _ (Own-unless 4 _ ok4) (Own-unless 5 _ ok5))

    Own-node : (n p : ℕ) → Own ok (node_fault table n p)
    unfolding node_fault
    Own-node n p = go (kind_of (kind_at table p))
      where
        go : (o : Option Kind) → Own ok (elim o [ none ↦ some 3 | some k ↦ kind_fault table n k p ])
        go none = ok3
        go (some k) = Own-kind n k p

    Own-constraint : (p : ℕ) → Own ok (constraint_fault table p)
    unfolding constraint_fault
    Own-constraint p = Own-or_else _ _ (Own-unless 3 _ ok3) (Own-or_else _ _ (Own-unless 4 _ ok4) (Own-or_else _ _ (Own-unless 5 _ ok5) (Own-unless 6 _ ok6)))

    Numbered-arrays : (more j p : ℕ) → Numbered ok (arrays_fault table more j p)
    unfolding arrays_fault
    Numbered-arrays zero j p = tt
    Numbered-arrays (suc more) j p = go (Numbered-arrays more (suc j) (behind_array table p)) (marked table AR p)
      where
        go : Numbered ok (arrays_fault table more (suc j) (behind_array table p)) → (b : Bool)
            → Numbered ok (elim b [
              | true ↦
                  or_else (first_fault (λ i. array_fault table j p) p 1)
                  (or_else (first_fault (λ i. element_fault table (sort_of_kind (kind_at table p)) (suc p + i)) (suc p) (nat_abs (y_at table p)))
                  (arrays_fault table more (suc j) (behind_array table p)))
              | false ↦ none
            ])
        go behind true =
            Numbered-or_else _ _ (Numbered-first_fault _ p 1 (λ i. Own-array j p))
            (Numbered-or_else _ _ (Numbered-first_fault _ (suc p) (nat_abs (y_at table p)) (λ i. Own-element (sort_of_kind (kind_at table p)) (suc p + i))) behind)
        go behind false = tt

    Numbered-rest : Numbered ok (rest_fault table)
    unfolding rest_fault
    Numbered-rest = go (ltb (rest_at table) (record_count table))
      where
        go : (b : Bool) → Numbered ok (cond b (refuse 2 (rest_at table)) none)
        go true = ok2
        go false = tt

    pub Numbered-check : Numbered ok (check_fault table)
    unfolding check_fault check_order first length_fault
    Numbered-check =
        Numbered-or_else _ _ (Numbered-unless 1 (length_allowed table) ok1)
        (Numbered-or_else _ _ (Numbered-first_fault _ _ _ (λ i. Own-header 0))
        (Numbered-or_else _ _ (Numbered-first_fault _ _ _ (λ i. Own-variable i _))
        (Numbered-or_else _ _ (Numbered-first_fault _ _ _ (λ i. Own-slot i _))
        (Numbered-or_else _ _ (Numbered-arrays _ _ _)
        (Numbered-or_else _ _ (Numbered-first_fault _ _ _ (λ n. Own-node n _))
        (Numbered-or_else _ _ (Numbered-first_fault _ _ _ (λ i. Own-constraint _)) (Numbered-or_else _ _ Numbered-rest tt)))))))

-- ---- the orders

Numbered-refuse_unless : (ok : ℕ → Bool) (n : ℕ) (b : Bool) → T (ok n) → Numbered ok (refuse_unless n b)
unfolding refuse_unless
Numbered-refuse_unless ok n b h = Numbered-unless ok n b h

-- Each order has the numbers of its call.
pub evaluate_order-numbered : (choice : ℕ) (table : List ℕ) (α : Assignment) (budget room : ℕ)
    → Numbered (up_to 11) (first (evaluate_order choice table α budget room))
unfolding first evaluate_order
evaluate_order-numbered choice table α budget room =
    Numbered-or_else (up_to 11) _ _ (Numbered-refuse_unless (up_to 11) 7 _ tt)
    (Numbered-or_else (up_to 11) _ _ (Numbered-check (up_to 11) tt tt tt tt tt tt table)
    (Numbered-or_else (up_to 11) _ _ (Numbered-assignment (up_to 11) table α tt)
    (Numbered-or_else (up_to 11) _ _ (Numbered-refuse_unless (up_to 11) 9 _ tt)
    (Numbered-or_else (up_to 11) _ _ (Numbered-refuse_unless (up_to 11) 11 _ tt) (Numbered-or_else (up_to 11) _ _ (Numbered-refuse_unless (up_to 11) 8 _ tt) tt)))))

pub translate_order-numbered : (choice : ℕ) (table : List ℕ) (room : ℕ) → Numbered (up_to 9) (first (translate_order choice table room))
unfolding first translate_order
translate_order-numbered choice table room =
    Numbered-or_else (up_to 9) _ _ (Numbered-refuse_unless (up_to 9) 7 _ tt)
    (Numbered-or_else (up_to 9) _ _ (Numbered-check (up_to 9) tt tt tt tt tt tt table)
    (Numbered-or_else (up_to 9) _ _ (Numbered-bounds (up_to 9) table tt) (Numbered-or_else (up_to 9) _ _ (Numbered-room (up_to 9) table (reading_chosen choice) room tt) tt)))
