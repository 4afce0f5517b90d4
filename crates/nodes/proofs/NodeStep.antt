-- One node: what the code makes of its operands is what document 01 says of it.
use mathlib.Core.Path.{◌≡◌, refl, sym, ap, ◌∙◌}
use mathlib.Core.Bool.{Bool, true, false, cond, not, ◌&&◌, ◌||◌}
use mathlib.Core.List.{List}
use mathlib.Core.Option.{Option, none, some, or_else}
use Prim.Native.Nat.{ℕ, ◌+◌, ◌-◌, ◌<◌}
use native.Mathlib.Omega.{arith}
use lib.Dec.{eqb}
use lib.IntN.{ℤ, pos, nat_abs}
use Rattle.std.specs.Prelude as Std
use Rattle.std.specs.Prelude.{Result, Ok, Err}
use Rattle.language.specs.Tables.{tree_at, free_in}
use Rattle.table.specs.Records.{kind_at, aux_at, x_at, y_at}
use Rattle.table.specs.Kinds.{Field, unused, any_number, truth_value, variable_number, slot_number, array_number, node_number, Kind, kind_of}
use Rattle.kinds.specs.declared.Operand.TheVariants.{Missing}
use Rattle.kinds.specs.declared.Entry.{Entry}
use Rattle.kinds.specs.Entries.{operand_of, operand_x, operand_y, sort_of, yields_of, binds_of, binds_in, entry_of}
use Rattle.answers.specs.Sections.{slot_count, nodes_at, node_count, node_trees}
use Rattle.answers.specs.Check.{unless, node_sort, field_allowed, field_names, field_typed, kind_fault, node_fault}
use Rattle.operands.specs.declared.Fact.{Fact}
use Rattle.operands.specs.declared.Miss.{Miss}
use Rattle.operands.specs.declared.Miss.TheVariants.{Beyond, OtherType}
use Rattle.operands.specs.Facts.{ranges_of, looked, is_plain, is_beyond, joined_of, made_of, fault_of}
use Rattle.answers.proofs.KindRows.{binder}
use Rattle.answers.proofs.NodeTrees.{sort-some, tree_free}
use Rattle.nodes.specs.Known.{has, NodeFact, FactsKnown, known_at}
use Rattle.nodes.proofs.SlotSets.{and-false, has_all, has-others, has-joined}
use Rattle.nodes.proofs.Operands.{Operand, in_limit, fact_at, right_type, named_below, names_nothing, operand}

abbrev pub Found : Type 0
Found = Result ℕ Miss

-- ---- one field

-- what looking at a field of a kind found, by the three tests of document 01 and whether the field names nothing
pub data Outcome (allowed named right plain : Bool) : Found → Type 0 where
  good : {v : ℕ} → allowed ≡ true → named ≡ true → right ≡ true → Outcome allowed named right plain (Ok v)
  other : allowed ≡ true → named ≡ true → right ≡ false → Outcome allowed named right plain (Err OtherType)
  shut : plain ≡ true → allowed ≡ false → Outcome allowed named right plain (Err Beyond)
  nothing : plain ≡ false → allowed ≡ true → named ≡ false → Outcome allowed named right plain (Err Beyond)

or_true : (b : Bool) → (b || true) ≡ true
or_true true = refl
or_true false = refl

module _ {bs : List ℕ} {n : ℕ} {facts : List Fact} (f : Field) {z : ℤ} (o : Operand bs n facts f z) where
  abbrev found_at : Found
  found_at = looked (known_at bs n facts) (operand_of f) z

  pub outcome : Outcome (field_allowed f z) (field_names bs n f z) (field_typed bs f z) (is_plain (operand_of f)) found_at
  unfolding looked
  outcome = go (in_limit bs n facts f z) (right_type bs n facts f z) (is_plain (operand_of f)) o.allowed o.named o.typed
    where
      go : (b e p : Bool) → field_allowed f z ≡ not (p && not b) → field_names bs n f z ≡ (p || b) → (b ≡ true → field_typed bs f z ≡ e)
          → Outcome (field_allowed f z) (field_names bs n f z) (field_typed bs f z) p (cond b (cond e (Ok (fact_at bs n facts f z).free) (Err OtherType)) (Err Beyond))
      go true true p a m t = good (a ∙ ap not (and-false p)) (m ∙ or_true p) (t refl)
      go true false p a m t = other (a ∙ ap not (and-false p)) (m ∙ or_true p) (t refl)
      go false e true a m t = shut refl a
      go false e false a m t = nothing refl a m

  -- a fact that was found is that of the field
  pub found : {v : ℕ} → found_at ≡ Ok v → (in_limit bs n facts f z ≡ true) × (right_type bs n facts f z ≡ true) × ((fact_at bs n facts f z).free ≡ v)
  unfolding looked
  found {v} q = go (in_limit bs n facts f z) (right_type bs n facts f z) q
    where
      go : (b e : Bool) → ◌≡◌ {A = Found} (cond b (cond e (Ok (fact_at bs n facts f z).free) (Err OtherType)) (Err Beyond)) (Ok v) → (b ≡ true) × (e ≡ true) × ((fact_at bs n facts f z).free ≡ v)
      go true true q = (refl, refl, cc)
      go true false q = (refl, cc, cc)
      go false e q = (cc, cc, cc)

-- ---- both

-- which fault the three tests of both fields give
unfoldable three_tests : Bool → Bool → Bool → Bool → Bool → Bool → Bool → Option ℕ
three_tests aux ax ay nx ny tx ty = or_else (unless 3 (aux && ax && ay)) (or_else (unless 4 (nx && ny)) (unless 5 (tx && ty)))

settled : {ax nx tx px ay ny ty py : Bool} {x y : Found} (k : Entry) (aux : Bool) → Outcome ax nx tx px x → Outcome ay ny ty py y → made_of aux k x y ≡ Std.None
    → three_tests aux ax ay nx ny tx ty ≡ some (cond (not aux || (px && is_beyond x) || (py && is_beyond y)) 3 (cond (is_beyond x || is_beyond y) 4 5))
unfolding three_tests or_else unless
settled k false ox oy q = refl
settled k true (good a b c) (good d e f) q = cc
settled k true (good a b c) (other d e f) q = rw (a, b, c, d, e, f, and-false, and-false)
settled k true (good a b c) (shut p d) q = rw (a, p, d, and-false)
settled k true (good a b c) (nothing p d e) q = rw (a, b, p, d, e, and-false)
settled k true (other a b c) (good d e f) q = rw (a, b, c, d, e, and-false, and-false)
settled k true (other a b c) (other d e f) q = rw (a, b, c, d, e, and-false, and-false)
settled k true (other a b c) (shut p d) q = rw (a, p, d, and-false)
settled k true (other a b c) (nothing p d e) q = rw (a, b, p, d, e, and-false)
settled k true (shut p a) oy q = rw (p, a)
settled k true (nothing p a b) (good d e f) q = rw (p, a, b, d, and-false)
settled k true (nothing p a b) (other d e f) q = rw (p, a, b, d, and-false)
settled k true (nothing p a b) (shut r d) q = rw (p, a, r, d)
settled k true (nothing p a b) (nothing r d e) q = rw (p, a, b, r, d)

record Both (aux : Bool) (k : Entry) (x y : Found) (w : Fact) : Type 0 where
  unset : aux ≡ true
  first : ℕ
  second : ℕ
  x_is : x ≡ Ok first
  y_is : y ≡ Ok second
  w_is : w ≡ joined_of first second k

made-whole : (aux : Bool) (k : Entry) (x y : Found) {w : Fact} → made_of aux k x y ≡ Std.Some w → Both aux k x y w
made-whole false k x y q = absurd cc
made-whole true k (Ok v) (Ok u) q = record { unset = refl; first = v; second = u; x_is = refl; y_is = refl; w_is = cc }
made-whole true k (Ok v) (Err m) q = absurd cc
made-whole true k (Err m) y q = absurd cc

-- ---- the node

-- a number without a kind
nothing-there : (bs : List ℕ) (n : ℕ) (facts : List Fact) (z : ℤ) → looked (known_at bs n facts) Missing z ≡ Err Beyond
unfolding looked ranges_of
nothing-there bs n facts z = rw (names_nothing z)

module _ (bs : List ℕ) (n : ℕ) (facts : List Fact) (known : FactsKnown bs n facts) where
  abbrev looked_x : Option Kind → Found
  looked_x o = looked (known_at bs n facts) (operand_x o) (x_at bs (nodes_at bs + n))

  abbrev looked_y : Option Kind → Found
  looked_y o = looked (known_at bs n facts) (operand_y o) (y_at bs (nodes_at bs + n))

  abbrev x : ℤ
  x = x_at bs (nodes_at bs + n)

  abbrev y : ℤ
  y = y_at bs (nodes_at bs + n)

  abbrev aux : Bool
  aux = eqb (aux_at bs (nodes_at bs + n)) 0

  fault-tests : (k : Kind) → kind_of (kind_at bs (nodes_at bs + n)) ≡ some k
      → node_fault bs n (nodes_at bs + n)
      ≡ three_tests aux (field_allowed k.field_x x) (field_allowed k.field_y y) (field_names bs n k.field_x x) (field_names bs n k.field_y y) (field_typed bs k.field_x x) (field_typed bs k.field_y y)
  unfolding node_fault kind_fault three_tests
  fault-tests k e = rw (e, node_fault)

  -- what could not be made is refused for the right reason
  pub node-refused : (o : Option Kind) → kind_of (kind_at bs (nodes_at bs + n)) ≡ o → made_of aux (entry_of o) (looked_x o) (looked_y o) ≡ Std.None
      → node_fault bs n (nodes_at bs + n) ≡ some (fault_of (aux_at bs (nodes_at bs + n)) (entry_of o) (looked_x o) (looked_y o))
  unfolding entry_of operand_x operand_y node_fault
  node-refused none e q = rw (e, node_fault, nothing-there bs n facts x, or_true)
  node-refused (some k) e q =
      fault-tests k e
      ∙ settled (entry_of (some k)) aux (outcome k.field_x (operand bs n facts known x k.field_x)) (outcome k.field_y (operand bs n facts known y k.field_y)) q

  -- without the slot that the kind binds
  kept : (t : ℕ) → t < 16 → (f g : Field) → in_limit bs n facts f x ≡ true
      → has t (65_535 - cond (binds_in f g) (fact_at bs n facts f x).free 0) ≡ not (binder f g && eqb t (nat_abs x))
  unfolding binds_in operand_of ranges_of
  kept t l unused g b = has_all t l
  kept t l any_number g b = has_all t l
  kept t l truth_value g b = has_all t l
  kept t l (variable_number s) g b = has_all t l
  kept t l (array_number s) g b = has_all t l
  kept t l (node_number s) g b = has_all t l
  kept t l slot_number unused b = has_all t l
  kept t l slot_number any_number b = has_all t l
  kept t l slot_number truth_value b = has_all t l
  kept t l slot_number slot_number b = has_all t l
  kept t l slot_number (variable_number s) b = has_all t l
  kept t l slot_number (array_number s) b = has_all t l
  kept t l slot_number (node_number s) b =
      rw (known.slots (nat_abs x) (named_below (slot_count bs) x b)) (has-others (nat_abs x) t (omega (arith, named_below (slot_count bs) x b, known.few_slots)) l)

  -- what was made is a sound node, and its fact
  all_hold : (f : Field) {z : ℤ} → Operand bs n facts f z → in_limit bs n facts f z ≡ true → right_type bs n facts f z ≡ true
      → (field_allowed f z ≡ true) × (field_names bs n f z ≡ true) × (field_typed bs f z ≡ true)
  all_hold f o b e = (o.allowed ∙ rw (b, and-false), o.named ∙ rw (b, or_true), o.typed b ∙ e)

  module _ (h : n < node_count bs) (k : Kind) (e : kind_of (kind_at bs (nodes_at bs + n)) ≡ some k) {v u : ℕ} {w : Fact}
      (fx : (in_limit bs n facts k.field_x x ≡ true) × (right_type bs n facts k.field_x x ≡ true) × ((fact_at bs n facts k.field_x x).free ≡ v))
      (fy : (in_limit bs n facts k.field_y y ≡ true) × (right_type bs n facts k.field_y y ≡ true) × ((fact_at bs n facts k.field_y y).free ≡ u))
      (ew : w ≡ joined_of v u (entry_of (some k))) where
    no_fault : aux ≡ true → node_fault bs n (nodes_at bs + n) ≡ none
    unfolding three_tests or_else unless
    no_fault a =
        let hold-x : _ = all_hold k.field_x (operand bs n facts known x k.field_x) fx.0 fx.1 in
        let hold-y : _ = all_hold k.field_y (operand bs n facts known y k.field_y) fy.0 fy.1 in
        fault-tests k e ∙ rw (a, hold-x.0, hold-y.0, hold-x.1, hold-y.1, hold-x.2, hold-y.2)

    ox : Operand bs n facts k.field_x x
    ox = operand bs n facts known x k.field_x

    oy : Operand bs n facts k.field_y y
    oy = operand bs n facts known y k.field_y

    made-sort : w.yields ≡ sort_of (node_sort bs (pos n))
    unfolding joined_of entry_of yields_of
    made-sort = rw (ew, sort-some bs n e)

    made-free : (t : ℕ) → t < 16 → has t w.free ≡ free_in t (tree_at (node_trees bs) n)
    unfolding entry_of binds_of
    made-free t l =
        rw (ew, has-joined t v u (entry_of (some k)), ← fx.2, ← fy.2, ox.free fx.0 fx.1 t l, oy.free fy.0 fy.1 t l, kept t l k.field_x k.field_y fx.0)
        (sym (tree_free bs n h e (ox.below fx.0) (oy.below fy.0) t))

    fact : NodeFact bs n w
    fact = record { sort = made-sort; free = made-free }

  pub node_made : n < node_count bs → (o : Option Kind) → kind_of (kind_at bs (nodes_at bs + n)) ≡ o → {w : Fact}
      → made_of aux (entry_of o) (looked_x o) (looked_y o) ≡ Std.Some w → (node_fault bs n (nodes_at bs + n) ≡ none) × NodeFact bs n w
  unfolding operand_x operand_y
  node_made h none e q = absurd (no (made-whole aux (entry_of none) (looked_x none) (looked_y none) q).x_is)
    where
      no : {v : ℕ} → looked (known_at bs n facts) Missing x ≡ Ok v → ⊥
      no r = let s : looked (known_at bs n facts) Missing x ≡ Err Beyond = nothing-there bs n facts x in cc
  node_made h (some k) e q =
      let b : _ = made-whole aux (entry_of (some k)) (looked_x (some k)) (looked_y (some k)) q in
      let fx : _ = found k.field_x (operand bs n facts known x k.field_x) b.x_is in
      let fy : _ = found k.field_y (operand bs n facts known y k.field_y) b.y_is in
      (no_fault h k e fx fy b.w_is b.unset, fact h k e fx fy b.w_is)
