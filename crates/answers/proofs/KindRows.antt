-- The row of each kind by its fields: what it yields, which nodes it names, and which slots are free in its tree.
use mathlib.Core.Path.{◌≡◌, refl}
use mathlib.Core.Bool.{Bool, true, false, not, ◌&&◌, ◌||◌}
use mathlib.Core.List.{List}
use mathlib.Core.Option.{Option, none, some}
use Prim.Native.Nat.{ℕ, ◌<◌}
use lib.Dec.{eqb}
use lib.IntN.{ℤ, nat_abs}
use Rattle.language.specs.Syntax.{Sort, boolean, integer, Arithmetic, plus, minus, times, minimum, maximum, Division, quot, rem, Connective, conj, disj, implies, iff, Comparison, equal, unequal, at_most, below, Quantifier, exists, forall}
use Rattle.language.specs.Meaning.{is_one}
use Rattle.language.specs.Tables.{constant_row, variable_row, slot_row, arith_row, divide_row, negate_row, bool_to_int_row, lookup_row, sum_row, truth_row, variable_b_row, lookup_b_row, connect_row, negation_row, compare_row, quantify_row, Tree, whole, bool, tree_i, tree_b, fill, free_i, free_b, free_in}
use Rattle.language.proofs.Trees.{NamesBelow}
use Rattle.rules.specs.Soundness.{All}
use Rattle.rules.proofs.Every.{All-get_d, ◌⸴◌}
use Rattle.table.specs.Kinds.{Field, unused, any_number, truth_value, variable_number, slot_number, array_number, node_number, Kind, kinds, kind_of}

-- what a tree yields
abbrev pub tree_sort : Tree → Sort
tree_sort (whole e) = integer
tree_sort (bool e) = boolean

-- a field that names a node names one below n
abbrev pub FieldBelow : ℕ → Field → ℤ → Type 0
FieldBelow n unused z = Unit {0}
FieldBelow n any_number z = Unit {0}
FieldBelow n truth_value z = Unit {0}
FieldBelow n (variable_number t) z = Unit {0}
FieldBelow n slot_number z = Unit {0}
FieldBelow n (array_number t) z = Unit {0}
FieldBelow n (node_number t) z = nat_abs z < n

-- the slot s is free in what a field names
abbrev pub field_free : List Tree → Field → ℤ → ℕ → Bool
field_free ts unused z s = false
field_free ts any_number z s = false
field_free ts truth_value z s = false
field_free ts (variable_number t) z s = false
field_free ts slot_number z s = eqb s (nat_abs z)
field_free ts (array_number t) z s = false
field_free ts (node_number boolean) z s = free_b s (tree_b ts (nat_abs z))
field_free ts (node_number integer) z s = free_i s (tree_i ts (nat_abs z))

-- a slot and a body: the kind binds
abbrev pub binder : Field → Field → Bool
binder slot_number (node_number t) = true
binder slot_number unused = false
binder slot_number any_number = false
binder slot_number truth_value = false
binder slot_number (variable_number t) = false
binder slot_number slot_number = false
binder slot_number (array_number t) = false
binder unused y = false
binder any_number y = false
binder truth_value y = false
binder (variable_number t) y = false
binder (array_number t) y = false
binder (node_number t) y = false

pub record ByFields (k : Kind) : Type 0 where
  pub sort : (ts : List Tree) (x y : ℤ) → tree_sort (fill ts (k.row x y)) ≡ k.yields
  pub below : (n : ℕ) (x y : ℤ) → FieldBelow n k.field_x x → FieldBelow n k.field_y y → NamesBelow n (k.row x y)
  pub free : (ts : List Tree) (x y : ℤ) (s : ℕ)
      → free_in s (fill ts (k.row x y)) ≡ ((field_free ts k.field_x x s || field_free ts k.field_y y s) && not (binder k.field_x k.field_y && eqb s (nat_abs x)))

-- ---- the shapes of free slots

two : (a b : Bool) → (a || b) ≡ ((a || b) && not false)
two true b = refl
two false true = refl
two false false = refl

one : (a : Bool) → a ≡ ((a || false) && not false)
one true = refl
one false = refl

last : (b : Bool) → b ≡ ((false || b) && not false)
last true = refl
last false = refl

bound : (e b : Bool) → (not e && b) ≡ ((e || b) && not e)
bound true b = refl
bound false true = refl
bound false false = refl

-- ---- the kinds, by the rows that they are

constant-kind : ByFields (record { field_x = any_number; field_y = unused; yields = integer; row = λ x y. constant_row x })
unfolding fill free_in free_i free_b
constant-kind = record { sort = λ ts x y. refl; below = λ n x y a b. tt; free = λ ts x y s. refl }

truth-kind : ByFields (record { field_x = truth_value; field_y = unused; yields = boolean; row = λ x y. truth_row (is_one x) })
unfolding fill free_in free_i free_b
truth-kind = record { sort = λ ts x y. refl; below = λ n x y a b. tt; free = λ ts x y s. refl }

variable-kind : ByFields (record { field_x = variable_number integer; field_y = unused; yields = integer; row = λ x y. variable_row (nat_abs x) })
unfolding fill free_in free_i free_b
variable-kind = record { sort = λ ts x y. refl; below = λ n x y a b. tt; free = λ ts x y s. refl }

variable_b-kind : ByFields (record { field_x = variable_number boolean; field_y = unused; yields = boolean; row = λ x y. variable_b_row (nat_abs x) })
unfolding fill free_in free_i free_b
variable_b-kind = record { sort = λ ts x y. refl; below = λ n x y a b. tt; free = λ ts x y s. refl }

slot-kind : ByFields (record { field_x = slot_number; field_y = unused; yields = integer; row = λ x y. slot_row (nat_abs x) })
unfolding fill free_in free_i free_b
slot-kind = record { sort = λ ts x y. refl; below = λ n x y a b. tt; free = λ ts x y s. one (eqb s (nat_abs x)) }

arith-kind : (op : Arithmetic) → ByFields (record { field_x = node_number integer; field_y = node_number integer; yields = integer; row = λ x y. arith_row op (nat_abs x) (nat_abs y) })
unfolding fill free_in free_i free_b
arith-kind op = record { sort = λ ts x y. refl; below = λ n x y a b. (a, b); free = λ ts x y s. two (free_i s (tree_i ts (nat_abs x))) (free_i s (tree_i ts (nat_abs y))) }

divide-kind : (op : Division) → ByFields (record { field_x = node_number integer; field_y = node_number integer; yields = integer; row = λ x y. divide_row op (nat_abs x) (nat_abs y) })
unfolding fill free_in free_i free_b
divide-kind op = record { sort = λ ts x y. refl; below = λ n x y a b. (a, b); free = λ ts x y s. two (free_i s (tree_i ts (nat_abs x))) (free_i s (tree_i ts (nat_abs y))) }

negate-kind : ByFields (record { field_x = node_number integer; field_y = unused; yields = integer; row = λ x y. negate_row (nat_abs x) })
unfolding fill free_in free_i free_b
negate-kind = record { sort = λ ts x y. refl; below = λ n x y a b. a; free = λ ts x y s. one (free_i s (tree_i ts (nat_abs x))) }

bool_to_int-kind : ByFields (record { field_x = node_number boolean; field_y = unused; yields = integer; row = λ x y. bool_to_int_row (nat_abs x) })
unfolding fill free_in free_i free_b
bool_to_int-kind = record { sort = λ ts x y. refl; below = λ n x y a b. a; free = λ ts x y s. one (free_b s (tree_b ts (nat_abs x))) }

lookup-kind : ByFields (record { field_x = array_number integer; field_y = node_number integer; yields = integer; row = λ x y. lookup_row (nat_abs x) (nat_abs y) })
unfolding fill free_in free_i free_b
lookup-kind = record { sort = λ ts x y. refl; below = λ n x y a b. b; free = λ ts x y s. last (free_i s (tree_i ts (nat_abs y))) }

lookup_b-kind : ByFields (record { field_x = array_number boolean; field_y = node_number integer; yields = boolean; row = λ x y. lookup_b_row (nat_abs x) (nat_abs y) })
unfolding fill free_in free_i free_b
lookup_b-kind = record { sort = λ ts x y. refl; below = λ n x y a b. b; free = λ ts x y s. last (free_i s (tree_i ts (nat_abs y))) }

sum-kind : ByFields (record { field_x = slot_number; field_y = node_number integer; yields = integer; row = λ x y. sum_row (nat_abs x) (nat_abs y) })
unfolding fill free_in free_i free_b
sum-kind = record { sort = λ ts x y. refl; below = λ n x y a b. b; free = λ ts x y s. bound (eqb s (nat_abs x)) (free_i s (tree_i ts (nat_abs y))) }

connect-kind : (c : Connective) → ByFields (record { field_x = node_number boolean; field_y = node_number boolean; yields = boolean; row = λ x y. connect_row c (nat_abs x) (nat_abs y) })
unfolding fill free_in free_i free_b
connect-kind c = record { sort = λ ts x y. refl; below = λ n x y a b. (a, b); free = λ ts x y s. two (free_b s (tree_b ts (nat_abs x))) (free_b s (tree_b ts (nat_abs y))) }

negation-kind : ByFields (record { field_x = node_number boolean; field_y = unused; yields = boolean; row = λ x y. negation_row (nat_abs x) })
unfolding fill free_in free_i free_b
negation-kind = record { sort = λ ts x y. refl; below = λ n x y a b. a; free = λ ts x y s. one (free_b s (tree_b ts (nat_abs x))) }

compare-kind : (c : Comparison) → ByFields (record { field_x = node_number integer; field_y = node_number integer; yields = boolean; row = λ x y. compare_row c (nat_abs x) (nat_abs y) })
unfolding fill free_in free_i free_b
compare-kind c = record { sort = λ ts x y. refl; below = λ n x y a b. (a, b); free = λ ts x y s. two (free_i s (tree_i ts (nat_abs x))) (free_i s (tree_i ts (nat_abs y))) }

quantify-kind : (q : Quantifier) → ByFields (record { field_x = slot_number; field_y = node_number boolean; yields = boolean; row = λ x y. quantify_row q (nat_abs x) (nat_abs y) })
unfolding fill free_in free_i free_b
quantify-kind q = record { sort = λ ts x y. refl; below = λ n x y a b. b; free = λ ts x y s. bound (eqb s (nat_abs x)) (free_b s (tree_b ts (nat_abs y))) }

-- ---- every kind

-- an entry of the table
abbrev EntryByFields : Option Kind → Type 0
EntryByFields none = Unit {0}
EntryByFields (some k) = ByFields k

every-kind : All EntryByFields kinds
unfolding kinds
every-kind =
    tt  -- 0
    ⸴ constant-kind  -- 1
    ⸴ truth-kind  -- 2
    ⸴ variable-kind  -- 3
    ⸴ variable_b-kind  -- 4
    ⸴ slot-kind  -- 5
    ⸴ arith-kind plus  -- 6
    ⸴ arith-kind minus  -- 7
    ⸴ arith-kind times  -- 8
    ⸴ divide-kind quot  -- 9
    ⸴ divide-kind rem  -- 10
    ⸴ negate-kind  -- 11
    ⸴ arith-kind minimum  -- 12
    ⸴ arith-kind maximum  -- 13
    ⸴ bool_to_int-kind  -- 14
    ⸴ lookup-kind  -- 15
    ⸴ lookup_b-kind  -- 16
    ⸴ sum-kind  -- 17
    ⸴ tt  -- 18
    ⸴ tt  -- 19
    ⸴ connect-kind conj  -- 20
    ⸴ connect-kind disj  -- 21
    ⸴ connect-kind implies  -- 22
    ⸴ connect-kind iff  -- 23
    ⸴ negation-kind  -- 24
    ⸴ compare-kind equal  -- 25
    ⸴ compare-kind unequal  -- 26
    ⸴ compare-kind at_most  -- 27
    ⸴ compare-kind below  -- 28
    ⸴ quantify-kind exists  -- 29
    ⸴ quantify-kind forall  -- 30
    ⸴ tt

-- So it is with a kind that exists.
pub by_fields : (n : ℕ) {k : Kind} → kind_of n ≡ some k → ByFields k
unfolding kind_of
by_fields n e = rw e at (All-get_d EntryByFields kinds none every-kind tt n)
