-- A table's nodes as rows, each over node numbers, and the tree that each row stands for.
use Rattle.std.specs.Prelude.{ℕ, Bool, false, not, ◌&&◌, ◌||◌, List, [], ◌∷◌, ◌++◌, eqb, ℤ, pos, get_or}
use Rattle.language.specs.Syntax.{Arithmetic, Division, Connective, Comparison, Quantifier, IExp, constant, variable, slot, arith, divide, negate, bool_to_int, lookup, sum, iref, BExp, truth, variable_b, lookup_b, connect, negation, compare, quantify, bref}

-- A node: what it does and which variables, slots, arrays and earlier nodes it names.
pub data Row : Type 0 where
  constant_row : ℤ → Row
  variable_row : ℕ → Row
  slot_row : ℕ → Row
  arith_row : Arithmetic → ℕ → ℕ → Row
  divide_row : Division → ℕ → ℕ → Row
  negate_row : ℕ → Row
  bool_to_int_row : ℕ → Row
  lookup_row : ℕ → ℕ → Row
  sum_row : ℕ → ℕ → Row
  truth_row : Bool → Row
  variable_b_row : ℕ → Row
  lookup_b_row : ℕ → ℕ → Row
  connect_row : Connective → ℕ → ℕ → Row
  negation_row : ℕ → Row
  compare_row : Comparison → ℕ → ℕ → Row
  quantify_row : Quantifier → ℕ → ℕ → Row

-- a node with all that stands below it
pub data Tree : Type 0 where
  whole : IExp ⊥ → Tree
  bool : BExp ⊥ → Tree

-- A node of the other type is met in no sound table: it reads as 0, or as false.
unfoldable pub as_i : Tree → IExp ⊥
as_i (whole e) = e
as_i (bool e) = constant (pos 0)

unfoldable pub as_b : Tree → BExp ⊥
as_b (whole e) = truth false
as_b (bool e) = e

unfoldable pub tree_at : List Tree → ℕ → Tree
tree_at ts k = get_or ts k (whole (constant (pos 0)))

unfoldable pub tree_i : List Tree → ℕ → IExp ⊥
tree_i ts k = as_i (tree_at ts k)

unfoldable pub tree_b : List Tree → ℕ → BExp ⊥
tree_b ts k = as_b (tree_at ts k)

-- a row's tree, from the trees of the rows before it: "An operand node has a smaller number than its user."
unfoldable pub fill : List Tree → Row → Tree
fill ts (constant_row z) = whole (constant z)
fill ts (variable_row v) = whole (variable v)
fill ts (slot_row s) = whole (slot s)
fill ts (arith_row op a b) = whole (arith op (tree_i ts a) (tree_i ts b))
fill ts (divide_row op a b) = whole (divide op (tree_i ts a) (tree_i ts b))
fill ts (negate_row a) = whole (negate (tree_i ts a))
fill ts (bool_to_int_row a) = whole (bool_to_int (tree_b ts a))
fill ts (lookup_row A i) = whole (lookup A (tree_i ts i))
fill ts (sum_row s a) = whole (sum s (tree_i ts a))
fill ts (truth_row b) = bool (truth b)
fill ts (variable_b_row v) = bool (variable_b v)
fill ts (lookup_b_row A i) = bool (lookup_b A (tree_i ts i))
fill ts (connect_row c a b) = bool (connect c (tree_b ts a) (tree_b ts b))
fill ts (negation_row a) = bool (negation (tree_b ts a))
fill ts (compare_row c a b) = bool (compare c (tree_i ts a) (tree_i ts b))
fill ts (quantify_row q s a) = bool (quantify q s (tree_b ts a))

-- the trees of more rows behind those of the rows before them
unfoldable pub trees_after : List Tree → List Row → List Tree
trees_after ts [] = ts
trees_after ts (r ∷ rs) = trees_after (ts ++ (fill ts r ∷ [])) rs

-- the tree of each node of a table
unfoldable pub trees : List Row → List Tree
trees rs = trees_after [] rs

-- ---- free slots

-- "A quantifier binds its slot in its body": the slot t is free in an expression
unfoldable mutual
  pub free_i : ℕ → IExp ⊥ → Bool
  free_i t (constant z) = false
  free_i t (variable v) = false
  free_i t (slot s) = eqb t s
  free_i t (arith op a b) = free_i t a || free_i t b
  free_i t (divide op a b) = free_i t a || free_i t b
  free_i t (negate a) = free_i t a
  free_i t (bool_to_int a) = free_b t a
  free_i t (lookup A i) = free_i t i
  free_i t (sum s a) = not (eqb t s) && free_i t a
  free_i t (iref r) = absurd r

  pub free_b : ℕ → BExp ⊥ → Bool
  free_b t (truth b) = false
  free_b t (variable_b v) = false
  free_b t (lookup_b A i) = free_i t i
  free_b t (connect c a b) = free_b t a || free_b t b
  free_b t (negation a) = free_b t a
  free_b t (compare c a b) = free_i t a || free_i t b
  free_b t (quantify q s a) = not (eqb t s) && free_b t a
  free_b t (bref r) = absurd r

unfoldable pub free_in : ℕ → Tree → Bool
free_in t (whole e) = free_i t e
free_in t (bool e) = free_b t e
