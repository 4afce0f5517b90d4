-- The language: document 000's E with document 01's additions. Integer expressions and Boolean expressions, operators grouped
-- as document 01 groups them, and the declarations that they stand over.
--
-- `R` is what a reference may be: a node number in a formula of the translation, nothing at all (⊥) in a tree.
use Rattle.std.specs.Prelude.{ℕ, Bool, List, ℤ}

-- add, subtract, multiply, min, max
pub data Arithmetic : Type 0 where
  plus minus times minimum maximum : Arithmetic

-- div, mod: undefined for divisor 0
pub data Division : Type 0 where
  quot rem : Division

-- and, or, implies, iff
pub data Connective : Type 0 where
  conj disj implies iff : Connective

-- =, ≠, ≤, <
pub data Comparison : Type 0 where
  equal unequal at_most below : Comparison

-- exists, forall
pub data Quantifier : Type 0 where
  exists forall : Quantifier

mutual
  -- expressions that yield an integer
  pub data IExp (R : Type 0) : Type 0 where
    constant : ℤ → IExp R
    variable : ℕ → IExp R
    slot : ℕ → IExp R
    arith : Arithmetic → IExp R → IExp R → IExp R
    divide : Division → IExp R → IExp R → IExp R
    negate : IExp R → IExp R
    bool_to_int : BExp R → IExp R
    -- the array of that number at an index
    lookup : ℕ → IExp R → IExp R
    -- over the slot of that number, of a body
    sum : ℕ → IExp R → IExp R
    iref : R → IExp R

  -- expressions that yield a truth value
  pub data BExp (R : Type 0) : Type 0 where
    truth : Bool → BExp R
    variable_b : ℕ → BExp R
    lookup_b : ℕ → IExp R → BExp R
    connect : Connective → BExp R → BExp R → BExp R
    negation : BExp R → BExp R
    compare : Comparison → IExp R → IExp R → BExp R
    quantify : Quantifier → ℕ → BExp R → BExp R
    bref : R → BExp R

-- ---- declarations

-- what a variable, an array or a node yields
pub data Sort : Type 0 where
  boolean integer : Sort

-- a variable and its domain x..y
pub record Variable : Type 0 where
  pub sort : Sort
  pub low : ℤ
  pub high : ℤ

-- a quantified slot x..y, "empty if y < x"
pub record Slot : Type 0 where
  pub low : ℤ
  pub high : ℤ

-- "constant x", "variable number x"
pub data Element : Type 0 where
  fixed : ℤ → Element
  of_variable : ℕ → Element

-- an array: its first index and its elements
pub record Array : Type 0 where
  pub sort : Sort
  pub first : ℤ
  pub elements : List Element

-- "Variables, slots, arrays and nodes are each numbered from 0"
pub record Declarations : Type 0 where
  pub variables : List Variable
  pub slots : List Slot
  pub arrays : List Array
