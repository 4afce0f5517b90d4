-- What demand 3 takes for granted of a table, and of an assignment and a setting of the slots. The check gives the first:
-- declarations within the limits, "an operand node has a smaller number than its user" and the type that its user asks for.
use Rattle.std.specs.Prelude.{◌≡◌, ℕ, ◌≤◌, ◌<◌, true, List, [], ◌∷◌, ◌++◌, T, ℤ, nat_abs, length, get_or, ◌≤ℤ◌}
use Rattle.numbers.specs.Limits.{most_elements, reach}
use Rattle.language.specs.Syntax.{Sort, boolean, integer, Element, fixed, of_variable, Array, Declarations}
use Rattle.language.specs.Tables.{Row, constant_row, variable_row, slot_row, arith_row, divide_row, negate_row, bool_to_int_row, lookup_row, sum_row, truth_row, variable_b_row, lookup_b_row, connect_row, negation_row, compare_row, quantify_row, Tree}
use Rattle.language.specs.Meaning.{Assignment, Setting, value_of, slot_at, array_at}
use Rattle.rules.specs.Bounds.{Interval, variable_at, variable_interval, slot_interval, within_bounds}

-- z lies in the interval
pub record Within (i : Interval) (z : ℤ) : Type 0 where
  pub above : i.low ≤ℤ z
  pub below : z ≤ℤ i.high

-- "any assignment within the domains", and a setting that gives each slot a value of its interval: "x..x for an empty range"
pub record Fits (Γ : Declarations) (α : Assignment) (σ : Setting) : Type 0 where
  pub variables : (v : ℕ) → v < length Γ.variables → Within (variable_interval Γ v) (value_of α v)
  pub slots : (s : ℕ) → s < length Γ.slots → Within (slot_interval (slot_at Γ s)) (σ s)

-- ---- declarations

-- a variable of that number is declared, with that type
pub record IsVariable (Γ : Declarations) (t : Sort) (v : ℕ) : Type 0 where
  pub declared : v < length Γ.variables
  pub typed : (variable_at Γ v).sort ≡ t

-- "An element that is a variable has its array's type."
abbrev pub ElementFits : Declarations → Sort → Element → Type 0
ElementFits Γ t (fixed z) = Unit {0}
ElementFits Γ t (of_variable v) = IsVariable Γ t v

abbrev pub All : {A : Type 0} → (A → Type 0) → List A → Type 0
All P [] = Unit {0}
All P (x ∷ xs) = P x × All P xs

-- "first index x within ±1,000,000,000, y elements, 1 to 1,024"
pub record ArrayFits (Γ : Declarations) (A : Array) : Type 0 where
  pub near : nat_abs A.first ≤ reach
  pub some_element : 1 ≤ length A.elements
  pub few : length A.elements ≤ most_elements
  pub typed : All (ElementFits Γ A.sort) A.elements

pub record Declared (Γ : Declarations) : Type 0 where
  pub arrays : All (ArrayFits Γ) Γ.arrays

-- ---- rows

-- what a row yields
unfoldable pub sort_of : Row → Sort
sort_of (constant_row z) = integer
sort_of (variable_row v) = integer
sort_of (slot_row s) = integer
sort_of (arith_row op a b) = integer
sort_of (divide_row op a b) = integer
sort_of (negate_row a) = integer
sort_of (bool_to_int_row a) = integer
sort_of (lookup_row A i) = integer
sort_of (sum_row s a) = integer
sort_of (truth_row b) = boolean
sort_of (variable_b_row v) = boolean
sort_of (lookup_b_row A i) = boolean
sort_of (connect_row c a b) = boolean
sort_of (negation_row a) = boolean
sort_of (compare_row c a b) = boolean
sort_of (quantify_row q s a) = boolean

-- an earlier node of that type
pub record IsNode (before : List Row) (t : Sort) (k : ℕ) : Type 0 where
  pub earlier : k < length before
  pub typed : sort_of (get_or before k (truth_row true)) ≡ t

pub record IsArray (Γ : Declarations) (t : Sort) (A : ℕ) : Type 0 where
  pub declared : A < length Γ.arrays
  pub typed : (array_at Γ A).sort ≡ t

abbrev pub IsSlot : Declarations → ℕ → Type 0
IsSlot Γ s = s < length Γ.slots

-- what a row names is declared or stands before it, with the type that it asks for
abbrev pub RowFits : Declarations → List Row → Row → Type 0
RowFits Γ before (constant_row z) = Unit {0}
RowFits Γ before (variable_row v) = IsVariable Γ integer v
RowFits Γ before (slot_row s) = IsSlot Γ s
RowFits Γ before (arith_row op a b) = IsNode before integer a × IsNode before integer b
RowFits Γ before (divide_row op a b) = IsNode before integer a × IsNode before integer b
RowFits Γ before (negate_row a) = IsNode before integer a
RowFits Γ before (bool_to_int_row a) = IsNode before boolean a
RowFits Γ before (lookup_row A i) = IsArray Γ integer A × IsNode before integer i
RowFits Γ before (sum_row s a) = IsSlot Γ s × IsNode before integer a
RowFits Γ before (truth_row b) = Unit {0}
RowFits Γ before (variable_b_row v) = IsVariable Γ boolean v
RowFits Γ before (lookup_b_row A i) = IsArray Γ boolean A × IsNode before integer i
RowFits Γ before (connect_row c a b) = IsNode before boolean a × IsNode before boolean b
RowFits Γ before (negation_row a) = IsNode before boolean a
RowFits Γ before (compare_row c a b) = IsNode before integer a × IsNode before integer b
RowFits Γ before (quantify_row q s a) = IsSlot Γ s × IsNode before boolean a

-- every row behind those before it
abbrev pub RowsFit : Declarations → List Row → List Row → Type 0
RowsFit Γ before [] = Unit {0}
RowsFit Γ before (r ∷ rs) = RowFits Γ before r × RowsFit Γ (before ++ (r ∷ [])) rs

pub record WellFormed (Γ : Declarations) (rows : List Row) : Type 0 where
  pub declared : Declared Γ
  pub rows_fit : RowsFit Γ [] rows

-- no interval of the table is beyond the limit
abbrev pub Bounded : Declarations → List Tree → Type 0
Bounded Γ ts = All (λ t. T (within_bounds Γ t)) ts
