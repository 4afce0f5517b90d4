-- The steps of a node by its kind's shape.
use mathlib.Core.Path.{◌≡◌, refl}
use Prim.Native.Nat.{ℕ, ◌+◌, ◌*◌}
use mathlib.Core.List.{List}
use mathlib.Core.Option.{Option, none, some}
use lib.IntN.{ℤ, nat_abs}
use Rattle.language.specs.Syntax.{boolean, integer, Declarations}
use Rattle.language.specs.Tables.{Tree, tree_i, tree_b, fill}
use Rattle.language.specs.Meaning.{slot_at, count}
use Rattle.language.specs.Steps.{cost_i, cost_b, cost}
use Rattle.rules.specs.Soundness.{All}
use Rattle.rules.proofs.Every.{All-get_d, ◌⸴◌}
use Rattle.table.specs.Kinds.{Field, unused, any_number, truth_value, variable_number, slot_number, array_number, node_number, Kind, kinds, kind_of}
use Rattle.steps.specs.declared.Shape.{Shape}
use Rattle.steps.specs.declared.Shape.TheVariants.{Leaf, OfX, OfY, OfBoth, OfRange}
use Rattle.steps.specs.Capped.{capped}
use Rattle.steps.specs.Shapes.{names_node, names_slot, shape_of}
use Rattle.steps.proofs.Caps.{capped-plus, capped-both, capped-times}

-- the steps that a node takes over from its operands' a and b and the number of its slot's values
abbrev pub taken_over : Shape → ℕ → ℕ → ℕ → ℕ
taken_over Leaf a b values = 0
taken_over OfX a b values = a
taken_over OfY a b values = b
taken_over OfBoth a b values = a + b
taken_over OfRange a b values = values * b

module _ (Γ : Declarations) (ts : List Tree) where
  -- where a field names a node, a is that node's capped steps
  abbrev pub FieldKept : Field → ℤ → ℕ → Type 0
  FieldKept unused z a = Unit {0}
  FieldKept any_number z a = Unit {0}
  FieldKept truth_value z a = Unit {0}
  FieldKept (variable_number t) z a = Unit {0}
  FieldKept slot_number z a = Unit {0}
  FieldKept (array_number t) z a = Unit {0}
  FieldKept (node_number boolean) z a = a ≡ capped (cost_b Γ (tree_b ts (nat_abs z)))
  FieldKept (node_number integer) z a = a ≡ capped (cost_i Γ (tree_i ts (nat_abs z)))

-- The steps of a node of this kind, from those kept of its operands.
pub record KindSteps (k : Kind) : Type 0 where
  pub steps : (Γ : Declarations) (ts : List Tree) (x y : ℤ) (a b : ℕ) → FieldKept Γ ts k.field_x x a → FieldKept Γ ts k.field_y y b
      → capped (1 + taken_over (shape_of (some k)) a b (count (slot_at Γ (nat_abs x)))) ≡ capped (cost Γ (fill ts (k.row x y)))

abbrev EntrySteps : Option Kind → Type 0
EntrySteps none = Unit {0}
EntrySteps (some k) = KindSteps k

-- ---- an operand, two operands, a body

one : {a : ℕ} (c : ℕ) → a ≡ capped c → capped (1 + a) ≡ capped (1 + c)
one c e = rw e (capped-plus 1 c)

two : {a b : ℕ} (c d : ℕ) → a ≡ capped c → b ≡ capped d → capped (1 + (a + b)) ≡ capped (1 + (c + d))
two c d e f = rw (e, f) (capped-both 1 c d)

body : (n : ℕ) {b : ℕ} (d : ℕ) → b ≡ capped d → capped (1 + n * b) ≡ capped (1 + n * d)
body n d f = rw f (capped-times 1 n d)

module _ (Γ : Declarations) (ts : List Tree) (z : ℤ) where
  -- the steps of the integer or Boolean node that z names, and how many values the slot has that it names
  abbrev I : ℕ
  I = cost_i Γ (tree_i ts (nat_abs z))

  abbrev B : ℕ
  B = cost_b Γ (tree_b ts (nat_abs z))

  abbrev values : ℕ
  values = count (slot_at Γ (nat_abs z))

kinds-steps : All EntrySteps kinds
unfolding kinds shape_of names_node names_slot cost cost_i cost_b fill
kinds-steps =
    tt  -- 0
    ⸴ record { steps = λ Γ ts x y a b e f. refl }  -- 1
    ⸴ record { steps = λ Γ ts x y a b e f. refl }  -- 2
    ⸴ record { steps = λ Γ ts x y a b e f. refl }  -- 3
    ⸴ record { steps = λ Γ ts x y a b e f. refl }  -- 4
    ⸴ record { steps = λ Γ ts x y a b e f. refl }  -- 5
    ⸴ record { steps = λ Γ ts x y a b e f. two (I Γ ts x) (I Γ ts y) e f }  -- 6
    ⸴ record { steps = λ Γ ts x y a b e f. two (I Γ ts x) (I Γ ts y) e f }  -- 7
    ⸴ record { steps = λ Γ ts x y a b e f. two (I Γ ts x) (I Γ ts y) e f }  -- 8
    ⸴ record { steps = λ Γ ts x y a b e f. two (I Γ ts x) (I Γ ts y) e f }  -- 9
    ⸴ record { steps = λ Γ ts x y a b e f. two (I Γ ts x) (I Γ ts y) e f }  -- 10
    ⸴ record { steps = λ Γ ts x y a b e f. one (I Γ ts x) e }  -- 11
    ⸴ record { steps = λ Γ ts x y a b e f. two (I Γ ts x) (I Γ ts y) e f }  -- 12
    ⸴ record { steps = λ Γ ts x y a b e f. two (I Γ ts x) (I Γ ts y) e f }  -- 13
    ⸴ record { steps = λ Γ ts x y a b e f. one (B Γ ts x) e }  -- 14
    ⸴ record { steps = λ Γ ts x y a b e f. one (I Γ ts y) f }  -- 15
    ⸴ record { steps = λ Γ ts x y a b e f. one (I Γ ts y) f }  -- 16
    ⸴ record { steps = λ Γ ts x y a b e f. body (values Γ ts x) (I Γ ts y) f }  -- 17
    ⸴ tt  -- 18
    ⸴ tt  -- 19
    ⸴ record { steps = λ Γ ts x y a b e f. two (B Γ ts x) (B Γ ts y) e f }  -- 20
    ⸴ record { steps = λ Γ ts x y a b e f. two (B Γ ts x) (B Γ ts y) e f }  -- 21
    ⸴ record { steps = λ Γ ts x y a b e f. two (B Γ ts x) (B Γ ts y) e f }  -- 22
    ⸴ record { steps = λ Γ ts x y a b e f. two (B Γ ts x) (B Γ ts y) e f }  -- 23
    ⸴ record { steps = λ Γ ts x y a b e f. one (B Γ ts x) e }  -- 24
    ⸴ record { steps = λ Γ ts x y a b e f. two (I Γ ts x) (I Γ ts y) e f }  -- 25
    ⸴ record { steps = λ Γ ts x y a b e f. two (I Γ ts x) (I Γ ts y) e f }  -- 26
    ⸴ record { steps = λ Γ ts x y a b e f. two (I Γ ts x) (I Γ ts y) e f }  -- 27
    ⸴ record { steps = λ Γ ts x y a b e f. two (I Γ ts x) (I Γ ts y) e f }  -- 28
    ⸴ record { steps = λ Γ ts x y a b e f. body (values Γ ts x) (B Γ ts y) f }  -- 29
    ⸴ record { steps = λ Γ ts x y a b e f. body (values Γ ts x) (B Γ ts y) f }  -- 30
    ⸴ tt

pub kind-steps : (n : ℕ) {k : Kind} → kind_of n ≡ some k → KindSteps k
unfolding kind_of
kind-steps n e = rw e at (All-get_d EntrySteps kinds none kinds-steps tt n)
