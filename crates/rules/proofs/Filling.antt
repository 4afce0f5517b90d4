-- What a formula stands for, computed: each reference is replaced by the tree that it names. So for every formula whose names are right,
-- the tree at the root of what is written is the formula so filled, the rows written fit, and the root has the formula's type.
use Prim.Native.Nat.{ℕ}
use mathlib.Core.List.{List}
use lib.ListN.{length}
use Rattle.language.specs.Syntax.{boolean, integer, IExp, constant, variable, slot, arith, divide, negate, bool_to_int, lookup, sum, iref, BExp, truth, variable_b, lookup_b, connect, negation, compare, quantify, bref, Declarations}
use Rattle.language.specs.Tables.{Row, Tree, whole, bool, tree_i, tree_b, trees}
use Rattle.rules.specs.Soundness.{IsVariable, IsArray, IsSlot, IsNode}
use Rattle.rules.specs.Writing.{write_i, write_b}
use Rattle.rules.proofs.Nodes.{IsNode→HasTree-whole, IsNode→HasTree-bool}
use Rattle.rules.proofs.Stands.{StandsI, constant-stands, variable-stands, slot-stands, arith-stands, divide-stands, negate-stands, bool_to_int-stands, lookup-stands, sum-stands, iref-stands, StandsB, truth-stands, variable_b-stands, lookup_b-stands, connect-stands, negation-stands, compare-stands, quantify-stands, bref-stands}
use Rattle.rules.proofs.WrittenOut.{WrittenOut, written-I, written-B}

-- a formula with the trees that its references name
unfoldable mutual
  pub fill_i : List Tree → IExp ℕ → IExp ⊥
  fill_i ts (constant z) = constant z
  fill_i ts (variable v) = variable v
  fill_i ts (slot s) = slot s
  fill_i ts (arith op f g) = arith op (fill_i ts f) (fill_i ts g)
  fill_i ts (divide op f g) = divide op (fill_i ts f) (fill_i ts g)
  fill_i ts (negate f) = negate (fill_i ts f)
  fill_i ts (bool_to_int f) = bool_to_int (fill_b ts f)
  fill_i ts (lookup A f) = lookup A (fill_i ts f)
  fill_i ts (sum s f) = sum s (fill_i ts f)
  fill_i ts (iref k) = tree_i ts k

  pub fill_b : List Tree → BExp ℕ → BExp ⊥
  fill_b ts (truth b) = truth b
  fill_b ts (variable_b v) = variable_b v
  fill_b ts (lookup_b A f) = lookup_b A (fill_i ts f)
  fill_b ts (connect c f g) = connect c (fill_b ts f) (fill_b ts g)
  fill_b ts (negation f) = negation (fill_b ts f)
  fill_b ts (compare c f g) = compare c (fill_i ts f) (fill_i ts g)
  fill_b ts (quantify q s f) = quantify q s (fill_b ts f)
  fill_b ts (bref k) = tree_b ts k

module _ (Γ : Declarations) (rows : List Row) where
  -- what a formula names is declared, or a node of the rows, with the type that it asks for
  unfoldable mutual
    pub NamesI : IExp ℕ → Type 0
    NamesI (constant z) = Unit {0}
    NamesI (variable v) = IsVariable Γ integer v
    NamesI (slot s) = IsSlot Γ s
    NamesI (arith op f g) = NamesI f × NamesI g
    NamesI (divide op f g) = NamesI f × NamesI g
    NamesI (negate f) = NamesI f
    NamesI (bool_to_int f) = NamesB f
    NamesI (lookup A f) = IsArray Γ integer A × NamesI f
    NamesI (sum s f) = IsSlot Γ s × NamesI f
    NamesI (iref k) = IsNode rows integer k

    pub NamesB : BExp ℕ → Type 0
    NamesB (truth b) = Unit {0}
    NamesB (variable_b v) = IsVariable Γ boolean v
    NamesB (lookup_b A f) = IsArray Γ boolean A × NamesI f
    NamesB (connect c f g) = NamesB f × NamesB g
    NamesB (negation f) = NamesB f
    NamesB (compare c f g) = NamesI f × NamesI g
    NamesB (quantify q s f) = IsSlot Γ s × NamesB f
    NamesB (bref k) = IsNode rows boolean k

  mutual
    unfolding fill_i NamesI

    -- A formula whose names are right stands for itself, filled.
    fill_i-stands : (f : IExp ℕ) → NamesI f → StandsI Γ rows f (fill_i (trees rows) f)
    fill_i-stands (constant z) h = constant-stands
    fill_i-stands (variable v) h = variable-stands h
    fill_i-stands (slot s) h = slot-stands h
    fill_i-stands (arith op f g) h = arith-stands (fill_i-stands f h.0) (fill_i-stands g h.1)
    fill_i-stands (divide op f g) h = divide-stands (fill_i-stands f h.0) (fill_i-stands g h.1)
    fill_i-stands (negate f) h = negate-stands (fill_i-stands f h)
    fill_i-stands (bool_to_int f) h = bool_to_int-stands (fill_b-stands f h)
    fill_i-stands (lookup A f) h = lookup-stands h.0 (fill_i-stands f h.1)
    fill_i-stands (sum s f) h = sum-stands h.0 (fill_i-stands f h.1)
    fill_i-stands (iref k) h = iref-stands (IsNode→HasTree-whole h)

    fill_b-stands : (f : BExp ℕ) → NamesB f → StandsB Γ rows f (fill_b (trees rows) f)
    fill_b-stands (truth b) h = truth-stands
    fill_b-stands (variable_b v) h = variable_b-stands h
    fill_b-stands (lookup_b A f) h = lookup_b-stands h.0 (fill_i-stands f h.1)
    fill_b-stands (connect c f g) h = connect-stands (fill_b-stands f h.0) (fill_b-stands g h.1)
    fill_b-stands (negation f) h = negation-stands (fill_b-stands f h)
    fill_b-stands (compare c f g) h = compare-stands (fill_i-stands f h.0) (fill_i-stands g h.1)
    fill_b-stands (quantify q s f) h = quantify-stands h.0 (fill_b-stands f h.1)
    fill_b-stands (bref k) h = bref-stands (IsNode→HasTree-bool h)

  -- An integer formula is written out right,
  pub write_i-fill_i : (f : IExp ℕ) → NamesI f → WrittenOut Γ rows (whole (fill_i (trees rows) f)) (write_i f (length rows))
  write_i-fill_i f h = written-I Γ rows (fill_i-stands f h) rows (λ k t n. n)

  -- and so is a Boolean one.
  pub write_b-fill_b : (f : BExp ℕ) → NamesB f → WrittenOut Γ rows (bool (fill_b (trees rows) f)) (write_b f (length rows))
  write_b-fill_b f h = written-B Γ rows (fill_b-stands f h) rows (λ k t n. n)
