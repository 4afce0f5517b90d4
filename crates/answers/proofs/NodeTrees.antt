-- The tree of each node record: what it yields, and which slots are free in it.
use mathlib.Core.Path.{◌≡◌, refl, ap, ◌∙◌}
use mathlib.Core.Bool.{false, not, ◌&&◌, ◌||◌}
use mathlib.Core.List.{List}
use mathlib.Core.Option.{Option, none, some}
use Prim.Native.Nat.{ℕ, ◌+◌, ◌<◌}
use lib.Dec.{eqb}
use lib.IntN.{pos, nat_abs}
use lib.ListN.{get_or, take}
use Rattle.language.specs.Syntax.{boolean, integer}
use Rattle.language.specs.Tables.{truth_row, Tree, whole, bool, tree_at, as_i, as_b, fill, trees, free_i, free_b, free_in}
use Rattle.language.proofs.Trees.{tree_at-take, tree-at}
use Rattle.table.specs.Records.{kind_at, x_at, y_at}
use Rattle.table.specs.Kinds.{Kind, kind_of, row_in}
use Rattle.answers.specs.Sections.{nodes_at, node_count, row_of, rows, node_trees}
use Rattle.answers.specs.Check.{node_sort}
use Rattle.answers.proofs.Declared.{length-rows, get_d_rows}
use Rattle.answers.proofs.KindRows.{tree_sort, FieldBelow, field_free, binder, by_fields}

-- a tree of the type that is asked for is taken as it is
pub free-integer : (t : Tree) (s : ℕ) → tree_sort t ≡ integer → free_i s (as_i t) ≡ free_in s t
unfolding as_i free_in
free-integer (whole e) s q = refl
free-integer (bool e) s q = cc

pub free-boolean : (t : Tree) (s : ℕ) → tree_sort t ≡ boolean → free_b s (as_b t) ≡ free_in s t
unfolding as_b free_in
free-boolean (whole e) s q = cc
free-boolean (bool e) s q = refl

module _ (bs : List ℕ) where
  row-none : (p : ℕ) → kind_of (kind_at bs p) ≡ none → row_of bs p ≡ truth_row false
  unfolding row_of row_in
  row-none p e = rw (e, row_of, row_in)

  pub row-some : (p : ℕ) {k : Kind} → kind_of (kind_at bs p) ≡ some k → row_of bs p ≡ k.row (x_at bs p) (y_at bs p)
  unfolding row_of row_in
  row-some p e = rw (e, row_of, row_in)

  sort-none : (n : ℕ) → kind_of (kind_at bs (nodes_at bs + n)) ≡ none → node_sort bs (pos n) ≡ boolean
  unfolding node_sort
  sort-none n e = rw (e, node_sort)

  pub sort-some : (n : ℕ) {k : Kind} → kind_of (kind_at bs (nodes_at bs + n)) ≡ some k → node_sort bs (pos n) ≡ k.yields
  unfolding node_sort
  sort-some n e = rw (e, node_sort)

  module _ (n : ℕ) (h : n < node_count bs) where
    -- a node yields what its kind says
    pub tree-sort : tree_sort (tree_at (node_trees bs) n) ≡ node_sort bs (pos n)
    unfolding node_trees fill
    tree-sort =
        ap tree_sort (tree_at-take (rows bs) n (truth_row false) (rw (length-rows bs) h) ∙ ap (fill (trees (take n (rows bs)))) (get_d_rows bs n (truth_row false) h))
        ∙ go (kind_of (kind_at bs (nodes_at bs + n))) refl
      where
        go : (o : Option Kind) → kind_of (kind_at bs (nodes_at bs + n)) ≡ o
            → tree_sort (fill (trees (take n (rows bs))) (row_of bs (nodes_at bs + n))) ≡ node_sort bs (pos n)
        go none e = rw (row-none (nodes_at bs + n) e, sort-none n e)
        go (some k) e =
            rw (row-some (nodes_at bs + n) e, sort-some n e)
            ((by_fields (kind_at bs (nodes_at bs + n)) e).sort (trees (take n (rows bs))) (x_at bs (nodes_at bs + n)) (y_at bs (nodes_at bs + n)))

    module _ {k : Kind} (e : kind_of (kind_at bs (nodes_at bs + n)) ≡ some k) (bx : FieldBelow n k.field_x (x_at bs (nodes_at bs + n)))
        (by : FieldBelow n k.field_y (y_at bs (nodes_at bs + n))) where
      this_row : get_or (rows bs) n (truth_row false) ≡ k.row (x_at bs (nodes_at bs + n)) (y_at bs (nodes_at bs + n))
      this_row = get_d_rows bs n (truth_row false) h ∙ row-some (nodes_at bs + n) e

      -- the free slots of a node, by its fields
      pub tree_free : (s : ℕ) → free_in s (tree_at (node_trees bs) n)
          ≡ ((field_free (node_trees bs) k.field_x (x_at bs (nodes_at bs + n)) s || field_free (node_trees bs) k.field_y (y_at bs (nodes_at bs + n)) s)
          && not (binder k.field_x k.field_y && eqb s (nat_abs (x_at bs (nodes_at bs + n)))))
      unfolding node_trees
      tree_free s =
          ap (free_in s)
          (tree-at (rows bs) n (truth_row false) (rw (length-rows bs) h) (rw this_row ((by_fields (kind_at bs (nodes_at bs + n)) e).below n _ _ bx by))
          ∙ ap (fill (trees (rows bs))) this_row)
          ∙ (by_fields (kind_at bs (nodes_at bs + n)) e).free (trees (rows bs)) (x_at bs (nodes_at bs + n)) (y_at bs (nodes_at bs + n)) s
