-- Adding rows to a table: the rows added fit behind those before, and with what is asked for beside it, a table of total trees stays one.
use mathlib.Core.Path.{◌≡◌}
use mathlib.Core.List.{List, [], ◌∷◌, ◌++◌, append-nil, append_assoc}
use lib.Seq.{append_snoc}
use Rattle.language.specs.Syntax.{Declarations}
use Rattle.language.specs.Tables.{Row, Tree, fill, trees}
use Rattle.language.specs.Meaning.{Assignment}
use Rattle.language.proofs.Trees.{trees-snoc}
use Rattle.rules.specs.Soundness.{All, RowFits, RowsFit}
use Rattle.rules.proofs.Claims.{TotalTree}
use Rattle.rules.proofs.Every.{All-snoc}

module _ (Γ : Declarations) where
  -- Rows that fit in two goes fit in one.
  pub RowsFit-++ : (before xs ys : List Row) → RowsFit Γ before xs → RowsFit Γ (before ++ xs) ys → RowsFit Γ before (xs ++ ys)
  RowsFit-++ before [] ys h k = rw append-nil at k
  RowsFit-++ before (x ∷ xs) ys h k = (h.0, RowsFit-++ (before ++ (x ∷ [])) xs ys h.1 (rw append_snoc k))

  -- every tree of the table is total
  abbrev pub TotalTrees : Assignment → List Row → Type 0
  TotalTrees α rows = All (TotalTree Γ α) (trees rows)

  -- the rows fit behind those before; where Q holds, and every tree before is total, so is every tree with them
  pub record Adds (before rows : List Row) (Q : Assignment → Type 0) : Type 0 where
    pub fit : RowsFit Γ before rows
    pub total : (α : Assignment) → Q α → TotalTrees α before → TotalTrees α (before ++ rows)

  -- To add no row asks for nothing.
  pub Adds-[] : (before : List Row) (Q : Assignment → Type 0) → Adds before [] Q
  Adds-[] before Q = record { fit = tt; total = λ α q all. rw append-nil all }

  -- One row that fits asks that its tree be total.
  pub Adds-row : (before : List Row) (r : Row) {t : Tree} → RowFits Γ before r → fill (trees before) r ≡ t
      → Adds before (r ∷ []) (λ α. TotalTree Γ α t)
  Adds-row before r f e =
      record { fit = (f, tt); total = λ α q all. rw (trees-snoc before r, e) (All-snoc (TotalTree Γ α) (trees before) all q) }

  -- Rows added in two goes ask for what each part asks.
  pub Adds-++ : {before xs ys : List Row} {Q S : Assignment → Type 0} → Adds before xs Q → Adds (before ++ xs) ys S
      → Adds before (xs ++ ys) (λ α. Q α × S α)
  Adds-++ {before} {xs} {ys} h k =
      record { fit = RowsFit-++ before xs ys h.fit k.fit; total = λ α q all. rw append_assoc at (k.total α q.1 (h.total α q.0 all)) }

  -- What asks for less may ask for more.
  pub Adds-asking : {before rows : List Row} {Q S : Assignment → Type 0} → ((α : Assignment) → S α → Q α) → Adds before rows Q → Adds before rows S
  Adds-asking f h = record { fit = h.fit; total = λ α s all. h.total α (f α s) all }
