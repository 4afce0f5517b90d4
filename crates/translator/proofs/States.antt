-- The translation node by node: what one more node adds.
use mathlib.Core.Path.{◌≡◌, refl, sym, ap, ◌∙◌}
use Prim.Native.Nat.{ℕ, ◌+◌, ◌<◌}
use native.Mathlib.Omega.{arith}
use native.Mathlib.Numerals.{add-one}
use mathlib.Core.List.{List, [], ◌∷◌, ◌++◌}
use lib.ListN.{length, length-append, length-map}
use Rattle.language.specs.Syntax.{Declarations}
use Rattle.language.specs.Tables.{Row}
use Rattle.language.specs.Readings.{Reading}
use Rattle.rules.specs.Writing.{Translated, write_rule, nothing_yet, rule_after, append, step, translate_after, translate_rows}
use Rattle.table.specs.Records.{kind_at, x_at, y_at}
use Rattle.answers.specs.Sections.{listed, nodes_at, node_count, constraint_count, row_of, rows, constraints, declarations}
use Rattle.answers.specs.Answers.{translated, new_count}
use Rattle.answers.proofs.Listed.{length-listed}
use Rattle.translator.specs.Cells.{fields, resolve}
use Rattle.translator.specs.Plans.{plan_at, plan_rows}
use Rattle.translator.specs.Words.{node_words}
use Rattle.translator.proofs.Planned.{length-plan_rows}
use Rattle.translator.proofs.Ruled.{WritesPlan, writes_plan}

module _ (ρ : Reading) (Γ : Declarations) where
  translate_after-++ : (t : Translated) (rs qs : List Row) → translate_after ρ Γ t (rs ++ qs) ≡ translate_after ρ Γ (translate_after ρ Γ t rs) qs
  unfolding translate_after
  translate_after-++ t [] qs = refl
  translate_after-++ t (r ∷ rs) qs = translate_after-++ (step ρ Γ t r) rs qs

  translate_rows-snoc : (rs : List Row) (r : Row) → translate_rows ρ Γ (rs ++ (r ∷ [])) ≡ step ρ Γ (translate_rows ρ Γ rs) r
  unfolding translate_rows translate_after
  translate_rows-snoc rs r = translate_after-++ nothing_yet rs (r ∷ [])

module _ (bs : List ℕ) (ρ : Reading) where
  -- the translation of the first n nodes
  unfoldable pub state : ℕ → Translated
  state n = translate_rows ρ (declarations bs) (listed n (λ i. row_of bs (nodes_at bs + i)))

  pub state-zero : state 0 ≡ nothing_yet
  unfolding state listed translate_rows translate_after
  state-zero = refl

  pub state-suc : (n : ℕ) → state (n + 1) ≡ step ρ (declarations bs) (state n) (row_of bs (nodes_at bs + n))
  unfolding state listed
  state-suc n = rw add-one (translate_rows-snoc ρ (declarations bs) (listed n (λ i. row_of bs (nodes_at bs + i))) (row_of bs (nodes_at bs + n)))

  -- the plan that node n writes
  pub node-writes : (n : ℕ) {p : ℕ} → p ≡ nodes_at bs + n → kind_at bs p < 31 → WritesPlan ρ (declarations bs) (state n).firsts (state n).seconds (x_at bs p) (y_at bs p) (length (state n).rows) (kind_at bs p)
  node-writes n {p} e h = writes_plan ρ (declarations bs) (state n).firsts (state n).seconds (x_at bs p) (y_at bs p) (length (state n).rows) (kind_at bs p) h

  -- One more node adds as many rows as its plan has.
  pub length-state-suc : (n : ℕ) {p : ℕ} → p ≡ nodes_at bs + n → kind_at bs p < 31 → length (state (n + 1)).rows ≡ length (state n).rows + (plan_at ρ (kind_at bs p)).count
  unfolding step append rule_after row_of
  length-state-suc n {p} e h =
      ap (λ (t : Translated). length t.rows) (state-suc n)
      ∙ rw (← e) (length-append (state n).rows (write_rule (rule_after ρ (declarations bs) (state n) (row_of bs p)) (length (state n).rows)).rows
      ∙ ap (λ k. length (state n).rows + k)
      (sym (length-map (write_rule (rule_after ρ (declarations bs) (state n) (row_of bs p)) (length (state n).rows)).rows fields)
      ∙ ap length (node-writes n e h).rows
      ∙ length-map (plan_rows ρ (kind_at bs p)) (resolve (node_words (declarations bs) (state n).firsts (state n).seconds (kind_at bs p) (x_at bs p) (y_at bs p)) (length (state n).rows) (kind_at bs p))
      ∙ length-plan_rows ρ (kind_at bs p) h))

  pub new-count : (n : ℕ) → n ≡ node_count bs → nodes_at bs + constraint_count bs + length (state n).rows ≡ new_count bs ρ
  unfolding new_count translated rows constraints state
  new-count n e = rw (e, length-listed) (omega arith)
