-- Useless versions, each shut out: no result of such a version meets the promise, or demand 3, at P4 or at a table of two constraints.
use mathlib.Core.Path.{◌≡◌, refl, sym, ap, subst, ◌∙◌}
use Prim.Native.Nat.{ℕ, zero, suc, ◌<◌}
use native.Mathlib.Nat.{not-suc-le-zero, le_of_suc-le-suc}
use native.Mathlib.Omega.{arith}
use mathlib.Core.Bool.{true}
use mathlib.Core.List.{List, [], ◌∷◌, ◌++◌}
use mathlib.Core.Option.{none, some, some-ne-none}
use lib.IntN.{pos}
use lib.ListN.{length, replicate}
use lib.Signed.{le_z_yes}
use Rattle.language.specs.Syntax.{integer, Declarations}
use Rattle.language.specs.Readings.{Reading, strict, relational}
use Rattle.language.specs.Meaning.{Assignment, value_of}
use Rattle.rules.specs.Bounds.{variable_at, variable_interval}
use Rattle.rules.specs.Soundness.{Within}
use Rattle.table.specs.Records.{HD, VR, ND, CN, record_bytes}
use Rattle.answers.specs.Answers.{Answer, Outcome, reading_of, reading_chosen, unset}
use Rattle.answers.proofs.Computed.{checked, evaluated, translated}
use Rattle.demands.specs.Demands.{Checks, Evaluates, Translates, constraint_at, written, WithinDomains, TotalTable}
use Rattle.demands.proofs.Demands.{demand_3}

-- ---- tables

-- P4 of document 01: y in 0..1, ¬(1/y = 1)
pub p4 : List ℕ
unfolding record_bytes
p4 =
    record_bytes HD 1 (pos 8) (pos 0)
    ++ (record_bytes VR 1 (pos 0) (pos 1)
    ++ (record_bytes ND 1 (pos 1) (pos 0)
    ++ (record_bytes ND 3 (pos 0) (pos 0)
    ++ (record_bytes ND 9 (pos 0) (pos 1)
    ++ (record_bytes ND 25 (pos 2) (pos 0) ++ (record_bytes ND 24 (pos 3) (pos 0) ++ record_bytes CN 0 (pos 4) (pos 0)))))))

-- HD alone: the smallest table
pub header : List ℕ
unfolding record_bytes
header = record_bytes HD 1 (pos 1) (pos 0)

-- Two constraints: true, and P4's; and the same with the first one translated and the other copied.
pub two : List ℕ
unfolding record_bytes
two =
    record_bytes HD 1 (pos 10) (pos 0)
    ++ (record_bytes VR 1 (pos 0) (pos 1)
    ++ (record_bytes ND 2 (pos 1) (pos 0)
    ++ (record_bytes ND 1 (pos 1) (pos 0)
    ++ (record_bytes ND 3 (pos 0) (pos 0)
    ++ (record_bytes ND 9 (pos 1) (pos 2)
    ++ (record_bytes ND 25 (pos 3) (pos 1) ++ (record_bytes ND 24 (pos 4) (pos 0) ++ (record_bytes CN 0 (pos 0) (pos 0) ++ record_bytes CN 0 (pos 5) (pos 0)))))))))

pub first-translated : List ℕ
unfolding record_bytes
first-translated =
    record_bytes HD 1 (pos 11) (pos 0)
    ++ (record_bytes VR 1 (pos 0) (pos 1)
    ++ (record_bytes ND 2 (pos 1) (pos 0)
    ++ (record_bytes ND 24 (pos 0) (pos 0)
    ++ (record_bytes ND 1 (pos 1) (pos 0)
    ++ (record_bytes ND 3 (pos 0) (pos 0)
    ++ (record_bytes ND 9 (pos 2) (pos 3)
    ++ (record_bytes ND 25 (pos 4) (pos 2) ++ (record_bytes ND 24 (pos 5) (pos 0) ++ (record_bytes CN 0 (pos 0) (pos 0) ++ record_bytes CN 0 (pos 6) (pos 0))))))))))

-- y = 0, which both tables take
pub y0 : Assignment
y0 = pos 0 ∷ []

-- ---- what the calls answer for them

p4-checked : (a : Answer) → Checks p4 a → a.number ≡ 0
unfolding checked p4
p4-checked a p = ap (λ (a : Answer). a.number) p

p4-evaluated : (o : Outcome) → Evaluates 3 p4 y0 6 (7 ∷ []) o → (o.answer.number ≡ 0) × (o.answer.steps ≡ 6)
unfolding evaluated p4 y0
p4-evaluated o p = (ap (λ (o : Outcome). o.answer.number) p, ap (λ (o : Outcome). o.answer.steps) p)

p4-translated : (o : Outcome) → Translates 3 p4 (replicate 240 0) o → (o.answer.number ≡ 0) × (length (written o) ≡ 240)
unfolding translated p4 written
p4-translated o p = (ap (λ (o : Outcome). o.answer.number) p, ap (λ (o : Outcome). length (written o)) p)

two-translated : (o : Outcome) → Translates 3 two (replicate 500 0) o → o.answer.number ≡ 0
unfolding translated two
two-translated o p = ap (λ (o : Outcome). o.answer.number) p

header-translated : (o : Outcome) → Translates 3 header (replicate 12 0) o → (o.answer.number ≡ 0) × (length (written o) ≡ 12)
unfolding translated header written
header-translated o p = (ap (λ (o : Outcome). o.answer.number) p, ap (λ (o : Outcome). length (written o)) p)

-- ---- refusing everything, "by demand 2 and the table of numbers"

module _ (version : List ℕ → Answer) (keeps : (table : List ℕ) → Checks table (version table)) where
  pub no-check-refuses-everything : ((table : List ℕ) → (version table).number ≡ 0 → ⊥) → ⊥
  no-check-refuses-everything refuses = refuses p4 (p4-checked (version p4) (keeps p4))

module _ (version : ℕ → List ℕ → Assignment → ℕ → List ℕ → Outcome)
    (keeps : (choice : ℕ) (table : List ℕ) (α : Assignment) (budget : ℕ) (lent : List ℕ) → Evaluates choice table α budget lent (version choice table α budget lent)) where
  pub no-evaluation-refuses-everything :
      ((choice : ℕ) (table : List ℕ) (α : Assignment) (budget : ℕ) (lent : List ℕ) → (version choice table α budget lent).answer.number ≡ 0 → ⊥) → ⊥
  no-evaluation-refuses-everything refuses = refuses 3 p4 y0 6 (7 ∷ []) (p4-evaluated _ (keeps 3 p4 y0 6 (7 ∷ []))).0

  -- An invented step total, "by demand 2's costs": it is 6 for P4, P9 of document 01.
  pub no-invented-steps : ((version 3 p4 y0 6 (7 ∷ [])).answer.steps ≡ 6 → ⊥) → ⊥
  no-invented-steps other = other (p4-evaluated _ (keeps 3 p4 y0 6 (7 ∷ []))).1

module _ (version : ℕ → List ℕ → List ℕ → Outcome) (keeps : (choice : ℕ) (table lent : List ℕ) → Translates choice table lent (version choice table lent)) where
  pub no-translation-refuses-everything : ((choice : ℕ) (table lent : List ℕ) → (version choice table lent).answer.number ≡ 0 → ⊥) → ⊥
  no-translation-refuses-everything refuses = refuses 3 p4 (replicate 240 0) (p4-translated _ (keeps 3 p4 (replicate 240 0))).0

  -- ---- one fixed table, "by demand 2": P4 and HD alone have translations of 240 and of 12 bytes

  pub no-fixed-table : (fixed : List ℕ) → ((choice : ℕ) (table lent : List ℕ) → (version choice table lent).answer.number ≡ 0 → written (version choice table lent) ≡ fixed) → ⊥
  no-fixed-table fixed always =
      let long = p4-translated _ (keeps 3 p4 (replicate 240 0)) in
      let short = header-translated _ (keeps 3 header (replicate 12 0)) in
      not-both (sym long.1 ∙ ap length (always 3 p4 (replicate 240 0) long.0)) (sym short.1 ∙ ap length (always 3 header (replicate 12 0) short.0))
    where
      not-both : 240 ≡ length fixed → 12 ≡ length fixed → ⊥
      not-both p q = omega (arith, p, q)

-- ---- copying the input, "by demand 3 at P4"

-- what both tables declare: y in 0..1
y-alone : Declarations
y-alone = record { variables = record { sort = integer; low = pos 0; high = pos 1 } ∷ []; slots = []; arrays = [] }

y0-within : WithinDomains y-alone y0
unfolding y-alone y0 variable_interval variable_at value_of
y0-within = record { one_per_variable = refl; in_domain = in_domain }
  where
    in_domain : (v : ℕ) → v < 1 → Within (variable_interval y-alone v) (value_of y0 v)
    in_domain zero l = record { above = le_z_yes tt; below = le_z_yes tt }
    in_domain (suc v) l = absurd (not-suc-le-zero (le_of_suc-le-suc l))

-- Undefined is no value.
none-is-not-some : {A : Type 0} (x : A) → none ≡ some x → ⊥
none-is-not-some x e = some-ne-none x (sym e)

-- At y = 0 the quotient of P4 has no value under any reading,
pub p4-is-not-total : (ρ : Reading) → TotalTable p4 ρ p4 → ⊥
unfolding evaluated p4 y-alone y0
p4-is-not-total ρ t =
    let quotient = (t.solutions y0 y0-within strict).every_node.1.1.0 unset (λ s f. absurd f) in
    none-is-not-some quotient.0 quotient.1

-- so no translation copies its input.
pub no_copy : (version : ℕ → List ℕ → List ℕ → Outcome) → ((choice : ℕ) (table lent : List ℕ) → Translates choice table lent (version choice table lent))
    → ((choice : ℕ) (table lent : List ℕ) → (version choice table lent).answer.number ≡ 0 → written (version choice table lent) ≡ table) → ⊥
no_copy version keeps copies =
    let done = (p4-translated _ (keeps 3 p4 (replicate 240 0))).0 in
    p4-is-not-total (reading_chosen 3)
    (subst (TotalTable p4 (reading_chosen 3)) (copies 3 p4 (replicate 240 0) done) (demand_3.translate 3 p4 (replicate 240 0) _ (keeps 3 p4 (replicate 240 0)) done))

-- ---- translating the first constraint and copying the others, by demand 3's "same place"

-- At y = 0 the second constraint is true under relational, and in this table undefined under strict.
pub first-translated-is-not-total : TotalTable two relational first-translated → ⊥
unfolding evaluated two first-translated y-alone y0 constraint_at
first-translated-is-not-total t =
    let same = (t.solutions y0 y0-within strict).same_place 1 (omega arith) in
    none-is-not-some true (same.1 refl)

-- So no translation writes it.
pub no-first-constraint-only : (version : ℕ → List ℕ → List ℕ → Outcome) → ((choice : ℕ) (table lent : List ℕ) → Translates choice table lent (version choice table lent))
    → written (version 3 two (replicate 500 0)) ≡ first-translated → ⊥
unfolding reading_chosen reading_of
no-first-constraint-only version keeps same =
    first-translated-is-not-total
    (subst (TotalTable two relational) same (demand_3.translate 3 two (replicate 500 0) _ (keeps 3 two (replicate 500 0)) (two-translated _ (keeps 3 two (replicate 500 0)))))
