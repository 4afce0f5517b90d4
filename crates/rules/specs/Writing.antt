-- Writing out: "Nodes are handled in order. .. Formulas are written operands first, left to right, each operator and constant a new
-- node at each occurrence; a companion is referred to and never written again. .. V before D, P before N."
use Rattle.std.specs.Prelude.{ℕ, ◌+◌, List, [], ◌∷◌, ◌++◌, length, get_or}
use Rattle.language.specs.Syntax.{IExp, constant, variable, slot, arith, divide, negate, bool_to_int, lookup, sum, iref, BExp, truth, variable_b, lookup_b, connect, negation, compare, quantify, bref, Declarations}
use Rattle.language.specs.Readings.{Reading}
use Rattle.language.specs.Tables.{Row, constant_row, variable_row, slot_row, arith_row, divide_row, negate_row, bool_to_int_row, lookup_row, sum_row, truth_row, variable_b_row, lookup_b_row, connect_row, negation_row, compare_row, quantify_row}
use Rattle.rules.specs.Rules.{Rule, numeric, logical, rule}

-- the rows that a formula adds, and the number of the node that stands for it
pub record Written : Type 0 where
  pub rows : List Row
  pub root : ℕ

-- a formula with no operand, one, or two, from the operands as written; n is the number of the first row
unfoldable pub leaf : ℕ → Row → Written
leaf n r = record { rows = r ∷ []; root = n }

unfoldable pub unary : ℕ → Written → (ℕ → Row) → Written
unary n a r = record { rows = a.rows ++ (r a.root ∷ []); root = n + length a.rows }

unfoldable pub binary : ℕ → Written → (ℕ → Written) → (ℕ → ℕ → Row) → Written
binary n a next r =
    let b = next (n + length a.rows) in
    record { rows = a.rows ++ (b.rows ++ (r a.root b.root ∷ [])); root = n + (length a.rows + length b.rows) }

-- a formula over node numbers, written where the next node gets number n
unfoldable mutual
  pub write_i : IExp ℕ → ℕ → Written
  write_i (constant z) n = leaf n (constant_row z)
  write_i (variable v) n = leaf n (variable_row v)
  write_i (slot s) n = leaf n (slot_row s)
  write_i (arith op a b) n = binary n (write_i a n) (λ m. write_i b m) (arith_row op)
  write_i (divide op a b) n = binary n (write_i a n) (λ m. write_i b m) (divide_row op)
  write_i (negate a) n = unary n (write_i a n) negate_row
  write_i (bool_to_int a) n = unary n (write_b a n) bool_to_int_row
  write_i (lookup A i) n = unary n (write_i i n) (lookup_row A)
  write_i (sum s a) n = unary n (write_i a n) (sum_row s)
  write_i (iref k) n = record { rows = []; root = k }

  pub write_b : BExp ℕ → ℕ → Written
  write_b (truth b) n = leaf n (truth_row b)
  write_b (variable_b v) n = leaf n (variable_b_row v)
  write_b (lookup_b A i) n = unary n (write_i i n) (lookup_b_row A)
  write_b (connect c a b) n = binary n (write_b a n) (λ m. write_b b m) (connect_row c)
  write_b (negation a) n = unary n (write_b a n) negation_row
  write_b (compare c a b) n = binary n (write_i a n) (λ m. write_i b m) (compare_row c)
  write_b (quantify q s a) n = unary n (write_b a n) (quantify_row q s)
  write_b (bref k) n = record { rows = []; root = k }

-- one node's rows and the places of its two companions: V or P, and D or N
pub record Companions : Type 0 where
  pub rows : List Row
  pub first : ℕ
  pub second : ℕ

unfoldable pub in_turn : Written → Written → Companions
in_turn a b = record { rows = a.rows ++ b.rows; first = a.root; second = b.root }

unfoldable pub write_rule : Rule ℕ → ℕ → Companions
write_rule (numeric v d) n = let w = write_i v n in in_turn w (write_b d (n + length w.rows))
write_rule (logical p f) n = let w = write_b p n in in_turn w (write_b (f (bref w.root)) (n + length w.rows))

-- the nodes written so far, and the places of both companions of each old node
pub record Translated : Type 0 where
  pub rows : List Row
  pub firsts : List ℕ
  pub seconds : List ℕ

unfoldable pub nothing_yet : Translated
nothing_yet = record { rows = []; firsts = []; seconds = [] }

module _ (ρ : Reading) (Γ : Declarations) where
  -- the rule of one more node, over the places of the companions before it
  unfoldable pub rule_after : Translated → Row → Rule ℕ
  rule_after t = rule ρ Γ (λ k. iref (get_or t.firsts k 0)) (λ k. bref (get_or t.seconds k 0)) (λ k. bref (get_or t.firsts k 0)) (λ k. bref (get_or t.seconds k 0))

  unfoldable pub append : Translated → Companions → Translated
  append t c = record { rows = t.rows ++ c.rows; firsts = t.firsts ++ (c.first ∷ []); seconds = t.seconds ++ (c.second ∷ []) }

  unfoldable pub step : Translated → Row → Translated
  step t r = append t (write_rule (rule_after t r) (length t.rows))

  unfoldable pub translate_after : Translated → List Row → Translated
  translate_after t [] = t
  translate_after t (r ∷ rs) = translate_after (step t r) rs

  -- all nodes of a table
  unfoldable pub translate_rows : List Row → Translated
  translate_rows rs = translate_after nothing_yet rs
