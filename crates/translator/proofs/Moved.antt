-- A formula over references, written from number 16 on, is the same formula over the node's words, written from number n on, with
-- every reference in its place.
use mathlib.Core.Path.{◌≡◌, refl, sym, ap, ◌∙◌}
use Prim.Native.Nat.{ℕ, ◌+◌}
use native.Mathlib.Omega.{arith as numbers}
use mathlib.Core.Bool.{Bool, true, false}
use mathlib.Core.List.{List, [], ◌∷◌, ◌++◌, map}
use lib.IntN.{ℤ}
use lib.ListN.{length, length-map}
use Rattle.language.specs.Syntax.{IExp, constant, variable, slot, arith, divide, negate, bool_to_int, lookup, sum, iref, BExp, truth, variable_b, lookup_b, connect, negation, compare, quantify, bref}
use Rattle.language.specs.Tables.{Row, arith_row, divide_row, negate_row, bool_to_int_row, lookup_row, sum_row, truth_row, lookup_b_row, connect_row, negation_row, compare_row, quantify_row}
use Rattle.language.specs.Meaning.{number}
use Rattle.rules.specs.Rules.{Rule, numeric, logical}
use Rattle.rules.specs.Writing.{Written, leaf, unary, binary, write_i, write_b, Companions, in_turn, write_rule}
use Rattle.table.specs.Records.{bits_of}
use Rattle.translator.specs.Cells.{Cell, cell, words, place, fields}
use Rattle.translator.proofs.Cells.{place-row, map-++}

all-sums : (a b c d : ℕ) → a + b + (c + d) ≡ a + (b + (c + d))
all-sums a b c d = omega numbers

cell-cong : (k : ℕ) {a b c d : ℕ} → a ≡ c → b ≡ d → cell k a b ≡ cell k c d
cell-cong k p q = cc

module _ (env : List ℕ) (n : ℕ) (v : ℕ → ℤ) where
  abbrev at : ℕ → ℕ
  at = place env n

  -- a cell with its references in place
  abbrev pub moved : Cell → Cell
  moved c = cell c.kind (at c.x) (at c.y)

  -- a formula over the words
  unfoldable mutual
    pub over_i : IExp ℕ → IExp ℕ
    over_i (constant z) = constant (v (bits_of z))
    over_i (variable t) = variable (at t)
    over_i (slot t) = slot (at t)
    over_i (arith op a b) = arith op (over_i a) (over_i b)
    over_i (divide op a b) = divide op (over_i a) (over_i b)
    over_i (negate a) = negate (over_i a)
    over_i (bool_to_int a) = bool_to_int (over_b a)
    over_i (lookup t i) = lookup (at t) (over_i i)
    over_i (sum t a) = sum (at t) (over_i a)
    over_i (iref r) = iref (at r)

    pub over_b : BExp ℕ → BExp ℕ
    over_b (truth b) = truth b
    over_b (variable_b t) = variable_b (at t)
    over_b (lookup_b t i) = lookup_b (at t) (over_i i)
    over_b (connect c a b) = connect c (over_b a) (over_b b)
    over_b (negation a) = negation (over_b a)
    over_b (compare c a b) = compare c (over_i a) (over_i b)
    over_b (quantify q t a) = quantify q (at t) (over_b a)
    over_b (bref r) = bref (at r)

  -- what is written from 16 on, and from n on
  pub record Moves (w₀ w : Written) : Type 0 where
    pub rows : map fields w.rows ≡ map moved (map fields w₀.rows)
    pub root : w.root ≡ at w₀.root

  length-moves : {w₀ w : Written} → Moves w₀ w → length w.rows ≡ length w₀.rows
  length-moves {w₀} {w} h = sym (length-map w.rows fields) ∙ ap length h.rows ∙ length-map (map fields w₀.rows) moved ∙ length-map w₀.rows fields

  at_row : (m : ℕ) → at (words + m) ≡ n + m
  at_row m = place-row env n (words + m) (omega numbers) ∙ omega numbers

  moves_leaf : (m : ℕ) (r₀ r : Row) → fields r ≡ moved (fields r₀) → Moves (leaf (words + m) r₀) (leaf (n + m) r)
  unfolding leaf
  moves_leaf m r₀ r e = record { rows = rw e; root = sym (at_row m) }

  moves_unary : (m : ℕ) {a₀ a : Written} (r₀ r : ℕ → Row) → Moves a₀ a → ((j : ℕ) → fields (r (at j)) ≡ moved (fields (r₀ j))) → Moves (unary (words + m) a₀ r₀) (unary (n + m) a r)
  unfolding unary
  moves_unary m {a₀} {a} r₀ r h e =
      record {
        rows = rw (map-++ fields a.rows (r a.root ∷ []), map-++ fields a₀.rows (r₀ a₀.root ∷ []), map-++ moved (map fields a₀.rows) (fields (r₀ a₀.root) ∷ []), h.rows, h.root, e a₀.root);
        root = ap (λ k. n + m + k) (length-moves h) ∙ sums n m (length a₀.rows) ∙ sym (at_row (m + length a₀.rows)) ∙ ap at (sym (sums words m (length a₀.rows)));
      }
    where
      sums : (a b c : ℕ) → a + b + c ≡ a + (b + c)
      sums a b c = omega numbers

  moves_binary : (m : ℕ) {a₀ a : Written} (next₀ next : ℕ → Written) (r₀ r : ℕ → ℕ → Row) → Moves a₀ a → ((k : ℕ) → Moves (next₀ (words + k)) (next (n + k))) → ((i j : ℕ) → fields (r (at i) (at j)) ≡ moved (fields (r₀ i j))) → Moves (binary (words + m) a₀ next₀ r₀) (binary (n + m) a next r)
  unfolding binary
  moves_binary m {a₀} {a} next₀ next r₀ r h k e =
      let l = length-moves h in
      let p : words + m + length a₀.rows ≡ words + (m + length a₀.rows) = omega numbers in
      let q : n + m + length a.rows ≡ n + (m + length a₀.rows) = omega numbers in
      let g = k (m + length a₀.rows) in
      rw (p, q) (moved-both (next₀ (words + (m + length a₀.rows))) (next (n + (m + length a₀.rows))) g l)
    where
      moved-both : (b₀ b : Written) → Moves b₀ b → length a.rows ≡ length a₀.rows → Moves (record { rows = a₀.rows ++ (b₀.rows ++ (r₀ a₀.root b₀.root ∷ [])); root = words + m + (length a₀.rows + length b₀.rows) }) (record { rows = a.rows ++ (b.rows ++ (r a.root b.root ∷ [])); root = n + m + (length a.rows + length b.rows) })
      moved-both b₀ b g l =
          record {
            rows = rw (map-++ fields a.rows (b.rows ++ (r a.root b.root ∷ [])), map-++ fields b.rows (r a.root b.root ∷ []), map-++ fields a₀.rows (b₀.rows ++ (r₀ a₀.root b₀.root ∷ [])), map-++ fields b₀.rows (r₀ a₀.root b₀.root ∷ []), map-++ moved (map fields a₀.rows) (map fields b₀.rows ++ (fields (r₀ a₀.root b₀.root) ∷ [])), map-++ moved (map fields b₀.rows) (fields (r₀ a₀.root b₀.root) ∷ []), h.rows, g.rows, h.root, g.root, e a₀.root b₀.root);
            root = sym (ap at (all-sums words m (length a₀.rows) (length b₀.rows)) ∙ at_row (m + (length a₀.rows + length b₀.rows)) ∙ omega (numbers, l, length-moves g));
          }

  -- The words hold the numbers' bits; 0 and 1 stand for themselves.
  pub record Fit : Type 0 where
    pub bits : (t : ℕ) → bits_of (v t) ≡ at t
    pub zero_is : at 0 ≡ 0
    pub one_is : at 1 ≡ 1

  module _ (fit : Fit) where
    -- a row of one operand leaves y at 0
    one_field : (k : ℕ) {a b : ℕ} → a ≡ b → cell k a 0 ≡ cell k b (at 0)
    one_field k e = cell-cong k e (sym fit.zero_is)

    truth-field : (b : Bool) → fields (truth_row b) ≡ moved (fields (truth_row b))
    unfolding fields number bits_of
    truth-field true = one_field 2 (sym fit.one_is)
    truth-field false = one_field 2 (sym fit.zero_is)

    mutual
      unfolding write_i write_b over_i over_b fields

      pub moves_I : (e : IExp ℕ) (m : ℕ) → Moves (write_i e (words + m)) (write_i (over_i e) (n + m))
      moves_I (constant z) m = moves_leaf m _ _ (one_field 1 (fit.bits (bits_of z)))
      moves_I (variable t) m = moves_leaf m _ _ (one_field 3 refl)
      moves_I (slot t) m = moves_leaf m _ _ (one_field 5 refl)
      moves_I (arith op a b) m = moves_binary m (write_i b) (write_i (over_i b)) (arith_row op) (arith_row op) (moves_I a m) (λ k. moves_I b k) (λ i j. refl)
      moves_I (divide op a b) m = moves_binary m (write_i b) (write_i (over_i b)) (divide_row op) (divide_row op) (moves_I a m) (λ k. moves_I b k) (λ i j. refl)
      moves_I (negate a) m = moves_unary m negate_row negate_row (moves_I a m) (λ j. one_field 11 refl)
      moves_I (bool_to_int a) m = moves_unary m bool_to_int_row bool_to_int_row (moves_B a m) (λ j. one_field 14 refl)
      moves_I (lookup t i) m = moves_unary m (lookup_row t) (lookup_row (at t)) (moves_I i m) (λ j. refl)
      moves_I (sum t a) m = moves_unary m (sum_row t) (sum_row (at t)) (moves_I a m) (λ j. refl)
      moves_I (iref r) m = record { rows = refl; root = refl }

      pub moves_B : (e : BExp ℕ) (m : ℕ) → Moves (write_b e (words + m)) (write_b (over_b e) (n + m))
      moves_B (truth b) m = moves_leaf m _ _ (truth-field b)
      moves_B (variable_b t) m = moves_leaf m _ _ (one_field 4 refl)
      moves_B (lookup_b t i) m = moves_unary m (lookup_b_row t) (lookup_b_row (at t)) (moves_I i m) (λ j. refl)
      moves_B (connect c a b) m = moves_binary m (write_b b) (write_b (over_b b)) (connect_row c) (connect_row c) (moves_B a m) (λ k. moves_B b k) (λ i j. refl)
      moves_B (negation a) m = moves_unary m negation_row negation_row (moves_B a m) (λ j. one_field 24 refl)
      moves_B (compare c a b) m = moves_binary m (write_i b) (write_i (over_i b)) (compare_row c) (compare_row c) (moves_I a m) (λ k. moves_I b k) (λ i j. refl)
      moves_B (quantify q t a) m = moves_unary m (quantify_row q t) (quantify_row q (at t)) (moves_B a m) (λ j. refl)
      moves_B (bref r) m = record { rows = refl; root = refl }

    -- ---- rules

    -- a rule over references, and the same over the words
    abbrev pub Over : Rule ℕ → Rule ℕ → Type 0
    Over (numeric a b) (numeric c d) = (over_i a ≡ c) × (over_b b ≡ d)
    Over (numeric a b) (logical p f) = ⊥
    Over (logical p f) (numeric c d) = ⊥
    Over (logical p f) (logical q g) = (over_b p ≡ q) × ((r : ℕ) → over_b (f (bref r)) ≡ g (bref (at r)))

    pub record MovesBoth (c₀ c : Companions) : Type 0 where
      pub rows : map fields c.rows ≡ map moved (map fields c₀.rows)
      pub first : c.first ≡ at c₀.first
      pub second : c.second ≡ at c₀.second

    moves_turn : {a₀ a b₀ b : Written} → Moves a₀ a → Moves b₀ b → MovesBoth (in_turn a₀ b₀) (in_turn a b)
    unfolding in_turn
    moves_turn {a₀} {a} {b₀} {b} g h =
        record {
          rows = rw (map-++ fields a.rows b.rows, map-++ fields a₀.rows b₀.rows, map-++ moved (map fields a₀.rows) (map fields b₀.rows), g.rows, h.rows);
          first = g.root;
          second = h.root;
        }

    pub moves_rule : (r₀ r : Rule ℕ) → Over r₀ r → MovesBoth (write_rule r₀ words) (write_rule r n)
    unfolding write_rule
    moves_rule (numeric a b) (numeric c d) h =
        let g : Moves (write_i a words) (write_i c n) = first-I a c h.0 in
        let l = length-moves g in
        moves_turn g (second-B b d (length (write_i a words).rows) (length (write_i c n).rows) l h.1)
      where
        first-I : (a c : IExp ℕ) → over_i a ≡ c → Moves (write_i a words) (write_i c n)
        first-I a c e = let z : n + 0 ≡ n = omega numbers in rw (← e) (rw z at (moves_I a 0))

        second-B : (b d : BExp ℕ) (k₀ k : ℕ) → k ≡ k₀ → over_b b ≡ d → Moves (write_b b (words + k₀)) (write_b d (n + k))
        second-B b d k₀ k e f = rw (e, ← f) (moves_B b k₀)
    moves_rule (numeric a b) (logical p f) h = absurd h
    moves_rule (logical p f) (numeric c d) h = absurd h
    moves_rule (logical p f) (logical q g) h =
        let m : Moves (write_b p words) (write_b q n) = first-B p q h.0 in
        moves_turn m (second-B f g (write_b p words).root (write_b q n).root m.root (length (write_b p words).rows) (length (write_b q n).rows) (length-moves m) h.1)
      where
        first-B : (p q : BExp ℕ) → over_b p ≡ q → Moves (write_b p words) (write_b q n)
        first-B p q e = let z : n + 0 ≡ n = omega numbers in rw (← e) (rw z at (moves_B p 0))

        second-B : (f g : BExp ℕ → BExp ℕ) (r₀ r : ℕ) → r ≡ at r₀ → (k₀ k : ℕ) → k ≡ k₀ → ((r : ℕ) → over_b (f (bref r)) ≡ g (bref (at r))) → Moves (write_b (f (bref r₀)) (words + k₀)) (write_b (g (bref r)) (n + k))
        second-B f g r₀ r s k₀ k e h = rw (e, s, ← h r₀) (moves_B (f (bref r₀)) k₀)
