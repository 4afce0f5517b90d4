-- The words that a node hands to its rule.
-- Internal: a contract behind the public ones; no public promise cites it.
use Rattle.std.specs.Prelude.{ℕ, Bool, cond, ◌||◌, List, [], ◌∷◌, map, eqb, ℤ, pos, nat_abs, get_or}
use Rattle.language.specs.Syntax.{Declarations}
use Rattle.language.specs.Meaning.{array_at, is_one, number}
use Rattle.rules.specs.Rules.{last}
use Rattle.table.specs.Records.{bits_of}

-- what x stands for by itself: a constant's number, a truth value, or the number that it names
unfoldable pub literal : ℕ → ℤ → ℤ
literal k x = cond (eqb k 1) x (cond (eqb k 2) (number (is_one x)) (pos (nat_abs x)))

-- an array's first and last index, where the kind looks one up
unfoldable pub looks_up : ℕ → Bool
looks_up k = eqb k 15 || eqb k 16

module _ (Γ : Declarations) (firsts seconds : List ℕ) where
  -- 0, 1, the companions of x and of y, what x stands for, the first and the last index
  unfoldable pub node_numbers : ℕ → ℤ → ℤ → List ℤ
  node_numbers k x y =
      pos 0 ∷ pos 1 ∷ pos (get_or firsts (nat_abs x) 0) ∷ pos (get_or seconds (nat_abs x) 0) ∷ pos (get_or firsts (nat_abs y) 0)
      ∷ pos (get_or seconds (nat_abs y) 0) ∷ literal k x ∷ cond (looks_up k) (array_at Γ (nat_abs x)).first (pos 0)
      ∷ cond (looks_up k) (last (array_at Γ (nat_abs x))) (pos 0) ∷ []

  unfoldable pub node_words : ℕ → ℤ → ℤ → List ℕ
  node_words k x y = map bits_of (node_numbers k x y)
