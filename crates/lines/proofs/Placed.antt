-- Bytes put at a place, one run behind the other.
use Rattle.std.proofs.Common.{◌≡◌, ℕ, ◌+◌, ◌≤◌, List, [], ◌∷◌, ◌++◌, length, take, drop, set, refl, sym, ◌∙◌, add-one, arith, length-append, length-take-le}
use Rattle.std.proofs.lemmas.List.{take_at}
use Rattle.std.proofs.lemmas.List.Edits.{sets, sets-eq}
use Rattle.numbers.proofs.Lists.{sets-++}

-- `bytes` are put over t from `at` on: r is the place behind them, u the list after it
pub record Put (t : List ℕ) (at : ℕ) (bytes : List ℕ) (r : ℕ) (u : List ℕ) : Type 0 where
  pub behind : r ≡ at + length bytes
  pub written : u ≡ sets t at bytes

pub put : {t : List ℕ} {at : ℕ} (bytes : List ℕ) {r : ℕ} {u : List ℕ} → r ≡ at + length bytes → u ≡ sets t at bytes → Put t at bytes r u
put bytes e f = record { behind = e; written = f }

pub put_byte : (t : List ℕ) (at b : ℕ) → Put t at (b ∷ []) (at + 1) (set t at b)
put_byte t at b = put (b ∷ []) refl refl

pub put_two : (t : List ℕ) (at a b : ℕ) → Put t at (a ∷ b ∷ []) (at + 2) (set (set t at a) (at + 1) b)
put_two t at a b = put (a ∷ b ∷ []) refl (rw add-one)

module _ {t u : List ℕ} {at r : ℕ} where
  pub put-++ : {xs ys v : List ℕ} {s : ℕ} → Put t at xs r u → Put u r ys s v → Put t at (xs ++ ys) s v
  put-++ {xs} {ys} p q =
      let n = length-append xs ys in
      put (xs ++ ys) (omega (arith, n, p.behind, q.behind)) (q.written ∙ rw (p.behind, p.written) (sym (sets-++ t at xs ys)))

  -- What stands up to the place behind them.
  pub taken : {bytes : List ℕ} → Put t at bytes r u → r ≤ length t → take r u ≡ take at t ++ bytes
  taken {bytes} p h =
      let front = length-take-le at t (omega (arith, p.behind)) in
      rw (p.written, sets-eq bytes t at (omega (arith, p.behind))) (take_at (take at t ++ bytes) (drop (at + length bytes) t) r (omega (arith, length-append (take at t) bytes, p.behind)))
