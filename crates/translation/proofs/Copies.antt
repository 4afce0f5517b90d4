-- What the copying loop has written.
use mathlib.Core.Path.{◌≡◌, sym, ap, ◌∙◌}
use Prim.Native.Nat.{ℕ, suc, ◌+◌, ◌-◌, ◌≤◌, ◌<◌}
use native.Mathlib.Omega.{arith}
use mathlib.Core.List.{List, [], ◌∷◌}
use lib.ListN.{length, get_or, set, take, drop, length-drop}
use lib.Seq.{sets, take-suc, get_or-drop, length-take-le}
use Rattle.numbers.proofs.Lists.{sets-++}

-- The bytes of `table` from `from` up to i, stored over those of `lent` at the same places.
pub record Copied (lent table : List ℕ) (from i : ℕ) (out : List ℕ) : Type 0 where
  pub stored : out ≡ sets lent from (take (i - from) (drop from table))

module _ {lent table : List ℕ} {from : ℕ} where
  pub copied_none : Copied lent table from from lent
  copied_none = let e : from - from ≡ 0 = omega arith in record { stored = rw e }

  -- One byte more.
  pub copied_more : {i : ℕ} {out : List ℕ} → Copied lent table from i out → from ≤ i → i < length table → Copied lent table from (i + 1) (set out i (get_or table i 0))
  copied_more {i} p a b =
      let part : List ℕ = drop from table in
      let inside : i - from < length part = rw length-drop (omega arith) in
      let here : from + (i - from) ≡ i = omega arith in
      let next : i + 1 - from ≡ suc (i - from) = omega arith in
      let ends : from + length (take (i - from) part) ≡ i = omega (arith, length-take-le (i - from) part (omega arith)) in
      let byte : get_or part (i - from) 0 ≡ get_or table i 0 = get_or-drop from table (i - from) 0 ∙ ap (λ k. get_or table k 0) here in
      record {
        stored =
            rw p.stored
            (sym
            (ap (λ k. sets lent from (take k part)) next ∙ ap (sets lent from) (take-suc part (i - from) 0 inside)
            ∙ sets-++ lent from (take (i - from) part) (get_or part (i - from) 0 ∷ [])
            ∙ rw (ends, byte)));
      }
