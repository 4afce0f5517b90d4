-- `table::kind::Kind::try_from` meets its contract: a number that no arm takes is that of no kind.
use mathlib.Core.Path.{◌≡◌, refl, sym, ap, subst, ◌∙◌}
use mathlib.Core.Bool.{Bool, true, false, ◌&&◌, ◌||◌}
use mathlib.Core.List.{List, [], ◌∷◌}
use mathlib.Core.Option.{Option, none, some}
use Prim.Native.Nat.{ℕ, zero, suc, ◌+◌}
use native.Mathlib.Omega.{arith}
use lib.Dec.{T, ltb}
use lib.ListN.{get_or}
use Rattle.numbers.proofs.Tests.{&&-fst, &&-snd}
use Rattle.table.specs.Kinds.{Kind, kinds, kind_of}
use Rattle.table.proofs.kind.KindTryFromU8.try_from.Goals as goal

-- 1 to 17 and 20 to 30
taken : ℕ → Bool
taken n = (ltb 0 n && ltb n 18) || (ltb 19 n && ltb n 31)

-- whether each entry is missing or has a number that is taken, the first one's being n
agrees : ℕ → List (Option Kind) → Bool
agrees n [] = true
agrees n (none ∷ ks) = agrees (suc n) ks
agrees n (some k ∷ ks) = taken n && agrees (suc n) ks

-- so an entry whose number is not taken is missing
agrees-at : (m n : ℕ) (ks : List (Option Kind)) → T (agrees m ks) → taken (m + n) ≡ false → get_or ks n none ≡ none
unfolding agrees
agrees-at m n [] t e = refl
agrees-at m zero (none ∷ ks) t e = refl
agrees-at m (suc n) (none ∷ ks) t e = agrees-at (suc m) n ks t (ap taken (omega arith) ∙ e)
agrees-at m zero (some k ∷ ks) t e = absurd (subst T (sym (ap taken (omega arith)) ∙ e) (&&-fst (taken m) (agrees (suc m) ks) t))
agrees-at m (suc n) (some k ∷ ks) t e = agrees-at (suc m) n ks (&&-snd (taken m) (agrees (suc m) ks) t) (ap taken (omega arith) ∙ e)

pub returns-in_default : goal.returns-in_default
unfolding kind_of kinds taken agrees
returns-in_default c = agrees-at 0 c.args.number kinds tt (grind arith)
