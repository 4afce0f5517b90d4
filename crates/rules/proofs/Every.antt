-- Laws of `All`: what holds of every element of a list.
use Prim.Native.Nat.{ℕ, zero, suc}
use mathlib.Core.List.{List, [], ◌∷◌, ◌++◌}
use lib.ListN.{get_or}
use Rattle.rules.specs.Soundness.{All}

-- What holds of all elements of a list and of one more holds of all with it.
pub All-snoc : {A : Type 0} (P : A → Type 0) (xs : List A) {x : A} → All P xs → P x → All P (xs ++ (x ∷ []))
All-snoc P [] h p = (p, tt)
All-snoc P (y ∷ ys) h p = (h.0, All-snoc P ys h.1 p)

-- What holds of all elements of a list holds of those before the last, and of the last.
pub All-unsnoc : {A : Type 0} (P : A → Type 0) (xs : List A) {x : A} → All P (xs ++ (x ∷ [])) → All P xs × P x
All-unsnoc P [] h = (tt, h.0)
All-unsnoc P (y ∷ ys) h = let rest = All-unsnoc P ys h.1 in ((h.0, rest.0), rest.1)

-- What holds of all elements of a list, and of what stands for none, holds of the element at each place.
pub All-get_d : {A : Type 0} (P : A → Type 0) (xs : List A) (d : A) → All P xs → P d → (k : ℕ) → P (get_or xs k d)
All-get_d P [] d h p k = p
All-get_d P (x ∷ xs) d h p zero = h.0
All-get_d P (x ∷ xs) d h p (suc k) = All-get_d P xs d h.1 p k

-- What follows from a property of every element holds of every element.
pub All-map : {A : Type 0} {P Q : A → Type 0} → ((x : A) → P x → Q x) → (xs : List A) → All P xs → All Q xs
All-map f [] h = tt
All-map f (x ∷ xs) h = (f x h.0, All-map f xs h.1)

-- A property of the first element, and of those behind it.
infixr 20 ◌⸴◌
pub ◌⸴◌ : {A B : Type 0} → A → B → A × B
a ⸴ b = (a, b)
