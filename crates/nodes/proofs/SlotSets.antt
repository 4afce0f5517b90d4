-- A set of slots as a number, a bit for each slot.
use mathlib.Core.Path.{◌≡◌, refl, sym, ap, ◌∙◌}
use mathlib.Core.Bool.{Bool, true, false, cond, not, ◌&&◌, ◌||◌, beq}
use mathlib.Core.Logic.{⊎_elim}
use Prim.Native.Nat.{ℕ, zero, suc, ◌+◌, ◌-◌, ◌*◌, ◌/◌, ◌%◌, ◌^◌, ◌<◌}
use native.Mathlib.Nat.{not-suc-le-zero, le_of_suc-le-suc, eq-or-lt_of_le}
use native.Mathlib.Omega.{arith}
use lib.Bits.{bit_and, bit_or, and_shr, and_mod, or_shr, or_mod}
use lib.Pow.{mod-pow-add, pow_pos}
use borrow.Author.Tests.{ne_eqb}
use lib.Dec.{eqb}
use Rattle.kinds.specs.declared.Entry.{Entry}
use Rattle.operands.specs.Facts.{joined_of}
use Rattle.nodes.specs.Known.{has}

-- ---- a test that holds for all numbers below another, computed

upto : ℕ → (ℕ → Bool) → Bool
upto zero f = true
upto (suc n) f = upto n f && f n

both : (a b : Bool) → (a && b) ≡ true → (a ≡ true) × (b ≡ true)
both true b e = (refl, e)
both false b e = (e, cc)

upto-at : (n : ℕ) (f : ℕ → Bool) → upto n f ≡ true → (i : ℕ) → i < n → f i ≡ true
unfolding upto
upto-at zero f e i h = absurd (not-suc-le-zero h)
upto-at (suc n) f e i h = ⊎_elim (λ q. rw q (both (upto n f) (f n) e).1) (λ l. upto-at n f (both (upto n f) (f n) e).0 i l) (eq-or-lt_of_le (le_of_suc-le-suc h))

same : (a b : Bool) → beq a b ≡ true → a ≡ b
same true true e = refl
same true false e = sym e
same false true e = e
same false false e = refl

-- two tests on pairs of slots that agree at all 256
agree : (f g : ℕ → ℕ → Bool) → upto 16 (λ s. upto 16 (λ t. beq (f s t) (g s t))) ≡ true → (s t : ℕ) → s < 16 → t < 16 → f s t ≡ g s t
agree f g e s t hs ht =
    same (f s t) (g s t) (upto-at 16 (λ t. beq (f s t) (g s t)) (upto-at 16 (λ s. upto 16 (λ t. beq (f s t) (g s t))) e s hs) t ht)

-- the set of one slot, and all but one
pub has_one : (s t : ℕ) → s < 16 → t < 16 → has t (2 ^ s) ≡ eqb t s
unfolding has upto
has_one = agree (λ s t. has t (2 ^ s)) (λ s t. eqb t s) refl

pub has-others : (s t : ℕ) → s < 16 → t < 16 → has t (65_535 - 2 ^ s) ≡ not (eqb t s)
unfolding has upto
has-others = agree (λ s t. has t (65_535 - 2 ^ s)) (λ s t. not (eqb t s)) refl

pub has_all : (t : ℕ) → t < 16 → has t 65_535 ≡ true
unfolding has upto
has_all t h = agree (λ s t. has t 65_535) (λ s t. true) refl 0 t (omega arith) h

pub has-none : (t : ℕ) → t < 16 → has t 0 ≡ false
unfolding has upto
has-none t h = agree (λ s t. has t 0) (λ s t. false) refl 0 t (omega arith) h

-- ---- both sets, and what they share

or_bit : (a b : ℕ) → a < 2 → b < 2 → eqb (bit_or a b) 1 ≡ (eqb a 1 || eqb b 1)
or_bit zero zero h k = refl
or_bit zero (suc zero) h k = refl
or_bit zero (suc (suc b)) h k = absurd (not-suc-le-zero (le_of_suc-le-suc (le_of_suc-le-suc k)))
or_bit (suc zero) zero h k = refl
or_bit (suc zero) (suc zero) h k = refl
or_bit (suc zero) (suc (suc b)) h k = absurd (not-suc-le-zero (le_of_suc-le-suc (le_of_suc-le-suc k)))
or_bit (suc (suc a)) b h k = absurd (not-suc-le-zero (le_of_suc-le-suc (le_of_suc-le-suc h)))

and-bit : (a b : ℕ) → a < 2 → b < 2 → eqb (bit_and a b) 1 ≡ (eqb a 1 && eqb b 1)
and-bit zero zero h k = refl
and-bit zero (suc zero) h k = refl
and-bit zero (suc (suc b)) h k = absurd (not-suc-le-zero (le_of_suc-le-suc (le_of_suc-le-suc k)))
and-bit (suc zero) zero h k = refl
and-bit (suc zero) (suc zero) h k = refl
and-bit (suc zero) (suc (suc b)) h k = absurd (not-suc-le-zero (le_of_suc-le-suc (le_of_suc-le-suc k)))
and-bit (suc (suc a)) b h k = absurd (not-suc-le-zero (le_of_suc-le-suc (le_of_suc-le-suc h)))

pub has_either : (t a b : ℕ) → has t (bit_or a b) ≡ (has t a || has t b)
unfolding has
has_either t a b =
    ap (λ (n : ℕ). eqb (n % 2) 1) (or_shr a b t) ∙ ap (λ (n : ℕ). eqb n 1) (or_mod (a / 2 ^ t) (b / 2 ^ t) 1)
    ∙ or_bit (a / 2 ^ t % 2) (b / 2 ^ t % 2) (omega arith) (omega arith)

pub has-shared : (t a b : ℕ) → has t (bit_and a b) ≡ (has t a && has t b)
unfolding has
has-shared t a b =
    ap (λ (n : ℕ). eqb (n % 2) 1) (and_shr a b t) ∙ ap (λ (n : ℕ). eqb n 1) (and_mod (a / 2 ^ t) (b / 2 ^ t) 1)
    ∙ and-bit (a / 2 ^ t % 2) (b / 2 ^ t % 2) (omega arith) (omega arith)

-- the slots of a joined fact
pub has-joined : (t a b : ℕ) (k : Entry) → has t (joined_of a b k).free ≡ ((has t a || has t b) && has t (65_535 - cond k.binds a 0))
unfolding joined_of
has-joined t a b k = has-shared t (bit_or a b) (65_535 - cond k.binds a 0) ∙ ap (λ (o : Bool). o && has t (65_535 - cond k.binds a 0)) (has_either t a b)

-- ---- no slot among the first n

and-true : (b : Bool) → (b && true) ≡ b
and-true true = refl
and-true false = refl

pub and-false : (b : Bool) → (b && false) ≡ false
and-false true = refl
and-false false = refl

one-bit-more : (b r p whole : ℕ) → b < 2 → 0 < p → whole ≡ b * p + r → eqb whole 0 ≡ (eqb r 0 && not (eqb b 1))
one-bit-more zero r p whole h k e = let f : whole ≡ r = omega arith in ap (λ (n : ℕ). eqb n 0) f ∙ sym (and-true (eqb r 0))
one-bit-more (suc zero) r p whole h k e = ne_eqb whole 0 (λ f. omega arith) ∙ sym (and-false (eqb r 0))
one-bit-more (suc (suc b)) r p whole h k e = absurd (not-suc-le-zero (le_of_suc-le-suc (le_of_suc-le-suc h)))

pub clear_more : (m n : ℕ) → eqb (m % 2 ^ suc n) 0 ≡ (eqb (m % 2 ^ n) 0 && not (has n m))
unfolding has
clear_more m n =
    one-bit-more (m / 2 ^ n % 2) (m % 2 ^ n) (2 ^ n) (m % 2 ^ suc n) (omega arith) (pow_pos n)
    (ap (λ (k : ℕ). m % 2 ^ k) {y = 1 + n} (omega arith) ∙ mod-pow-add m 1 n)
