-- `choice_and_table`: with no input the choice is 0; else the table stands behind the first byte.
use Rattle.std.proofs.Common.{◌≡◌, ℕ, List, [], ◌∷◌, length, refl, arith}
use Rattle.answers.specs.Listing.{listing, listing_of}
use Rattle.listing.proofs.choice_and_table.Goals as goal

no_input : (input : List ℕ) → length input ≡ 0 → listing_of 0 input ≡ listing input
unfolding listing
no_input [] e = refl
no_input (b ∷ table) e = absurd (omega (arith, e))

pub returns-in-Some : goal.returns-in-Some
unfolding listing
returns-in-Some c = rw (c.in-Some.ensures.cases.0, c.choice_of.ensures)

pub returns-in-None : goal.returns-in-None
returns-in-None c = no_input c.args.input.now c.in-None.ensures.cases
