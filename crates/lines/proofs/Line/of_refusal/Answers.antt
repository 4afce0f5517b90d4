-- `Line::of_refusal`: the word, then two numbers of ten digits at most.
use Rattle.std.proofs.Common.{◌≡◌, ◌<◌, ◌≤◌, ◌^◌, length, sym, subst, ℕ, List, [], ◌∷◌, ◌++◌, arith, length-append, append_assoc}
use Rattle.answers.specs.Listing.{decimal, refusal_line, signed_decimal, space, newline}
use Rattle.lines.specs.Pieces.{longest_refusal, refusal_text}
use Rattle.lines.proofs.Digits.{length-decimal, field_is, length-field}
use Rattle.lines.proofs.Line.of_refusal.Goals as goal

-- `refused`
abbrev refused_word : List ℕ
refused_word = 114 ∷ 101 ∷ 102 ∷ 117 ∷ 115 ∷ 101 ∷ 100 ∷ []

joined : (n k : ℕ) → ((refused_word ++ (space ++ decimal n)) ++ (space ++ decimal k)) ++ newline ≡ refusal_text n k
unfolding refusal_line
joined n k = simp append_assoc

short : (n k : ℕ) → n < 2 ^ 32 → k < 2 ^ 32 → length (refusal_text n k) ≤ longest_refusal
unfolding refusal_line
short n k p q = simp length-append (omega (arith, length-decimal n p, length-decimal k q))

pub push_field-requires-clause-in_bounds : goal.push_field-requires-clause-in_bounds
push_field-requires-clause-in_bounds c = rw (c.push.ensures, c.new-line.ensures) (omega (arith, length-field c.from.type_inv c.from.ensures (omega arith)))

pub push_field-requires-2-clause-in_bounds : goal.push_field-requires-2-clause-in_bounds
push_field-requires-2-clause-in_bounds c = rw (c.push_field.ensures, c.push.ensures, c.new-line.ensures) (omega (arith, length-field c.from.type_inv c.from.ensures (omega arith), length-field c.from-2.type_inv c.from-2.ensures (omega arith)))

pub push-requires-2 : goal.push-requires-2
push-requires-2 c = rw (c.push_field-2.ensures, c.push_field.ensures, c.push.ensures, c.new-line.ensures) (simp length-append (omega (arith, length-field c.from.type_inv c.from.ensures (omega arith), length-field c.from-2.type_inv c.from-2.ensures (omega arith))))

pub returns-clause-value : goal.returns-clause-value
unfolding signed_decimal
returns-clause-value c = rw (c.push-2.ensures, c.push_field-2.ensures, c.push_field.ensures, c.push.ensures, c.new-line.ensures, field_is c.from.type_inv c.from.ensures, field_is c.from-2.type_inv c.from-2.ensures) (joined c.args.number c.args.at)

pub returns-clause-upper_bound : goal.returns-clause-upper_bound
returns-clause-upper_bound c = subst (λ text. length text ≤ longest_refusal) (sym (returns-clause-value c)) (short c.args.number c.args.at (omega arith) (omega arith))
