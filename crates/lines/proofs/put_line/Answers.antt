-- `put_line`: two letters, two numbers of a byte each, and two signed numbers.
use Rattle.std.proofs.Common.{◌≡◌, ℕ, ◌+◌, ◌*◌, List, [], ◌∷◌, ◌++◌, length, length-set, append_assoc, arith, rules, ap, ◌∙◌, ℤ, pos, w32, w64, to_z, of_z}
use mir.Facts.{to_z-of_z}
use Rattle.std.proofs.lemmas.List.Edits.{sets}
use Rattle.table.specs.declared.Record.{Record}
use Rattle.table.specs.Records.{record_size, byte_at, kind_at, aux_at, x_at, y_at}
use Rattle.answers.specs.Listing.{decimal, signed_decimal, space, newline, line_of}
use Rattle.lines.proofs.Digits.{field_is, length-field, length-byte_field}
use Rattle.lines.proofs.Placed.{put, put_byte, put_two, put-++}
use Rattle.lines.proofs.put_line.Goals as goal

pub put_field-kind_end-requires-clause-in_bounds : goal.put_field-kind_end-requires-clause-in_bounds
put_field-kind_end-requires-clause-in_bounds c = simp length-set (omega (arith, length-byte_field c.from.type_inv c.from.ensures (search rules)))

pub put_field-aux_end-requires-clause-in_bounds : goal.put_field-aux_end-requires-clause-in_bounds
put_field-aux_end-requires-clause-in_bounds c = omega (arith, simp length-set at c.put_field-kind_end.auto.text, length-byte_field c.from.type_inv c.from.ensures (search rules), length-byte_field c.from-2.type_inv c.from-2.ensures (search rules))

pub put_field-x_end-requires-clause-in_bounds : goal.put_field-x_end-requires-clause-in_bounds
put_field-x_end-requires-clause-in_bounds c = omega (arith, simp length-set at c.put_field-kind_end.auto.text, length-byte_field c.from.type_inv c.from.ensures (search rules), length-byte_field c.from-2.type_inv c.from-2.ensures (search rules), length-field c.from-3.type_inv c.from-3.ensures (search rules))

pub put_field-y_end-requires-clause-in_bounds : goal.put_field-y_end-requires-clause-in_bounds
put_field-y_end-requires-clause-in_bounds c = omega (arith, simp length-set at c.put_field-kind_end.auto.text, length-byte_field c.from.type_inv c.from.ensures (search rules), length-byte_field c.from-2.type_inv c.from-2.ensures (search rules), length-field c.from-3.type_inv c.from-3.ensures (search rules), length-field c.from-4.type_inv c.from-4.ensures (search rules))

pub bounds-text-y_end : goal.bounds-text-y_end
bounds-text-y_end c = omega (arith, simp length-set at c.put_field-kind_end.auto.text, length-byte_field c.from.type_inv c.from.ensures (search rules), length-byte_field c.from-2.type_inv c.from-2.ensures (search rules), length-field c.from-3.type_inv c.from-3.ensures (search rules), length-field c.from-4.type_inv c.from-4.ensures (search rules))

pub overflow_add-result : goal.overflow_add-result
overflow_add-result c = omega (arith, simp length-set at c.put_field-kind_end.auto.text, bounds-text-y_end c)

-- ---- the line

fields : (a b c d e : List ℕ) → (((a ++ 32 ∷ b) ++ 32 ∷ c) ++ 32 ∷ d) ++ e ≡ a ++ 32 ∷ (b ++ 32 ∷ (c ++ 32 ∷ (d ++ e)))
fields a b c d e = simp append_assoc

module _ (table : List ℕ) (k : ℕ) where
  -- the two letters of record k
  abbrev letters : List ℕ
  letters = byte_at table (record_size * k) ∷ byte_at table (record_size * k + 1) ∷ []

  joined : {kind aux x y : ℤ} → kind ≡ pos (kind_at table k) → aux ≡ pos (aux_at table k) → x ≡ x_at table k → y ≡ y_at table k
      → ((((letters ++ (space ++ signed_decimal kind)) ++ (space ++ signed_decimal aux)) ++ (space ++ signed_decimal x)) ++ (space ++ signed_decimal y)) ++ newline ≡ line_of table k
  unfolding line_of signed_decimal
  joined e f g h =
      rw (e, f, g, h)
      (ap (λ l. byte_at table (record_size * k) ∷ byte_at table (record_size * k + 1) ∷ 32 ∷ l)
      (fields (decimal (kind_at table k)) (decimal (aux_at table k)) (signed_decimal (x_at table k)) (signed_decimal (y_at table k)) newline))

-- what the code reads of x, which it takes as a number of 64 bits
abbrev field : ℤ → List ℕ
field x = space ++ signed_decimal (to_z w64 (of_z w64 x))

pub returns : goal.returns
unfolding record_size byte_at
returns c =
    let x = to_z-of_z {w = w32} {z = c.record_at-record.result.x} (search rules) ∙ ap (λ (r : Record). r.x) c.record_at-record.ensures in
    let y = to_z-of_z {w = w32} {z = c.record_at-record.result.y} (search rules) ∙ ap (λ (r : Record). r.y) c.record_at-record.ensures in
    let line = joined c.args.table.now c.args.k
    (field_is c.from.type_inv (c.from.ensures ∙ ap (λ (r : Record). pos r.kind) c.record_at-record.ensures))
    (field_is c.from-2.type_inv (c.from-2.ensures ∙ ap (λ (r : Record). pos r.aux) c.record_at-record.ensures))
    (field_is c.from-3.type_inv (c.from-3.ensures ∙ x))
    (field_is c.from-4.type_inv (c.from-4.ensures ∙ y)) in
    let kind = put (field c.from.result) c.put_field-kind_end.ensures.value c.put_field-kind_end.ensures.text_after in
    let aux = put (field c.from-2.result) c.put_field-aux_end.ensures.value c.put_field-aux_end.ensures.text_after in
    let x = put (field c.from-3.result) c.put_field-x_end.ensures.value c.put_field-x_end.ensures.text_after in
    let y = put (field c.from-4.result) c.put_field-y_end.ensures.value c.put_field-y_end.ensures.text_after in
    let whole = put-++ (put-++ (put-++ (put-++ (put-++ (put_two c.args.text.now c.args.at _ _) kind) aux) x) y) (put_byte c.put_field-y_end.new.text c.put_field-y_end.result 10) in
    record {
      value = whole.behind ∙ ap (λ bytes. c.args.at + length bytes) line;
      text_after = whole.written ∙ ap (sets c.args.text.now c.args.at) line;
      upper_bound = omega (arith, length-byte_field c.from.type_inv c.from.ensures (search rules), length-byte_field c.from-2.type_inv c.from-2.ensures (search rules), length-field c.from-3.type_inv c.from-3.ensures (search rules), length-field c.from-4.type_inv c.from-4.ensures (search rules));
    }
