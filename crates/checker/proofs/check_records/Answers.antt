-- `checker::check_records` meets its contract: the first section with a fault decides.
use mathlib.Core.Path.{◌≡◌, refl, sym}
use native.Mathlib.Omega.{arith}
use Rattle.std.proofs.Common.{rules, Err}
use Rattle.answers.specs.Sections.{variables_at}
use Rattle.sections.proofs.Bounds.{variables-section, slots-section, slots-behind, arrays-behind, slots-place, arrays-place, rest-place, variables-counted, slots_counted}
use Rattle.verdict.proofs.Soundness.{unsound_first}
use Rattle.checker.specs.Chain.{records_fault}
use Rattle.checker.proofs.Whole.{whole_records, few_records, some_record, after, none_left, one_left}
use Rattle.checker.proofs.check_records.Goals as goal

pub header-requires : goal.header-requires
header-requires c = record { table_nonzero = some_record _ c.requires; table_bound = few_records _ c.requires }

pub find_places-at-requires : goal.find_places-at-requires
find_places-at-requires c = whole_records _ c.requires

pub overflow_sub-variables : goal.overflow_sub-variables
unfolding variables_at
overflow_sub-variables c = omega (arith, slots-place _ c.find_places-at.ensures, slots-behind _ (few_records _ c.requires) (whole_records _ c.requires))

pub variables-requires : goal.variables-requires
unfolding variables_at
variables-requires c = rw (variables-counted _ c.find_places-at.ensures) (variables-section _ (few_records _ c.requires) (whole_records _ c.requires))

pub overflow_sub-at : goal.overflow_sub-at
overflow_sub-at c = omega (arith, slots-place _ c.find_places-at.ensures, arrays-place _ c.find_places-at.ensures, arrays-behind _ (few_records _ c.requires) (whole_records _ c.requires))

pub slots-requires : goal.slots-requires
slots-requires c = rw (slots_counted _ c.find_places-at.ensures, slots-place _ c.find_places-at.ensures) (slots-section _ (few_records _ c.requires) (whole_records _ c.requires))

pub arrays-requires : goal.arrays-requires
unfolding variables_at
arrays-requires c = record {
  few = few_records _ c.requires;
  whole = whole_records _ c.requires;
  counted = variables-counted _ c.find_places-at.ensures;
  within = λ v h. (variables-section _ (few_records _ c.requires) (whole_records _ c.requires)).within v (omega (arith, variables-counted _ c.find_places-at.ensures));
}

pub nodes_and_constraints-requires : goal.nodes_and_constraints-requires
unfolding variables_at
nodes_and_constraints-requires c = record {
  few = few_records _ c.requires;
  whole = whole_records _ c.requires;
  places = c.find_places-at.ensures;
  variables = sym (rw (variables-counted _ c.find_places-at.ensures) at c.in_ok-variables.ensures);
  slots = sym (rw (slots_counted _ c.find_places-at.ensures, slots-place _ c.find_places-at.ensures) at c.in_ok-slots.ensures);
  arrays = sym (rw (arrays-place _ c.find_places-at.ensures) at c.in_ok-arrays.ensures);
}

pub overflow_cast-result : goal.overflow_cast-result
overflow_cast-result c = omega (arith, c.if-at-record_count.true, c.record_count.ensures, few_records _ c.requires)

pub returns-in_err-header : goal.returns-in_err-header
unfolding records_fault variables_at
returns-in_err-header c =
    let e : c.from_residual.result ≡ Err c.in_err-header.field-0.0 = search rules in
    rw e (unsound_first _ c.in_err-header.ensures refl)

pub returns-in_err-variables : goal.returns-in_err-variables
unfolding records_fault variables_at
returns-in_err-variables c =
    let e : c.from_residual-in_err-variables.result ≡ Err c.in_err-variables.field-0.0 = search rules in
    rw e (after (sym c.in_ok-header.ensures)
    (unsound_first _ (rw (variables-counted _ c.find_places-at.ensures) at c.in_err-variables.ensures) refl))

pub returns-in_err-slots : goal.returns-in_err-slots
unfolding records_fault variables_at
returns-in_err-slots c =
    let e : c.from_residual-in_err-slots.result ≡ Err c.in_err-slots.field-0.0 = search rules in
    rw e (after (sym c.in_ok-header.ensures)
    (after (sym (rw (variables-counted _ c.find_places-at.ensures) at c.in_ok-variables.ensures))
    (unsound_first _ (rw (slots_counted _ c.find_places-at.ensures, slots-place _ c.find_places-at.ensures) at c.in_err-slots.ensures) refl)))

pub returns-in_err-arrays : goal.returns-in_err-arrays
unfolding records_fault variables_at
returns-in_err-arrays c =
    let e : c.from_residual-in_err-arrays.result ≡ Err c.in_err-arrays.field-0.0 = search rules in
    rw e (after (sym c.in_ok-header.ensures)
    (after (sym (rw (variables-counted _ c.find_places-at.ensures) at c.in_ok-variables.ensures))
    (after (sym (rw (slots_counted _ c.find_places-at.ensures, slots-place _ c.find_places-at.ensures) at c.in_ok-slots.ensures))
    (unsound_first _ (rw (arrays-place _ c.find_places-at.ensures) at c.in_err-arrays.ensures) refl))))

pub returns-in_err-nodes_and_constraints : goal.returns-in_err-nodes_and_constraints
unfolding records_fault variables_at
returns-in_err-nodes_and_constraints c =
    let e : c.from_residual-in_err-nodes_and_constraints.result ≡ Err c.in_err-nodes_and_constraints.field-0.0 = search rules in
    rw e (after (sym c.in_ok-header.ensures)
    (after (sym (rw (variables-counted _ c.find_places-at.ensures) at c.in_ok-variables.ensures))
    (after (sym (rw (slots_counted _ c.find_places-at.ensures, slots-place _ c.find_places-at.ensures) at c.in_ok-slots.ensures))
    (after (sym (rw (arrays-place _ c.find_places-at.ensures) at c.in_ok-arrays.ensures))
    (unsound_first _ c.in_err-nodes_and_constraints.ensures refl)))))

pub returns-then-at-record_count : goal.returns-then-at-record_count
unfolding records_fault variables_at
returns-then-at-record_count c =
    after (sym c.in_ok-header.ensures)
    (after (sym (rw (variables-counted _ c.find_places-at.ensures) at c.in_ok-variables.ensures))
    (after (sym (rw (slots_counted _ c.find_places-at.ensures, slots-place _ c.find_places-at.ensures) at c.in_ok-slots.ensures))
    (after (sym (rw (arrays-place _ c.find_places-at.ensures) at c.in_ok-arrays.ensures))
    (after (sym c.in_ok-nodes_and_constraints.ensures)
    (one_left _ (rest-place _ c.find_places-at.ensures) (rw c.record_count.ensures at c.if-at-record_count.true))))))

pub returns-else-at-record_count : goal.returns-else-at-record_count
unfolding records_fault variables_at
returns-else-at-record_count c =
    after (sym c.in_ok-header.ensures)
    (after (sym (rw (variables-counted _ c.find_places-at.ensures) at c.in_ok-variables.ensures))
    (after (sym (rw (slots_counted _ c.find_places-at.ensures, slots-place _ c.find_places-at.ensures) at c.in_ok-slots.ensures))
    (after (sym (rw (arrays-place _ c.find_places-at.ensures) at c.in_ok-arrays.ensures))
    (after (sym c.in_ok-nodes_and_constraints.ensures)
    (none_left _ (rest-place _ c.find_places-at.ensures) (rw c.record_count.ensures at c.if-at-record_count.false))))))
