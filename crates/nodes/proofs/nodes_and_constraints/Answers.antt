-- `nodes::nodes_and_constraints` meets its contract: what the declarations tell is known before the first node.
use mathlib.Core.Path.{◌≡◌, refl, sym, ◌∙◌}
use native.Mathlib.Omega.{arith}
use Rattle.std.proofs.Common.{rules, Err}
use Rattle.answers.specs.Sections.{variables_at}
use Rattle.answers.proofs.Faults.{or_else-none, or_else-some}
use Rattle.sections.proofs.Bounds.{variables-section, nodes-section, constraints-section, slots-behind, arrays-behind, constraints-behind, rest-behind, slots-place, arrays-place, array_count, nodes-place, constraints-place, rest-place, variables-counted, slots_counted, nodes-counted, constraints-counted}
use Rattle.nodes.specs.Known.{body_fault}
use Rattle.nodes.proofs.Start.{variables-few, slots-few, arrays-few, start_is}
use Rattle.nodes.proofs.nodes_and_constraints.Goals as goal

pub overflow_sub-variables : goal.overflow_sub-variables
unfolding variables_at
overflow_sub-variables c = omega (arith, slots-place _ c.requires.places, slots-behind _ c.requires.few c.requires.whole)

pub overflow_sub-slots : goal.overflow_sub-slots
overflow_sub-slots c = omega (arith, slots-place _ c.requires.places, arrays-place _ c.requires.places, arrays-behind _ c.requires.few c.requires.whole)

pub enter_slots-requires : goal.enter_slots-requires
enter_slots-requires c = omega (arith, slots_counted _ c.requires.places, slots-few _ c.requires)

pub enter_variables-requires : goal.enter_variables-requires
unfolding variables_at
enter_variables-requires c = record { count_bound = omega (arith, variables-counted _ c.requires.places, variables-few _ c.requires); by_index = λ v h. (variables-section _ c.requires.few c.requires.whole).within v (omega (arith, variables-counted _ c.requires.places)) }

pub enter_arrays-requires : goal.enter_arrays-requires
enter_arrays-requires c = record {
  whole = c.requires.whole;
  few_records = c.requires.few;
  first = arrays-place _ c.requires.places;
  counted = array_count _ c.requires.places;
  few = omega (arith, array_count _ c.requires.places, arrays-few _ c.requires);
}

pub overflow_sub-at : goal.overflow_sub-at
overflow_sub-at c = omega (arith, nodes-place _ c.requires.places, constraints-place _ c.requires.places, constraints-behind _ c.requires.few c.requires.whole)

pub nodes-requires : goal.nodes-requires
nodes-requires c = record {
  section = rw (nodes-counted _ c.requires.places, nodes-place _ c.requires.places) (nodes-section _ c.requires.few c.requires.whole);
  first = nodes-place _ c.requires.places;
  counted = nodes-counted _ c.requires.places;
  is_known =
      start_is _ c.requires (slots_counted _ c.requires.places) (variables-counted _ c.requires.places) (array_count _ c.requires.places)
      c.new-known.ensures c.enter_slots.ensures c.enter_variables.ensures c.enter_arrays.ensures;
}

pub returns-in_err-nodes : goal.returns-in_err-nodes
unfolding body_fault
returns-in_err-nodes c =
    let e : c.from_residual.result ≡ Err c.in_err-nodes.field-0.0 = search rules in
    rw e (sym (or_else-some _ (sym c.in_err-nodes.ensures.fault_found)))

pub overflow_sub-at-2 : goal.overflow_sub-at-2
overflow_sub-at-2 c = omega (arith, constraints-place _ c.requires.places, rest-place _ c.requires.places, rest-behind _ c.requires.few c.requires.whole)

pub constraints-requires : goal.constraints-requires
constraints-requires c = record {
  section = rw (constraints-counted _ c.requires.places, constraints-place _ c.requires.places) (constraints-section _ c.requires.few c.requires.whole);
  slots_counted = slots_counted _ c.requires.places;
  is_known = c.in_ok-nodes.ensures.all_known refl;
}

pub returns : goal.returns
unfolding body_fault
returns c = sym
    (or_else-none (sym c.in_ok-nodes.ensures.fault_found)
    ∙ sym (rw (constraints-counted _ c.requires.places, constraints-place _ c.requires.places) at c.constraints.ensures))

pub overflow_cast-slots : goal.overflow_cast-slots
overflow_cast-slots c = omega (arith, slots_counted _ c.requires.places, slots-few _ c.requires)

pub overflow_cast-variables : goal.overflow_cast-variables
overflow_cast-variables c = omega (arith, variables-counted _ c.requires.places, variables-few _ c.requires)

pub overflow_cast-at : goal.overflow_cast-at
overflow_cast-at c = omega (arith, array_count _ c.requires.places, arrays-few _ c.requires)
