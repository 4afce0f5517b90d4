-- The answers, opened: each call of the definitions as a function that computes on closed inputs. The trials beside this file are stated with
-- these, so that the long line of what unfolds stands once.
use Prim.Native.Nat.{ℕ}
use mathlib.Core.List.{List}
use mathlib.Core.Option.{bind, or_else}
use Rattle.answers.specs.Answers as Answers
use Rattle.answers.specs.Check as Check
use Rattle.answers.specs.Listing as Listing
use Rattle.answers.specs.Sections as Sections
use Rattle.language.specs.Meaning as Meaning
use Rattle.language.specs.Readings as Readings
use Rattle.language.specs.Steps as Steps
use Rattle.language.specs.Tables as Tables
use Rattle.numbers.specs.Whole as Whole
use Rattle.rules.specs.Bounds as Bounds
use Rattle.rules.specs.Formulas as Formulas
use Rattle.rules.specs.Rules as Rules
use Rattle.rules.specs.Writing as Writing
use Rattle.table.specs.Kinds as Kinds
use Rattle.table.specs.Records as Records

-- the check
unfoldable pub checked : List ℕ → Answers.Answer
unfolding or_else Whole.eq_z Whole.least Whole.greatest Whole.between Whole.quotient Whole.remainder Whole.within_limit Meaning.put Meaning.no_slot Meaning.no_array Meaning.slot_at Meaning.array_at Meaning.count Meaning.is_one Meaning.number Meaning.value_of Meaning.element_value Meaning.element_at Meaning.value_i Meaning.value_within Meaning.throughout Meaning.met_within_i Tables.as_i Tables.as_b Tables.tree_at Tables.tree_i Tables.tree_b Tables.fill Tables.trees_after Tables.trees Tables.free_i Tables.free_in Records.record_size Records.first_letter Records.second_letter Records.signed Records.bits_of Records.byte_at Records.word_at Records.record_count Records.marked Records.kind_at Records.aux_at Records.x_at Records.y_at Records.word_bytes Records.record_bytes Kinds.kinds Kinds.kind_of Kinds.row_in Kinds.arithmetic_kind Kinds.division_kind Kinds.connective_kind Kinds.comparison_kind Kinds.quantifier_kind Kinds.node_bytes Sections.listed Sections.sort_of_kind Sections.run_end Sections.end_of Sections.behind_array Sections.arrays_from Sections.arrays_end Sections.variables_at Sections.slots_at Sections.arrays_at Sections.nodes_at Sections.constraints_at Sections.rest_at Sections.variable_count Sections.slot_count Sections.array_records Sections.node_count Sections.constraint_count Sections.variable_of Sections.slot_of Sections.element_of Sections.array_of Sections.declarations Sections.row_of Sections.rows Sections.node_trees Sections.constraints Check.unless Check.first_fault Check.same_sort Check.is_zero Check.is_bit Check.near Check.names Check.is_kind Check.variable_sort Check.array_sort Check.node_sort Check.header_fault Check.domain_allowed Check.variable_fault Check.slot_fault Check.array_fault Check.constant_allowed Check.element_fault Check.field_allowed Check.field_names Check.field_typed Check.kind_fault Check.node_fault Check.no_free_slot Check.constraint_fault Check.arrays_fault Check.rest_fault Check.length_allowed Check.length_fault Check.first Check.check_order Check.check_fault Answers.refused Answers.done Answers.check
checked table = Answers.check table

-- evaluation
unfoldable pub evaluated : ℕ → List ℕ → Meaning.Assignment → ℕ → List ℕ → Answers.Outcome
unfolding bind checked Bounds.no_variable Bounds.variable_at Readings.both Readings.arithmetic Readings.part Readings.division Readings.comparison Readings.logic Readings.strictly Readings.kleene_and Readings.kleene_or Readings.opposite Readings.kleenely Readings.connective Readings.atomic Readings.over Readings.joins Readings.of_none Readings.quantified Readings.summed Steps.cost_i Answers.outcome Answers.reading_of Answers.is_reading Answers.reading_chosen Answers.refuse_unless Answers.unset Answers.assignment_fault Answers.costs Answers.total_cost Answers.value_of_constraint Answers.all_met_within Answers.verdicts Answers.all_one Answers.evaluate_order Answers.evaluation_done Answers.evaluate
evaluated choice table α budget lent = Answers.evaluate choice table α budget lent

-- translation
unfoldable pub translated : ℕ → List ℕ → List ℕ → Answers.Outcome
unfolding evaluated Bounds.magnitude Bounds.hull Bounds.only Bounds.products Bounds.arith_interval Bounds.around Bounds.divide_interval Bounds.slot_interval Bounds.variable_interval Bounds.element_interval Bounds.hull_with Bounds.elements_interval Bounds.interval Bounds.within_bounds Formulas.divide_v Formulas.divide_d Formulas.inside Formulas.clamped Formulas.refuted Formulas.behind Formulas.settled Formulas.connect_p Formulas.connect_n Formulas.quantify_p Formulas.quantify_n Rules.last Rules.guard Rules.index Rules.rule Writing.leaf Writing.unary Writing.binary Writing.write_i Writing.in_turn Writing.write_rule Writing.nothing_yet Writing.rule_after Writing.append Writing.step Writing.translate_after Writing.translate_rows Answers.bounds_fault Answers.translated Answers.new_nodes Answers.new_constraints Answers.new_count Answers.translation Answers.room_fault Answers.translate_order Answers.translation_done Answers.translate
translated choice table lent = Answers.translate choice table lent

-- the listing
unfoldable pub listed : List ℕ → List ℕ
unfolding translated Listing.digits Listing.decimal Listing.signed_decimal Listing.line_of Listing.lines_of Listing.refusal_line Listing.listing_of Listing.choice_of Listing.listing
listed input = Listing.listing input
