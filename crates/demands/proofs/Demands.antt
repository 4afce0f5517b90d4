-- The page's proofs: demands 1, 2 and 3, that each promise allows one answer, and the law of division.
use mathlib.Core.Path.{◌≡◌, refl, sym, ap, ◌∙◌}
use Prim.Native.Nat.{ℕ}
use mathlib.Core.Bool.{false}
use mathlib.Core.List.{List, []}
use mathlib.Core.Option.{none}
use lib.ListN.{length}
use Rattle.numbers.proofs.Division.{nat_abs-remainder-<, remainder-≥0, remainder-≤0, divided}
use Rattle.language.specs.Meaning.{Assignment}
use Rattle.answers.specs.Answers as Answers
use Rattle.answers.specs.Check.{first, check_order, check_fault}
use Rattle.answers.specs.Answers.{Outcome, done, outcome, reading_chosen, verdicts, evaluate_order, evaluation_done, translation, translate_order, translation_done}
use Rattle.answers.proofs.Faults.{none-or_else}
use Rattle.answers.proofs.Translatable.{Translatable, none→Translatable}
use Rattle.demands.specs.Demands.{OneAnswer, Answered, AnsweredWith, Demand1, Evaluated, written, WrittenByRules, Demand2, Demand3, DivisionLaw}
use Rattle.answers.proofs.Numbers.{up_to, Numbered-check, evaluate_order-numbered, translate_order-numbered}
use Rattle.demands.proofs.Outcomes.{check-is, outcome-answered, number-0→none}
use Rattle.demands.proofs.TotalTable.{translation-total}
use Rattle.demands.proofs.Verdicts.{length-verdicts, get_d_verdicts, all_one-verdicts, take-written, drop-written, get_d_written}

-- ---- one answer

pub one_answer : OneAnswer
one_answer =
    record {
      check = λ table a b p q. p ∙ sym q;
      evaluate = λ choice table α budget lent o o' p q. p ∙ sym q;
      translate = λ choice table lent o o' p q. p ∙ sym q;
      list = λ input lent long far after other p q. (p.text_length ∙ sym q.text_length, p.text ∙ sym q.text);
    }

-- ---- demand 1

-- Each call answers with the first fault in its order.
check-answered : (table : List ℕ) → Answered 6 (check_order table) (Answers.check table)
unfolding done check_fault
check-answered table = rw (check-is table) (outcome-answered 6 _ _ refl (Numbered-check (up_to 6) tt tt tt tt tt tt table) (done 0 0 false) refl [] []).answer

evaluate-answered : (choice : ℕ) (table : List ℕ) (α : Assignment) (budget : ℕ) (lent : List ℕ)
    → AnsweredWith 11 (evaluate_order choice table α budget (length lent)) lent (Answers.evaluate choice table α budget lent)
unfolding Answers.evaluate evaluation_done done
evaluate-answered choice table α budget lent = outcome-answered 11 _ _ refl (evaluate_order-numbered choice table α budget (length lent)) _ refl _ lent

translate-answered : (choice : ℕ) (table lent : List ℕ) → AnsweredWith 9 (translate_order choice table (length lent)) lent (Answers.translate choice table lent)
unfolding Answers.translate translation_done done
translate-answered choice table lent = outcome-answered 9 _ _ refl (translate_order-numbered choice table (length lent)) _ refl _ lent

pub demand_1 : Demand1
demand_1 =
    record {
      check = λ table a p. rw p (check-answered table);
      evaluate = λ choice table α budget lent o p. rw p (evaluate-answered choice table α budget lent);
      translate = λ choice table lent o p. rw p (translate-answered choice table lent);
    }

-- ---- demand 2

-- A call that is not refused gives the outcome without a fault.
evaluate-done : (choice : ℕ) (table : List ℕ) (α : Assignment) (budget : ℕ) (lent : List ℕ) (o : Outcome)
    → o ≡ Answers.evaluate choice table α budget lent → o.answer.number ≡ 0
    → o ≡ outcome none (evaluation_done table (reading_chosen choice) α) (verdicts table (reading_chosen choice) α) lent
unfolding Answers.evaluate
evaluate-done choice table α budget lent o p z =
    let None-first = number-0→none 11 (evaluate_order choice table α budget (length lent)) o.answer (demand_1.evaluate choice table α budget lent o p).answer z in
    p ∙ ap (λ f. outcome f (evaluation_done table (reading_chosen choice) α) (verdicts table (reading_chosen choice) α) lent) None-first

translate-done : (choice : ℕ) (table lent : List ℕ) (o : Outcome) → o ≡ Answers.translate choice table lent → o.answer.number ≡ 0
    → o ≡ outcome none (translation_done table (reading_chosen choice)) (translation table (reading_chosen choice)) lent
unfolding Answers.translate
translate-done choice table lent o p z =
    let None-first = number-0→none 9 (translate_order choice table (length lent)) o.answer (demand_1.translate choice table lent o p).answer z in
    p ∙ ap (λ f. outcome f (translation_done table (reading_chosen choice)) (translation table (reading_chosen choice)) lent) None-first

-- What an evaluation without a fault gives,
outcome-evaluated : (choice : ℕ) (table : List ℕ) (α : Assignment) (lent : List ℕ)
    → Evaluated table (reading_chosen choice) α lent
    (outcome none (evaluation_done table (reading_chosen choice) α) (verdicts table (reading_chosen choice) α) lent)
unfolding outcome evaluation_done done
outcome-evaluated choice table α lent =
    let ρ = reading_chosen choice in
    let as_many = length-verdicts table ρ α in
    record {
      values = λ i l. get_d_written (verdicts table ρ α) lent i (rw as_many l) ∙ get_d_verdicts table ρ α i l;
      rest_as_it_was = rw (← as_many) (drop-written (verdicts table ρ α) lent);
      one_byte_each = as_many;
      steps = refl;
      all_true = all_one-verdicts table ρ α;
    }

-- and a translation.
outcome-written : (choice : ℕ) (table lent : List ℕ)
    → WrittenByRules table (reading_chosen choice) lent (outcome none (translation_done table (reading_chosen choice)) (translation table (reading_chosen choice)) lent)
unfolding outcome translation_done done written
outcome-written choice table lent =
    record {
      by_the_rules = take-written (translation table (reading_chosen choice)) lent;
      rest_as_it_was = drop-written (translation table (reading_chosen choice)) lent;
    }

pub demand_2 : Demand2
demand_2 =
    record {
      evaluate = λ choice table α budget lent o p z. rw (evaluate-done choice table α budget lent o p z) (outcome-evaluated choice table α lent);
      translate = λ choice table lent o p z. rw (translate-done choice table lent o p z) (outcome-written choice table lent);
    }

-- ---- demand 3

-- A table that is translated has none of the faults.
translate-translatable : (choice : ℕ) (table lent : List ℕ) (o : Outcome) → o ≡ Answers.translate choice table lent → o.answer.number ≡ 0
    → Translatable table (reading_chosen choice)
unfolding first translate_order
translate-translatable choice table lent o p z =
    let None-first = number-0→none 9 (translate_order choice table (length lent)) o.answer (demand_1.translate choice table lent o p).answer z in
    let behind-7 = (none-or_else _ _ None-first).1 in
    let checked = none-or_else _ _ behind-7 in
    let bounded = none-or_else _ _ checked.1 in
    none→Translatable table (reading_chosen choice) (length lent) checked.0 bounded.0 (none-or_else _ _ bounded.1).0

pub demand_3 : Demand3
demand_3 =
    record {
      translate = λ choice table lent o p z.
          rw (demand_2.translate choice table lent o p z).by_the_rules
          (translation-total table (reading_chosen choice) (translate-translatable choice table lent o p z));
    }

-- ---- division

pub division-law : DivisionLaw
division-law =
    record {
      divided = λ a b t.
          record {
            identity = divided a b;
            not_below = remainder-≥0 a b;
            not_above = remainder-≤0 a b;
            nearer = nat_abs-remainder-< a b t;
          };
    }
