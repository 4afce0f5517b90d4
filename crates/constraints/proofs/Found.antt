-- What the code's verdicts of a table say: whether all that is met is within the limit, and then the bytes and whether all are 1.
use mathlib.Core.Path.{◌≡◌, refl, sym, subst, ◌∙◌}
use Rattle.std.proofs.Common.{Option, Some, None}
use Prim.Native.Nat.{ℕ, ◌-◌, ◌≤◌}
use native.Mathlib.Omega.{arith}
use mathlib.Core.Bool.{Bool, true, false, cond}
use mathlib.Core.List.{List, ◌++◌}
use mathlib.Core.Option.{none}
use lib.ListN.{length, take, replicate, length-append, length-replicate, length-map}
use lib.Seq.{take_at}
use Rattle.language.specs.Readings.{Reading}
use Rattle.language.specs.Meaning.{Assignment}
use Rattle.answers.specs.Sections.{constraints}
use Rattle.answers.specs.Check.{check_fault}
use Rattle.answers.specs.Answers.{all_met_within, verdicts, all_one}
use Rattle.answers.proofs.Declared.{length-constraints}
use Rattle.constraints.specs.declared.Verdicts.{Verdicts}
use Rattle.constraints.specs.Verdicts.{verdicts_of}
use Rattle.constraints.proofs.Walking.{few-constraints}

module _ (table : List ℕ) (ρ : Reading) (α : Assignment) where
  -- There is a byte for each constraint.
  pub length-verdicts : length (verdicts table ρ α) ≡ length (constraints table)
  unfolding verdicts
  length-verdicts = rw length-map

  few : check_fault table ≡ none → length (verdicts table ρ α) ≤ 5000
  few sound = omega (arith, length-verdicts, length-constraints table, few-constraints table sound)

  -- What the code's verdicts are: all that is met stays within the limit,
  pub record Found (v : Verdicts) : Type 0 where
    pub within : all_met_within table ρ α (constraints table) ≡ true
    -- the first bytes are the table's verdicts,
    pub bytes : take (length (constraints table)) v.bytes ≡ verdicts table ρ α
    -- it tells whether all are 1,
    pub all : v.all ≡ all_one (verdicts table ρ α)
    -- and there are 5,000 bytes.
    pub long : check_fault table ≡ none → length v.bytes ≡ 5000

  pub verdicts_found : {r : Option Verdicts} {v : Verdicts} → r ≡ verdicts_of table ρ α → r ≡ Some v → Found v
  unfolding verdicts_of
  verdicts_found e f = by_within (all_met_within table ρ α (constraints table)) refl (sym e ∙ f)
    where
      whole : Verdicts
      whole = record { bytes = verdicts table ρ α ++ replicate (5000 - length (verdicts table ρ α)) 0; all = all_one (verdicts table ρ α) }

      by_within : (b : Bool) → all_met_within table ρ α (constraints table) ≡ b → {v : Verdicts} → cond b (Some whole) None ≡ Some v → Found v
      by_within true w {v} g =
          let same : whole ≡ v = cc in
          subst Found same
          (record {
            within = w;
            bytes = take_at (verdicts table ρ α) _ (length (constraints table)) length-verdicts;
            all = refl;
            long = λ sound. length-append (verdicts table ρ α) (replicate (5000 - length (verdicts table ρ α)) 0) ∙ omega (arith, few sound, length-replicate {A = ℕ} (5000 - length (verdicts table ρ α)) 0);
          })
      by_within false w g = absurd cc

  -- Without verdicts it does not.
  pub verdicts_missing : {r : Option Verdicts} → r ≡ verdicts_of table ρ α → r ≡ None → all_met_within table ρ α (constraints table) ≡ false
  unfolding verdicts_of
  verdicts_missing e f = by_within (all_met_within table ρ α (constraints table)) _ (sym e ∙ f)
    where
      by_within : (b : Bool) (v : Verdicts) → cond b (Some v) None ≡ None → b ≡ false
      by_within true v g = absurd cc
      by_within false v g = refl
