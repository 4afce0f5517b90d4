-- `checker::check` meets its contract: it answers for every byte string what document 01 says.
use mathlib.Core.Path.{refl, sym, ◌∙◌}
use Rattle.std.specs.Prelude.{Err}
use Rattle.verdict.specs.declared.Fault.TheVariants.{BadLength}
use Rattle.checker.proofs.Whole.{sound-length, bad_length}
use Rattle.checker.proofs.check.Goals as goal

pub check_records-requires : goal.check_records-requires
check_records-requires c = sym c.length_allowed.ensures ∙ c.if-length_allowed.true

pub returns-then-length_allowed : goal.returns-then-length_allowed
returns-then-length_allowed c = sound-length _ _ (sym c.length_allowed.ensures ∙ c.if-length_allowed.true) c.check_records.ensures

pub returns-else-length_allowed : goal.returns-else-length_allowed
returns-else-length_allowed c = bad_length _ (Err BadLength) (sym c.length_allowed.ensures ∙ c.if-length_allowed.false) refl
