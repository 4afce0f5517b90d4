-- `declarations::allowed` meets its contract: a test that fails is number 3 at its record.
use Rattle.answers.proofs.Faults.{unless-true, unless-false}
use Rattle.verdict.proofs.Soundness.{refused_at, sound-at}
use Rattle.declarations.proofs.allowed.Goals as goal

pub returns-then-passed : goal.returns-then-passed
returns-then-passed c = sound-at _ (unless-true 3 c.if-passed.true)

pub returns-else-passed : goal.returns-else-passed
returns-else-passed c = refused_at _ (unless-false 3 c.if-passed.false)
