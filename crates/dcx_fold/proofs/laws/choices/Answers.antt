-- The law of choices.
use Rattle.dcx_fold.proofs.Choices.{choices_hold}
use Rattle.dcx_fold.proofs.laws.choices.Goals as goal

pub returns : goal.returns
returns c = choices_hold
