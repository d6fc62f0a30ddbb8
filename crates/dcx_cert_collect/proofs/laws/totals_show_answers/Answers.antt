-- What the total shows.
use Rattle.dcx_cert_collect.proofs.LawsHold.{answers_hold}
use Rattle.dcx_cert_collect.proofs.laws.totals_show_answers.Goals as goal

pub returns : goal.returns
returns c = answers_hold
