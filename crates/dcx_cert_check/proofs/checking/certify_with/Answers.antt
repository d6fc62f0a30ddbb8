-- At first nothing is kept, and what passes shows its answer.
use Rattle.std.proofs.Common.{[]}
use Rattle.dcx_cert_values.proofs.Left.{none_only}
use Rattle.dcx_cert_check.proofs.Shows.{shown_where}
use Rattle.dcx_cert_check.proofs.checking.certify_with.Goals as goal

pub check-requires-clause-values : goal.check-requires-clause-values
check-requires-clause-values c = c.in_ok-values.ensures.values c.args.setting.now []

pub check-requires-clause-only : goal.check-requires-clause-only
check-requires-clause-only c = none_only c.args.problem.now c.in_ok-values.values c.in_ok-values.ensures.none

pub returns-clause-shown : goal.returns-clause-shown
returns-clause-shown c = shown_where c.args.problem.now c.args.setting.now c.args.cert.now c.requires.accepted c.requires.cert c.check.result c.check.ensures
