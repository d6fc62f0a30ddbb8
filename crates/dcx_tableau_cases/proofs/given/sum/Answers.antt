-- A sum names no unknowns but those of its parts.
use Rattle.dcx_linear.proofs.Narrow.{sum_narrow}
use Rattle.dcx_tableau_cases.proofs.given.sum.Goals as goal

pub returns : goal.returns
returns c = sum_narrow c.args.count c.args.first.now c.args.second.now c.in_ok-add.field-0 c.in_ok-add.ensures c.requires.first c.requires.second
