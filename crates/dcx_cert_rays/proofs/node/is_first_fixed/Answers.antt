-- The mark of the first argument tells whether it has a variable below it.
use Rattle.dcx_cert_rays.proofs.Tables.{first_marked}
use Rattle.dcx_cert_rays.proofs.node.is_first_fixed.Goals as goal

pub returns-in-len1-up : goal.returns-in-len1-up
returns-in-len1-up c = first_marked c.args.along.now.problem.now c.args.along.now.fixed.now c.requires.given.fixed c.args.ids.now c.requires.there c.in-len1-up.len_at_least
