-- The fault is the first site that breaks its rule.
use Rattle.std.proofs.Common.{subst}
use Rattle.dcx_rules.specs.Sites.{IsFaultOf}
use Rattle.dcx_front.proofs.accepting.broken.Goals as goal

pub not_dcp-requires : goal.not_dcp-requires
not_dcp-requires c = (subst (IsFaultOf c.args.work.now.problem) c.in-NotDcp.is c.requires).1

pub returns-in-NotDcp : goal.returns-in-NotDcp
returns-in-NotDcp c = ((subst (IsFaultOf c.args.work.now.problem) c.in-NotDcp.is c.requires).0, c.not_dcp.ensures)
