-- One more unknown has the columns of its kind.
use Rattle.std.proofs.Common.{◌<◌, length, arith}
use Rattle.dcx_std.proofs.Making.{unknown_step}
use Rattle.dcx_std.proofs.columns.push_unknowns.Goals as goal

pub kinds-preserved : goal.kinds-preserved
kinds-preserved c =
    let ks = c.args.kinds.now in
    let i = c.kinds.unknown in
    let within : i < length ks = omega arith in
    unknown_step ks i _ c.args.columns.now.items c.kinds.columns.items c.push_unknown.new.columns.items within c.kinds.invariant c.in_ok-push_unknown.ensures
