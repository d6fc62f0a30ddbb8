-- The first entry that is broken is the fault.
use Rattle.std.proofs.Common.{inr}
use Rattle.dcx_cert_check.proofs.Sides.{broken_fails}
use Rattle.dcx_cert_check.proofs.constraints.compare.Goals as goal

pub returns-in-Some : goal.returns-in-Some
returns-in-Some c =
    let b = c.in-Some.broken in
    inr (broken_fails c.args.kind c.args.left.now.entries c.args.right.now.entries c.args.number b.entry b.left b.right c.in-Some.ensures)
