-- Each constraint with a point appends its lines.
use Rattle.std.proofs.Common.{arith}
use Rattle.std.specs.List.{zip}
use Rattle.dcx_lines.proofs.Pairs.{lines_more}
use Rattle.dcx_report.specs.FilterText.{without_lines}
use Rattle.dcx_report.proofs.filter_lines.put_points.Goals as goal

pub pairs-preserved : goal.pairs-preserved
pairs-preserved c =
    lines_more without_lines (zip c.args.members.now c.args.points.now) c.pairs.i c.args.out.now.items c.pairs.out.items c.put_pair.new.out.items
    (omega (arith, c.pairs-test.true, c.count_of_pairs-i-end.ensures)) c.pairs.invariant (c.in_ok-put_pair.ensures {u = tt})
