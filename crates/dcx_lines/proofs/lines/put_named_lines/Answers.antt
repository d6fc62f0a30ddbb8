-- Each pair appends its line.
use Rattle.std.proofs.Common.{arith}
use Rattle.dcx_lines.specs.Lines.{named_line}
use Rattle.dcx_lines.proofs.Pairs.{lines_more}
use Rattle.dcx_lines.proofs.lines.put_named_lines.Goals as goal

pub pairs-preserved : goal.pairs-preserved
pairs-preserved c =
    lines_more (named_line c.args.word.now) c.args.point.now c.pairs.i c.args.out.now.items c.pairs.out.items c.put_pair_line.new.out.items
    (omega (arith, c.pairs-test.true, c.len-i-end.ensures.count)) c.pairs.invariant (c.in_ok-put_pair_line.ensures {u = tt})
