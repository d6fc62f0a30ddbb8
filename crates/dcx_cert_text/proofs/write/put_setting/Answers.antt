-- Each pair appends its line.
use Rattle.std.proofs.Common.{arith}
use Rattle.std.specs.Prelude.{codes}
use Rattle.dcx_lines.specs.Lines.{named_line}
use Rattle.dcx_lines.proofs.Pairs.{lines_more}
use Rattle.dcx_cert_text.proofs.write.put_setting.Goals as goal

pub values-preserved : goal.values-preserved
values-preserved c =
    lines_more (named_line (codes "param")) c.args.setting.now c.values.i c.args.out.now.items c.values.out.items c.put_value.new.out.items
    (omega (arith, c.values-test.true, c.len-i-end.ensures.count)) c.values.invariant (c.in_ok-put_value.ensures {u = tt})
