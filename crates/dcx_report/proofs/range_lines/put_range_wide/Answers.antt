-- The parts that are appended one after another are the text.
use Rattle.std.proofs.Common.{append_assoc}
use Rattle.std.proofs.lemmas.Result.{IfOk-equal}
use Rattle.dcx_report.specs.RangeText.{range_stop_text}
use Rattle.dcx_report.proofs.range_lines.put_range_wide.Goals as goal

pub returns : goal.returns
unfolding range_stop_text
returns c = IfOk-equal _ _ _ _ c.put_bytes-2.ensures (rw (c.in_ok-put_passes.ensures, c.in_ok-put_bytes.ensures) (simp append_assoc))
