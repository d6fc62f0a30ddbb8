-- The parts that are appended one after another are the text.
use Rattle.std.proofs.Common.{append_assoc}
use Rattle.std.proofs.lemmas.Result.{IfOk-equal}
use Rattle.dcx_report.specs.FilterText.{step_text}
use Rattle.dcx_report.proofs.filter_lines.put_step.Goals as goal

pub returns : goal.returns
unfolding step_text
returns c = IfOk-equal _ _ _ _ c.put_bytes.ensures (rw (c.in_ok-put_numbered.ensures, c.from.ensures) (simp append_assoc))
