-- The parts that are appended one after another are the text.
use Rattle.std.proofs.Common.{append_assoc}
use Rattle.std.proofs.lemmas.Result.{IfOk-equal}
use Rattle.dcx_report.specs.AnswerText.{answer_text}
use Rattle.dcx_report.proofs.answer_lines.put_unbounded.Goals as goal

pub returns : goal.returns
unfolding answer_text
returns c =
    IfOk-equal _ _ _ _ c.put_ray_lines.ensures
    (rw (c.in_ok-put_var_lines.ensures, c.in_ok-put_number_line.ensures, c.in_ok-put_user_line.ensures, c.in_ok-put_bytes.ensures) (simp append_assoc))
