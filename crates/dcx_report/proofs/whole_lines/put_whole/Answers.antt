-- The parts that are appended one after another are the text.
use Rattle.std.proofs.Common.{append_assoc}
use Rattle.std.proofs.lemmas.Result.{IfOk-equal}
use Rattle.dcx_report.specs.WholeText.{whole_text}
use Rattle.dcx_report.proofs.whole_lines.put_whole.Goals as goal

pub returns-in_ok-put_var_lines-in-Optimal : goal.returns-in_ok-put_var_lines-in-Optimal
unfolding whole_text
returns-in_ok-put_var_lines-in-Optimal c =
    IfOk-equal _ _ _ _ c.put_nodes.ensures
    (rw (c.in-Optimal.is, c.in_ok-put_var_lines-in-Optimal.ensures, c.in_ok-put_user_line-in-Optimal.ensures, c.in_ok-put_bytes-in-Optimal.ensures) (simp append_assoc))
