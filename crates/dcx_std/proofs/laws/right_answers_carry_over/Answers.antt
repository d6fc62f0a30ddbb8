-- An answer that is right for the program is right for the rows.
use Rattle.dcx_std.proofs.ScaledProgram.{scaled_program}
use Rattle.dcx_std.proofs.RightAnswers.{shown_of}
use Rattle.dcx_std.proofs.laws.right_answers_carry_over.Goals as goal

pub returns : goal.returns
returns c = λ rows q a known made right. shown_of rows q known (scaled_program rows q made) a right
