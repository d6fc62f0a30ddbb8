-- Two runs with the same report have the same answers.
use Rattle.dcx_report.proofs.SameReport as same
use Rattle.dcx_report.proofs.laws.same_text_same_answers.Goals as goal

pub returns : goal.returns
returns c = same.same_text_same_answers
