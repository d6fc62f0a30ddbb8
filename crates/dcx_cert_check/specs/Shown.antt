-- What a certificate that passes its checks shows of a problem at a setting.
use Rattle.dcx_point.specs.Pairs.{Pairs}
use Rattle.dcx_tree.specs.declared.problem.Problem.{Problem}
use Rattle.dcx_tree.specs.Meaning.{IsFitting, IsDomainPoint, setting_of}
use Rattle.dcx_answer.specs.declared.answer.Answer.TheVariants as answers
use Rattle.dcx_cert_values.specs.Answers.{IsRightFor}
use Rattle.dcx_cert_sections.specs.declared.cert.Cert.{Cert}
use Rattle.dcx_cert_sections.specs.declared.cert.Cert.TheVariants.{Optimal, Infeasible, Unbounded}

-- The setting fits, and the answer of the certificate is right there: an optimal certificate has a point that no feasible point betters,
-- as its multipliers show; an infeasible one has multipliers that show that no point is feasible; an unbounded one has a feasible point
-- from which the minimized objective falls for ever along its ray. A point has an array for each variable, and is in the domain.
abbrev pub IsShown : Problem → Pairs → Cert → Type 0
IsShown p s (Optimal number point duals weights params) = IsFitting p s × IsDomainPoint p point × IsRightFor p (setting_of p s) (answers.Optimal number point duals)
IsShown p s (Infeasible duals gap weights params) = IsFitting p s × IsRightFor p (setting_of p s) (answers.Infeasible duals gap)
IsShown p s (Unbounded point ray bound slope params) = IsFitting p s × IsDomainPoint p point × IsRightFor p (setting_of p s) (answers.Unbounded point ray bound slope)
