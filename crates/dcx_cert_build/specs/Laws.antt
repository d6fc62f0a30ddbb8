-- The laws of building: how the programs of problems are laid out, and that an answer has one certificate.
use Rattle.std.specs.Prelude.{◌≡◌, List, Ok}
use Rattle.dcx_frac.specs.declared.fraction.Frac.{Frac}
use Rattle.dcx_point.specs.Pairs.{Pairs}
use Rattle.dcx_tree.specs.declared.problem.Problem.{Problem}
use Rattle.dcx_linear.specs.declared.param_form.ParamForm.{ParamForm}
use Rattle.dcx_linear.specs.declared.row.UnknownKind.{UnknownKind}
use Rattle.dcx_lp_answer.specs.declared.answer.LpAnswer.{LpAnswer}
use Rattle.dcx_answer.specs.declared.answer.Answer.{Answer}
use Rattle.dcx_answer.specs.declared.site.Site.{Site}
use Rattle.dcx_cert_sections.specs.declared.cert.Cert.{Cert}
use Rattle.dcx_graph.specs.declared.origin.Origin.{Origin}
use Rattle.dcx_graph.specs.Program.{Program}
use Rattle.dcx_graph.specs.Fixing.{FixGives}
use Rattle.dcx_graph.specs.Answers.{IsRead}
use Rattle.dcx_graph.specs.Correct.{ReducesNumbers, ReducesAffine}
use Rattle.dcx_cert_build.specs.Origins.{IsLaidOut}
use Rattle.dcx_cert_build.specs.Built.{IsBuilt, PassesAt}

-- the rows of the program that reducing a problem gives are laid out as the problem has it, also where it is put at a setting
pub record ProgramsAreLaidOut : Type 0 where
  pub numbers : (p : Problem) (setting : Pairs) (q : Program Frac) → ReducesNumbers p setting (Ok q) → IsLaidOut p q
  pub affine : (p : Problem) (setting : Pairs) (q : Program ParamForm) → ReducesAffine p setting (Ok q) → IsLaidOut p q
  pub fixed : (p : Problem) (setting : Pairs) (q : Program ParamForm) (r : Program Frac) → IsLaidOut p q → FixGives setting q (Ok r) → IsLaidOut p r

-- what is told of the certificate of an answer
pub record IsOneCert (p : Problem) (setting : Pairs) (from : List Origin) (a : LpAnswer) (x : Answer) : Type 0 where
  pub same : (c d : Cert) → IsBuilt p setting from a x c → IsBuilt p setting from a x d → c ≡ d
  pub never_both : (kinds : List UnknownKind) (c : Cert) (site : Site) → IsRead p kinds a x → IsBuilt p setting from a x c → PassesAt p from a site → ⊥
  pub one_stop : (s t : Site) → PassesAt p from a s → PassesAt p from a t → s ≡ t

abbrev pub CertsAreOne : Type 0
CertsAreOne = (p : Problem) (setting : Pairs) (from : List Origin) (a : LpAnswer) (x : Answer) → IsOneCert p setting from a x
