-- What holds of the checks of all certificates.
use Rattle.dcx_point.specs.Pairs.{Pairs}
use Rattle.dcx_tree.specs.declared.problem.Problem.{Problem}
use Rattle.dcx_tree.specs.Meaning.{IsAccepted}
use Rattle.dcx_cert_outline.specs.Drawn.{problem_outline}
use Rattle.dcx_cert_sections.specs.declared.cert.Cert.{Cert}
use Rattle.dcx_cert_sections.specs.Shown.{IsCertOf}
use Rattle.dcx_cert_sections.specs.Laws.{IsSettled}
use Rattle.dcx_cert_check.specs.Checks.{checks_of}
use Rattle.dcx_cert_check.specs.Shown.{IsShown}

-- no certificate both passes its checks and fails, and one that fails has one fault
abbrev pub TellsOneThing : Type 0
TellsOneThing = (p : Problem) (s : Pairs) (cert : Cert) → IsSettled (checks_of p s cert)

-- what passes shows its answer
abbrev pub PassedAreShown : Type 0
PassedAreShown = (p : Problem) (s : Pairs) (cert : Cert) → IsAccepted p → IsCertOf (problem_outline p) cert → (checks_of p s cert).passes → IsShown p s cert
