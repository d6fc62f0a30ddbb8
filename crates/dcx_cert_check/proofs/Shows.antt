-- What passes its checks shows its answer.
use Rattle.std.proofs.Common.{◌≡◌, Result, Ok, Err, OnOk}
use Rattle.dcx_point.specs.Pairs.{Pairs}
use Rattle.dcx_lines.specs.Shown.{variables_of}
use Rattle.dcx_tree.specs.declared.problem.Problem.{Problem}
use Rattle.dcx_tree.specs.Meaning.{IsAccepted, IsDomainPoint, point_of}
use Rattle.dcx_cert_sections.specs.declared.cert.Cert.{Cert}
use Rattle.dcx_cert_sections.specs.declared.cert.Cert.TheVariants.{Optimal, Infeasible, Unbounded}
use Rattle.dcx_answer.specs.declared.cert_fault.CertFault.{CertFault}
use Rattle.dcx_cert_sections.specs.Shown.{IsCertOf}
use Rattle.dcx_cert_sections.specs.Checks.{Checked}
use Rattle.dcx_cert_outline.specs.Drawn.{problem_outline}
use Rattle.dcx_cert_check.specs.SingleChecks.{point_inside}
use Rattle.dcx_cert_check.proofs.Sound.{checks_sound}
use Rattle.dcx_cert_check.proofs.Given.{arrays_given}
use Rattle.dcx_cert_bound.proofs.Shown.{bounds_show}
use Rattle.dcx_cert_rays.proofs.Shown.{passed_is_unbounded}
use Rattle.dcx_cert_check.specs.Checks.{checks_of}
use Rattle.dcx_cert_check.specs.Shown.{IsShown}
use Rattle.dcx_cert_check.specs.Laws.{PassedAreShown}

-- a point with the names and the shapes of the variables that passes lies in the domain
domain_point : (p : Problem) (point : Pairs) → variables_of point ≡ (problem_outline p).variables → (point_inside p point).passes → IsDomainPoint p point
domain_point p point of h = record { shaped = arrays_given.variables p point of; domain = (checks_sound.point p point).0 h }

pub passed_are_shown : PassedAreShown
passed_are_shown p s (Optimal number point duals weights params) ok of (fits, checks) =
    let inside = checks.0.0 in
    let holds = checks.0.1 in
    let feasible = checks_sound.feasible p s point inside holds in
    let at = checks_sound.objective p s point number checks.1.0 in
    let signed = (checks_sound.multipliers p duals).0 checks.1.1.0 in (
      checks_sound.fitting p s ok fits.0,
      domain_point p point of.variables inside,
      (bounds_show p s duals weights ok of.constraints).optimal number checks.1.1.1 (point_of p point) feasible at signed,
    )
passed_are_shown p s (Infeasible duals gap weights params) ok of (fits, checks) =
    let signed = (checks_sound.multipliers p duals).0 checks.0 in
    (checks_sound.fitting p s ok fits.0, (bounds_show p s duals weights ok of.constraints).infeasible gap checks.1.1 checks.1.0 signed)
passed_are_shown p s (Unbounded point ray bound slope params) ok of (fits, checks) =
    let inside = checks.0.0 in
    let feasible = checks_sound.feasible p s point inside checks.0.1 in
    let fitting = checks_sound.fitting p s ok fits.0 in
    let start = checks_sound.start p s point bound checks.1.0 in (
      fitting,
      domain_point p point of.variables inside,
      passed_is_unbounded p ok s fitting point ray bound slope feasible start checks.1.1.0 ((checks_sound.ray p ray).0 checks.1.1.1.0) checks.1.1.1.1,
    )

-- so does what comes to that
pub shown_where : (p : Problem) (s : Pairs) (cert : Cert) → IsAccepted p → IsCertOf (problem_outline p) cert → {T : Type 0} (r : Result T CertFault) → Checked (checks_of p s cert) r
    → OnOk r (IsShown p s cert)
shown_where p s cert ok of (Ok x) h = passed_are_shown p s cert ok of h
shown_where p s cert ok of (Err f) h = tt
