-- That the setting fits, and is the one that is told, comes first.
use Rattle.std.proofs.Common.{sym, subst}
use Rattle.std.proofs.lemmas.Result.{err_from_is_err_and}
use Rattle.dcx_cert_sections.specs.declared.cert.Cert.{Cert}
use Rattle.dcx_cert_sections.specs.Shown.{IsCertOf}
use Rattle.dcx_cert_outline.specs.Drawn.{problem_outline}
use Rattle.dcx_cert_sections.specs.Checks.{Checked}
use Rattle.dcx_cert_sections.proofs.Turns.{second_checked, first_failed}
use Rattle.dcx_cert_check.proofs.Given.{arrays_given}
use Rattle.dcx_cert_check.proofs.Sound.{checks_sound}
use Rattle.dcx_cert_check.specs.Checks.{setting_checks, optimal_checks, infeasible_checks, unbounded_checks, checks_of}
use Rattle.dcx_cert_check.proofs.checking.check.Goals as goal

pub returns-in_err-check_setting-in-Optimal : goal.returns-in_err-check_setting-in-Optimal
returns-in_err-check_setting-in-Optimal c =
    let p = c.args.problem.now in
    let s = c.args.setting.now in
    let r = err_from_is_err_and c.from_residual.result c.from_residual.ensures.1 in
    subst (λ (k : Cert). Checked (checks_of p s k) c.from_residual.result) (sym c.in-Optimal.is)
    (rw (r.1, r.2) (first_failed (setting_checks p s c.in-Optimal.params)
    (optimal_checks p s c.in-Optimal.value c.in-Optimal.point c.in-Optimal.duals c.in-Optimal.weights) _ c.in_err-check_setting-in-Optimal.ensures.checked))

pub returns-in_ok-check_setting-in-Optimal : goal.returns-in_ok-check_setting-in-Optimal
returns-in_ok-check_setting-in-Optimal c =
    let p = c.args.problem.now in
    let s = c.args.setting.now in
    subst (λ (k : Cert). Checked (checks_of p s k) c.check_optimal.result) (sym c.in-Optimal.is)
    (second_checked (setting_checks p s c.in-Optimal.params)
    (optimal_checks p s c.in-Optimal.value c.in-Optimal.point c.in-Optimal.duals c.in-Optimal.weights) c.check_optimal.result c.in_ok-check_setting-in-Optimal.ensures.checked c.check_optimal.ensures)

pub returns-in_err-check_setting-in-Infeasible : goal.returns-in_err-check_setting-in-Infeasible
returns-in_err-check_setting-in-Infeasible c =
    let p = c.args.problem.now in
    let s = c.args.setting.now in
    let r = err_from_is_err_and c.from_residual-in_err-check_setting-in-Infeasible.result c.from_residual-in_err-check_setting-in-Infeasible.ensures.1 in
    subst (λ (k : Cert). Checked (checks_of p s k) c.from_residual-in_err-check_setting-in-Infeasible.result) (sym c.in-Infeasible.is)
    (rw (r.1, r.2) (first_failed (setting_checks p s c.in-Infeasible.params)
    (infeasible_checks p s c.in-Infeasible.duals c.in-Infeasible.gap c.in-Infeasible.weights) _ c.in_err-check_setting-in-Infeasible.ensures.checked))

pub returns-in_ok-check_setting-in-Infeasible : goal.returns-in_ok-check_setting-in-Infeasible
returns-in_ok-check_setting-in-Infeasible c =
    let p = c.args.problem.now in
    let s = c.args.setting.now in
    subst (λ (k : Cert). Checked (checks_of p s k) c.check_infeasible.result) (sym c.in-Infeasible.is)
    (second_checked (setting_checks p s c.in-Infeasible.params)
    (infeasible_checks p s c.in-Infeasible.duals c.in-Infeasible.gap c.in-Infeasible.weights) c.check_infeasible.result c.in_ok-check_setting-in-Infeasible.ensures.checked c.check_infeasible.ensures)

pub returns-in_err-check_setting-in-Unbounded : goal.returns-in_err-check_setting-in-Unbounded
returns-in_err-check_setting-in-Unbounded c =
    let p = c.args.problem.now in
    let s = c.args.setting.now in
    let r = err_from_is_err_and c.from_residual-in_err-check_setting-in-Unbounded.result c.from_residual-in_err-check_setting-in-Unbounded.ensures.1 in
    subst (λ (k : Cert). Checked (checks_of p s k) c.from_residual-in_err-check_setting-in-Unbounded.result) (sym c.in-Unbounded.is)
    (rw (r.1, r.2) (first_failed (setting_checks p s c.in-Unbounded.params)
    (unbounded_checks p s c.in-Unbounded.point c.in-Unbounded.ray c.in-Unbounded.bound c.in-Unbounded.slope) _ c.in_err-check_setting-in-Unbounded.ensures.checked))

pub returns-in_ok-check_setting-in-Unbounded : goal.returns-in_ok-check_setting-in-Unbounded
returns-in_ok-check_setting-in-Unbounded c =
    let p = c.args.problem.now in
    let s = c.args.setting.now in
    subst (λ (k : Cert). Checked (checks_of p s k) c.check_unbounded.result) (sym c.in-Unbounded.is)
    (second_checked (setting_checks p s c.in-Unbounded.params)
    (unbounded_checks p s c.in-Unbounded.point c.in-Unbounded.ray c.in-Unbounded.bound c.in-Unbounded.slope) c.check_unbounded.result c.in_ok-check_setting-in-Unbounded.ensures.checked
    c.check_unbounded.ensures)

pub check_optimal-requires-clause-variables : goal.check_optimal-requires-clause-variables
check_optimal-requires-clause-variables c =
    let of = subst (IsCertOf (problem_outline c.args.problem.now)) c.in-Optimal.is c.requires.cert in
    arrays_given.variables c.args.problem.now c.in-Optimal.point of.variables

pub check_unbounded-requires-clause-variables : goal.check_unbounded-requires-clause-variables
check_unbounded-requires-clause-variables c =
    let of = subst (IsCertOf (problem_outline c.args.problem.now)) c.in-Unbounded.is c.requires.cert in
    arrays_given.variables c.args.problem.now c.in-Unbounded.point of.variables

pub check_unbounded-requires-clause-ray : goal.check_unbounded-requires-clause-ray
check_unbounded-requires-clause-ray c =
    let of = subst (IsCertOf (problem_outline c.args.problem.now)) c.in-Unbounded.is c.requires.cert in
    arrays_given.variables c.args.problem.now c.in-Unbounded.ray of.ray_variables

pub check_unbounded-requires-clause-fitting : goal.check_unbounded-requires-clause-fitting
check_unbounded-requires-clause-fitting c =
    let fits = c.in_ok-check_setting-in-Unbounded.ensures.checked in
    checks_sound.fitting c.args.problem.now c.args.setting.now c.requires.accepted fits.0
