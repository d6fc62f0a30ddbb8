-- The sections pass, or the one at this place is the first that is refused.
use Rattle.std.proofs.Common.{◌+◌, Result, length, refl, sym, subst, arith, rules}
use Rattle.std.proofs.lemmas.Option.{slice_get_read}
use Rattle.dcx_answer.specs.declared.cert_fault.CertFault.{CertFault}
use Rattle.dcx_cert_sections.specs.Shown.{IsSectionOf}
use Rattle.dcx_cert_sections.specs.Checks.{Checked}
use Rattle.dcx_cert_outline.specs.Drawn.{problem_outline}
use Rattle.dcx_cert_runs.specs.Checking.{section_check, IsSectionShown}
use Rattle.dcx_cert_runs.proofs.Lists.{below_next, all_below}
use Rattle.dcx_cert_runs.proofs.OneRefusal.{refused_at}
use Rattle.dcx_cert_runs.proofs.checking.check_sections.Goals as goal

pub loop-i-preserved : goal.loop-i-preserved
loop-i-preserved c =
    let p = c.args.problem.now in
    record {
      passed = below_next (λ s x. (section_check p s x).passes) c.args.settings.now c.args.list.now c.loop-i.i c.index-settings-i.result c.index-list-i.result c.index-settings-i.is
          c.index-list-i.is c.loop-i.invariant.passed c.in_default-check_section.ensures.checked;
      shown = below_next (IsSectionShown p) c.args.settings.now c.args.list.now c.loop-i.i c.index-settings-i.result c.index-list-i.result c.index-settings-i.is c.index-list-i.is
          c.loop-i.invariant.shown c.in_default-check_section.ensures.shown;
    }

pub loop-i-init : goal.loop-i-init
loop-i-init c = record { passed = λ k s x lt at here. absurd (omega arith); shown = λ k s x lt at here. absurd (omega arith) }

pub loop-i-smaller : goal.loop-i-smaller
loop-i-smaller c = search rules

pub check_section-requires-clause-section : goal.check_section-requires-clause-section
check_section-requires-clause-section c = subst (IsSectionOf (problem_outline c.args.problem.now)) (sym c.index-list-i.is) (c.requires.sections c.loop-i.i c.index-list-i.result (omega arith))

pub overflow_cast-section : goal.overflow_cast-section
overflow_cast-section c = omega arith

pub overflow_add-section : goal.overflow_add-section
overflow_add-section c = omega arith

pub returns-in-Err-clause-refused : goal.returns-in-Err-clause-refused
returns-in-Err-clause-refused c =
    let p = c.args.problem.now in
    let settings = c.args.settings.now in
    let list = c.args.list.now in
    let i = c.loop-i.i in
    let s = c.index-settings-i.result in
    let x = c.index-list-i.result in
    let fails = subst (λ (r : Result (Unit {0}) CertFault). Checked (section_check p s x) r) c.in-Err.is c.check_section.ensures.checked in
    refused_at p settings list i (i + 1) s x c.in-Err.fault refl (slice_get_read settings (length settings) i s refl (omega arith) c.index-settings-i.is)
    (slice_get_read list (length list) i x refl (omega arith) c.index-list-i.is) c.loop-i.invariant.passed fails

pub returns-clause-passed : goal.returns-clause-passed
returns-clause-passed c =
    record { count = c.requires.count; each = all_below (λ s x. (section_check c.args.problem.now s x).passes) c.args.settings.now c.args.list.now c.loop-i.i (omega arith) c.loop-i.invariant.passed }

pub returns-clause-shown : goal.returns-clause-shown
returns-clause-shown c = record { count = c.requires.count; each = all_below (IsSectionShown c.args.problem.now) c.args.settings.now c.args.list.now c.loop-i.i (omega arith) c.loop-i.invariant.shown }
