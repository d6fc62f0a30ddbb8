-- Each end of reading the files and of checking the sections causes its run.
use Rattle.std.proofs.Common.{◌≡◌, ◌⊎◌, refl, ap, arith, length, subst}
use Rattle.dcx_host.specs.Faults.{Rose}
use Rattle.dcx_words.specs.Commands.{certify}
use Rattle.dcx_answer.specs.declared.cert_fault.CertFault.TheVariants as faults
use Rattle.dcx_cert_runs.specs.Checking.{ArePassed, IsFirstRefused}
use Rattle.dcx_top.proofs.Reading.{few_sections}
use Rattle.dcx_top.proofs.Causes.{files_end, section_told, certified}
use Rattle.dcx_top.proofs.certifying.certify.Goals as goal

pub returns-in-Err-clause-causes : goal.returns-in-Err-clause-causes
returns-in-Err-clause-causes g c = λ words steps form.
    files_end words (g.L.Library.told c.args.library.now) (Rose (g.L.Library.faults c.args.library.now) (g.L.Library.faults c.read_all.new.library))
    (certify c.args.script.now c.args.settings.now c.args.certificate.now) form
    c.args.script.now c.args.settings.now c.args.certificate.now refl refl refl tt (λ b h. h) (λ w s h. h) steps c.in-Err.run' c.in-Err.ensures.ends

pub check_sections-requires-clause-few : goal.check_sections-requires-clause-few
check_sections-requires-clause-few g c =
    let e = ap length c.as_slice.ensures in
    omega (arith, few_sections _ _ _ _ _ _ _ c.in-Ok.ensures.reads, e)

pub returns-in-Ok-check_sections-clause-causes : goal.returns-in-Ok-check_sections-clause-causes
returns-in-Ok-check_sections-clause-causes g c = λ words steps form.
    certified words (g.L.Library.told c.args.library.now) (Rose (g.L.Library.faults c.args.library.now) (g.L.Library.faults c.read_all.new.library)) c.args.script.now c.args.settings.now
    c.args.certificate.now
    c.in-Ok.files.problem c.in-Ok.files.settings.items c.in-Ok.files.sections c.as_slice.result.now steps c.in-Ok-check_sections.sections form c.in-Ok.ensures.reads c.as_slice.ensures
    (subst (λ s. ArePassed c.in-Ok.files.problem s c.as_slice.result.now) c.deref.ensures.value c.in-Ok-check_sections.ensures.passed) c.in-Ok-check_sections.ensures.counted

pub returns-in-Err-check_sections-clause-causes : goal.returns-in-Err-check_sections-clause-causes
returns-in-Err-check_sections-clause-causes g c = λ words steps form.
    section_told words (g.L.Library.told c.args.library.now) (Rose (g.L.Library.faults c.args.library.now) (g.L.Library.faults c.read_all.new.library))
    (certify c.args.script.now c.args.settings.now c.args.certificate.now) form
    c.args.script.now c.args.settings.now c.args.certificate.now refl refl refl tt (λ b h. h)
    (λ w s h. h) c.in-Ok.files.problem c.in-Ok.files.settings.items c.in-Ok.files.sections c.as_slice.result.now
    c.in-Err-check_sections.refused.section steps c.in-Err-check_sections.refused.fault c.refused_at.result c.in-Ok.ensures.reads c.as_slice.ensures
    (subst (λ s. (c.in-Err-check_sections.refused.fault ≡ faults.Memory)
    ⊎ IsFirstRefused c.in-Ok.files.problem s c.as_slice.result.now c.in-Err-check_sections.refused.section c.in-Err-check_sections.refused.fault) c.deref.ensures.value
    c.in-Err-check_sections.ensures.refused) c.refused_at.ensures
