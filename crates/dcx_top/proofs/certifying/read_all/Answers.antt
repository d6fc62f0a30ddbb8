-- The files are read one after another, and the first that isn't had or is refused ends the run.
use Rattle.std.proofs.Common.{refl, subst, ◌∙◌, arith}
use Rattle.std.proofs.lemmas.Result.{IfOk-weaker, IfErr-weaker}
use Rattle.dcx_host.specs.Files.{IsTold}
use Rattle.dcx_host.specs.Faults.{Rose}
use Rattle.dcx_settings.proofs.Full.{items_full_in}
use Rattle.dcx_refusal.specs.declared.refusal.RefusalSource.TheVariants.{Settings}
use Rattle.dcx_top.specs.Files.{RefusesSettings}
use Rattle.dcx_top.specs.Reading.{EndsAt}
use Rattle.dcx_top.specs.Certifying.{at_whole, at_settings}
use Rattle.dcx_top.proofs.Rising.{rose_behind}
use Rattle.dcx_top.proofs.Endings.{ends_rising}
use Rattle.dcx_top.proofs.Reading.{sections_read, sections_end}
use Rattle.dcx_top.proofs.certifying.read_all.Goals as goal

pub returns-in-Some-clause-ends : goal.returns-in-Some-clause-ends
returns-in-Some-clause-ends g c = let (bytes, there, gives) = c.in_ok-accepted.ensures.reads in at_whole c.in_ok-accepted.accepted bytes c.in-Some.refusal there gives c.in-Some.ensures refl

pub read_sections-requires-clause-full : goal.read_sections-requires-clause-full
read_sections-requires-clause-full g c = let (bytes, there, spelled) = c.in-Ok.ensures.reads in items_full_in bytes c.in-Ok.lines spelled

pub read_sections-requires-clause-few : goal.read_sections-requires-clause-few
read_sections-requires-clause-few g c = let (bytes, there, spelled) = c.in-Ok.ensures.reads in spelled.settings_are.few

pub returns-in-Ok-clause-reads : goal.returns-in-Ok-clause-reads
returns-in-Ok-clause-reads g c =
    let (bytes, there, gives) = c.in_ok-accepted.ensures.reads in
    let (set, told_set, spelled) = c.in-Ok.ensures.reads in
    IfOk-weaker c.read_sections.result _ _
    (λ f. sections_read (g.L.Library.told c.args.library.now) c.args.script.now c.args.settings.now c.args.certificate.now bytes set c.in_ok-accepted.accepted c.in-Ok.lines there gives
    c.in_default.ensures
    (subst (λ t. IsTold t c.args.settings.now set) c.read_script.ensures.same told_set) spelled (g.L.Library.told c.read_settings.new.library) f.problem f.settings.items f.sections
    (c.read_settings.ensures.same ∙ c.read_script.ensures.same))
    c.read_sections.ensures.reads

pub returns-in-Ok-clause-ends : goal.returns-in-Ok-clause-ends
returns-in-Ok-clause-ends g c =
    let (bytes, there, gives) = c.in_ok-accepted.ensures.reads in
    let (set, told_set, spelled) = c.in-Ok.ensures.reads in
    let old = g.L.Library.faults c.args.library.now in
    let mid = g.L.Library.faults c.read_settings.new.library in
    let new = g.L.Library.faults c.read_sections.new.library in
    IfErr-weaker c.read_sections.result _ _
    (λ r. sections_end (g.L.Library.told c.args.library.now) c.args.script.now c.args.settings.now c.args.certificate.now bytes set c.in_ok-accepted.accepted c.in-Ok.lines there gives
    c.in_default.ensures
    (subst (λ t. IsTold t c.args.settings.now set) c.read_script.ensures.same told_set) spelled (g.L.Library.told c.read_settings.new.library) (Rose mid new) (Rose old new) r
    (c.read_settings.ensures.same ∙ c.read_script.ensures.same)
    (rose_behind old mid new (omega (arith, c.read_script.ensures.never_falls, c.read_settings.ensures.never_falls))))
    c.read_sections.ensures.ends

pub returns-in-Err-clause-ends : goal.returns-in-Err-clause-ends
returns-in-Err-clause-ends g c =
    let (bytes, there, gives) = c.in_ok-accepted.ensures.reads in
    let old = g.L.Library.faults c.args.library.now in
    let mid = g.L.Library.faults c.read_script.new.library in
    let new = g.L.Library.faults c.read_settings.new.library in
    at_settings c.in_ok-accepted.accepted bytes there gives c.in_default.ensures
    (ends_rising (g.L.Library.told c.args.library.now) (Rose mid new) (Rose old new) Settings c.args.settings.now RefusesSettings c.in-Err.run'
    (rose_behind old mid new c.read_script.ensures.never_falls)
    (subst (λ t. EndsAt t (Rose mid new) Settings c.args.settings.now RefusesSettings c.in-Err.run') c.read_script.ensures.same c.in-Err.ensures.reads))
