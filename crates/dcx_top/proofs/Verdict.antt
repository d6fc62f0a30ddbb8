-- A run refuses its files exactly where they are at fault.
use Rattle.std.proofs.Common.{◌≡◌, ℕ, ◌<◌, ◌≤◌, Bool, inl, inr, List, length, Option, Some, None, refl, sym, ap, subst, ◌∙◌, Ok, arith}
use Rattle.std.proofs.lemmas.Option.{none-some, same_Some}
use Rattle.dcx_read.specs.Parses.{IsReading}
use Rattle.dcx_read.proofs.OneReading.{one_script as one_view}
use Rattle.dcx_host.specs.Files.{Files}
use Rattle.dcx_settings.specs.File.{IsRefused}
use Rattle.dcx_settings.proofs.OneAnswer.{settings_apart}
use Rattle.dcx_refusal.specs.declared.checked.Checked.{Checked}
use Rattle.dcx_refusal.specs.declared.refusal.Refusal.{Refusal}
use Rattle.dcx_front.specs.OneAnswer.{IsWithoutFault}
use Rattle.dcx_elab.specs.declared.work.Work.{Work}
use Rattle.dcx_front.proofs.OneAnswer.{one_work}
use Rattle.dcx_front.proofs.OneVerdict.{apart, refused_for}
use Rattle.dcx_answer.specs.declared.filter_outcome.FilterOutcome.{FilterOutcome}
use Rattle.dcx_answer.specs.declared.range_outcome.RangeOutcome.{RangeOutcome}
use Rattle.dcx_tree.specs.declared.constraint.Sense.{Sense}
use Rattle.dcx_report.specs.declared.run.Run.{Run}
use Rattle.dcx_report.specs.declared.run.Run.TheVariants as run
use Rattle.dcx_point.specs.Pairs.{Pairs}
use Rattle.dcx_cert_sections.specs.declared.section.Sections.{Sections}
use Rattle.dcx_words.specs.Commands.{Command, check, certificate as certificate_command, certify, migrate, trial, iis, range, command_of}
use Rattle.dcx_top.specs.Commands.{settings_name, certificate_name, AreSettingsOf}
use Rattle.dcx_top.specs.Files.{most_bytes, RefusesScript}
use Rattle.dcx_top.specs.Asked.{IsAcceptedWork}
use Rattle.dcx_top.specs.Runs.{IsChecked, IsSolvedRun, IsFilteredRun, IsRangedRun, IsCertificateRun, HasCertificate, ReadsSections, misread, failed, Causes}
use Rattle.dcx_refusal.specs.declared.refusal.RefusalSource.TheVariants.{Certificate}
use Rattle.dcx_declared.specs.Whole.{IsWholeAt}
use Rattle.dcx_top.specs.Whole.{RefusesWhole, Takes}
use Rattle.dcx_outcomes.specs.Ranges.{LacksRange}
use Rattle.dcx_outcomes.proofs.RangeEnds.{range_is_told}
use Rattle.dcx_top.specs.NoRange.{AllowsRange}
use Rattle.dcx_top.proofs.ByKind.{of_outcomes}
use Rattle.dcx_top.proofs.Named.{unasked, allowed, allowed_reading}
use Rattle.dcx_top.specs.OneRun.{IsAnswered, no_files}
use Rattle.dcx_trial.specs.Trial.{trial_text}
use Rattle.dcx_top.proofs.Trials.{trial_caused, trial_has}
use Rattle.dcx_top.specs.Verdicts.{IsRefusal, IsAcceptance, Has, AreFaultless, AreAtFault, bad_script, has_whole, lacks_range}
use Rattle.dcx_top.specs.Verdicts.{bad_settings, long_certificate, AreWithoutFault, IsVerdictOn, IsRightVerdict}
use Rattle.dcx_top.proofs.Refusals.{one_script, spelled_by, same_command, Refuses, in_script, in_problem, in_range, in_settings, in_length, IsShort, refuses}

module _ (files : Files) (command : Command) (script settings certificate : List ℕ) (has : Has files command script settings certificate) where
  no_faults : AreWithoutFault command script settings certificate → AreAtFault command script settings certificate → ⊥
  no_faults w (bad_script f) = apart script w.no_script_fault f
  no_faults w (has_whole h refusing i is) =
      let same = one_work w.no_script_fault.script h.script (one_view script w.no_script_fault.script h.script w.no_script_fault.spelled h.spelled) w.no_script_fault.work h.work
      w.no_script_fault.stands_for h.stands_for in
      w.no_whole refusing i (subst (λ (x : Work). IsWholeAt x.problem i) (sym same) is)
  no_faults w (lacks_range h name is fault lacks) =
      let same = one_work w.no_script_fault.script h.script (one_view script w.no_script_fault.script h.script w.no_script_fault.spelled h.spelled) w.no_script_fault.work h.work
      w.no_script_fault.stands_for h.stands_for in
      range_is_told.never_both w.no_script_fault.work.problem name fault (w.no_lack name is) (subst (λ (x : Work). LacksRange x.problem name fault) (sym same) lacks)
  no_faults w (long_certificate o f long) = w.not_long long
  no_faults w (bad_settings o f) = let (lines, spelled) = w.no_settings_fault f.name f.asked in settings_apart settings lines f.fault spelled f.refused

  abbrev faultless : (a : Work) → IsAcceptedWork (Some files) command a → IsWithoutFault script
  faultless a g = record {
    script = g.script;
    spelled = subst (λ b. IsReading b (Ok g.script)) (one_script files command g.bytes script g.are_of has.is_script) g.spelled;
    work = a;
    stands_for = g.stands_for;
    accepted = g.accepted;
  }

  at_fault : (r : Refusal) → Refuses files command r → AreAtFault command script settings certificate
  at_fault r (in_script bytes of h) = bad_script (refused_for script r (subst (λ b. RefusesScript b r) (one_script files command bytes script of has.is_script) h))
  at_fault r (in_problem a g refusing h) = has_whole (faultless a g) refusing h.stands.number h.stands.first.is
  at_fault r (in_range a name g free is h) = lacks_range (faultless a g) name is h.fault h.lacks
  at_fault r (in_settings a name bytes g free allows is there h) =
      bad_settings (faultless a g)
      (record { name = name; asked = is; fault = h.fault; refused = subst (λ b. IsRefused b h.fault) (same_Some bytes settings (sym there ∙ has.are_settings name is)) h.refused })
  at_fault r (in_length a others name bytes g free asked named there more long) =
      long_certificate (faultless a g) (λ name is. spelled_by files command a others name settings asked is (has.are_settings name is))
      (record { name = name; asked = named; long = subst (λ b. most_bytes Certificate < length b) (same_Some bytes certificate (sym there ∙ has.is_certificate name named)) more })

  without : (a : Work) → IsAcceptedWork (Some files) command a → Takes command a.problem → AllowsRange command a.problem → AreFaultless command settings → IsShort files command
      → AreWithoutFault command script settings certificate
  without a g taken allows f short =
      record {
        no_script_fault = faultless a g;
        no_whole = taken;
        no_lack = allows;
        no_settings_fault = f;
        not_long = λ l. let few = short l.name certificate l.asked (has.is_certificate l.name l.asked) in omega (arith, few, l.long);
      }

  refuses_so : (r : Refusal) → AreAtFault command script settings certificate → IsVerdictOn command script settings certificate (run.Refused r)
  refuses_so r f = record { refused = (λ t. f, λ q. tt); accepted = (λ t. absurd t, λ w. absurd (no_faults w f)) }

  accepts_so : (r : Run) → IsAcceptance r → (IsRefusal r → ⊥) → AreWithoutFault command script settings certificate → IsVerdictOn command script settings certificate r
  accepts_so r i n w = record { refused = (λ t. absurd (n t), λ q. absurd (no_faults w q)); accepted = (λ t. w, λ q. i) }

  -- a command without a certificate has none that is too long
  short_without : (c : Command) → c ≡ command → certificate_name c ≡ None → IsShort files command
  short_without c same none name bytes is there = absurd (none-some name (sym (subst (λ d. certificate_name d ≡ None) same none) ∙ is))

  module _ (words : List (List ℕ)) (form : command_of words ≡ Some command) (risen : Type 0) (old new : ℕ) where
    -- the problem is solved, or its certificate is checked
    goes_on : (r : Run) → IsAcceptance r → (IsRefusal r → ⊥) → (c : Command) → c ≡ command → (a : Work) (list : List Pairs) → IsAcceptedWork (Some files) c a → Takes c a.problem
        → AllowsRange c a.problem → AreSettingsOf (Some files) c a list
        → IsShort files command → IsVerdictOn command script settings certificate r
    goes_on r i n c same a list gives taken permits asked short =
        let g = subst (λ d. IsAcceptedWork (Some files) d a) same gives in
        let are = subst (λ d. AreSettingsOf (Some files) d a list) same asked in
        let allows = subst (λ d. AllowsRange d a.problem) same permits in
        accepts_so r i n (without a g (subst (λ d. Takes d a.problem) same taken) allows (λ name is. spelled_by files command a list name settings are is (has.are_settings name is)) short)

    solved : (r : Run) → IsAcceptance r → (IsRefusal r → ⊥) → IsSolvedRun words (Some files) old new r → IsVerdictOn command script settings certificate r
    solved r i n h =
        let same = same_command words files command form h.command h.asked.form in
        goes_on r i n h.command same h.asked.work h.asked.settings h.asked.problem h.asked.marks
        (unasked h.command h.asked.work.problem (of_outcomes h.command h.asked.work.problem.sense h.outcomes h.warm r h.tells).parameter) h.asked.are_of
        (short_without h.command same (of_outcomes h.command h.asked.work.problem.sense h.outcomes h.warm r h.tells).certificate)

    checked : (c : Checked) → IsChecked words (Some files) c → IsVerdictOn command script settings certificate (run.Checked c)
    checked c h =
        let same = same_command words files command form (check h.script) h.form in
        let g = subst (λ c. IsAcceptedWork (Some files) c h.work) same h.problem in
        let none : settings_name command ≡ None = subst (λ c. settings_name c ≡ None) same refl in
        let only : RefusesWhole command → ⊥ = subst (λ c. RefusesWhole c → ⊥) same (λ t. t) in
        accepts_so (run.Checked c) tt (λ t. t) (without h.work g (λ refusing. absurd (only refusing))
        (subst (λ c. AllowsRange c h.work.problem) same (unasked (check h.script) h.work.problem refl)) (λ name is. absurd (none-some name (sym none ∙ is)))
        (short_without (check h.script) same refl))

    certificate_written : (text : List ℕ) (stopped : Bool) → IsCertificateRun words (Some files) old new text stopped → IsVerdictOn command script settings certificate (run.Certificates text stopped)
    certificate_written text stopped h =
        let c = certificate_command h.script h.name h.limit in
        let same = same_command words files command form c h.asked.form in
        goes_on (run.Certificates text stopped) tt (λ t. t) c same h.asked.work h.asked.settings h.asked.problem (λ refusing. h.asked.marks) (unasked c h.asked.work.problem refl) h.asked.are_of
        (short_without c same refl)

    filtered : (os : List FilterOutcome) → IsFilteredRun words (Some files) old new os → IsVerdictOn command script settings certificate (run.Filtered os)
    filtered os h =
        let c = iis h.script h.name h.limit in
        let same = same_command words files command form c h.asked.form in
        goes_on (run.Filtered os) tt (λ t. t) c same h.asked.work h.asked.settings h.asked.problem (λ refusing. h.asked.marks) (unasked c h.asked.work.problem refl) h.asked.are_of
        (short_without c same refl)

    ranged : (name : List ℕ) (sense : Sense) (os : List RangeOutcome) → IsRangedRun words (Some files) old new name sense os
        → IsVerdictOn command script settings certificate (run.Ranged name sense os)
    ranged name sense os h =
        let c = range h.script h.name name h.limit in
        let same = same_command words files command form c h.asked.form in
        goes_on (run.Ranged name sense os) tt (λ t. t) c same h.asked.work h.asked.settings h.asked.problem (λ refusing. h.asked.marks)
        (allowed c h.asked.work.problem name refl h.ranged) h.asked.are_of
        (short_without c same refl)

    -- a certificate that is read isn't too long
    certificate_read : (r : Run) → IsAcceptance r → (IsRefusal r → ⊥) → (c : Command) (f : HasCertificate words (Some files) c) (bytes : List ℕ) → files f.name ≡ Some bytes
        → length bytes ≤ most_bytes Certificate
        → IsVerdictOn command script settings certificate r
    certificate_read r i n c f bytes there few =
        let same = same_command words files command form c f.asked.form in
        let named : certificate_name command ≡ Some f.name = subst (λ d. certificate_name d ≡ Some f.name) same f.named in
        let short : IsShort files command = (λ name other is here.
        let one = same_Some bytes other (sym there ∙ ap files (same_Some f.name name (sym named ∙ is)) ∙ here) in
        subst (λ b. length b ≤ most_bytes Certificate) one few) in
        goes_on r i n c same f.asked.work f.asked.settings f.asked.problem (λ refusing. f.asked.marks) (allowed_reading c f.asked.work.problem f.name f.named) f.asked.are_of short

    sections_read : (r : Run) → IsAcceptance r → (IsRefusal r → ⊥) → (c : Command) (sections : Sections) → ReadsSections words (Some files) c sections
        → IsVerdictOn command script settings certificate r
    sections_read r i n c sections h = certificate_read r i n c h.files h.has.bytes h.has.are_told h.has.few

    verdict_on : (r : Run) → Causes words (Some files) risen old new r → IsAnswered r → IsVerdictOn command script settings certificate r
    verdict_on run.Usage h i = absurd (none-some command (sym h.0 ∙ form))
    verdict_on (run.Refused r) h i = refuses_so r (at_fault r (refuses words files command form r h.0))
    verdict_on (run.Checked c) h i = checked c h.0
    verdict_on (run.Solved w s os u) h i = solved (run.Solved w s os u) tt (λ t. t) h
    verdict_on (run.Certificates text stopped) (inl h) i = certificate_written text stopped h
    verdict_on (run.Certificates text stopped) (inr (h, off, same)) i = sections_read (run.Certificates text stopped) tt (λ t. t) (migrate h.script h.settings h.name) h.sections h.passed.reads
    verdict_on (run.Certified n) (h, same) i = sections_read (run.Certified n) tt (λ t. t) (certify h.script h.settings h.name) h.sections h.passed.reads
    verdict_on (run.CertRefused section fault) (misread c f h, same) i = certificate_read (run.CertRefused section fault) tt (λ t. t) c f h.bytes h.are_told h.few
    verdict_on (run.CertRefused section fault) (failed c sections h first, same) i = sections_read (run.CertRefused section fault) tt (λ t. t) c sections h
    verdict_on (run.Trial n os) h i = solved (run.Trial n os) tt (λ t. t) h
    verdict_on (run.Filtered os) h i = filtered os h
    verdict_on (run.Ranged name sense os) h i = ranged name sense os h
    verdict_on run.ReadFault h i = absurd i
    verdict_on run.Memory h i = absurd i

pub right_verdict : (words : List (List ℕ)) (told : Option Files) (risen : Type 0) (old new : ℕ) (r : Run) → Causes words told risen old new r → IsRightVerdict words told r
right_verdict words None risen old new r h = λ i size limit settings certificate form.
    verdict_on no_files (trial size limit) (trial_text size) settings certificate (trial_has size limit settings certificate) words form risen old new r
    (trial_caused words size limit form risen old new r h) i
right_verdict words (Some files) risen old new r h = λ i command script settings certificate form has. verdict_on files command script settings certificate has words form risen old new r h i
