-- A run that refuses a file is one, and no run that goes on.
use Rattle.std.proofs.Common.{◌≡◌, ℕ, ◌≤◌, Bool, List, length, Some, None, refl, sym, ap, subst, ◌∙◌}
use Rattle.std.proofs.lemmas.Option.{none-some, same_Some}
use Rattle.dcx_tree.specs.declared.constraint.Sense.{Sense}
use Rattle.dcx_host.specs.Files.{Files}
use Rattle.dcx_refusal.specs.declared.checked.Checked.{Checked}
use Rattle.dcx_refusal.specs.declared.refusal.Refusal.{Refusal}
use Rattle.dcx_refusal.specs.declared.refusal.RefusalSource.TheVariants.{Certificate}
use Rattle.dcx_answer.specs.declared.cert_fault.CertFault.{CertFault}
use Rattle.dcx_cert_sections.specs.declared.section.Sections.{Sections}
use Rattle.dcx_answer.specs.declared.filter_outcome.FilterOutcome.{FilterOutcome}
use Rattle.dcx_answer.specs.declared.range_outcome.RangeOutcome.{RangeOutcome}
use Rattle.dcx_report.specs.declared.run.Run.{Run}
use Rattle.dcx_words.specs.Commands.{Command, check, certificate, certify, migrate, iis, range, command_of}
use Rattle.dcx_top.specs.Commands.{certificate_name}
use Rattle.dcx_top.specs.Files.{most_bytes}
use Rattle.dcx_top.specs.Runs.{IsChecked, IsSolvedRun, IsFilteredRun, IsRangedRun, IsCertificateRun, HasCertificate, ReadsSections, IsMigrateRun, IsCertifiedRun}
use Rattle.dcx_top.specs.Runs.{IsCertRefusedRun, misread, failed, IsRefusedRun, long_script, bad_script, for_whole, for_range, bad_settings, long_certificate}
use Rattle.dcx_top.proofs.ByKind.{of_outcomes}
use Rattle.dcx_top.proofs.Named.{unasked, allowed, allowed_reading}
use Rattle.dcx_top.proofs.Refusals.{refuses, one_refused, IsShort, never_refused, never_refused_check}

module _ (words : List (List ℕ)) (files : Files) where
  short_of_none : (command : Command) → certificate_name command ≡ None → IsShort files command
  short_of_none command none name bytes named there = absurd (none-some name (sym none ∙ named))

  short_of : (command : Command) (name bytes : List ℕ) → certificate_name command ≡ Some name → files name ≡ Some bytes → length bytes ≤ most_bytes Certificate → IsShort files command
  short_of command name bytes is there few other others named also =
      subst (λ b. length b ≤ most_bytes Certificate) (same_Some bytes others (sym there ∙ ap files (same_Some name other (sym is ∙ named)) ∙ also)) few

  pub command_of_refused : (r : Refusal) → IsRefusedRun words (Some files) r → (c : Command) × (command_of words ≡ Some c)
  command_of_refused r (long_script c name e is long) = (c, e)
  command_of_refused r (bad_script c bytes e of h) = (c, e)
  command_of_refused r (for_whole c a e g solving h) = (c, e)
  command_of_refused r (for_range c a name e g free is h) = (c, e)
  command_of_refused r (bad_settings c a name e g free allows is h) = (c, e)
  command_of_refused r (long_certificate c f long) = (c, f.asked.form)

  pub refused_once : (r t : Refusal) → IsRefusedRun words (Some files) r → IsRefusedRun words (Some files) t → r ≡ t
  refused_once r t h k =
      let (c, e) = command_of_refused r h in
      one_refused files c r t (refuses words files c e r h) (refuses words files c e t k)

  -- ---- runs that go on
  pub refused_or_checked : (r : Refusal) (c : Checked) → IsRefusedRun words (Some files) r → IsChecked words (Some files) c → ⊥
  refused_or_checked r c h k = never_refused_check files k.script k.work r k.problem (refuses words files (check k.script) k.form r h)

  pub refused_or_solved : (r : Refusal) (old new : ℕ) (s : Run) → IsRefusedRun words (Some files) r → IsSolvedRun words (Some files) old new s → ⊥
  refused_or_solved r old new s h k =
      never_refused files k.command k.asked.work k.asked.settings r k.asked.problem k.asked.marks
      (unasked k.command k.asked.work.problem (of_outcomes k.command k.asked.work.problem.sense k.outcomes k.warm s k.tells).parameter) k.asked.are_of
      (short_of_none k.command (of_outcomes k.command k.asked.work.problem.sense k.outcomes k.warm s k.tells).certificate) (refuses words files k.command k.asked.form r h)

  pub refused_or_written : (r : Refusal) (old new : ℕ) (bytes : List ℕ) (stopped : Bool) → IsRefusedRun words (Some files) r → IsCertificateRun words (Some files) old new bytes stopped → ⊥
  refused_or_written r old new bytes stopped h k =
      let command = certificate k.script k.name k.limit in
      never_refused files command k.asked.work k.asked.settings r k.asked.problem (λ refusing. k.asked.marks) (unasked command k.asked.work.problem refl) k.asked.are_of (short_of_none command refl)
      (refuses words files command k.asked.form r h)

  pub refused_or_filtered : (r : Refusal) (old new : ℕ) (os : List FilterOutcome) → IsRefusedRun words (Some files) r → IsFilteredRun words (Some files) old new os → ⊥
  refused_or_filtered r old new os h k =
      let command = iis k.script k.name k.limit in
      never_refused files command k.asked.work k.asked.settings r k.asked.problem (λ refusing. k.asked.marks) (unasked command k.asked.work.problem refl) k.asked.are_of (short_of_none command refl)
      (refuses words files command k.asked.form r h)

  pub refused_or_ranged : (r : Refusal) (old new : ℕ) (name : List ℕ) (sense : Sense) (os : List RangeOutcome) → IsRefusedRun words (Some files) r
      → IsRangedRun words (Some files) old new name sense os → ⊥
  refused_or_ranged r old new name sense os h k =
      let command = range k.script k.name name k.limit in
      never_refused files command k.asked.work k.asked.settings r k.asked.problem (λ refusing. k.asked.marks) (allowed command k.asked.work.problem name refl k.ranged)
      k.asked.are_of (short_of_none command refl)
      (refuses words files command k.asked.form r h)

  -- ---- runs that read a certificate
  refused_or_files : (r : Refusal) (command : Command) (f : HasCertificate words (Some files) command) (bytes : List ℕ) → files f.name ≡ Some bytes → length bytes ≤ most_bytes Certificate
      → IsRefusedRun words (Some files) r → ⊥
  refused_or_files r command f bytes there few h =
      never_refused files command f.asked.work f.asked.settings r f.asked.problem (λ refusing. f.asked.marks) (allowed_reading command f.asked.work.problem f.name f.named) f.asked.are_of
      (short_of command f.name bytes f.named there few) (refuses words files command f.asked.form r h)

  pub refused_or_read : (r : Refusal) (command : Command) (sections : Sections) → IsRefusedRun words (Some files) r → ReadsSections words (Some files) command sections → ⊥
  refused_or_read r command sections h k = refused_or_files r command k.files k.has.bytes k.has.are_told k.has.few h

  pub refused_or_migrated : (r : Refusal) (bytes : List ℕ) → IsRefusedRun words (Some files) r → IsMigrateRun words (Some files) bytes → ⊥
  refused_or_migrated r bytes h k = refused_or_read r (migrate k.script k.settings k.name) k.sections h k.passed.reads

  pub refused_or_certified : (r : Refusal) (n : ℕ) → IsRefusedRun words (Some files) r → IsCertifiedRun words (Some files) n → ⊥
  refused_or_certified r n h k = refused_or_read r (certify k.script k.settings k.name) k.sections h k.passed.reads

  pub refused_or_cert_refused : (r : Refusal) (section : ℕ) (f : CertFault) → IsRefusedRun words (Some files) r → IsCertRefusedRun words (Some files) section f → ⊥
  refused_or_cert_refused r section f h (misread command x m) = refused_or_files r command x m.bytes m.are_told m.few h
  refused_or_cert_refused r section f h (failed command sections x first) = refused_or_read r command sections h x
