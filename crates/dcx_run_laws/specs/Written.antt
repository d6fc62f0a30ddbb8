-- What `certify` makes of the bytes that `certificate` and `migrate` write of the same script and settings file.
use Rattle.std.specs.Prelude.{◌≡◌, ◌⊎◌, ℕ, ◌<◌, ◌≤◌, Bool, List, length, count_by, Some}
use Rattle.dcx_frac.specs.declared.fraction.Passes.{Passes}
use Rattle.dcx_point.specs.Pairs.{Pairs}
use Rattle.dcx_tree.specs.declared.problem.Problem.{Problem}
use Rattle.dcx_host.specs.Faults.{Rose}
use Rattle.dcx_host.specs.Files.{Files}
use Rattle.dcx_answer.specs.declared.cert_fault.CertFault.TheVariants.{Wide}
use Rattle.dcx_refusal.specs.declared.refusal.Refusal.{Refusal}
use Rattle.dcx_refusal.specs.declared.refusal.RefusalSource.TheVariants.{Certificate}
use Rattle.dcx_refusal.specs.Made.{IsTooLong}
use Rattle.dcx_cert_sections.specs.declared.section.Section.{Section}
use Rattle.dcx_words.specs.Commands.{certificate, certify, migrate, command_of}
use Rattle.dcx_report.specs.declared.run.Run.{Run}
use Rattle.dcx_report.specs.declared.run.Run.TheVariants as run
use Rattle.dcx_top.specs.Checking.{is_cert, IsFirstRefused}
use Rattle.dcx_top.specs.OneRun.{IsAnswered}
use Rattle.dcx_top.specs.Runs.{IsCertificateRun, IsMigrateRun, Causes}

-- ---- what `certify` makes of a certificate
-- it refuses the file for its length
abbrev pub RefusesLength : Run → Type 0
RefusesLength r = (refusal : Refusal) × (r ≡ run.Refused refusal) × IsTooLong Certificate refusal

-- it accepts these sections, and tells how many of them aren't empty
abbrev pub Certifies : List Section → Run → Type 0
Certifies list r = r ≡ run.Certified (count_by is_cert list)

-- a section fails its checks, those in front of it pass, and what is told is its number, counted from 1, and an operation that passes 128
-- bits
pub record RefusesWide (p : Problem) (settings : List Pairs) (list : List Section) (r : Run) : Type 0 where
  pub section : ℕ
  pub passes : Passes
  pub first : IsFirstRefused p settings list section (Wide passes)
  pub told : r ≡ run.CertRefused section (Wide passes)

-- ---- what was written
-- words of a `certify` over files whose script and settings file are those of other files, and whose certificate has these bytes
pub record Rereads (words : List (List ℕ)) (f g : Files) (script settings text : List ℕ) : Type 0 where
  pub name : List ℕ
  pub form : command_of words ≡ Some (certify script settings name)
  pub same_script : g script ≡ f script
  pub same_settings : g settings ≡ f settings
  pub there : g name ≡ Some text

-- these are the bytes of a certificate of answers: more than 67,108,864 of them are refused for their length, and no more of them are
-- accepted, or an operation of a check passes 128 bits
pub record IsAcceptedOrWide (words : List (List ℕ)) (f : Files) (old new : ℕ) (text : List ℕ) (stopped : Bool) (r : Run) : Type 0 where
  pub written : IsCertificateRun words (Some f) old new text stopped
  pub long : 67108864 < length text → RefusesLength r
  pub read : length text ≤ 67108864 → Certifies written.sections.list r ⊎ RefusesWide written.asked.work.problem written.asked.settings written.sections.list r

-- these are the bytes of sections that passed: no more of them than that are accepted
pub record IsStillAccepted (words : List (List ℕ)) (f : Files) (text : List ℕ) (r : Run) : Type 0 where
  pub written : IsMigrateRun words (Some f) text
  pub long : 67108864 < length text → RefusesLength r
  pub read : length text ≤ 67108864 → Certifies written.migrated.list r

-- ---- the law
-- so it is of a run of `certificate`
abbrev pub AnswersAreAccepted : Type 0
AnswersAreAccepted = (writing reading : List (List ℕ)) (script settings : List ℕ) (limit : ℕ) (f g : Files) (before now old new past later from to : ℕ) (text : List ℕ) (stopped : Bool) (r : Run)
    → command_of writing ≡ Some (certificate script settings limit) → Causes writing (Some f) (Rose before now) old new (run.Certificates text stopped) → Rereads reading f g script settings text
    → Causes reading (Some g) (Rose past later) from to r → IsAnswered r → IsAcceptedOrWide writing f old new text stopped r

-- and of one of `migrate`
abbrev pub SectionsStayAccepted : Type 0
SectionsStayAccepted = (writing reading : List (List ℕ)) (script settings name : List ℕ) (f g : Files) (before now old new past later from to : ℕ) (text : List ℕ) (stopped : Bool) (r : Run)
    → command_of writing ≡ Some (migrate script settings name) → Causes writing (Some f) (Rose before now) old new (run.Certificates text stopped) → Rereads reading f g script settings text
    → Causes reading (Some g) (Rose past later) from to r → IsAnswered r → IsStillAccepted writing f text r

pub record WrittenCertificatesAreAccepted : Type 0 where
  pub of_answers : AnswersAreAccepted
  pub of_sections : SectionsStayAccepted
