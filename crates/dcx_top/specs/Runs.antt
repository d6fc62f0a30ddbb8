-- Each run with its cause.
use Rattle.std.specs.Prelude.{◌≡◌, ◌↔◌, IsTrue, Bool, false, ℕ, ◌+◌, ◌⊎◌, List, length, Option, Some, None, count_by}
use Rattle.dcx_point.specs.Pairs.{Pairs}
use Rattle.dcx_host.specs.Files.{Files}
use Rattle.dcx_elab.specs.declared.work.Work.{Work}
use Rattle.dcx_refusal.specs.declared.checked.Checked.{Checked}
use Rattle.dcx_refusal.specs.declared.refusal.Refusal.{Refusal}
use Rattle.dcx_refusal.specs.declared.refusal.RefusalSource.TheVariants.{Script, Settings, Certificate}
use Rattle.dcx_front.specs.Checks.{IsFoundOf}
use Rattle.dcx_answer.specs.declared.outcome.Outcome.{Outcome}
use Rattle.dcx_answer.specs.declared.filter_outcome.FilterOutcome.{FilterOutcome}
use Rattle.dcx_answer.specs.declared.range_outcome.RangeOutcome.{RangeOutcome}
use Rattle.dcx_tree.specs.declared.constraint.Sense.{Sense}
use Rattle.dcx_report.specs.declared.run.Run.{Run}
use Rattle.dcx_report.specs.declared.run.Run.TheVariants as run
use Rattle.dcx_words.specs.Commands.{Command, check, certificate, certify, migrate, iis, range, command_of}
use Rattle.dcx_words.specs.Laws.{is_warm_command}
use Rattle.dcx_outcomes.specs.Counts.{Counts, CountsNoMore}
use Rattle.dcx_outcomes.specs.Warm.{AreFound}
use Rattle.dcx_outcomes.specs.Filters.{AreFilterOutcomes}
use Rattle.dcx_outcomes.specs.Ranges.{HasRange, AreRangeOutcomes}
use Rattle.dcx_answer.specs.declared.cert_fault.CertFault.{CertFault}
use Rattle.dcx_cert_sections.specs.declared.section.Sections.{Sections}
use Rattle.dcx_cert_lines.specs.CertText.{cert_text}
use Rattle.dcx_cert_runs.specs.Sections.{StopsSomewhere, IsCertificateAt}
use Rattle.dcx_cert_runs.specs.Checking.{is_cert, ArePassed, IsFirstRefused}
use Rattle.dcx_cert_runs.specs.Migrating.{IsMigrated}
use Rattle.dcx_top.specs.Commands.{IsScriptOf, script_name, settings_name, certificate_name, parameter_name, AreSettingsOf, limit_of, TellsOutcomes}
use Rattle.dcx_top.specs.Asked.{IsAcceptedWork, Asked}
use Rattle.dcx_declared.specs.Whole.{HasNoWhole}
use Rattle.dcx_top.specs.Whole.{IsRefusedForWhole, RefusesWhole, Takes}
use Rattle.dcx_top.specs.NoRange.{IsRefusedForRange, AllowsRange}
use Rattle.dcx_top.specs.Files.{IsLong, IsRefusedIn, RefusesScript, RefusesSettings, IsNotHad, IsMisread, HasTextOf}

-- ---- runs
-- a script that is checked, of which this is found
pub record IsChecked (words : List (List ℕ)) (told : Option Files) (c : Checked) : Type 0 where
  pub script : List ℕ
  pub form : command_of words ≡ Some (check script)
  pub work : Work
  pub problem : IsAcceptedWork told (check script) work
  pub found : IsFoundOf work.problem c

-- a problem that the command takes is solved at its settings, where that says so warm, and by branch and bound where a variable is to be
-- whole: its outcomes are told, and so many steps were counted
pub record IsSolvedRun (words : List (List ℕ)) (told : Option Files) (old new : ℕ) (r : Run) : Type 0 where
  pub command : Command
  pub asked : Asked words told command (Takes command)
  pub outcomes : List Outcome
  pub warm : Option ℕ
  pub are : AreFound (is_warm_command command) asked.work.problem (limit_of command) asked.settings outcomes warm
  pub tells : TellsOutcomes command asked.work.problem.sense outcomes warm r
  pub steps : Counts asked.work.problem (length asked.settings) old new

-- the constraints of one without variables that are to be whole are filtered
pub record IsFilteredRun (words : List (List ℕ)) (told : Option Files) (old new : ℕ) (outcomes : List FilterOutcome) : Type 0 where
  pub script : List ℕ
  pub name : List ℕ
  pub limit : ℕ
  pub asked : Asked words told (iis script name limit) HasNoWhole
  pub are : AreFilterOutcomes asked.work.problem limit asked.settings outcomes
  pub steps : Counts asked.work.problem (length asked.settings) old new

-- ---- ranges
-- the parameter of a problem without such variables has a range, which is told, and a step was counted for each node
pub record IsRangedRun (words : List (List ℕ)) (told : Option Files) (old new : ℕ) (parameter : List ℕ) (sense : Sense) (outcomes : List RangeOutcome) : Type 0 where
  pub script : List ℕ
  pub name : List ℕ
  pub limit : ℕ
  pub asked : Asked words told (range script name parameter limit) HasNoWhole
  pub ranged : HasRange asked.work.problem parameter
  pub are : AreRangeOutcomes asked.work.problem parameter limit asked.settings outcomes
  pub sense_is : sense ≡ asked.work.problem.sense
  pub steps : new ≡ old + length asked.work.problem.tree

-- a session of the accepted problem of a `range`, which has no variable that is to be whole, was begun: its steps were counted
pub record BeginsRange (words : List (List ℕ)) (told : Option Files) (old new : ℕ) : Type 0 where
  pub script : List ℕ
  pub name : List ℕ
  pub parameter : List ℕ
  pub limit : ℕ
  pub form : command_of words ≡ Some (range script name parameter limit)
  pub work : Work
  pub problem : IsAcceptedWork told (range script name parameter limit) work
  pub continuous : HasNoWhole work.problem
  pub steps : Counts work.problem 0 old new

-- no step was counted, or those of a session that a `range` begins before it is refused or its settings file is fetched
abbrev pub CountsAtMostBeginning : List (List ℕ) → Option Files → ℕ → ℕ → Type 0
CountsAtMostBeginning words told old new = (new ≡ old) ⊎ BeginsRange words told old new

-- ---- certificates
-- a problem without variables that are to be whole is solved at settings, these are the bytes of the certificate of its answers, it is
-- told whether a setting stopped, and so many steps were counted
pub record IsCertificateRun (words : List (List ℕ)) (told : Option Files) (old new : ℕ) (bytes : List ℕ) (stopped : Bool) : Type 0 where
  pub script : List ℕ
  pub name : List ℕ
  pub limit : ℕ
  pub asked : Asked words told (certificate script name limit) HasNoWhole
  pub sections : Sections
  pub are : IsCertificateAt asked.work.problem limit asked.settings sections
  pub flag : IsTrue stopped ↔ StopsSomewhere asked.work.problem limit asked.settings
  pub text : bytes ≡ cert_text sections
  pub steps : Counts asked.work.problem (length asked.settings) old new

-- the problem and the settings of a command that reads a certificate
pub record HasCertificate (words : List (List ℕ)) (told : Option Files) (command : Command) : Type 0 where
  pub name : List ℕ
  pub named : certificate_name command ≡ Some name
  pub asked : Asked words told command HasNoWhole

-- its file has the text of these sections for the problem, as many as there are settings
pub record ReadsSections (words : List (List ℕ)) (told : Option Files) (command : Command) (sections : Sections) : Type 0 where
  pub files : HasCertificate words told command
  pub has : HasTextOf told files.name files.asked.work.problem files.asked.settings sections

-- and each passes its checks at its setting
pub record HasPassed (words : List (List ℕ)) (told : Option Files) (command : Command) (sections : Sections) : Type 0 where
  pub reads : ReadsSections words told command sections
  pub passed : ArePassed reads.files.asked.work.problem reads.files.asked.settings sections.list

-- sections that passed are written with the settings' values
pub record IsMigrateRun (words : List (List ℕ)) (told : Option Files) (bytes : List ℕ) : Type 0 where
  pub script : List ℕ
  pub settings : List ℕ
  pub name : List ℕ
  pub sections : Sections
  pub passed : HasPassed words told (migrate script settings name) sections
  pub migrated : Sections
  pub are : IsMigrated passed.reads.files.asked.work.problem passed.reads.files.asked.settings sections migrated
  pub text : bytes ≡ cert_text migrated

-- the bytes are the text of a certificate: of the answers, or of sections that were read and passed, where no step is counted
abbrev pub AreBytesOf : List (List ℕ) → Option Files → ℕ → ℕ → List ℕ → Bool → Type 0
AreBytesOf words told old new bytes stopped = IsCertificateRun words told old new bytes stopped ⊎ (IsMigrateRun words told bytes × (stopped ≡ false) × (new ≡ old))

-- sections passed, so many of which show an answer
pub record IsCertifiedRun (words : List (List ℕ)) (told : Option Files) (n : ℕ) : Type 0 where
  pub script : List ℕ
  pub settings : List ℕ
  pub name : List ℕ
  pub sections : Sections
  pub passed : HasPassed words told (certify script settings name) sections
  pub count : n ≡ count_by is_cert sections.list

-- a certificate is refused: its bytes are the text of none for the problem, or this section is the first that fails
pub data IsCertRefusedRun (words : List (List ℕ)) (told : Option Files) (section : ℕ) (f : CertFault) : Type 0 where
  misread : (command : Command) (files : HasCertificate words told command) → IsMisread told files.name files.asked.work.problem (length files.asked.settings) section f
      → IsCertRefusedRun words told section f
  failed : (command : Command) (sections : Sections) (reads : ReadsSections words told command sections)
      → IsFirstRefused reads.files.asked.work.problem reads.files.asked.settings sections.list section f → IsCertRefusedRun words told section f

-- ---- refusals and faults
-- a file of a command is refused: its script, for its length, for what stands in it, or for a variable that is to be whole where the
-- command refuses that; or, where the range of a parameter is asked for, for what stands against that; or else its settings file; or else
-- its certificate, for its length
pub data IsRefusedRun (words : List (List ℕ)) (told : Option Files) (r : Refusal) : Type 0 where
  long_script : (command : Command) (name : List ℕ) → command_of words ≡ Some command → script_name command ≡ Some name → IsLong told Script name r → IsRefusedRun words told r
  bad_script : (command : Command) (bytes : List ℕ) → command_of words ≡ Some command → IsScriptOf told command bytes → RefusesScript bytes r → IsRefusedRun words told r
  for_whole : (command : Command) (work : Work) → command_of words ≡ Some command → IsAcceptedWork told command work → RefusesWhole command → IsRefusedForWhole work.problem r
      → IsRefusedRun words told r
  for_range : (command : Command) (work : Work) (name : List ℕ) → command_of words ≡ Some command → IsAcceptedWork told command work → HasNoWhole work.problem → parameter_name command ≡ Some name
      → IsRefusedForRange work.problem name r
      → IsRefusedRun words told r
  bad_settings : (command : Command) (work : Work) (name : List ℕ) → command_of words ≡ Some command → IsAcceptedWork told command work → Takes command work.problem
      → AllowsRange command work.problem → settings_name command ≡ Some name
      → IsLong told Settings name r ⊎ IsRefusedIn told name RefusesSettings r → IsRefusedRun words told r
  long_certificate : (command : Command) (files : HasCertificate words told command) → IsLong told Certificate files.name r → IsRefusedRun words told r

-- a file of a command could not be had: its script, or, where that gives an accepted problem, its settings file, or, where that gives
-- settings, its certificate
pub data IsReadFault (words : List (List ℕ)) (told : Option Files) (risen : Type 0) : Type 0 where
  no_script : (command : Command) (name : List ℕ) → command_of words ≡ Some command → script_name command ≡ Some name → IsNotHad told risen name → IsReadFault words told risen
  no_settings : (command : Command) (work : Work) (name : List ℕ) → command_of words ≡ Some command → IsAcceptedWork told command work → Takes command work.problem
      → AllowsRange command work.problem → settings_name command ≡ Some name → IsNotHad told risen name
      → IsReadFault words told risen
  no_certificate : (command : Command) (files : HasCertificate words told command) → IsNotHad told risen files.name → IsReadFault words told risen

-- ---- steps where memory is wanting
-- no step was counted; or no more than those of the session of a `range`, which is begun before its settings are had; or, where a command
-- solves at settings, no more than are counted there. A check counts none, and where a certificate is read none is counted either.
pub data CountsAtMost (words : List (List ℕ)) (told : Option Files) (old new : ℕ) : Type 0 where
  none : new ≡ old → CountsAtMost words told old new
  beginning : (command : Command) (work : Work) (name : List ℕ) → command_of words ≡ Some command → IsAcceptedWork told command work → parameter_name command ≡ Some name
      → CountsNoMore work.problem 0 old new → CountsAtMost words told old new
  solving : (command : Command) (work : Work) (settings : List Pairs) → command_of words ≡ Some command → IsAcceptedWork told command work → certificate_name command ≡ None
      → AreSettingsOf told command work settings
      → CountsNoMore work.problem (length settings) old new → CountsAtMost words told old new

-- Each run with its cause. `risen` says that the library's count of faults rose in this run; the counter of steps goes from `old` to
-- `new`. Want of memory alone is free, and counts no more steps than the command does.
abbrev pub Causes : List (List ℕ) → Option Files → Type 0 → ℕ → ℕ → Run → Type 0
Causes words told risen old new run.Usage = (command_of words ≡ None) × (new ≡ old)
Causes words told risen old new (run.Refused r) = IsRefusedRun words told r × CountsAtMostBeginning words told old new
Causes words told risen old new (run.Checked c) = IsChecked words told c × (new ≡ old)
Causes words told risen old new (run.Solved word sense outcomes warm) = IsSolvedRun words told old new (run.Solved word sense outcomes warm)
Causes words told risen old new (run.Certificates text stopped) = AreBytesOf words told old new text stopped
Causes words told risen old new (run.Certified n) = IsCertifiedRun words told n × (new ≡ old)
Causes words told risen old new (run.CertRefused section fault) = IsCertRefusedRun words told section fault × (new ≡ old)
Causes words told risen old new (run.Trial size outcomes) = IsSolvedRun words told old new (run.Trial size outcomes)
Causes words told risen old new (run.Filtered outcomes) = IsFilteredRun words told old new outcomes
Causes words told risen old new (run.Ranged parameter sense outcomes) = IsRangedRun words told old new parameter sense outcomes
Causes words told risen old new run.ReadFault = IsReadFault words told risen × CountsAtMostBeginning words told old new
Causes words told risen old new run.Memory = CountsAtMost words told old new
