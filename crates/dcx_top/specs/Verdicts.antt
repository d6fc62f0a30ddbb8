-- A run refuses its files exactly where they are at fault, and goes on exactly where they are not. What stands in a certificate is no
-- fault of the file: the run tells whether it is accepted.
use Rattle.std.specs.Prelude.{◌≡◌, ◌↔◌, ⊤, ℕ, ◌<◌, List, length, Option, Some, None}
use Rattle.dcx_tokens.specs.declared.fault.ReadFault.{ReadFault}
use Rattle.dcx_host.specs.Files.{Files}
use Rattle.dcx_settings.specs.declared.settings.SettingItem.{SettingItem}
use Rattle.dcx_settings.specs.File.{IsRefused, SpellSettings}
use Rattle.dcx_front.specs.OneAnswer.{IsAtFault, IsWithoutFault}
use Rattle.dcx_report.specs.declared.run.Run.{Run}
use Rattle.dcx_report.specs.declared.run.Run.TheVariants as run
use Rattle.dcx_words.specs.Commands.{Command, trial, command_of}
use Rattle.dcx_trial.specs.Trial.{trial_text}
use Rattle.dcx_refusal.specs.declared.refusal.RefusalSource.TheVariants.{Certificate}
use Rattle.dcx_answer.specs.declared.not_ranged.NotRanged.{NotRanged}
use Rattle.dcx_outcomes.specs.Ranges.{LacksRange}
use Rattle.dcx_top.specs.NoRange.{AllowsRange}
use Rattle.dcx_top.specs.Commands.{IsScriptOf, settings_name, certificate_name, parameter_name}
use Rattle.dcx_top.specs.Files.{most_bytes}
use Rattle.dcx_declared.specs.Whole.{IsWholeAt}
use Rattle.dcx_top.specs.Whole.{RefusesWhole, Takes}
use Rattle.dcx_top.specs.OneRun.{IsAnswered}

abbrev pub IsRefusal : Run → Type 0
IsRefusal (run.Refused r) = ⊤
IsRefusal run.Usage = ⊥
IsRefusal (run.Checked c) = ⊥
IsRefusal (run.Solved word sense outcomes warm) = ⊥
IsRefusal (run.Certificates text stopped) = ⊥
IsRefusal (run.Certified n) = ⊥
IsRefusal (run.CertRefused section fault) = ⊥
IsRefusal (run.Trial size outcomes) = ⊥
IsRefusal (run.Filtered outcomes) = ⊥
IsRefusal (run.Ranged parameter sense outcomes) = ⊥
IsRefusal run.ReadFault = ⊥
IsRefusal run.Memory = ⊥

abbrev pub IsAcceptance : Run → Type 0
IsAcceptance (run.Checked c) = ⊤
IsAcceptance (run.Solved word sense outcomes warm) = ⊤
IsAcceptance (run.Certificates text stopped) = ⊤
IsAcceptance (run.Certified n) = ⊤
IsAcceptance (run.CertRefused section fault) = ⊤
IsAcceptance (run.Trial size outcomes) = ⊤
IsAcceptance (run.Filtered outcomes) = ⊤
IsAcceptance (run.Ranged parameter sense outcomes) = ⊤
IsAcceptance run.Usage = ⊥
IsAcceptance (run.Refused r) = ⊥
IsAcceptance run.ReadFault = ⊥
IsAcceptance run.Memory = ⊥

-- ---- the files of a command
-- these files are told, and have these bytes
pub record Has (files : Files) (command : Command) (script settings certificate : List ℕ) : Type 0 where
  pub is_script : IsScriptOf (Some files) command script
  pub are_settings : (name : List ℕ) → settings_name command ≡ Some name → files name ≡ Some settings
  pub is_certificate : (name : List ℕ) → certificate_name command ≡ Some name → files name ≡ Some certificate

-- the settings file has a fault, where there is one
pub record AreFaulty (command : Command) (settings : List ℕ) : Type 0 where
  pub name : List ℕ
  pub asked : settings_name command ≡ Some name
  pub fault : ReadFault
  pub refused : IsRefused settings fault

abbrev pub AreFaultless : Command → List ℕ → Type 0
AreFaultless command settings = (name : List ℕ) → settings_name command ≡ Some name → (lines : List (List SettingItem)) × SpellSettings settings lines

-- the certificate is too long, where there is one
pub record IsLongCertificate (command : Command) (certificate : List ℕ) : Type 0 where
  pub name : List ℕ
  pub asked : certificate_name command ≡ Some name
  pub long : most_bytes Certificate < length certificate

-- the script is at fault, or its problem has a variable that is to be whole where the command refuses that, or no range for the parameter
-- whose range is asked for, or the settings file is at fault, or the certificate is too long
pub data AreAtFault (command : Command) (script settings certificate : List ℕ) : Type 0 where
  bad_script : IsAtFault script → AreAtFault command script settings certificate
  has_whole : (h : IsWithoutFault script) → RefusesWhole command → (i : ℕ) → IsWholeAt h.work.problem i → AreAtFault command script settings certificate
  lacks_range : (h : IsWithoutFault script) (name : List ℕ) → parameter_name command ≡ Some name → (fault : NotRanged) → LacksRange h.work.problem name fault
      → AreAtFault command script settings certificate
  bad_settings : IsWithoutFault script → AreFaulty command settings → AreAtFault command script settings certificate
  long_certificate : IsWithoutFault script → AreFaultless command settings → IsLongCertificate command certificate → AreAtFault command script settings certificate

-- nothing is
pub record AreWithoutFault (command : Command) (script settings certificate : List ℕ) : Type 0 where
  pub no_script_fault : IsWithoutFault script
  pub no_whole : Takes command no_script_fault.work.problem
  pub no_lack : AllowsRange command no_script_fault.work.problem
  pub no_settings_fault : AreFaultless command settings
  pub not_long : ¬ IsLongCertificate command certificate

-- ---- of a run
pub record IsVerdictOn (command : Command) (script settings certificate : List ℕ) (r : Run) : Type 0 where
  pub refused : IsRefusal r ↔ AreAtFault command script settings certificate
  pub accepted : IsAcceptance r ↔ AreWithoutFault command script settings certificate

-- where the run is answered and files are told; of a trial, which has its text, whatever is told
abbrev pub IsRightVerdict : List (List ℕ) → Option Files → Run → Type 0
IsRightVerdict words None r = IsAnswered r → (size limit : ℕ) (settings certificate : List ℕ) → command_of words ≡ Some (trial size limit)
    → IsVerdictOn (trial size limit) (trial_text size) settings certificate r
IsRightVerdict words (Some files) r = IsAnswered r → (command : Command) (script settings certificate : List ℕ) → command_of words ≡ Some command → Has files command script settings certificate
    → IsVerdictOn command script settings certificate r
