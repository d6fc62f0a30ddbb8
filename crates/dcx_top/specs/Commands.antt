-- What a command asks for: its script, its settings, and how its outcomes are told.
use Rattle.std.specs.Prelude.{◌≡◌, ℕ, List, Option, Some, None}
use Rattle.dcx_point.specs.Pairs.{Pairs}
use Rattle.dcx_tree.specs.declared.constraint.Sense.{Sense}
use Rattle.dcx_host.specs.Files.{Files, IsTold}
use Rattle.dcx_settings.specs.declared.settings.SettingItem.{SettingItem}
use Rattle.dcx_settings.specs.File.{SpellSettings}
use Rattle.dcx_elab.specs.declared.work.Work.{Work}
use Rattle.dcx_answer.specs.declared.outcome.Outcome.{Outcome}
use Rattle.dcx_report.specs.declared.run.Run.{Run}
use Rattle.dcx_report.specs.declared.run.Run.TheVariants as run
use Rattle.dcx_report.specs.declared.run.Word.TheVariants as word
use Rattle.dcx_words.specs.Commands.{Command, check, solve, resolve, certificate, certify, migrate, trial, iis, range}
use Rattle.dcx_trial.specs.Trial.{trial_text}
use Rattle.dcx_overlay.specs.Settings.{AreLaidOver, AreTrialSettings}

-- ---- the script
-- the bytes of the script: those of the named file, or the text of the trial problem
abbrev pub IsScriptOf : Option Files → Command → List ℕ → Type 0
IsScriptOf told (check script) bytes = IsTold told script bytes
IsScriptOf told (solve script limit) bytes = IsTold told script bytes
IsScriptOf told (resolve script settings limit warm) bytes = IsTold told script bytes
IsScriptOf told (certificate script settings limit) bytes = IsTold told script bytes
IsScriptOf told (certify script settings cert) bytes = IsTold told script bytes
IsScriptOf told (migrate script settings cert) bytes = IsTold told script bytes
IsScriptOf told (trial size limit) bytes = bytes ≡ trial_text size
IsScriptOf told (iis script settings limit) bytes = IsTold told script bytes
IsScriptOf told (range script settings parameter limit) bytes = IsTold told script bytes

-- the file that the script is read from
abbrev pub script_name : Command → Option (List ℕ)
script_name (check script) = Some script
script_name (solve script limit) = Some script
script_name (resolve script settings limit warm) = Some script
script_name (certificate script settings limit) = Some script
script_name (certify script settings cert) = Some script
script_name (migrate script settings cert) = Some script
script_name (trial size limit) = None
script_name (iis script settings limit) = Some script
script_name (range script settings parameter limit) = Some script

-- the file that settings are read from
abbrev pub settings_name : Command → Option (List ℕ)
settings_name (check script) = None
settings_name (solve script limit) = None
settings_name (resolve script settings limit warm) = Some settings
settings_name (certificate script settings limit) = Some settings
settings_name (certify script settings cert) = Some settings
settings_name (migrate script settings cert) = Some settings
settings_name (trial size limit) = None
settings_name (iis script settings limit) = Some settings
settings_name (range script settings parameter limit) = Some settings

-- the file that a certificate is read from
abbrev pub certificate_name : Command → Option (List ℕ)
certificate_name (check script) = None
certificate_name (solve script limit) = None
certificate_name (resolve script settings limit warm) = None
certificate_name (certificate script settings limit) = None
certificate_name (certify script settings cert) = Some cert
certificate_name (migrate script settings cert) = Some cert
certificate_name (trial size limit) = None
certificate_name (iis script settings limit) = None
certificate_name (range script settings parameter limit) = None

-- the parameter whose range is asked for
abbrev pub parameter_name : Command → Option (List ℕ)
parameter_name (check script) = None
parameter_name (solve script limit) = None
parameter_name (resolve script settings limit warm) = None
parameter_name (certificate script settings limit) = None
parameter_name (certify script settings cert) = None
parameter_name (migrate script settings cert) = None
parameter_name (trial size limit) = None
parameter_name (iis script settings limit) = None
parameter_name (range script settings parameter limit) = Some parameter

-- ---- the settings
-- each line of the file, laid over a setting
pub record AreOfFile (told : Option Files) (name : List ℕ) (last : Pairs) (settings : List Pairs) : Type 0 where
  pub bytes : List ℕ
  pub are_told : IsTold told name bytes
  pub lines : List (List SettingItem)
  pub spelled : SpellSettings bytes lines
  pub laid : AreLaidOver last lines settings

-- the settings at which the problem is solved: those of the script's solves, or those of the file, or the two of the trial
abbrev pub AreSettingsOf : Option Files → Command → Work → List Pairs → Type 0
AreSettingsOf told (check script) work settings = ⊥
AreSettingsOf told (solve script limit) work settings = settings ≡ work.events
AreSettingsOf told (resolve script name limit warm) work settings = AreOfFile told name work.last settings
AreSettingsOf told (certificate script name limit) work settings = AreOfFile told name work.last settings
AreSettingsOf told (certify script name cert) work settings = AreOfFile told name work.last settings
AreSettingsOf told (migrate script name cert) work settings = AreOfFile told name work.last settings
AreSettingsOf told (trial size limit) work settings = AreTrialSettings work.last settings
AreSettingsOf told (iis script name limit) work settings = AreOfFile told name work.last settings
AreSettingsOf told (range script name parameter limit) work settings = AreOfFile told name work.last settings

-- the most pivots at a setting, or in each step there
abbrev pub limit_of : Command → ℕ
limit_of (check script) = 0
limit_of (solve script limit) = limit
limit_of (resolve script settings limit warm) = limit
limit_of (certificate script settings limit) = limit
limit_of (certify script settings cert) = 0
limit_of (migrate script settings cert) = 0
limit_of (trial size limit) = limit
limit_of (iis script settings limit) = limit
limit_of (range script settings parameter limit) = limit

-- ---- the run
-- the run tells these outcomes, with the count of the warm ones, if they are counted
abbrev pub TellsOutcomes : Command → Sense → List Outcome → Option ℕ → Run → Type 0
TellsOutcomes (check script) sense outcomes count r = ⊥
TellsOutcomes (solve script limit) sense outcomes count r = r ≡ run.Solved word.Solve sense outcomes count
TellsOutcomes (resolve script settings limit warm) sense outcomes count r = r ≡ run.Solved word.Setting sense outcomes count
TellsOutcomes (certificate script settings limit) sense outcomes count r = ⊥
TellsOutcomes (certify script settings cert) sense outcomes count r = ⊥
TellsOutcomes (migrate script settings cert) sense outcomes count r = ⊥
TellsOutcomes (trial size limit) sense outcomes count r = r ≡ run.Trial size outcomes
TellsOutcomes (iis script settings limit) sense outcomes count r = ⊥
TellsOutcomes (range script settings parameter limit) sense outcomes count r = ⊥
