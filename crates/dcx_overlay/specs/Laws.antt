-- The law of settings: lines give one list of them, and so does the trial.
use Rattle.std.specs.Prelude.{◌≡◌, List}
use Rattle.dcx_point.specs.Pairs.{Pairs}
use Rattle.dcx_settings.specs.declared.settings.SettingItem.{SettingItem}
use Rattle.dcx_overlay.specs.Settings.{AreLaidOver, AreTrialSettings}

-- lines give one list of settings, and so does the trial
pub record SettingsAreOne : Type 0 where
  pub laid : (s : Pairs) (lines : List (List SettingItem)) (ts us : List Pairs) → AreLaidOver s lines ts → AreLaidOver s lines us → ts ≡ us
  pub trial : (s : Pairs) (ts us : List Pairs) → AreTrialSettings s ts → AreTrialSettings s us → ts ≡ us
