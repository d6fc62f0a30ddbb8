-- What holds of all settings that bytes spell.
use Rattle.std.specs.Prelude.{◌≡◌, ℕ, List}
use Rattle.dcx_settings.specs.declared.settings.SettingItem.{SettingItem}
use Rattle.dcx_settings.specs.Grammar.{Every}
use Rattle.dcx_settings.specs.Meaning.{IsFull}
use Rattle.dcx_settings.specs.File.{SpellSettings}

-- each item of each line has a number for each entry of its shape
abbrev pub ItemsAreFull : Type 0
ItemsAreFull = (bytes : List ℕ) (settings : List (List SettingItem)) → SpellSettings bytes settings → Every (Every IsFull) settings

-- the bytes spell these settings and no others
abbrev pub SettingsAreOne : Type 0
SettingsAreOne = (bytes : List ℕ) (settings others : List (List SettingItem)) → SpellSettings bytes settings → SpellSettings bytes others → settings ≡ others
