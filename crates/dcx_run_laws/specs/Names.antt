-- Names on one line: no name of a parameter or of a setting has a line feed.
use Rattle.std.specs.Prelude.{ℕ, List, All, Ok}
use Rattle.dcx_point.specs.Pairs.{Pairs, names_of}
use Rattle.dcx_syntax.specs.declared.tree.Script.{Script}
use Rattle.dcx_read.specs.Parses.{IsReading}
use Rattle.dcx_settings.specs.declared.settings.SettingItem.{SettingItem}
use Rattle.dcx_settings.specs.File.{SpellSettings}
use Rattle.dcx_elab.specs.declared.work.Work.{Work}
use Rattle.dcx_elab.specs.Meaning.{Elaborates}
use Rattle.dcx_report.specs.SameText.{IsOnOneLine}

-- each name of a setting is on one line
abbrev pub IsNamedOnOneLine : Pairs → Type 0
IsNamedOnOneLine setting = All IsOnOneLine (names_of setting)

-- so is the name of each parameter, and those of the settings at the solves and at the end
pub record HasNamesOnOneLine (w : Work) : Type 0 where
  pub parameters : All (λ q. IsOnOneLine q.name) w.problem.parameters
  pub events : All IsNamedOnOneLine w.events
  pub last : IsNamedOnOneLine w.last

-- of whatever stands for a script that is read, and of the lines that a settings file spells
pub record NamesAreOnOneLine : Type 0 where
  pub scripts : (bytes : List ℕ) (script : Script) (w : Work) → IsReading bytes (Ok script) → Elaborates (Ok w) script → HasNamesOnOneLine w
  pub settings : (bytes : List ℕ) (lines : List (List SettingItem)) → SpellSettings bytes lines → All (λ line. All (λ i. IsOnOneLine i.name) line) lines
