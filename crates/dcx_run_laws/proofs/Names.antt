-- The names of scripts and of settings files are on one line.
use Rattle.std.proofs.Common.{ℕ, List, [], ◌∷◌, Ok}
use Rattle.std.specs.List.{All, AllByRecursion}
use Rattle.std.proofs.lemmas.List.Elements.{All-from_recursion}
use Rattle.dcx_call.specs.declared.attribute.Parameter.{Parameter}
use Rattle.dcx_point.specs.Pairs.{Pairs, names_of}
use Rattle.dcx_settings.specs.declared.settings.SettingItem.{SettingItem}
use Rattle.dcx_syntax.specs.declared.tree.Script.{Script}
use Rattle.dcx_read.specs.Parses.{IsReading}
use Rattle.dcx_elab.specs.declared.work.Work.{Work}
use Rattle.dcx_elab.specs.Meaning.{Elaborates}
use Rattle.dcx_report.specs.SameText.{IsOnOneLine}
use Rattle.dcx_run_laws.specs.Names.{IsNamedOnOneLine, HasNamesOnOneLine, NamesAreOnOneLine}
use Rattle.dcx_report.proofs.OneLine.{IsLine}
use Rattle.dcx_run_laws.proofs.Scripts.{work_lines}
use Rattle.dcx_run_laws.proofs.Settings.{AreNamedOnLines, file_lines}
use Rattle.dcx_run_laws.proofs.Ends.{on_one_line}

-- what holds of each, one way or the other
all_from : {X : Type 0} (P Q : X → Type 0) → ((x : X) → P x → Q x) → (xs : List X) → AllByRecursion P xs → All Q xs
all_from {X = X} P Q f xs h = All-from_recursion Q xs (by xs h)
  where
    by : (ys : List X) → AllByRecursion P ys → AllByRecursion Q ys
    by [] h = tt
    by (y ∷ ys) h = (f y h.0, by ys h.1)

setting_named : (s : Pairs) → AllByRecursion IsLine (names_of s) → IsNamedOnOneLine s
setting_named s h = all_from IsLine IsOnOneLine on_one_line (names_of s) h

line_named : (line : List SettingItem) → AreNamedOnLines line → All (λ i. IsOnOneLine i.name) line
line_named line h = all_from (λ (i : SettingItem). IsLine i.name) (λ i. IsOnOneLine i.name) (λ i. on_one_line i.name) line h

pub names_are_on_one_line : NamesAreOnOneLine
names_are_on_one_line = record { scripts = of_script; settings = λ bytes lines h. all_from AreNamedOnLines (λ line. All (λ i. IsOnOneLine i.name) line) line_named lines (file_lines bytes lines h) }
  where
    of_script : (bytes : List ℕ) (script : Script) (w : Work) → IsReading bytes (Ok script) → Elaborates (Ok w) script → HasNamesOnOneLine w
    of_script bytes script w h k =
        let lines = work_lines bytes script w h k in
        record {
          parameters = all_from (λ (q : Parameter). IsLine q.name) (λ q. IsOnOneLine q.name) (λ q. on_one_line q.name) w.problem.parameters lines.parameters;
          events = all_from (λ s. AllByRecursion IsLine (names_of s)) IsNamedOnOneLine setting_named w.events lines.events;
          last = setting_named w.last lines.last;
        }
