-- What words ask of an accepted problem: what the headline and the causes of runs have in common.
use Rattle.std.specs.Prelude.{◌≡◌, ℕ, List, Option, Some, Ok}
use Rattle.dcx_point.specs.Pairs.{Pairs}
use Rattle.dcx_convex.specs.Nodes.{Setting}
use Rattle.dcx_tree.specs.declared.problem.Problem.{Problem}
use Rattle.dcx_tree.specs.Meaning.{Fits, IsAccepted, IsConvex}
use Rattle.dcx_syntax.specs.declared.tree.Script.{Script}
use Rattle.dcx_read.specs.Parses.{IsReading}
use Rattle.dcx_elab.specs.declared.work.Work.{Work}
use Rattle.dcx_elab.specs.Meaning.{Elaborates}
use Rattle.dcx_host.specs.Files.{Files}
use Rattle.dcx_words.specs.Commands.{Command, command_of}
use Rattle.dcx_top.specs.Commands.{IsScriptOf, AreSettingsOf}

-- The script of the command spells what stands for this work: a problem with its settings. The rules accept the problem, and it is
-- convex at every fitting setting.
pub record IsAcceptedWork (told : Option Files) (command : Command) (work : Work) : Type 0 where
  pub bytes : List ℕ
  pub are_of : IsScriptOf told command bytes
  pub script : Script
  pub spelled : IsReading bytes (Ok script)
  pub stands_for : Elaborates (Ok work) script
  pub accepted : IsAccepted work.problem
  pub convex : (s : Setting) → Fits work.problem s → IsConvex work.problem s

-- the words are those of the command; its accepted problem, whose variables are marked as `Marks` says, and the settings at which it is
-- asked
pub record Asked (words : List (List ℕ)) (told : Option Files) (command : Command) (Marks : Problem → Type 0) : Type 0 where
  pub form : command_of words ≡ Some command
  pub work : Work
  pub problem : IsAcceptedWork told command work
  pub marks : Marks work.problem
  pub settings : List Pairs
  pub are_of : AreSettingsOf told command work settings
