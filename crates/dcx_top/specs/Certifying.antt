-- What the files of a command give that reads a certificate, or the run that ends there.
use Rattle.std.specs.Prelude.{◌≡◌, ℕ, List, length, Option, Ok, Err}
use Rattle.dcx_point.specs.Pairs.{Pairs}
use Rattle.dcx_tree.specs.declared.problem.Problem.{Problem}
use Rattle.dcx_host.specs.Files.{Files, IsTold}
use Rattle.dcx_front.specs.declared.accepted.Accepted.{Accepted}
use Rattle.dcx_refusal.specs.declared.refusal.Refusal.{Refusal}
use Rattle.dcx_refusal.specs.declared.refusal.RefusalSource.TheVariants.{Script, Settings}
use Rattle.dcx_front.specs.Accepts.{Gives}
use Rattle.dcx_report.specs.declared.run.Run.{Run}
use Rattle.dcx_report.specs.declared.run.Run.TheVariants as run
use Rattle.dcx_cert_sections.specs.declared.section.Sections.{Sections}
use Rattle.dcx_top.specs.Commands.{AreOfFile}
use Rattle.dcx_declared.specs.Whole.{HasNoWhole}
use Rattle.dcx_top.specs.Whole.{IsRefusedForWhole}
use Rattle.dcx_top.specs.Files.{RefusesScript, RefusesSettings, HasTextOf}
use Rattle.dcx_top.specs.Reading.{EndsAt, ReadsCertificate}

-- a script gives an accepted problem without variables that are to be whole, and a file these settings
pub record GivesSettings (told : Option Files) (script name : List ℕ) (a : Accepted) (settings : List Pairs) : Type 0 where
  pub bytes : List ℕ
  pub are_told : IsTold told script bytes
  pub gives : Gives bytes (Ok a)
  pub continuous : HasNoWhole a.work.problem
  pub asked : AreOfFile told name a.work.last settings

-- a third file has the text of these sections for the problem at the settings
pub record GivesSections (told : Option Files) (script name file : List ℕ) (p : Problem) (settings : List Pairs) (sections : Sections) : Type 0 where
  pub accepted : Accepted
  pub is_of : accepted.work.problem ≡ p
  pub files : GivesSettings told script name accepted settings
  pub has : HasTextOf told file p settings sections

-- one of the files ends the run: the script, a variable that is to be whole, the settings file, or the certificate; want of memory is free
pub data EndsFiles (told : Option Files) (risen : Type 0) (script name file : List ℕ) (r : Run) : Type 0 where
  at_script : EndsAt told risen Script script RefusesScript r → EndsFiles told risen script name file r
  at_whole : (a : Accepted) (bytes : List ℕ) (t : Refusal) → IsTold told script bytes → Gives bytes (Ok a) → IsRefusedForWhole a.work.problem t → r ≡ run.Refused t
      → EndsFiles told risen script name file r
  at_settings : (a : Accepted) (bytes : List ℕ) → IsTold told script bytes → Gives bytes (Ok a) → HasNoWhole a.work.problem → EndsAt told risen Settings name RefusesSettings r
      → EndsFiles told risen script name file r
  at_certificate : (a : Accepted) (settings : List Pairs) → GivesSettings told script name a settings → ReadsCertificate told risen file a.work.problem (length settings) (Err r)
      → EndsFiles told risen script name file r
  at_memory : r ≡ run.Memory → EndsFiles told risen script name file r
