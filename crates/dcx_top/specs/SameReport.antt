-- Two runs of one command over the same contents tell the same.
use Rattle.std.specs.Prelude.{◌≡◌, ◌≢◌, ℕ, List, Option, Some, None}
use Rattle.dcx_host.specs.Faults.{Rose}
use Rattle.dcx_host.specs.Files.{Files}
use Rattle.dcx_report.specs.declared.run.Run.{Run}
use Rattle.dcx_report.specs.ReportText.{text_of}
use Rattle.dcx_words.specs.Commands.{trial, command_of}
use Rattle.dcx_top.specs.Ended.{status_of}
use Rattle.dcx_top.specs.Runs.{Causes}

-- the libraries tell the same bytes of each name; or nothing, where the words are those of a trial, which reads no file
abbrev pub TellTheSame : List (List ℕ) → Option Files → Option Files → Type 0
TellTheSame words (Some f) (Some g) = (name : List ℕ) → f name ≡ g name
TellTheSame words None None = (size : ℕ) × (limit : ℕ) × (command_of words ≡ Some (trial size limit))
TellTheSame words (Some f) None = ⊥
TellTheSame words None (Some g) = ⊥

-- the run lacked neither a file nor memory, for itself or at a setting
pub record LacksNothing (r : Run) : Type 0 where
  pub file : status_of r ≢ 3
  pub memory : status_of r ≢ 5

-- the reports are the same, byte by byte, and so are the statuses
pub record AreReportedAlike (r s : Run) : Type 0 where
  pub text : text_of r ≡ text_of s
  pub status : status_of r ≡ status_of s

-- so it is of any two runs with their causes of the same words
abbrev pub SameContentsSameReport : Type 0
SameContentsSameReport = (words : List (List ℕ)) (told other : Option Files) (before now old new past later from to : ℕ) (r s : Run) → TellTheSame words told other
    → Causes words told (Rose before now) old new r →
    Causes words other (Rose past later) from to s → LacksNothing r → LacksNothing s → AreReportedAlike r s
