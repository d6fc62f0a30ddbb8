-- Words and told files have one run, where neither a file nor memory is wanting.
use Rattle.std.specs.Prelude.{◌≡◌, ⊤, ℕ, List, Option, Some, None}
use Rattle.dcx_host.specs.Faults.{Rose}
use Rattle.dcx_host.specs.Files.{Files}
use Rattle.dcx_tree.specs.declared.constraint.Sense.{Sense}
use Rattle.dcx_answer.specs.declared.outcome.Outcome.{Outcome}
use Rattle.dcx_answer.specs.declared.filter_outcome.FilterOutcome.{FilterOutcome}
use Rattle.dcx_answer.specs.declared.range_outcome.RangeOutcome.{RangeOutcome}
use Rattle.dcx_report.specs.declared.run.Run.{Run}
use Rattle.dcx_report.specs.declared.run.Run.TheVariants as run
use Rattle.dcx_report.specs.declared.run.Word.{Word}
use Rattle.dcx_words.specs.Commands.{trial, command_of}
use Rattle.dcx_outcomes.specs.Laws.{AreAlike, AreOneFound}
use Rattle.dcx_outcomes.specs.FilterLaws.{AreAlikeFilters}
use Rattle.dcx_outcomes.specs.RangeLaws.{AreAlikeRanges}
use Rattle.dcx_top.specs.Runs.{Causes}

-- neither the library nor memory failed
abbrev pub IsAnswered : Run → Type 0
IsAnswered run.ReadFault = ⊥
IsAnswered run.Memory = ⊥
IsAnswered run.Usage = ⊤
IsAnswered (run.Refused r) = ⊤
IsAnswered (run.Checked c) = ⊤
IsAnswered (run.Solved word sense outcomes warm) = ⊤
IsAnswered (run.Certificates text stopped) = ⊤
IsAnswered (run.Certified n) = ⊤
IsAnswered (run.CertRefused section fault) = ⊤
IsAnswered (run.Trial size outcomes) = ⊤
IsAnswered (run.Filtered outcomes) = ⊤
IsAnswered (run.Ranged parameter sense outcomes) = ⊤

-- Two runs that tell the same: they are one run, with all its numbers and bytes, but for this. Want of memory at a setting is free; warm
-- outcomes are the same until memory runs out at a setting, and where it never does, as many of them are counted. And answers in whole
-- numbers are the same but for their trees, which no report tells.
pub data AreOneRun (r s : Run) : Type 0 where
  told_same : r ≡ s → AreOneRun r s
  told_solved : (word : Word) (sense : Sense) (os qs : List Outcome) (m n : Option ℕ) → r ≡ run.Solved word sense os m → s ≡ run.Solved word sense qs n → AreOneFound os m qs n → AreOneRun r s
  told_tried : (size : ℕ) (os qs : List Outcome) → r ≡ run.Trial size os → s ≡ run.Trial size qs → AreAlike os qs → AreOneRun r s
  told_filtered : (os qs : List FilterOutcome) → r ≡ run.Filtered os → s ≡ run.Filtered qs → AreAlikeFilters os qs → AreOneRun r s
  told_ranged : (name : List ℕ) (sense : Sense) (os qs : List RangeOutcome) → r ≡ run.Ranged name sense os → s ≡ run.Ranged name sense qs → AreAlikeRanges os qs → AreOneRun r s

-- files, of which there are none: a trial reads none
abbrev pub no_files : Files
no_files name = None

-- where the run is answered and files are told, each run with a cause tells the same; and so does each run of a trial, whatever is told
abbrev pub IsOnlyRun : List (List ℕ) → Option Files → Run → Type 0
IsOnlyRun words None r =
    (size limit : ℕ) → command_of words ≡ Some (trial size limit) → IsAnswered r → (other : Run) (before now old new : ℕ) → Causes words None (Rose before now) old new other
    → IsAnswered other → AreOneRun r other
IsOnlyRun words (Some files) r = IsAnswered r → (other : Run) (before now old new : ℕ) → Causes words (Some files) (Rose before now) old new other → IsAnswered other → AreOneRun r other
