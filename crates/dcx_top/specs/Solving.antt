-- What an accepted problem gives that is solved, filtered or ranged, or whose certificate is written: the run of each function on the way.
use Rattle.std.specs.Prelude.{◌≡◌, ◌↔◌, IsTrue, Bool, true, false, ℕ, ◌⊎◌, List, length, Option}
use Rattle.dcx_point.specs.Pairs.{Pairs}
use Rattle.dcx_tree.specs.declared.problem.Problem.{Problem}
use Rattle.dcx_host.specs.Files.{Files}
use Rattle.dcx_elab.specs.declared.work.Work.{Work}
use Rattle.dcx_refusal.specs.declared.refusal.Refusal.{Refusal}
use Rattle.dcx_refusal.specs.declared.refusal.RefusalSource.TheVariants.{Settings}
use Rattle.dcx_answer.specs.declared.outcome.Outcome.{Outcome}
use Rattle.dcx_answer.specs.declared.filter_outcome.FilterOutcome.{FilterOutcome}
use Rattle.dcx_answer.specs.declared.range_outcome.RangeOutcome.{RangeOutcome}
use Rattle.dcx_report.specs.declared.run.Run.{Run}
use Rattle.dcx_report.specs.declared.run.Run.TheVariants as run
use Rattle.dcx_report.specs.declared.run.Word.{Word}
use Rattle.dcx_report.specs.declared.run.Word.TheVariants as word
use Rattle.dcx_words.specs.Commands.{Command, resolve, certificate, iis}
use Rattle.dcx_overlay.specs.Settings.{AreTrialSettings}
use Rattle.dcx_outcomes.specs.Counts.{Counts, CountsNoMore}
use Rattle.dcx_outcomes.specs.Warm.{AreFound}
use Rattle.dcx_outcomes.specs.Filters.{AreFilterOutcomes}
use Rattle.dcx_outcomes.specs.Ranges.{HasRange, AreRangeOutcomes}
use Rattle.dcx_cert_sections.specs.declared.section.Sections.{Sections}
use Rattle.dcx_cert_lines.specs.CertText.{cert_text}
use Rattle.dcx_cert_runs.specs.Sections.{StopsSomewhere, IsCertificateAt}
use Rattle.dcx_top.specs.Commands.{AreOfFile}
use Rattle.dcx_top.specs.declared.solving.Task.{Task}
use Rattle.dcx_top.specs.declared.solving.Task.TheVariants as tasks
use Rattle.dcx_declared.specs.Whole.{HasNoWhole}
use Rattle.dcx_top.specs.Whole.{IsRefusedForWhole}
use Rattle.dcx_top.specs.NoRange.{IsRefusedForRange}
use Rattle.dcx_top.specs.Files.{RefusesSettings}
use Rattle.dcx_top.specs.Reading.{EndsAt}

-- ---- at settings
-- the run refuses the script for the first variable that is to be whole, and no step is counted
abbrev pub RefusedForWhole : Problem → ℕ → ℕ → Run → Type 0
RefusedForWhole p old new r = (t : Refusal) × IsRefusedForWhole p t × (r ≡ run.Refused t) × (new ≡ old)

-- the run is one of these, where no variable is to be whole if that is refused; or it refuses the script
abbrev pub OrWhole : Type 0 → Problem → (Run → Type 0) → ℕ → ℕ → Run → Type 0
OrWhole Refuses p Next old new r = ((Refuses → HasNoWhole p) × Next r) ⊎ (Refuses × RefusedForWhole p old new r)

-- a problem is solved at settings, warm or not, by branch and bound where a variable is to be whole, and its outcomes are told so; want of
-- memory is free
abbrev pub SolvesAt : Bool → Problem → ℕ → List Pairs → (List Outcome → Option ℕ → Run) → ℕ → ℕ → Run → Type 0
SolvesAt warm p limit settings tells old new r =
    ((r ≡ run.Memory) × CountsNoMore p (length settings) old new) ⊎ ((outcomes : List Outcome) × (count : Option ℕ) × AreFound warm p limit settings outcomes count
    × Counts p (length settings) old new × (r ≡ tells outcomes count))

-- its outcomes stand under this word
abbrev pub SolvesUnder : Word → Bool → Problem → ℕ → List Pairs → ℕ → ℕ → Run → Type 0
SolvesUnder word warm p limit settings old new r = SolvesAt warm p limit settings (λ os count. run.Solved word p.sense os count) old new r

-- the trial problem is solved at its two settings; want of memory is free
abbrev pub TriesAt : Work → ℕ → ℕ → ℕ → ℕ → Run → Type 0
TriesAt work size limit old new r =
    ((r ≡ run.Memory) × (new ≡ old)) ⊎ ((settings : List Pairs) × AreTrialSettings work.last settings × SolvesAt false work.problem limit settings (λ os count. run.Trial size os) old new r)

-- the certificate of a problem at settings is told; want of memory is free
abbrev pub CertifiesAt : Problem → ℕ → List Pairs → ℕ → ℕ → Run → Type 0
CertifiesAt p limit settings old new r =
    ((r ≡ run.Memory) × CountsNoMore p (length settings) old new)
    ⊎ ((c : Sections) × (stopped : Bool) × IsCertificateAt p limit settings c × (IsTrue stopped ↔ StopsSomewhere p limit settings) × Counts p (length settings) old new
    × (r ≡ run.Certificates (cert_text c) stopped))

-- the constraints of a problem are filtered at settings; want of memory is free
abbrev pub FiltersAt : Problem → ℕ → List Pairs → ℕ → ℕ → Run → Type 0
FiltersAt p limit settings old new r =
    ((r ≡ run.Memory) × CountsNoMore p (length settings) old new) ⊎ ((outcomes : List FilterOutcome) × AreFilterOutcomes p limit settings outcomes × Counts p (length settings) old new
    × (r ≡ run.Filtered outcomes))

-- what a problem with a session gives, whose beginning is counted: the parameter has no range, and the script is refused; or it has one, and
-- the settings file ends the run, or the range is told at its settings; want of memory is free
pub data RangesFrom (told : Option Files) (risen : Type 0) (work : Work) (name parameter : List ℕ) (limit old new : ℕ) (r : Run) : Type 0 where
  lacking : (t : Refusal) → IsRefusedForRange work.problem parameter t → r ≡ run.Refused t → Counts work.problem 0 old new → RangesFrom told risen work name parameter limit old new r
  ending : HasRange work.problem parameter → EndsAt told risen Settings name RefusesSettings r → Counts work.problem 0 old new → RangesFrom told risen work name parameter limit old new r
  ranging : HasRange work.problem parameter → (settings : List Pairs) (outcomes : List RangeOutcome) → AreOfFile told name work.last settings
      → AreRangeOutcomes work.problem parameter limit settings outcomes
      → r ≡ run.Ranged parameter work.problem.sense outcomes → Counts work.problem 0 old new → RangesFrom told risen work name parameter limit old new r
  wanting : r ≡ run.Memory → CountsNoMore work.problem 0 old new → RangesFrom told risen work name parameter limit old new r

-- the settings of a file give this run, or the file ends it, and no step is counted
abbrev pub FromFile : Option Files → Type 0 → Work → List ℕ → (List Pairs → ℕ → ℕ → Run → Type 0) → ℕ → ℕ → Run → Type 0
FromFile told risen work name At old new r =
    ((settings : List Pairs) × AreOfFile told name work.last settings × At settings old new r) ⊎ (EndsAt told risen Settings name RefusesSettings r × (new ≡ old))

-- an accepted problem is solved at the settings of a file, its certificate is told there, or its constraints are filtered there
abbrev pub DoesAt : Task → Work → ℕ → List Pairs → ℕ → ℕ → Run → Type 0
DoesAt (tasks.Resolve warm) work limit settings old new r = SolvesUnder word.Setting warm work.problem limit settings old new r
DoesAt tasks.Certificate work limit settings old new r = CertifiesAt work.problem limit settings old new r
DoesAt tasks.Filter work limit settings old new r = FiltersAt work.problem limit settings old new r

abbrev pub DoesFrom : Option Files → Type 0 → Task → Work → List ℕ → ℕ → ℕ → ℕ → Run → Type 0
DoesFrom told risen task work name limit old new r = FromFile told risen work name (DoesAt task work limit) old new r

-- a problem with a variable that is to be whole is refused
abbrev pub task_refuses : Task → Bool
task_refuses (tasks.Resolve warm) = warm
task_refuses tasks.Certificate = true
task_refuses tasks.Filter = true

-- the command that asks for it
abbrev pub command_for : Task → (script settings : List ℕ) → ℕ → Command
command_for (tasks.Resolve warm) script settings limit = resolve script settings limit warm
command_for tasks.Certificate script settings limit = certificate script settings limit
command_for tasks.Filter script settings limit = iis script settings limit
