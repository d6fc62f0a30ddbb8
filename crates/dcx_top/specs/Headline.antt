-- The headline: what is printed of an accepted problem is right, in the user's own problem.
use Rattle.std.specs.Prelude.{◌≡◌, ◌⊎◌, ⊤, ℕ, List, All, Option, Some, count_by}
use Rattle.dcx_point.specs.Pairs.{Pairs}
use Rattle.dcx_tree.specs.declared.problem.Problem.{Problem}
use Rattle.dcx_host.specs.Files.{Files}
use Rattle.dcx_elab.specs.declared.work.Work.{Work}
use Rattle.dcx_refusal.specs.declared.checked.Checked.{Checked}
use Rattle.dcx_front.specs.Checks.{IsFoundOf}
use Rattle.dcx_answer.specs.declared.outcome.Outcome.{Outcome}
use Rattle.dcx_answer.specs.declared.filter_outcome.FilterOutcome.{FilterOutcome}
use Rattle.dcx_answer.specs.declared.range_outcome.RangeOutcome.{RangeOutcome}
use Rattle.dcx_tree.specs.declared.constraint.Sense.{Sense}
use Rattle.dcx_report.specs.declared.run.Run.{Run}
use Rattle.dcx_report.specs.declared.run.Run.TheVariants as run
use Rattle.dcx_words.specs.Commands.{Command, command_of}
use Rattle.dcx_outcomes.specs.Right.{AreRight, IsSolvedEnd, IsBranchedEnd}
use Rattle.dcx_outcomes.specs.Complete.{AreComplete}
use Rattle.dcx_outcomes.specs.FilterLaws.{AreRightFilters}
use Rattle.dcx_outcomes.specs.RangeLaws.{AreRightRanges}
use Rattle.dcx_cert_sections.specs.declared.section.Section.{Section}
use Rattle.dcx_cert_sections.specs.declared.section.Sections.{Sections}
use Rattle.dcx_cert_lines.specs.CertText.{cert_text}
use Rattle.dcx_cert_runs.specs.Checking.{is_cert, AreShown}
use Rattle.dcx_top.specs.Commands.{parameter_name, limit_of, TellsOutcomes}
use Rattle.dcx_top.specs.Asked.{IsAcceptedWork, Asked}
use Rattle.dcx_declared.specs.Whole.{HasNoWhole, HasWhole}
use Rattle.dcx_top.specs.Whole.{Takes}

-- what is told of an accepted problem is true of it
pub record IsRightlyFound (words : List (List ℕ)) (told : Option Files) (c : Checked) : Type 0 where
  pub command : Command
  pub form : command_of words ≡ Some command
  pub work : Work
  pub problem : IsAcceptedWork told command work
  pub found : IsFoundOf work.problem c

-- No variable is to be whole: each setting has an answer of a solve or a stop, and each that nothing stops has its answer, or memory ran
-- out there. Or some variable is: each setting has an answer in whole numbers, or a stop.
abbrev pub AreOfKind : Problem → ℕ → List Pairs → List Outcome → Type 0
AreOfKind p limit settings outcomes =
    (HasNoWhole p × All (λ o. IsSolvedEnd o.end) outcomes × AreComplete p limit settings outcomes) ⊎ (HasWhole p × All (λ o. IsBranchedEnd o.end) outcomes)

-- Each answer of the run is right for the accepted problem, at its setting: a feasible point with multipliers whose Lagrangian bound is its
-- value, or multipliers that show that no point is feasible, or a feasible point and a ray of unbounded descent. Where a variable is to be
-- whole, it is a feasible point whose marked entries are whole, such that no other one has a smaller minimized objective, or that there is no
-- such point; and a tree shows it, by multipliers at its leaves.
pub record IsRightlySolved (words : List (List ℕ)) (told : Option Files) (r : Run) : Type 0 where
  pub command : Command
  pub asked : Asked words told command (Takes command)
  pub outcomes : List Outcome
  pub warm : Option ℕ
  pub tells : TellsOutcomes command asked.work.problem.sense outcomes warm r
  pub right : AreRight asked.work.problem asked.settings outcomes
  pub kind : AreOfKind asked.work.problem (limit_of command) asked.settings outcomes

-- No variable is to be whole, and whatever is found of the constraints of the accepted problem is right at its setting: a
-- feasible point; or constraints that no point of the domain keeps together, as multipliers show, each with a point that keeps all the
-- others.
pub record IsRightlyFiltered (words : List (List ℕ)) (told : Option Files) (outcomes : List FilterOutcome) : Type 0 where
  pub command : Command
  pub asked : Asked words told command HasNoWhole
  pub right : AreRightFilters asked.work.problem asked.settings outcomes

-- No variable is to be whole, and whatever is told of the parameter of the accepted problem is right at its setting: the parameter's value
-- is in the span, and at each fitting setting that differs by a value of the parameter in it alone some point and some multipliers show that
-- the problem has the value on the line; or some multipliers show that no point is feasible; or some feasible point and some ray show that
-- the objective falls for ever.
pub record IsRightlyRanged (words : List (List ℕ)) (told : Option Files) (parameter : List ℕ) (sense : Sense) (outcomes : List RangeOutcome) : Type 0 where
  pub command : Command
  pub asked : Asked words told command HasNoWhole
  pub named : parameter_name command ≡ Some parameter
  pub sense_is : sense ≡ asked.work.problem.sense
  pub right : AreRightRanges asked.work.problem parameter asked.settings outcomes

-- No variable is to be whole, and each section of the certificate is empty or shows the answer of the accepted problem at its
-- setting.
pub record IsRightlyShown (words : List (List ℕ)) (told : Option Files) (list : List Section) : Type 0 where
  pub command : Command
  pub asked : Asked words told command HasNoWhole
  pub shown : AreShown asked.work.problem asked.settings list

-- the bytes are the text of such a certificate
abbrev pub AreRightBytes : List (List ℕ) → Option Files → List ℕ → Type 0
AreRightBytes words told bytes = (c : Sections) × (bytes ≡ cert_text c) × IsRightlyShown words told c.list

-- so many sections show an answer
abbrev pub IsRightCount : List (List ℕ) → Option Files → ℕ → Type 0
IsRightCount words told n = (list : List Section) × (n ≡ count_by is_cert list) × IsRightlyShown words told list

abbrev pub IsRightRun : List (List ℕ) → Option Files → Run → Type 0
IsRightRun words told (run.Certificates text stopped) = AreRightBytes words told text
IsRightRun words told (run.Certified n) = IsRightCount words told n
IsRightRun words told (run.CertRefused section fault) = ⊤
IsRightRun words told (run.Checked c) = IsRightlyFound words told c
IsRightRun words told (run.Solved word sense outcomes warm) = IsRightlySolved words told (run.Solved word sense outcomes warm)
IsRightRun words told (run.Trial size outcomes) = IsRightlySolved words told (run.Trial size outcomes)
IsRightRun words told (run.Filtered outcomes) = IsRightlyFiltered words told outcomes
IsRightRun words told (run.Ranged parameter sense outcomes) = IsRightlyRanged words told parameter sense outcomes
IsRightRun words told run.Usage = ⊤
IsRightRun words told (run.Refused r) = ⊤
IsRightRun words told run.ReadFault = ⊤
IsRightRun words told run.Memory = ⊤
