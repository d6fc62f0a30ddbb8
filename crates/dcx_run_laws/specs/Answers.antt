-- Two runs over one problem with the same report have the same answers.
use Rattle.std.specs.Prelude.{◌≡◌, ℕ, List, Option, Some}
use Rattle.dcx_tree.specs.declared.constraint.Sense.{Sense}
use Rattle.dcx_tree.specs.declared.problem.Problem.{Problem}
use Rattle.dcx_host.specs.Faults.{Rose}
use Rattle.dcx_host.specs.Files.{Files}
use Rattle.dcx_elab.specs.declared.work.Work.{Work}
use Rattle.dcx_answer.specs.declared.outcome.Outcome.{Outcome}
use Rattle.dcx_words.specs.Commands.{Command, command_of}
use Rattle.dcx_report.specs.declared.run.Word.{Word}
use Rattle.dcx_report.specs.declared.run.Run.{Run}
use Rattle.dcx_report.specs.declared.run.Run.TheVariants.{Solved}
use Rattle.dcx_report.specs.ReportText.{text_of}
use Rattle.dcx_report.specs.SameText.{answers_of}
use Rattle.dcx_top.specs.Asked.{IsAcceptedWork}
use Rattle.dcx_top.specs.Runs.{Causes}

-- a run of a `solve` or a `resolve`
pub record Solving : Type 0 where
  pub words : List (List ℕ)
  -- what the library tells of its files, if it tells them
  pub told : Option Files
  pub word : Word
  pub sense : Sense
  pub outcomes : List Outcome
  pub warm : Option ℕ
  -- the library's count of faults in front of the run and behind it, and the counter of steps
  pub before : ℕ
  pub now : ℕ
  pub old : ℕ
  pub new : ℕ

abbrev pub run_of : Solving → Run
run_of r = Solved r.word r.sense r.outcomes r.warm

-- of these words, over what the library tells, with its cause
abbrev pub IsCaused : Solving → Type 0
IsCaused r = Causes r.words r.told (Rose r.before r.now) r.old r.new (run_of r)

-- the problem of its cause, for which the script that is asked for stands
abbrev pub problem_of : (r : Solving) → IsCaused r → Problem
problem_of r h = h.asked.work.problem

-- the files are told, and the script that is asked for is the text of one that stands for the problem, which the rules accept
pub record IsOver (r : Solving) (p : Problem) : Type 0 where
  pub files : Files
  pub are_told : r.told ≡ Some files
  pub command : Command
  pub form : command_of r.words ≡ Some command
  pub work : Work
  pub accepted : IsAcceptedWork (Some files) command work
  pub problem : work.problem ≡ p

-- the reports are the same, byte by byte
abbrev pub HaveSameReport : Solving → Solving → Type 0
HaveSameReport r s = text_of (run_of r) ≡ text_of (run_of s)

-- each setting has the same answer, but for the tree of one in whole numbers, or none in both
abbrev pub HaveSameAnswers : Solving → Solving → Type 0
HaveSameAnswers r s = answers_of r.outcomes ≡ answers_of s.outcomes

pub record ReportsTellAnswers : Type 0 where
  -- two runs over one problem, whatever their words, their settings and their files are, told or not
  pub of_problem : (r s : Solving) (h : IsCaused r) (k : IsCaused s) → problem_of r h ≡ problem_of s k → HaveSameReport r s → HaveSameAnswers r s
  -- where the files are told, a run is over the problem for which the script stands
  pub of_script : (r : Solving) (h : IsCaused r) (p : Problem) → IsOver r p → problem_of r h ≡ p
  -- so two runs of the same words over the same files, which are told
  pub of_words : (r s : Solving) (files : Files) → r.words ≡ s.words → r.told ≡ Some files → s.told ≡ Some files → IsCaused r → IsCaused s → HaveSameReport r s → HaveSameAnswers r s
