-- Runs with the same report have the same answers.
use Rattle.std.proofs.Common.{◌≡◌, ℕ, List, Option, Some, refl, sym, ap, subst, ◌∙◌}
use Rattle.std.specs.List.{All}
use Rattle.std.proofs.lemmas.Option.{same_Some}
use Rattle.dcx_point.specs.Pairs.{Pairs}
use Rattle.dcx_tree.specs.declared.constraint.Sense.{Sense}
use Rattle.dcx_tree.specs.declared.problem.Problem.{Problem}
use Rattle.dcx_host.specs.Files.{Files}
use Rattle.dcx_elab.specs.declared.work.Work.{Work}
use Rattle.dcx_answer.specs.declared.outcome.Outcome.{Outcome}
use Rattle.dcx_words.specs.Commands.{Command, check, solve, resolve, certificate, certify, migrate, trial, iis, range, command_of}
use Rattle.dcx_words.specs.Laws.{is_warm_command}
use Rattle.dcx_report.specs.declared.run.Run.TheVariants.{Solved}
use Rattle.dcx_report.specs.declared.run.Word.{Word}
use Rattle.dcx_report.specs.ReportText.{text_of}
use Rattle.dcx_report.specs.SameText.{IsEndOf}
use Rattle.dcx_top.specs.Commands.{AreSettingsOf, limit_of, TellsOutcomes}
use Rattle.dcx_top.specs.Asked.{IsAcceptedWork}
use Rattle.dcx_top.proofs.Refusals.{one_problem}
use Rattle.dcx_run_laws.specs.Answers.{Solving, IsCaused, problem_of, IsOver, HaveSameReport, HaveSameAnswers, ReportsTellAnswers}
use Rattle.dcx_run_laws.proofs.Scripts.{HasLines, work_lines}
use Rattle.dcx_run_laws.proofs.Settings.{AreLines, all_laid_lines, file_lines}
use Rattle.dcx_run_laws.proofs.Layouts.{layout_of}
use Rattle.dcx_run_laws.proofs.Ends.{found_ends}
use Rattle.dcx_run_laws.proofs.Words.{same_answers}

-- ---- one run
-- what is told is what was found, of the problem's sense
told : (command : Command) (word : Word) (s sense : Sense) (xs os : List Outcome) (n m : Option ℕ) → TellsOutcomes command sense os m (Solved word s xs n) → (s ≡ sense) × (xs ≡ os)
told (check script) word s sense xs os n m h = absurd h
told (solve script limit) word s sense xs os n m h = (cc, cc)
told (resolve script name limit warm) word s sense xs os n m h = (cc, cc)
told (certificate script name limit) word s sense xs os n m h = absurd h
told (certify script name cert) word s sense xs os n m h = absurd h
told (migrate script name cert) word s sense xs os n m h = absurd h
told (trial size limit) word s sense xs os n m h = absurd cc
told (iis script name limit) word s sense xs os n m h = absurd h
told (range script name parameter limit) word s sense xs os n m h = absurd h

-- the names of the settings have no line feed
settings_lines : (files : Option Files) (command : Command) (w : Work) (ss : List Pairs) (word : Word) (s sense : Sense) (xs os : List Outcome) (n m : Option ℕ) → HasLines w
    → AreSettingsOf files command w ss → TellsOutcomes command sense os m (Solved word s xs n) → AreLines ss
settings_lines files (check script) w ss word s sense xs os n m lines are h = absurd are
settings_lines files (solve script limit) w ss word s sense xs os n m lines are h = subst AreLines (sym are) lines.events
settings_lines files (resolve script name limit warm) w ss word s sense xs os n m lines are h =
    all_laid_lines w.last are.lines ss are.laid lines.last (file_lines are.bytes are.lines are.spelled)
settings_lines files (certificate script name limit) w ss word s sense xs os n m lines are h = absurd h
settings_lines files (certify script name cert) w ss word s sense xs os n m lines are h = absurd h
settings_lines files (migrate script name cert) w ss word s sense xs os n m lines are h = absurd h
settings_lines files (trial size limit) w ss word s sense xs os n m lines are h = absurd cc
settings_lines files (iis script name limit) w ss word s sense xs os n m lines are h = absurd h
settings_lines files (range script name parameter limit) w ss word s sense xs os n m lines are h = absurd h

-- the run's outcomes are those of a problem that it is over
record AreEnds (p : Problem) (r : Solving) : Type 0 where
  sense : r.sense ≡ p.sense
  ends : All (λ o. IsEndOf (layout_of p) o.end) r.outcomes

module _ (r : Solving) (h : IsCaused r) where
  own_ends : AreEnds (problem_of r h) r
  own_ends =
      let a = h.asked.problem in
      let p = h.asked.work.problem in
      let lines = work_lines a.bytes a.script h.asked.work a.spelled a.stands_for in
      let is = told h.command r.word r.sense p.sense r.outcomes h.outcomes r.warm h.warm h.tells in
      let named = settings_lines r.told h.command h.asked.work h.asked.settings r.word r.sense p.sense r.outcomes h.outcomes r.warm h.warm lines h.asked.are_of h.tells in
      let ends = found_ends p (limit_of h.command) lines.parameters (is_warm_command h.command) h.asked.settings h.outcomes h.warm a.accepted h.are named in
      record { sense = is.0; ends = subst (λ os. All (λ o. IsEndOf (layout_of p) o.end) os) (sym is.1) ends }

  own_problem : (p : Problem) → IsOver r p → problem_of r h ≡ p
  own_problem p o =
      let same : h.command ≡ o.command = same_Some h.command o.command (sym h.asked.form ∙ o.form) in
      let accepted : IsAcceptedWork (Some o.files) o.command h.asked.work =
      subst (λ c. IsAcceptedWork (Some o.files) c h.asked.work) same (subst (λ t. IsAcceptedWork t h.command h.asked.work) o.are_told h.asked.problem) in
      ap (λ (w : Work). w.problem) (one_problem o.files o.command h.asked.work o.work accepted o.accepted) ∙ o.problem

-- ---- two runs
alike : (p : Problem) (r s : Solving) → AreEnds p r → AreEnds p s → HaveSameReport r s → HaveSameAnswers r s
alike p r s h k e =
    same_answers (layout_of p) r.word s.word p.sense r.outcomes s.outcomes r.warm s.warm h.ends k.ends
    (ap (λ z. text_of (Solved r.word z r.outcomes r.warm)) (sym h.sense) ∙ e ∙ ap (λ z. text_of (Solved s.word z s.outcomes s.warm)) k.sense)

over_one_problem : (r s : Solving) (h : IsCaused r) (k : IsCaused s) → problem_of r h ≡ problem_of s k → HaveSameReport r s → HaveSameAnswers r s
over_one_problem r s h k same e = alike (problem_of r h) r s (own_ends r h) (subst (λ p. AreEnds p s) (sym same) (own_ends s k)) e

-- what one run's script stands for is what the other's does
over_other : (r s : Solving) (files : Files) → r.words ≡ s.words → r.told ≡ Some files → s.told ≡ Some files → (k : IsCaused s) → IsOver r (problem_of s k)
over_other r s files words first second k = record {
  files = files;
  are_told = first;
  command = k.command;
  form = ap command_of words ∙ k.asked.form;
  work = k.asked.work;
  accepted = subst (λ t. IsAcceptedWork t k.command k.asked.work) second k.asked.problem;
  problem = refl;
}

pub reports_tell_answers : ReportsTellAnswers
reports_tell_answers = record {
  of_problem = over_one_problem;
  of_script = own_problem;
  of_words = λ r s files words first second h k e. over_one_problem r s h k (own_problem r h (problem_of s k) (over_other r s files words first second k)) e;
}
