-- Two runs that tell outcomes are one.
use Rattle.std.proofs.Common.{◌≡◌, inl, inr, ℕ, false, List, Option, Some, None, refl, subst}
use Rattle.dcx_point.specs.Pairs.{Pairs}
use Rattle.dcx_tree.specs.declared.constraint.Sense.{Sense}
use Rattle.dcx_tree.specs.declared.problem.Problem.{Problem}
use Rattle.dcx_host.specs.Files.{Files}
use Rattle.dcx_answer.specs.declared.outcome.Outcome.{Outcome}
use Rattle.dcx_report.specs.declared.run.Run.{Run}
use Rattle.dcx_report.specs.declared.run.Word.TheVariants as word
use Rattle.dcx_words.specs.Commands.{Command, check, solve, resolve, certificate, certify, migrate, trial, iis, range}
use Rattle.dcx_words.specs.Laws.{is_warm_command}
use Rattle.dcx_outcomes.specs.Warm.{AreFound}
use Rattle.dcx_outcomes.specs.Laws.{AreAlike, AreOneFound}
use Rattle.dcx_outcomes.proofs.Finds.{found_are_one}
use Rattle.dcx_top.specs.Whole.{Takes}
use Rattle.dcx_top.specs.Commands.{limit_of, TellsOutcomes}
use Rattle.dcx_top.specs.Runs.{IsSolvedRun}
use Rattle.dcx_top.specs.OneRun.{AreOneRun, told_solved, told_tried}
use Rattle.dcx_top.proofs.OneAsked.{asked_once}

module _ (words : List (List ℕ)) (files : Files) where
  -- without a count, where none is wanted
  no_count : (p : Problem) (limit : ℕ) (ss : List Pairs) (os : List Outcome) (m : Option ℕ) → AreFound false p limit ss os m → m ≡ None
  no_count p limit ss os m (inl (none, h)) = h.1
  no_count p limit ss os m (inr (has, are, is)) = is

  uncounted : (p : Problem) (limit : ℕ) (ss : List Pairs) (os qs : List Outcome) (m n : Option ℕ) → AreFound false p limit ss os m → AreFound false p limit ss qs n
      → AreOneFound os m qs n → AreAlike os qs
  uncounted p limit ss os qs m n h k alike =
      subst (λ (x : Option ℕ). AreOneFound os x qs None) (no_count p limit ss os m h) (subst (λ (y : Option ℕ). AreOneFound os m qs y) (no_count p limit ss qs n k) alike)

  tell_one : (command : Command) (sense : Sense) (os qs : List Outcome) (m n : Option ℕ) (r s : Run) → (is_warm_command command ≡ false → AreAlike os qs)
      → TellsOutcomes command sense os m r → TellsOutcomes command sense qs n s → AreOneFound os m qs n →
      AreOneRun r s
  tell_one (check script) sense os qs m n r s without h k alike = absurd h
  tell_one (solve script limit) sense os qs m n r s without h k alike = told_solved word.Solve sense os qs m n h k alike
  tell_one (resolve script name limit warm) sense os qs m n r s without h k alike = told_solved word.Setting sense os qs m n h k alike
  tell_one (certificate script name limit) sense os qs m n r s without h k alike = absurd h
  tell_one (certify script name cert) sense os qs m n r s without h k alike = absurd h
  tell_one (migrate script name cert) sense os qs m n r s without h k alike = absurd h
  tell_one (iis script name limit) sense os qs m n r s without h k alike = absurd h
  tell_one (range script name parameter limit) sense os qs m n r s without h k alike = absurd h
  tell_one (trial size limit) sense os qs m n r s without h k alike = told_tried size os qs h k (without refl)

  pub solved_once : (old new was now : ℕ) (r s : Run) → IsSolvedRun words (Some files) old new r → IsSolvedRun words (Some files) was now s → AreOneRun r s
  solved_once old new was now r s h k = tell_one h.command p.sense h.outcomes k.outcomes h.warm k.warm r s without h.tells tells alike
    where
      p : Problem
      p = h.asked.work.problem

      found : AreFound (is_warm_command h.command) p (limit_of h.command) h.asked.settings k.outcomes k.warm
      found = asked_once words files (Takes h.command) (Takes k.command) (λ c w ss. AreFound (is_warm_command c) w.problem (limit_of c) ss k.outcomes k.warm) h.command k.command h.asked k.asked k.are

      tells : TellsOutcomes h.command p.sense k.outcomes k.warm s
      tells = asked_once words files (Takes h.command) (Takes k.command) (λ c w ss. TellsOutcomes c w.problem.sense k.outcomes k.warm s) h.command k.command h.asked k.asked k.tells

      alike : AreOneFound h.outcomes h.warm k.outcomes k.warm
      alike = found_are_one (is_warm_command h.command) p (limit_of h.command) h.asked.settings h.outcomes k.outcomes h.warm k.warm h.asked.problem.accepted h.are found

      without : is_warm_command h.command ≡ false → AreAlike h.outcomes k.outcomes
      without off =
          uncounted p (limit_of h.command) h.asked.settings h.outcomes k.outcomes h.warm k.warm (subst (λ b. AreFound b p (limit_of h.command) h.asked.settings h.outcomes h.warm) off h.are)
          (subst (λ b. AreFound b p (limit_of h.command) h.asked.settings k.outcomes k.warm) off found) alike
