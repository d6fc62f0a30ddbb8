-- Where nothing stops a setting, no cause of a stop holds.
use Rattle.std.proofs.Common.{◌≡◌, ◌≢◌, inl, inr, ℕ, None, Ok, Err, Result, refl, ap, ◌∙◌, subst}
use Rattle.dcx_frac.specs.declared.fraction.Frac.{Frac}
use Rattle.dcx_point.specs.Pairs.{Pairs}
use Rattle.dcx_tree.specs.declared.problem.Problem.{Problem}
use Rattle.dcx_answer.specs.declared.answer.Answer.{Answer}
use Rattle.dcx_answer.specs.declared.stop.Stop.{Stop}
use Rattle.dcx_answer.specs.declared.stop.Stop.TheVariants as why
use Rattle.dcx_answer.specs.declared.outcome.Outcome.{Outcome}
use Rattle.dcx_answer.specs.declared.outcome.OutcomeEnd.TheVariants as the
use Rattle.dcx_lp_solve.specs.declared.solving.Solved.{Solved}
use Rattle.dcx_lp_solve.specs.Solved.{IsSolved, Stops as RowsStop}
use Rattle.dcx_graph.specs.declared.reading.AnswerStop.{AnswerStop}
use Rattle.dcx_graph.specs.declared.reading.AnswerStop.TheVariants as reads
use Rattle.dcx_graph.specs.Program.{Program}
use Rattle.dcx_graph.specs.Answers.{rows_of, StopsReading}
use Rattle.dcx_cache.specs.Answers.{StopsAt, at_program, at_run, at_reading, Stops, Answers}
use Rattle.dcx_cache.specs.declared.rewarming.Warmed.{Warmed}
use Rattle.dcx_cache.specs.Warm.{WarmAnswers}
use Rattle.dcx_cache.proofs.OneEnd.{program_apart, same_program, unfit}
use Rattle.dcx_outcomes.specs.Outcomes.{solved_end, IsOutcome}
use Rattle.dcx_outcomes.specs.Warm.{end_in}
use Rattle.dcx_outcomes.specs.Complete.{NothingStops, HasAnswer, OutcomesAreComplete}
use Rattle.dcx_outcomes.proofs.Warm.{IsWarmOutcome, warm_all}
use Rattle.dcx_outcomes.proofs.Zips.{zip_weaker}

module _ (p : Problem) (limit : ℕ) (setting : Pairs) (n : NothingStops p limit setting) where
  no_reading_stop : (s : Solved) → IsSolved limit (rows_of n.program) s → (e : AnswerStop) → e ≢ reads.Memory → StopsReading p s.answer e → ⊥
  no_reading_stop s h (reads.Wide site) m k = n.read s h site k
  no_reading_stop s h reads.Memory m k = m refl

  no_part_stops : (stop : Stop) → StopsAt p setting limit stop → ⊥
  no_part_stops stop (at_program e g is) = program_apart p setting limit n.program e n.formed g
  no_part_stops stop (at_run q g e m h is) = m (n.solved e (subst (λ (z : Program Frac). RowsStop limit (rows_of z) e) (same_program p setting limit q n.program g n.formed) h))
  no_part_stops stop (at_reading q g s h e m k is) = no_reading_stop s (subst (λ (z : Program Frac). IsSolved limit (rows_of z) s) (same_program p setting limit q n.program g n.formed) h) e m k

  -- what stops the setting is want of memory
  wants : (stop : Stop) → Stops p setting limit stop → stop ≡ why.Memory
  wants (why.UnknownParam name) h = absurd (unfit p setting limit (why.UnknownParam name) h n.fits)
  wants (why.MissingParam name) h = absurd (unfit p setting limit (why.MissingParam name) h n.fits)
  wants (why.ParamShape name declared given) h = absurd (unfit p setting limit (why.ParamShape name declared given) h n.fits)
  wants (why.ParamSign name entry value) h = absurd (unfit p setting limit (why.ParamSign name entry value) h n.fits)
  wants (why.TooLarge rows columns) h = absurd (no_part_stops (why.TooLarge rows columns) h.stops)
  wants (why.ZeroDivisor node entry) h = absurd (no_part_stops (why.ZeroDivisor node entry) h.stops)
  wants (why.Wide site) h = absurd (no_part_stops (why.Wide site) h.stops)
  wants (why.PivotLimit count) h = absurd (no_part_stops (why.PivotLimit count) h.stops)
  wants why.Memory h = refl

  answered : (o : Outcome) → IsOutcome p limit setting o → HasAnswer o
  answered o h = by h.end h.told h.answers
    where
      by : (x : Result Answer Stop) → o.end ≡ solved_end x → Answers p setting limit x → HasAnswer o
      by (Ok a) e k = inl (a, e)
      by (Err stop) e k = inr (e ∙ ap the.Stop (wants stop k))

  answered_warm : (o : Outcome) → IsWarmOutcome p limit setting o → HasAnswer o
  answered_warm o h = by h.end h.tells.end h.answers
    where
      by : (r : Result Warmed Stop) → o.end ≡ solved_end (end_in r) → WarmAnswers p setting limit h.before r h.after → HasAnswer o
      by (Ok w) e k = inl (w.answer, e)
      by (Err stop) e k = inr (e ∙ ap the.Stop (wants stop k.stops))

pub outcomes_are_complete : OutcomesAreComplete
outcomes_are_complete = record {
  fresh = λ p limit settings outcomes h.
      zip_weaker (IsOutcome p limit) (λ s o. NothingStops p limit s → HasAnswer o) (λ s o k n. answered p limit s n o k) settings outcomes h;
  warm = λ p limit settings outcomes kept h.
      zip_weaker (IsWarmOutcome p limit) (λ s o. NothingStops p limit s → HasAnswer o) (λ s o k n. answered_warm p limit s n o k) settings outcomes
      (warm_all p limit None settings h.ends outcomes h.answers h.told);
}
