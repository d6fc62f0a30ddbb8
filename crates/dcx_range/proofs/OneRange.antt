-- A parameter has one range at a setting, or one stop.
use Rattle.std.proofs.Common.{◌≡◌, ◌≢◌, ℕ, List, Result, Ok, Err, slice_get, refl, sym, ap, ◌∙◌, subst}
use Rattle.std.proofs.lemmas.Option.{same_Some}
use Rattle.dcx_frac.specs.declared.fraction.Frac.{Frac}
use Rattle.dcx_frac.specs.declared.fraction.Passes.{Passes}
use Rattle.dcx_point.specs.Pairs.{Pairs}
use Rattle.dcx_tree.specs.declared.problem.Problem.{Problem}
use Rattle.dcx_linear.specs.declared.param_form.ParamForm.{ParamForm}
use Rattle.dcx_lp_answer.specs.declared.answer.LpAnswer.{LpAnswer}
use Rattle.dcx_lp_answer.specs.declared.answer.LpStatus.{LpStatus}
use Rattle.dcx_lp_answer.specs.declared.answer.LpStatus.TheVariants as status
use Rattle.dcx_lp_solve.specs.declared.stop.SolveStop.{SolveStop}
use Rattle.dcx_lp_solve.specs.declared.stop.SolveStop.TheVariants as solves
use Rattle.dcx_lp_solve.specs.Solved.{Stops}
use Rattle.dcx_lp_solve.specs.OneSolution.{IsSameSolution}
use Rattle.dcx_lp_solve.proofs.OneSolution.{answers_are_one, solved_or_stopped, stops_are_one}
use Rattle.dcx_graph.specs.Program.{Program}
use Rattle.dcx_graph.specs.Answers.{rows_of}
use Rattle.dcx_range.specs.declared.asked.Asked.{Asked}
use Rattle.dcx_answer.specs.declared.ranged.Ranged.{Ranged}
use Rattle.dcx_answer.specs.declared.ranged.Ranged.TheVariants.{Span, Infeasible, Unbounded}
use Rattle.dcx_answer.specs.declared.range_stop.RangeStop.{RangeStop}
use Rattle.dcx_answer.specs.declared.range_stop.RangeStop.TheVariants as stops
use Rattle.dcx_right.specs.Ranges.{IsNumber}
use Rattle.dcx_range.specs.Operations.{operations}
use Rattle.dcx_range.specs.Range.{IsSolvedAs, IsKnown, formed, RangeGives}
use Rattle.dcx_range.specs.Laws.{AreOneRange, RangesAreOne}
use Rattle.dcx_range.proofs.Named.{same_place}

-- ---- answers that are the same
as_one : (x y : Result Ranged RangeStop) → x ≡ y → AreOneRange x y
as_one x y e = subst (AreOneRange x) e (self x)
  where
    self : (z : Result Ranged RangeStop) → AreOneRange z z
    self (Ok a) = refl
    self (Err stop) = λ n m. refl

no_memory : (x : Result Ranged RangeStop) → AreOneRange x (Err stops.Memory)
no_memory (Ok a) = refl
no_memory (Err stop) = λ n m. absurd (m refl)

memory_first : (x : Result Ranged RangeStop) → AreOneRange (Err stops.Memory) x
memory_first (Ok a) = refl
memory_first (Err stop) = λ n m. absurd (n refl)

-- ---- ends
-- what is told of a run without an optimum
abbrev told_end : LpStatus → Ranged
told_end status.Optimal = Infeasible
told_end status.Infeasible = Infeasible
told_end status.Unbounded = Unbounded

-- what is told of what is formed
abbrev told_formed : Result Ranged Passes → Result Ranged RangeStop
told_formed (Ok a) = Ok a
told_formed (Err passes) = Err (stops.RangeWide passes)

-- what is told of a stop of the run
abbrev told_stop : SolveStop → RangeStop
told_stop (solves.TooLarge rows columns) = stops.Memory
told_stop (solves.Wide site) = stops.Wide site
told_stop (solves.PivotLimit count) = stops.PivotLimit count
told_stop solves.Memory = stops.Memory

module _ (p : Problem) (q : Program ParamForm) (r : Program Frac) (setting : Pairs) (name : List ℕ) (limit : ℕ) where
  -- the rows have one solution
  one_solution : (t u : LpStatus) (h : IsSolvedAs r limit t) (k : IsSolvedAs r limit u) → IsSameSolution h.solved k.solved
  one_solution t u h k = answers_are_one limit (rows_of r) h.solved k.solved h.is_solved k.is_solved

  one_status : (t u : LpStatus) → IsSolvedAs r limit t → IsSolvedAs r limit u → t ≡ u
  one_status t u h k = sym h.status ∙ ap (λ (a : LpAnswer). a.status) (one_solution t u h k).answer ∙ k.status

  -- rows that are solved have no stop
  never_stops : (t : LpStatus) → IsSolvedAs r limit t → (s : SolveStop) → s ≢ solves.Memory → Stops limit (rows_of r) s → ⊥
  never_stops t h s some k = some (solved_or_stopped limit (rows_of r) h.solved s h.is_solved k)

  -- ---- what is known of the run
  asked_of : IsNumber p name → Frac → Asked
  asked_of n at = record { position = n.at; attribute = n.parameter.attribute; at = at }

  one_number : (n m : IsNumber p name) (at : Frac) → asked_of n at ≡ asked_of m at
  unfolding asked_of
  one_number n m at =
      let place = same_place p name n.at m.at n.named.place m.named.place in
      let same = same_Some n.parameter m.parameter (sym n.named.there ∙ ap (slice_get p.parameters) place ∙ m.named.there) in
      λ i. record { position = place i; attribute = (same i).attribute; at = at }

  one_known : (k l : IsKnown p r setting name limit) → formed p q r setting name limit k ≡ formed p q r setting name limit l
  unfolding asked_of
  one_known k l =
      let same = one_solution status.Optimal status.Optimal k.run l.run in
      let at = same_Some k.at l.at (sym k.at_is ∙ l.at_is) in
      let asked = one_number k.number l.number k.at ∙ ap (asked_of l.number) at in
      λ i. operations (same.table i) (same.program i).rows q.rows q.objective.constant (asked i) (same.answer i).number

  -- ---- the causes of an answer
  data Cause (x : Result Ranged RangeStop) : Type 0 where
    from_known : (k : IsKnown p r setting name limit) → x ≡ told_formed (formed p q r setting name limit k) → Cause x
    from_end : (t : LpStatus) → t ≢ status.Optimal → IsSolvedAs r limit t → x ≡ Ok (told_end t) → Cause x
    from_stop : (s : SolveStop) → s ≢ solves.Memory → Stops limit (rows_of r) s → x ≡ Err (told_stop s) → Cause x
    from_memory : x ≡ Err stops.Memory → Cause x

  cause_of : (x : Result Ranged RangeStop) → RangeGives p q r setting name limit x → Cause x
  cause_of (Ok (Span low high constant slope)) h = from_known h.known (ap told_formed (sym h.numbers))
  cause_of (Ok Infeasible) h = from_end status.Infeasible (λ e. cc) h refl
  cause_of (Ok Unbounded) h = from_end status.Unbounded (λ e. cc) h refl
  cause_of (Err (stops.Wide site)) h = from_stop (solves.Wide site) (λ e. cc) h refl
  cause_of (Err (stops.PivotLimit count)) h = from_stop (solves.PivotLimit count) (λ e. cc) h refl
  cause_of (Err (stops.RangeWide passes)) h = from_known h.known (ap told_formed (sym h.passing))
  cause_of (Err stops.Memory) h = from_memory refl

  -- the run isn't optimal and without an optimum at once
  not_both : IsKnown p r setting name limit → (t : LpStatus) → t ≢ status.Optimal → IsSolvedAs r limit t → ⊥
  not_both k t n h = n (one_status t status.Optimal h k.run)

  by_causes : (x y : Result Ranged RangeStop) → Cause x → Cause y → AreOneRange x y
  by_causes x y (from_known k e) (from_known l f) = as_one x y (e ∙ ap told_formed (one_known k l) ∙ sym f)
  by_causes x y (from_known k e) (from_end b s h f) = absurd (not_both k b s h)
  by_causes x y (from_known k e) (from_stop s some h f) = absurd (never_stops status.Optimal k.run s some h)
  by_causes x y (from_end a s h e) (from_known k f) = absurd (not_both k a s h)
  by_causes x y (from_end a s h e) (from_end b t k f) = as_one x y (e ∙ ap (λ (z : LpStatus). Ok (told_end z)) (one_status a b h k) ∙ sym f)
  by_causes x y (from_end a s h e) (from_stop t some k f) = absurd (never_stops a h t some k)
  by_causes x y (from_stop s some h e) (from_known k f) = absurd (never_stops status.Optimal k.run s some h)
  by_causes x y (from_stop s some h e) (from_end b t k f) = absurd (never_stops b k s some h)
  by_causes x y (from_stop s some h e) (from_stop t any k f) = as_one x y (e ∙ ap (λ (z : SolveStop). Err (told_stop z)) (stops_are_one limit (rows_of r) s t h k some any) ∙ sym f)
  by_causes x y (from_memory e) c = subst (λ z. AreOneRange z y) (sym e) (memory_first y)
  by_causes x y (from_known k e) (from_memory f) = subst (AreOneRange x) (sym f) (no_memory x)
  by_causes x y (from_end a s h e) (from_memory f) = subst (AreOneRange x) (sym f) (no_memory x)
  by_causes x y (from_stop s some h e) (from_memory f) = subst (AreOneRange x) (sym f) (no_memory x)

pub ranges_are_one : RangesAreOne
ranges_are_one p q r setting name limit x y h k = by_causes p q r setting name limit x y (cause_of p q r setting name limit x h) (cause_of p q r setting name limit y k)
