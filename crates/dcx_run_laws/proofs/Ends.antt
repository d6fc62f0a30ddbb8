-- How settings end: each answer has the layout of its problem, and each name that a stop says has no line feed.
use Rattle.std.proofs.Common.{◌≡◌, ◌≢◌, inl, inr, ℕ, zero, suc, Bool, true, false, List, [], ◌∷◌, Option, Some, None, Result, Ok, Err, sym, subst}
use Rattle.std.specs.Prelude.{slice_get}
use Rattle.std.specs.List.{All, AllByRecursion, AllZip}
use Rattle.std.proofs.lemmas.List.Elements.{All-from_recursion}
use Rattle.std.proofs.lemmas.Option.{none-some, same_Some}
use Rattle.dcx_point.specs.Pairs.{Pairs, names_of}
use Rattle.dcx_call.specs.declared.attribute.Parameter.{Parameter}
use Rattle.dcx_tree.specs.declared.problem.Problem.{Problem}
use Rattle.dcx_tree.specs.Meaning.{IsAccepted}
use Rattle.dcx_answer.specs.declared.answer.Answer.{Answer}
use Rattle.dcx_answer.specs.declared.stop.Stop.{Stop}
use Rattle.dcx_answer.specs.declared.stop.Stop.TheVariants.{UnknownParam, MissingParam, ParamShape, ParamSign, TooLarge, ZeroDivisor, Wide, PivotLimit, Memory}
use Rattle.dcx_answer.specs.declared.outcome.Outcome.{Outcome}
use Rattle.dcx_cache.specs.declared.rewarming.Warmed.{Warmed}
use Rattle.dcx_cache.specs.Answers.{Stops, Answers}
use Rattle.dcx_cache.specs.Warm.{WarmAnswers}
use Rattle.dcx_fit.specs.Fit.{IsUnmet}
use Rattle.dcx_answer.specs.declared.whole_answer.BranchStop.{BranchStop}
use Rattle.dcx_answer.specs.declared.whole_answer.BranchStop.TheVariants as branch
use Rattle.dcx_answer.specs.declared.whole_answer.WholeAnswer.{WholeAnswer}
use Rattle.dcx_lp_solve.specs.declared.stop.SolveStop.{SolveStop}
use Rattle.dcx_lp_solve.specs.declared.stop.SolveStop.TheVariants as solves
use Rattle.dcx_lp_solve.specs.Stops.{run_stop}
use Rattle.dcx_cache.proofs.Stopped.{setting_stops}
use Rattle.dcx_branch.specs.Run.{bounds_in, best_value, NodeStops, at_rows, at_leaf}
use Rattle.dcx_outcomes.specs.Asking.{IsAnswered, EndsAt, IsAskedOutcome}
use Rattle.dcx_outcomes.specs.Outcomes.{solved_end, IsOutcome}
use Rattle.dcx_outcomes.specs.Wholes.{WholeGives, whole_end}
use Rattle.dcx_outcomes.specs.Right.{IsRightEnd, AreRight}
use Rattle.dcx_outcomes.specs.Warm.{end_in, AreFound}
use Rattle.dcx_outcomes.proofs.Finds.{found_are_right}
use Rattle.dcx_outcomes.proofs.Warm.{IsWarmOutcome, warm_all}
use Rattle.dcx_report.specs.SameText.{IsOnOneLine, SaysOneLine, BranchSaysOneLine, IsEndOf}
use Rattle.dcx_report.proofs.OneLine.{IsLine}
use Rattle.dcx_run_laws.proofs.Settings.{AreLines}
use Rattle.dcx_run_laws.proofs.Layouts.{layout_of, answer_layout, whole_layout}

at_place : {X : Type 0} (P : X → Type 0) (xs : List X) (k : ℕ) (x : X) → slice_get xs k ≡ Some x → AllByRecursion P xs → P x
at_place P [] k x e h = absurd (none-some x e)
at_place P (y ∷ xs) zero x e h = subst P (same_Some y x e) h.0
at_place P (y ∷ xs) (suc k) x e h = at_place P xs k x e h.1

pub on_one_line : (name : List ℕ) → IsLine name → IsOnOneLine name
on_one_line name h = All-from_recursion (λ c. c ≢ 10) name h

module _ (p : Problem) (limit : ℕ) (parameters : AllByRecursion (λ q. IsLine q.name) p.parameters) where
  -- ---- stops
  declared : (s : Pairs) (stop : Stop) (name : List ℕ) (u : IsUnmet p.parameters s stop) → name ≡ u.parameter.name → IsOnOneLine name
  declared s stop name u e = on_one_line name (subst IsLine (sym e) (at_place (λ (q : Parameter). IsLine q.name) p.parameters u.position u.parameter u.there parameters))

  says : (s : Pairs) (stop : Stop) → AllByRecursion IsLine (names_of s) → Stops p s limit stop → SaysOneLine stop
  says s (UnknownParam name) names h = on_one_line name (at_place IsLine (names_of s) h.position name h.there names)
  says s (MissingParam name) names h = declared s (MissingParam name) name h.unmet h.unmet.fault.0
  says s (ParamShape name shape given) names h = declared s (ParamShape name shape given) name h.unmet h.unmet.fault.0
  says s (ParamSign name entry value) names h = declared s (ParamSign name entry value) name h.unmet h.unmet.fault.0
  says s (TooLarge rows columns) names h = tt
  says s (ZeroDivisor node entry) names h = tt
  says s (Wide site) names h = tt
  says s (PivotLimit count) names h = tt
  says s Memory names h = tt

  -- the stop of a node, which says no name
  run_says : (e : SolveStop) → SaysOneLine (run_stop e)
  run_says (solves.TooLarge rows columns) = tt
  run_says (solves.Wide site) = tt
  run_says (solves.PivotLimit count) = tt
  run_says solves.Memory = tt

  node_says : (s : Pairs) (node : ℕ) (stop : Stop) → IsAnswered (WholeGives limit) p s (Err (branch.Node node stop)) → SaysOneLine stop
  node_says s node stop h = by h.answers.1.stops
    where
      by : NodeStops p h.program limit (bounds_in p h.answers.1.box) (best_value h.answers.1.best) stop → SaysOneLine stop
      by (at_rows e other stops is) = subst SaysOneLine (sym is) (run_says e)
      by (at_leaf solved turn row passes node turns leaf first is) = subst SaysOneLine (sym is) tt

  branch_says : (s : Pairs) (stop : BranchStop) → IsAnswered (WholeGives limit) p s (Err stop) → BranchSaysOneLine stop
  branch_says s branch.RelaxationUnbounded h = tt
  branch_says s (branch.NodeLimit count) h = tt
  branch_says s (branch.Node node stop) h = node_says s node stop h
  branch_says s branch.Memory h = tt

  -- ---- outcomes
  answered : (s : Pairs) (o : Outcome) (a : Answer) → o.end ≡ solved_end (Ok a) → IsRightEnd p s o.end → IsEndOf (layout_of p) o.end
  answered s o a e right = subst (IsEndOf (layout_of p)) (sym e) (answer_layout p a (subst (IsRightEnd p s) e right).speaks)

  stopped : (s : Pairs) (o : Outcome) (stop : Stop) → o.end ≡ solved_end (Err stop) → AllByRecursion IsLine (names_of s) → Stops p s limit stop → IsEndOf (layout_of p) o.end
  stopped s o stop e names h = subst (IsEndOf (layout_of p)) (sym e) (says s stop names h)

  fresh_end : (s : Pairs) (o : Outcome) → IsOutcome p limit s o → IsRightEnd p s o.end → AllByRecursion IsLine (names_of s) → IsEndOf (layout_of p) o.end
  fresh_end s o h right names = by h.end h.told h.answers
    where
      by : (r : Result Answer Stop) → o.end ≡ solved_end r → Answers p s limit r → IsEndOf (layout_of p) o.end
      by (Ok a) e k = answered s o a e right
      by (Err stop) e k = stopped s o stop e names k

  warm_end : (s : Pairs) (o : Outcome) → IsWarmOutcome p limit s o → IsRightEnd p s o.end → AllByRecursion IsLine (names_of s) → IsEndOf (layout_of p) o.end
  warm_end s o h right names = by h.end h.tells.end h.answers
    where
      by : (r : Result Warmed Stop) → o.end ≡ solved_end (end_in r) → WarmAnswers p s limit h.before r h.after → IsEndOf (layout_of p) o.end
      by (Ok w) e k = answered s o w.answer e right
      by (Err stop) e k = stopped s o stop e names k.stops

  -- in whole numbers
  abbrev IsWholeOutcome : Pairs → Outcome → Type 0
  IsWholeOutcome = IsAskedOutcome (WholeGives limit) (λ (o : Outcome) (e : Result (Result WholeAnswer BranchStop) Stop). o.end ≡ whole_end e) (λ (o : Outcome). o.place) p

  whole_outcome_end : (s : Pairs) (o : Outcome) → IsWholeOutcome s o → IsRightEnd p s o.end → AllByRecursion IsLine (names_of s) → IsEndOf (layout_of p) o.end
  whole_outcome_end s o h right names = by h.end h.tells h.ends
    where
      by : (r : Result (Result WholeAnswer BranchStop) Stop) → o.end ≡ whole_end r → EndsAt (WholeGives limit) p s r → IsEndOf (layout_of p) o.end
      by (Ok (Ok a)) e k = subst (IsEndOf (layout_of p)) (sym e) (whole_layout p limit s a (subst (IsRightEnd p s) e right).speaks k)
      by (Ok (Err stop)) e k = subst (IsEndOf (layout_of p)) (sym e) (branch_says s stop k)
      by (Err stop) e k = subst (IsEndOf (layout_of p)) (sym e) (says s stop names (setting_stops p s limit stop k))

  all_ends : (R : Pairs → Outcome → Type 0) → ((s : Pairs) (o : Outcome) → R s o → IsRightEnd p s o.end → AllByRecursion IsLine (names_of s) → IsEndOf (layout_of p) o.end)
      → (ss : List Pairs) (os : List Outcome) → AllZip R ss os → AreRight p ss os → AreLines ss → AllByRecursion (λ o. IsEndOf (layout_of p) o.end) os
  all_ends R f [] [] h right names = tt
  all_ends R f [] (o ∷ os) h right names = absurd h
  all_ends R f (s ∷ ss) [] h right names = absurd h
  all_ends R f (s ∷ ss) (o ∷ os) h right names = (f s o h.0 right.0 names.0, all_ends R f ss os h.1 right.1 names.1)

  -- the outcomes of a problem, warm or not, in whole numbers or not
  pub found_ends : (warm : Bool) (ss : List Pairs) (os : List Outcome) (count : Option ℕ) → IsAccepted p → AreFound warm p limit ss os count → AreLines ss
      → All (λ o. IsEndOf (layout_of p) o.end) os
  found_ends warm ss os count ok h names = All-from_recursion (λ (o : Outcome). IsEndOf (layout_of p) o.end) os (by warm h (found_are_right warm p limit ss os count ok h))
    where
      by : (warm : Bool) → AreFound warm p limit ss os count → AreRight p ss os → AllByRecursion (λ o. IsEndOf (layout_of p) o.end) os
      by false (inl k) right = all_ends (IsOutcome p limit) fresh_end ss os k.1.0 right names
      by false (inr (has, k, is)) right = all_ends IsWholeOutcome whole_outcome_end ss os k right names
      by true (n, k, is) right = all_ends (IsWarmOutcome p limit) warm_end ss os (warm_all p limit None ss k.ends os k.answers k.told) right names
