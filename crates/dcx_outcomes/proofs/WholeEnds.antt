-- What holds of the outcomes of settings at which a problem with marked variables is solved.
use Rattle.std.proofs.Common.{◌≡◌, ◌≤◌, ℕ, [], length, Result, Ok, Err, sym, subst}
use Rattle.std.specs.Prelude.{IfOk}
use Rattle.dcx_frac.specs.declared.fraction.Frac.{Frac}
use Rattle.dcx_frac.proofs.Parts.{value_injective}
use Rattle.dcx_point.specs.Pairs.{Pairs}
use Rattle.dcx_tree.specs.declared.problem.Problem.{Problem}
use Rattle.dcx_tree.specs.Meaning.{IsAccepted, setting_of}
use Rattle.dcx_fit.specs.Fit.{FitsParameters}
use Rattle.dcx_answer.specs.declared.stop.Stop.{Stop}
use Rattle.dcx_answer.specs.declared.outcome.Outcome.{Outcome}
use Rattle.dcx_answer.specs.declared.outcome.OutcomeEnd.{OutcomeEnd}
use Rattle.dcx_unknowns.specs.Unknowns.{variable_unknowns}
use Rattle.dcx_right.specs.WholeAnswers.{SpeaksWhole, IsRightWhole}
use Rattle.dcx_graph.specs.Program.{Program}
use Rattle.dcx_cache.specs.Programs.{SessionGives, mapped, anew}
use Rattle.dcx_cache.proofs.Answered.{sound}
use Rattle.dcx_answer.specs.declared.whole_answer.WholeAnswer.{WholeAnswer}
use Rattle.dcx_answer.specs.declared.whole_answer.WholeAnswer.TheVariants as answer
use Rattle.dcx_answer.specs.declared.whole_answer.BranchStop.{BranchStop}
use Rattle.dcx_answer.specs.declared.whole_answer.BranchStop.TheVariants as branch
use Rattle.dcx_branch.specs.Answers.{IsEndOf, IsSameAnswer}
use Rattle.dcx_branch.proofs.Enough.{programs_have_unknowns}
use Rattle.dcx_branch.proofs.Right.{runs_are_right}
use Rattle.dcx_branch.proofs.OneRun.{runs_are_one}
use Rattle.dcx_outcomes.specs.Asking.{IsRightAt, FindsRight, AreOneEnd, WantsMemory as IsWanting, IsSameEnd as IsOneEnd}
use Rattle.dcx_outcomes.specs.Wholes.{most_nodes, WholeGives, whole_end}
use Rattle.dcx_outcomes.specs.Right.{IsRightEnd}
use Rattle.dcx_outcomes.specs.Laws.{IsSameWhole, IsSameEnd, IsSameOutcome, WantsMemory, HadMemory, WholesAreRight, WholesAreOne}
use Rattle.dcx_outcomes.proofs.Asked.{are_right, are_one}
use Rattle.dcx_outcomes.proofs.Same.{same_point}

-- the unknowns of the variables are among those of a session's program
pub unknowns_there : (p : Problem) (setting : Pairs) (r : Program Frac) → SessionGives p setting (Ok r) → variable_unknowns p.variables ≤ length r.kinds
unknowns_there p setting r (mapped m is fixes) = programs_have_unknowns.affine p [] setting m r is.reduces fixes
unknowns_there p setting r (anew none reduces) = programs_have_unknowns.numbers p setting r reduces

-- the point in which a run ends has the variables' arrays
speaks : (p : Problem) (q : Program Frac) (limit : ℕ) (a : WholeAnswer) → IsEndOf p q limit most_nodes (Ok a) → SpeaksWhole p a
speaks p q limit (answer.Optimal number point tree nodes) (few, ends) = record { names = ends.point_is.of_variables.names; shaped = ends.point_is.of_variables.shaped }
speaks p q limit (answer.Infeasible tree nodes) ends = tt

-- ---- right
module _ (p : Problem) (limit : ℕ) (ok : IsAccepted p) (s : Pairs) where
  -- the answer is right there, and speaks of the problem
  right_whole : (q : Program Frac) (r : Result WholeAnswer BranchStop) → FitsParameters p.parameters s → SessionGives p s (Ok q) → WholeGives limit p s q r → IfOk r (IsRightAt p s (IsRightWhole p s))
  right_whole q (Ok a) fits given g =
      let there = sound p s ok fits q given in
      record {
        fits = there.fitting;
        right = record { fits = there.fitting; right = runs_are_right p (setting_of p s) q limit most_nodes a there.reduced g; speaks = speaks p q limit a g };
      }
  right_whole q (Err e) fits given g = tt

  -- as its outcome tells
  right_told : (e : Result (Result WholeAnswer BranchStop) Stop) → FindsRight p s (IsRightWhole p s) e → IsRightEnd p s (whole_end e)
  right_told (Ok (Ok a)) h = h.right
  right_told (Ok (Err stop)) h = tt
  right_told (Err stop) h = tt

pub wholes_are_right : WholesAreRight
wholes_are_right p limit settings outcomes ok h =
    are_right (WholeGives limit) (λ (o : Outcome) (e : Result (Result WholeAnswer BranchStop) Stop). o.end ≡ whole_end e) (λ (o : Outcome). o.place) p (IsRightWhole p)
    (λ s o. IsRightEnd p s o.end) (right_whole p limit ok) (λ s o e t k. subst (IsRightEnd p s) (sym t) (right_told p limit ok s e k)) settings outcomes h

-- ---- one list
same_whole : (p : Problem) (a b : WholeAnswer) → SpeaksWhole p a → SpeaksWhole p b → IsSameAnswer p a b → IsSameWhole a b
same_whole p (answer.Optimal n x tree nodes) (answer.Optimal m y shown count) h k (number, point, run) = (value_injective n m number, same_point p x y h k point, run)
same_whole p (answer.Optimal n x tree nodes) (answer.Infeasible shown count) h k e = absurd e
same_whole p (answer.Infeasible tree nodes) (answer.Optimal m y shown count) h k e = absurd e
same_whole p (answer.Infeasible tree nodes) (answer.Infeasible shown count) h k e = e

-- a run over a program has one end
one_answer : (p : Problem) (limit : ℕ) (s : Pairs) (q : Program Frac) (x y : Result WholeAnswer BranchStop) → WholeGives limit p s q x → WholeGives limit p s q y
    → AreOneEnd branch.Memory IsSameWhole (Ok x) (Ok y)
one_answer p limit s q (Ok a) (Ok b) h k n m = same_whole p a b (speaks p q limit a h) (speaks p q limit b k) (runs_are_one p q limit most_nodes (Ok a) (Ok b) h k)
one_answer p limit s q (Ok a) (Err e) h k n m = m (runs_are_one p q limit most_nodes (Ok a) (Err e) h k)
one_answer p limit s q (Err e) (Ok b) h k n m = n (runs_are_one p q limit most_nodes (Err e) (Ok b) h k)
one_answer p limit s q (Err e) (Err f) h k n m = runs_are_one p q limit most_nodes (Err e) (Err f) h k n m

wants : (x : Result (Result WholeAnswer BranchStop) Stop) → IsWanting branch.Memory x → WantsMemory (whole_end x)
wants (Ok (Ok a)) h = absurd h
wants (Ok (Err stop)) h = h
wants (Err stop) h = h

same_ends : (x y : Result (Result WholeAnswer BranchStop) Stop) → IsOneEnd IsSameWhole x y → IsSameEnd (whole_end x) (whole_end y)
same_ends (Ok (Ok a)) (Ok (Ok b)) h = h
same_ends (Ok (Ok a)) (Ok (Err t)) h = absurd h
same_ends (Ok (Ok a)) (Err t) h = absurd h
same_ends (Ok (Err s)) (Ok (Ok b)) h = absurd h
same_ends (Ok (Err s)) (Ok (Err t)) h = h
same_ends (Ok (Err s)) (Err t) h = absurd h
same_ends (Err s) (Ok (Ok b)) h = absurd h
same_ends (Err s) (Ok (Err t)) h = absurd h
same_ends (Err s) (Err t) h = h

-- outcomes with one end are the same
alike : (o q : Outcome) (x y : Result (Result WholeAnswer BranchStop) Stop) → o.end ≡ whole_end x → q.end ≡ whole_end y → AreOneEnd branch.Memory IsSameWhole x y
    → (IsOneEnd IsSameWhole x y → o.place ≡ q.place)
    → HadMemory o → HadMemory q → IsSameOutcome o q
alike o q x y t u one places n m =
    let same = one (λ w. n (subst WantsMemory (sym t) (wants x w))) (λ w. m (subst WantsMemory (sym u) (wants y w))) in
    record { end = subst (λ (e : OutcomeEnd). IsSameEnd e q.end) (sym t) (subst (IsSameEnd (whole_end x)) (sym u) (same_ends x y same)); place = places same }

pub wholes_are_one : WholesAreOne
wholes_are_one p limit settings os qs h k =
    are_one (WholeGives limit) (λ (o : Outcome) (e : Result (Result WholeAnswer BranchStop) Stop). o.end ≡ whole_end e) (λ (o : Outcome). o.place) p branch.Memory IsSameWhole
    (λ (o q : Outcome). HadMemory o → HadMemory q → IsSameOutcome o q) (λ s q x y fits given. one_answer p limit s q x y) alike settings os qs h k
