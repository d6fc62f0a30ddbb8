-- What holds of the outcomes of a problem, warm or not, whole or not.
use Rattle.std.proofs.Common.{◌≡◌, inl, inr, ℕ, Bool, true, false, List, Option, None, Result, Ok, Err, sym, subst}
use Rattle.std.specs.List.{All}
use Rattle.dcx_point.specs.Pairs.{Pairs}
use Rattle.dcx_tree.specs.declared.problem.Problem.{Problem}
use Rattle.dcx_tree.specs.Meaning.{IsAccepted}
use Rattle.dcx_answer.specs.declared.answer.Answer.{Answer}
use Rattle.dcx_answer.specs.declared.stop.Stop.{Stop}
use Rattle.dcx_answer.specs.declared.outcome.Outcome.{Outcome}
use Rattle.dcx_answer.specs.declared.whole_answer.BranchStop.{BranchStop}
use Rattle.dcx_answer.specs.declared.whole_answer.WholeAnswer.{WholeAnswer}
use Rattle.dcx_declared.specs.Whole.{HasNoWhole, HasWhole}
use Rattle.dcx_outcomes.specs.Outcomes.{solved_end, IsOutcome}
use Rattle.dcx_outcomes.specs.Asking.{IsAskedOutcome}
use Rattle.dcx_outcomes.specs.Wholes.{WholeGives, whole_end, AreWholeOutcomes}
use Rattle.dcx_outcomes.specs.Warm.{end_in, AreSolved, AreFound}
use Rattle.dcx_outcomes.specs.Right.{AreRight, IsSolvedEnd, IsBranchedEnd}
use Rattle.dcx_outcomes.specs.Laws.{AreOneFound}
use Rattle.dcx_outcomes.specs.Complete.{AreComplete}
use Rattle.dcx_outcomes.proofs.Warm.{IsWarmOutcome, warm_all, solved_are_right, solved_are_one}
use Rattle.dcx_outcomes.proofs.WholeEnds.{wholes_are_right, wholes_are_one}
use Rattle.dcx_outcomes.proofs.Complete.{outcomes_are_complete}
use Rattle.dcx_outcomes.proofs.Zips.{zip_all}

-- ---- what is found
-- warm
pub found_warm : (warm : Bool) (p : Problem) (limit : ℕ) (settings : List Pairs) (os : List Outcome) (count : Option ℕ) → warm ≡ true → AreSolved true p limit settings os count
    → AreFound warm p limit settings os count
found_warm warm p limit settings os count e h = subst (λ b. AreFound b p limit settings os count) (sym e) h

-- not warm, where no variable is to be whole
pub found_cold : (warm : Bool) (p : Problem) (limit : ℕ) (settings : List Pairs) (os : List Outcome) (count : Option ℕ) → warm ≡ false → HasNoWhole p → AreSolved false p limit settings os count
    → AreFound warm p limit settings os count
found_cold warm p limit settings os count e none h = subst (λ b. AreFound b p limit settings os count) (sym e) (inl (none, h))

-- or where one is
pub found_whole : (warm : Bool) (p : Problem) (limit : ℕ) (settings : List Pairs) (os : List Outcome) (count : Option ℕ) → warm ≡ false → HasWhole p
    → AreWholeOutcomes p limit settings os × (count ≡ None) → AreFound warm p limit settings os count
found_whole warm p limit settings os count e has h = subst (λ b. AreFound b p limit settings os count) (sym e) (inr (has, h.0, h.1))

-- ---- right, and one
pub found_are_right : (warm : Bool) (p : Problem) (limit : ℕ) (settings : List Pairs) (os : List Outcome) (count : Option ℕ) → IsAccepted p
    → AreFound warm p limit settings os count → AreRight p settings os
found_are_right false p limit settings os count ok (inl h) = solved_are_right false p limit settings os count ok h.1
found_are_right false p limit settings os count ok (inr (has, h, is)) = wholes_are_right p limit settings os ok h
found_are_right true p limit settings os count ok h = solved_are_right true p limit settings os count ok h

pub found_are_one : (warm : Bool) (p : Problem) (limit : ℕ) (settings : List Pairs) (os qs : List Outcome) (m n : Option ℕ) → IsAccepted p → AreFound warm p limit settings os m
    → AreFound warm p limit settings qs n → AreOneFound os m qs n
found_are_one false p limit settings os qs m n ok (inl h) (inl k) = solved_are_one false p limit settings os qs m n ok h.1 k.1
found_are_one false p limit settings os qs m n ok (inl (none, h)) (inr (has, k, is)) = absurd (none has.0 has.1)
found_are_one false p limit settings os qs m n ok (inr (has, h, is)) (inl (none, k)) = absurd (none has.0 has.1)
found_are_one false p limit settings os qs m n ok (inr (has, h, is)) (inr (also, k, are)) =
    subst (λ (x : Option ℕ). AreOneFound os x qs n) (sym is) (subst (λ (y : Option ℕ). AreOneFound os None qs y) (sym are) (wholes_are_one p limit settings os qs h k))
found_are_one true p limit settings os qs m n ok h k = solved_are_one true p limit settings os qs m n ok h k

-- ---- complete, and of one kind
pub solved_are_complete : (warm : Bool) (p : Problem) (limit : ℕ) (settings : List Pairs) (os : List Outcome) (count : Option ℕ) → AreSolved warm p limit settings os count
    → AreComplete p limit settings os
solved_are_complete false p limit settings os count (h, is) = outcomes_are_complete.fresh p limit settings os h
solved_are_complete true p limit settings os count (n, h, is) = outcomes_are_complete.warm p limit settings os n h

is_solved : (x : Result Answer Stop) → IsSolvedEnd (solved_end x)
is_solved (Ok a) = tt
is_solved (Err stop) = tt

is_branched : (x : Result (Result WholeAnswer BranchStop) Stop) → IsBranchedEnd (whole_end x)
is_branched (Ok (Ok a)) = tt
is_branched (Ok (Err stop)) = tt
is_branched (Err stop) = tt

pub solved_kind : (warm : Bool) (p : Problem) (limit : ℕ) (settings : List Pairs) (os : List Outcome) (count : Option ℕ) → AreSolved warm p limit settings os count → All (λ o. IsSolvedEnd o.end) os
solved_kind false p limit settings os count (h, is) = zip_all (IsOutcome p limit) (λ o. IsSolvedEnd o.end) (λ s o k. subst IsSolvedEnd (sym k.told) (is_solved k.end)) settings os h
solved_kind true p limit settings os count (n, h, is) =
    zip_all (IsWarmOutcome p limit) (λ o. IsSolvedEnd o.end) (λ s o k. subst IsSolvedEnd (sym k.tells.end) (is_solved (end_in k.end))) settings os
    (warm_all p limit None settings h.ends os h.answers h.told)

pub whole_kind : (p : Problem) (limit : ℕ) (settings : List Pairs) (os : List Outcome) → AreWholeOutcomes p limit settings os → All (λ o. IsBranchedEnd o.end) os
whole_kind p limit settings os h =
    zip_all (IsAskedOutcome (WholeGives limit) (λ (o : Outcome) (e : Result (Result WholeAnswer BranchStop) Stop). o.end ≡ whole_end e) (λ (o : Outcome). o.place) p) (λ o. IsBranchedEnd o.end)
    (λ s o k. subst IsBranchedEnd (sym k.tells) (is_branched k.end)) settings os h
