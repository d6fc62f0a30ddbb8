-- Settings have one list of outcomes.
use Rattle.std.proofs.Common.{◌≡◌, ℕ, Result, Ok, Err, refl, sym, ap, ◌∙◌, subst}
use Rattle.dcx_point.specs.Pairs.{Pairs}
use Rattle.dcx_tree.specs.declared.problem.Problem.{Problem}
use Rattle.dcx_tree.specs.Meaning.{IsAccepted}
use Rattle.dcx_answer.specs.declared.answer.Answer.{Answer}
use Rattle.dcx_answer.specs.declared.stop.Stop.{Stop}
use Rattle.dcx_answer.specs.declared.outcome.Outcome.{Outcome}
use Rattle.dcx_answer.specs.declared.outcome.OutcomeEnd.{OutcomeEnd}
use Rattle.dcx_answer.specs.declared.outcome.OutcomeEnd.TheVariants as the
use Rattle.dcx_answer.specs.declared.whole_answer.WholeAnswer.{WholeAnswer}
use Rattle.dcx_answer.specs.declared.whole_answer.WholeAnswer.TheVariants as whole
use Rattle.dcx_cache.specs.Laws.{AreOneEnd}
use Rattle.dcx_cache.proofs.OneEnd.{has_one_end}
use Rattle.dcx_outcomes.specs.Outcomes.{solved_end, end_place, IsOutcome}
use Rattle.dcx_outcomes.specs.Laws.{IsSameWhole, IsSameEnd, IsSameOutcome, WantsMemory, HadMemory, OutcomesAreOne}
use Rattle.dcx_outcomes.proofs.Right.{SpeaksEnd, speaks_at}
use Rattle.dcx_outcomes.proofs.Same.{same_answer}
use Rattle.dcx_outcomes.proofs.Zips.{zip_both}

-- ---- two outcomes
-- an end is the same as itself
same_itself : (x : OutcomeEnd) → IsSameEnd x x
same_itself (the.Answer a) = refl
same_itself (the.Whole (whole.Optimal value point tree nodes)) = (refl, refl, refl)
same_itself (the.Whole (whole.Infeasible tree nodes)) = refl
same_itself (the.Branch stop) = refl
same_itself (the.Stop stop) = refl

-- what doesn't speak of trees says the same of ends that are the same
pub same_of : {A : Type 0} (f : OutcomeEnd → A) → ((a b : WholeAnswer) → IsSameWhole a b → f (the.Whole a) ≡ f (the.Whole b)) → (x y : OutcomeEnd) → IsSameEnd x y → f x ≡ f y
same_of f same (the.Answer a) (the.Answer b) h = ap (λ z. f (the.Answer z)) h
same_of f same (the.Answer a) (the.Whole b) h = absurd h
same_of f same (the.Answer a) (the.Branch t) h = absurd h
same_of f same (the.Answer a) (the.Stop t) h = absurd h
same_of f same (the.Whole a) (the.Answer b) h = absurd h
same_of f same (the.Whole a) (the.Whole b) h = same a b h
same_of f same (the.Whole a) (the.Branch t) h = absurd h
same_of f same (the.Whole a) (the.Stop t) h = absurd h
same_of f same (the.Branch s) (the.Answer b) h = absurd h
same_of f same (the.Branch s) (the.Whole b) h = absurd h
same_of f same (the.Branch s) (the.Branch t) h = ap (λ z. f (the.Branch z)) h
same_of f same (the.Branch s) (the.Stop t) h = absurd h
same_of f same (the.Stop s) (the.Answer b) h = absurd h
same_of f same (the.Stop s) (the.Whole b) h = absurd h
same_of f same (the.Stop s) (the.Branch t) h = absurd h
same_of f same (the.Stop s) (the.Stop t) h = ap (λ z. f (the.Stop z)) h

same_ends : (p : Problem) (x y : Result Answer Stop) → SpeaksEnd p x → SpeaksEnd p y → AreOneEnd p x y → ¬ WantsMemory (solved_end x) → ¬ WantsMemory (solved_end y) → x ≡ y
same_ends p (Ok a) (Ok b) s t h n m = ap Ok (same_answer p a b s t h)
same_ends p (Ok a) (Err stop) s t h n m = absurd (m h)
same_ends p (Err stop) (Ok b) s t h n m = absurd (n h)
same_ends p (Err stop) (Err other) s t h n m = ap Err (h n m)

-- outcomes of one end are the same, with the same place
pub same_told : (p : Problem) (o q : Outcome) (x y : Result Answer Stop) → o.end ≡ solved_end x → q.end ≡ solved_end y → SpeaksEnd p x → SpeaksEnd p y → o.place ≡ end_place p o.end
    → q.place ≡ end_place p q.end → AreOneEnd p x y → HadMemory o → HadMemory q → IsSameOutcome o q
same_told p o q x y t u s z f g h n m =
    let one = same_ends p x y s z h (subst (λ (e : OutcomeEnd). ¬ WantsMemory e) t n) (subst (λ (e : OutcomeEnd). ¬ WantsMemory e) u m) in
    let ends : o.end ≡ q.end = t ∙ ap solved_end one ∙ sym u in
    record { end = subst (IsSameEnd o.end) ends (same_itself o.end); place = f ∙ ap (end_place p) ends ∙ sym g }

-- ---- all outcomes
module _ (p : Problem) (limit : ℕ) (ok : IsAccepted p) where
  same_at : (s : Pairs) (o q : Outcome) → IsOutcome p limit s o → IsOutcome p limit s q → HadMemory o → HadMemory q → IsSameOutcome o q
  same_at s o q h k =
      same_told p o q h.end k.end h.told k.told (speaks_at p limit s h.end h.answers) (speaks_at p limit s k.end k.answers) h.placed k.placed
      (has_one_end p s limit h.end k.end ok h.answers k.answers)

pub outcomes_are_one : OutcomesAreOne
outcomes_are_one p limit settings os qs ok h k =
    zip_both (IsOutcome p limit) (IsOutcome p limit) (λ o q. HadMemory o → HadMemory q → IsSameOutcome o q) (same_at p limit ok) settings os qs h k
