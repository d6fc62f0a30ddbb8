-- What holds of warm outcomes.
use Rattle.std.proofs.Common.{◌≡◌, ℕ, ◌+◌, Bool, true, false, cond, List, [], ◌∷◌, Option, None, Some, Result, Ok, Err, refl, sym, ap₂, ◌∙◌, subst}
use Rattle.std.specs.Prelude.{count_by}
use Rattle.std.specs.List.{AllByRecursion, AllZip}
use Rattle.std.proofs.lemmas.List.Elements.{recursion_from_All}
use Rattle.std.proofs.lemmas.List.Sums.{sum_by-cons}
use Rattle.dcx_point.specs.Pairs.{Pairs}
use Rattle.dcx_tree.specs.declared.problem.Problem.{Problem}
use Rattle.dcx_tree.specs.Meaning.{IsAccepted}
use Rattle.dcx_answer.specs.declared.answer.Answer.{Answer}
use Rattle.dcx_answer.specs.declared.stop.Stop.{Stop}
use Rattle.dcx_lp_solve.specs.declared.solving.Solved.{Solved}
use Rattle.dcx_right.specs.Answers.{SpeaksOf, IsRightAnswer}
use Rattle.dcx_graph.specs.Program.{Program}
use Rattle.dcx_frac.specs.declared.fraction.Frac.{Frac}
use Rattle.dcx_answer.specs.declared.outcome.Outcome.{Outcome}
use Rattle.dcx_answer.specs.declared.outcome.OutcomeEnd.{OutcomeEnd}
use Rattle.dcx_cache.specs.declared.rewarming.Warmed.{Warmed}
use Rattle.dcx_cache.specs.Answers.{Answers}
use Rattle.dcx_cache.specs.Warm.{IsAnsweredBy, WarmAnswers, WarmAnswersAll}
use Rattle.dcx_cache.specs.Laws.{AreOneEnd, AreOneWarmEnd, EndsWithMemory, AreOneWarmEnds}
use Rattle.dcx_cache.proofs.OneEnd.{has_one_end}
use Rattle.dcx_cache.proofs.WarmRuns.{warm_answers_are_right, warm_answers_agree, answered_stays_answered, have_one_warm_ends}
use Rattle.dcx_outcomes.specs.Outcomes.{solved_end, IsOutcome}
use Rattle.dcx_outcomes.specs.Right.{IsRightEnd, AreRight}
use Rattle.dcx_outcomes.specs.Warm.{end_in, is_kept, Tells, AreTold, AreSolved}
use Rattle.dcx_outcomes.specs.Laws.{WarmOutcomesAreRight, AgreesWithFresh, WarmOutcomesAgree, WantsMemory, HadMemory, AreAlikeWarm, WarmOutcomesAreOne, AreOneFound}
use Rattle.dcx_outcomes.proofs.Right.{SpeaksEnd, speaks, outcomes_are_right}
use Rattle.dcx_outcomes.proofs.OneOutcome.{same_told, outcomes_are_one}
use Rattle.dcx_outcomes.proofs.Zips.{zip_weaker, zip_both}

-- ---- the outcome of a setting
-- it tells how the setting ends, from what is kept before
pub record IsWarmOutcome (p : Problem) (limit : ℕ) (s : Pairs) (o : Outcome) : Type 0 where
  pub before : Option (List ℕ)
  pub end : Result Warmed Stop
  pub after : Option (List ℕ)
  pub answers : WarmAnswers p s limit before end after
  pub tells : Tells p end o

module _ (p : Problem) (limit : ℕ) where
  pub warm_all : (before : Option (List ℕ)) (ss : List Pairs) (rs : List (Result Warmed Stop)) (os : List Outcome) → WarmAnswersAll p limit before ss rs → AreTold p rs os
      → AllZip (IsWarmOutcome p limit) ss os
  warm_all before [] [] [] h t = tt
  warm_all before [] [] (o ∷ os) h t = absurd t
  warm_all before [] (r ∷ rs) os h t = absurd h
  warm_all before (s ∷ ss) [] os h t = absurd h
  warm_all before (s ∷ ss) (r ∷ rs) [] h t = absurd t
  warm_all before (s ∷ ss) (r ∷ rs) (o ∷ os) (after, e, h) t = (record { before = before; end = r; after = after; answers = e; tells = t.0 }, warm_all after ss rs os h t.1)

  -- ---- right
  speaks_by : (s : Pairs) (before : Option (List ℕ)) (kept : Bool) (q : Program Frac) (i : Solved) (a : Answer) → IsAnsweredBy p s limit before kept q i a → SpeaksOf p a
  speaks_by s (Some columns) true q i a h = speaks p q.kinds i.answer a h.read
  speaks_by s None true q i a h = absurd h
  speaks_by s before false q i a h = speaks p q.kinds i.answer a h.1.read

  right_end : (s : Pairs) (before : Option (List ℕ)) (w : Warmed) (after : Option (List ℕ)) → IsAccepted p → WarmAnswers p s limit before (Ok w) after → IsRightAnswer p s w.answer
  right_end s before w after ok (q, i, h) =
      let right = warm_answers_are_right p s limit before w after ok (q, i, h) in
      record { fits = right.0; right = right.1; speaks = speaks_by s before w.kept q i w.answer h.answer }

  right_at : (s : Pairs) (o : Outcome) → IsAccepted p → IsWarmOutcome p limit s o → IsRightEnd p s o.end
  right_at s o ok h = subst (IsRightEnd p s) (sym h.tells.end) (by h.end h.answers)
    where
      by : (r : Result Warmed Stop) → WarmAnswers p s limit h.before r h.after → IsRightEnd p s (solved_end (end_in r))
      by (Ok w) k = right_end s h.before w h.after ok k
      by (Err stop) k = tt

  -- ---- beside a fresh one
  agree_ends : (s : Pairs) (before : Option (List ℕ)) (r : Result Warmed Stop) (after : Option (List ℕ)) (f : Result Answer Stop) → IsAccepted p → WarmAnswers p s limit before r after
      → Answers p s limit f → AgreesWithFresh (solved_end (end_in r)) (solved_end f)
  agree_ends s before (Ok w) after (Ok b) ok h k = warm_answers_agree p s limit limit before w after b ok h k
  agree_ends s before (Ok w) after (Err stop) ok h k = tt
  agree_ends s before (Err stop) after (Ok b) ok h k = answered_stays_answered p s limit before stop after b ok h k
  agree_ends s before (Err stop) after (Err other) ok h k = has_one_end p s limit (Err stop) (Err other) ok h.stops k

  agree_at : (s : Pairs) (o q : Outcome) → IsAccepted p → IsWarmOutcome p limit s o → IsOutcome p limit s q → AgreesWithFresh o.end q.end
  agree_at s o q ok h k =
      subst (λ (z : OutcomeEnd). AgreesWithFresh z q.end) (sym h.tells.end)
      (subst (AgreesWithFresh (solved_end (end_in h.end))) (sym k.told) (agree_ends s h.before h.end h.after k.end ok h.answers k.answers))

pub warm_outcomes_are_right : WarmOutcomesAreRight
warm_outcomes_are_right p limit settings outcomes kept ok h =
    zip_weaker (IsWarmOutcome p limit) (λ s o. IsRightEnd p s o.end) (λ s o k. right_at p limit s o ok k) settings outcomes (warm_all p limit None settings h.ends outcomes h.answers h.told)

pub warm_outcomes_agree : WarmOutcomesAgree
warm_outcomes_agree p limit settings os kept qs ok h f =
    zip_both (IsWarmOutcome p limit) (IsOutcome p limit) (λ o q. AgreesWithFresh o.end q.end) (λ s o q x y. agree_at p limit s o q ok x y) settings os qs
    (warm_all p limit None settings h.ends os h.answers h.told) f

-- ---- one list
module _ (p : Problem) where
  one_end : (r s : Result Warmed Stop) → AreOneWarmEnd p r s → AreOneEnd p (end_in r) (end_in s)
  one_end (Ok v) (Ok w) h = h.1
  one_end (Ok v) (Err stop) h = h
  one_end (Err stop) (Ok w) h = h
  one_end (Err stop) (Err other) h = h

  -- memory did not run out at the setting
  with_memory : (r : Result Warmed Stop) (o : Outcome) → Tells p r o → HadMemory o → EndsWithMemory r
  with_memory (Ok w) o t m = tt
  with_memory (Err stop) o t m = λ e. m (subst WantsMemory (sym t.end) e)

  -- the answer of a setting speaks of the problem
  speaks_told : (limit : ℕ) (s : Pairs) (before : Option (List ℕ)) (r : Result Warmed Stop) (after : Option (List ℕ)) → WarmAnswers p s limit before r after → SpeaksEnd p (end_in r)
  speaks_told limit s before (Ok w) after (q, i, k) = speaks_by p limit s before w.kept q i w.answer k.answer
  speaks_told limit s before (Err stop) after h = tt

  alike : (limit : ℕ) (before other : Option (List ℕ)) (settings : List Pairs) (rs ss : List (Result Warmed Stop)) (os qs : List Outcome)
      → WarmAnswersAll p limit before settings rs → WarmAnswersAll p limit other settings ss →
      AreOneWarmEnds p rs ss → AreTold p rs os → AreTold p ss qs → AreAlikeWarm os qs
  alike limit before other us [] [] [] [] x y h t u = tt
  alike limit before other us [] [] [] (q ∷ qs) x y h t u = absurd u
  alike limit before other us [] [] (o ∷ os) qs x y h t u = absurd t
  alike limit before other us [] (s ∷ ss) os qs x y h t u = absurd h
  alike limit before other us (r ∷ rs) [] os qs x y h t u = absurd h
  alike limit before other us (r ∷ rs) (s ∷ ss) [] qs x y h t u = absurd t
  alike limit before other us (r ∷ rs) (s ∷ ss) (o ∷ os) [] x y h t u = absurd u
  alike limit before other [] (r ∷ rs) (s ∷ ss) (o ∷ os) (q ∷ qs) x y h t u = absurd x
  alike limit before other (w ∷ us) (r ∷ rs) (s ∷ ss) (o ∷ os) (q ∷ qs) (after, x, xs) (later, y, ys) h t u = λ m n. (
    same_told p o q (end_in r) (end_in s) t.0.end u.0.end (speaks_told limit w before r after x) (speaks_told limit w other s later y) t.0.placed u.0.placed (one_end r s h.0) m n,
    alike limit after later us rs ss os qs xs ys (h.1 (with_memory r o t.0 m) (with_memory s q u.0 n)) t.1 u.1,
  )

  same_kept : (r s : Result Warmed Stop) → AreOneWarmEnd p r s → EndsWithMemory r → EndsWithMemory s → is_kept r ≡ is_kept s
  same_kept (Ok v) (Ok w) h m n = h.0
  same_kept (Ok v) (Err stop) h m n = absurd (n h)
  same_kept (Err stop) (Ok w) h m n = absurd (m h)
  same_kept (Err stop) (Err other) h m n = refl

  same_count : (rs ss : List (Result Warmed Stop)) (os qs : List Outcome) → AreOneWarmEnds p rs ss → AreTold p rs os → AreTold p ss qs → AllByRecursion HadMemory os
      → AllByRecursion HadMemory qs → count_by is_kept rs ≡ count_by is_kept ss
  same_count [] [] os qs h t u m n = refl
  same_count [] (s ∷ ss) os qs h t u m n = absurd h
  same_count (r ∷ rs) [] os qs h t u m n = absurd h
  same_count (r ∷ rs) (s ∷ ss) [] qs h t u m n = absurd t
  same_count (r ∷ rs) (s ∷ ss) (o ∷ os) [] h t u m n = absurd u
  same_count (r ∷ rs) (s ∷ ss) (o ∷ os) (q ∷ qs) h t u m n =
      let first = with_memory r o t.0 m.0 in
      let second = with_memory s q u.0 n.0 in
      sum_by-cons (λ x. cond (is_kept x) 1 0) r rs
      ∙ ap₂ (λ b c. cond b 1 0 + c) (same_kept r s h.0 first second) (same_count rs ss os qs (h.1 first second) t.1 u.1 m.1 n.1)
      ∙ sym (sum_by-cons (λ x. cond (is_kept x) 1 0) s ss)

pub warm_outcomes_are_one : WarmOutcomesAreOne
warm_outcomes_are_one p limit settings os qs m n ok h k =
    let one = have_one_warm_ends p limit None settings h.ends k.ends ok h.answers k.answers in
    record {
      alike = alike p limit None None settings h.ends k.ends os qs h.answers k.answers one h.told k.told;
      count = λ x y. h.count ∙ same_count p h.ends k.ends os qs one h.told k.told (recursion_from_All HadMemory os x) (recursion_from_All HadMemory qs y) ∙ sym k.count;
    }

-- ---- warm or not
pub solved_are_right : (warm : Bool) (p : Problem) (limit : ℕ) (settings : List Pairs) (outcomes : List Outcome) (count : Option ℕ) → IsAccepted p
    → AreSolved warm p limit settings outcomes count → AreRight p settings outcomes
solved_are_right false p limit settings outcomes count ok h = outcomes_are_right p limit settings outcomes ok h.0
solved_are_right true p limit settings outcomes count ok (n, h, is) = warm_outcomes_are_right p limit settings outcomes n ok h

pub solved_are_one : (warm : Bool) (p : Problem) (limit : ℕ) (settings : List Pairs) (os qs : List Outcome) (m n : Option ℕ) → IsAccepted p → AreSolved warm p limit settings os m
    → AreSolved warm p limit settings qs n → AreOneFound os m qs n
solved_are_one false p limit settings os qs m n ok h k =
    subst (λ (x : Option ℕ). AreOneFound os x qs n) (sym h.1) (subst (λ (y : Option ℕ). AreOneFound os None qs y) (sym k.1) (outcomes_are_one p limit settings os qs ok h.0 k.0))
solved_are_one true p limit settings os qs m n ok (a, h, is) (b, k, also) =
    subst (λ (x : Option ℕ). AreOneFound os x qs n) (sym is) (subst (λ (y : Option ℕ). AreOneFound os (Some a) qs y) (sym also) (warm_outcomes_are_one p limit settings os qs a b ok h k))
