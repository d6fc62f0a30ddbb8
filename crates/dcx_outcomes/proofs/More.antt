-- What comes of settings that are solved one after the other: their outcomes, and how many are answered from kept columns.
use Rattle.std.proofs.Common.{◌≡◌, ℕ, ◌+◌, Bool, true, false, cond, List, [], ◌∷◌, Option, None, Result, Ok, Err, refl, sym, ap, subst, arith}
use Rattle.std.specs.Prelude.{count_by, IfErr}
use Rattle.std.proofs.lemmas.List.Sums.{sum_by-cons}
use Rattle.dcx_point.specs.Pairs.{Pairs}
use Rattle.dcx_tree.specs.declared.problem.Problem.{Problem}
use Rattle.dcx_answer.specs.declared.stop.Stop.{Stop}
use Rattle.dcx_answer.specs.declared.outcome.Outcome.{Outcome}
use Rattle.dcx_cache.specs.declared.rewarming.Warmed.{Warmed}
use Rattle.dcx_cache.specs.InTurn.{EndInTurn}
use Rattle.dcx_cache.specs.Warm.{WarmAnswersAll}
use Rattle.dcx_cache.proofs.InTurn.{each_in_turn}
use Rattle.dcx_outcomes.specs.Outcomes.{NamesNodes, IsOutcome, AreOutcomes}
use Rattle.dcx_outcomes.specs.Warm.{end_in, is_kept, AreTold, AreSolved, EndsFrom, IsToldFrom, counted_where}
use Rattle.dcx_outcomes.proofs.Named.{names_nodes}

-- ---- one setting
-- a stop names nodes of the problem, however the setting is asked
pub end_names : (warm : Bool) (p : Problem) (limit : ℕ) (s : Pairs) (before after : Option (List ℕ)) (stop : Stop) → EndsFrom warm p limit s before (Err stop) after → NamesNodes p stop
end_names false p limit s before after stop h = names_nodes p s limit stop h.0
end_names true p limit s before after stop h = names_nodes p s limit stop h.stops

pub names_end : (warm : Bool) (p q : Problem) (limit : ℕ) (s : Pairs) (before after : Option (List ℕ)) (r : Result Warmed Stop) → q ≡ p → EndsFrom warm p limit s before r after
    → IfErr r (NamesNodes q)
names_end warm p q limit s before after (Ok w) same h = tt
names_end warm p q limit s before after (Err stop) same h = subst (λ (z : Problem). NamesNodes z stop) (sym same) (end_names warm p limit s before after stop h)

-- ---- how many are answered from kept columns
none_counted : (before after : ℕ) → after ≡ before → after ≡ before + count_by is_kept []
none_counted before after e = let none : count_by is_kept [] ≡ 0 = refl in omega (arith, e, none)

one_counted : (r : Result Warmed Stop) (rs : List (Result Warmed Stop)) (before mid after : ℕ) → mid ≡ before + cond (is_kept r) 1 0 → after ≡ mid + count_by is_kept rs
    → after ≡ before + count_by is_kept (r ∷ rs)
one_counted r rs before mid after e f =
    let more : count_by is_kept (r ∷ rs) ≡ cond (is_kept r) 1 0 + count_by is_kept rs = sum_by-cons (λ x. cond (is_kept x) 1 0) r rs in
    omega (arith, e, f, more)

from_none : (n k : ℕ) → n ≡ 0 + k → n ≡ k
from_none n k e = omega (arith, e)

-- ---- all settings
module _ (p : Problem) (limit : ℕ) where
  -- without the columns
  fresh_in_turn : (ss : List Pairs) (before : Option (List ℕ) × ℕ) (os : List Outcome) (after : Option (List ℕ) × ℕ) → EndInTurn (IsToldFrom false p limit) ss before os after
      → AreOutcomes p limit ss os
  fresh_in_turn ss before os after h =
      each_in_turn (IsToldFrom false p limit) (IsOutcome p limit) (λ s b o a k. record { end = end_in k.end; answers = k.ends.0; told = k.tells.end; placed = k.tells.placed }) ss before os after h

  -- from the columns
  warm_in_turn : (ss : List Pairs) (before : Option (List ℕ) × ℕ) (os : List Outcome) (after : Option (List ℕ) × ℕ) → EndInTurn (IsToldFrom true p limit) ss before os after
      → (rs : List (Result Warmed Stop)) × WarmAnswersAll p limit before.0 ss rs × AreTold p rs os × (after.1 ≡ before.1 + count_by is_kept rs)
  warm_in_turn [] before [] after h = ([], tt, tt, none_counted before.1 after.1 (ap (λ (z : Option (List ℕ) × ℕ). z.1) h))
  warm_in_turn (s ∷ ss) before (o ∷ os) after (mid, k, h) =
      let (rs, answers, told, count) = warm_in_turn ss mid os after h in
      (k.end ∷ rs, (mid.0, k.ends, answers), (k.tells, told), one_counted k.end rs before.1 mid.1 after.1 k.count count)
  warm_in_turn [] before (o ∷ os) after h = absurd h
  warm_in_turn (s ∷ ss) before [] after h = absurd h

  by_warm : (warm : Bool) (ss : List Pairs) (os : List Outcome) (n : ℕ) (after : Option (List ℕ)) → EndInTurn (IsToldFrom warm p limit) ss (None, 0) os (after, n)
      → AreSolved warm p limit ss os (counted_where warm n)
  by_warm false ss os n after h = (fresh_in_turn ss (None, 0) os (after, n) h, refl)
  by_warm true ss os n after h =
      let (rs, answers, told, count) = warm_in_turn ss (None, 0) os (after, n) h in
      (n, record { ends = rs; answers = answers; told = told; count = from_none n (count_by is_kept rs) count }, refl)

  -- what is found by a session that began without columns
  pub found_in_turn : (warm : Bool) (ss : List Pairs) (os found : List Outcome) (n : ℕ) (count : Option ℕ)
      → ((after : Option (List ℕ)) × EndInTurn (IsToldFrom warm p limit) ss (None, 0) os (after, n))
      → found ≡ os → count ≡ counted_where warm n → AreSolved warm p limit ss found count
  found_in_turn warm ss os found n count (after, h) is counted =
      subst (λ (z : List Outcome). AreSolved warm p limit ss z count) (sym is) (subst (λ (z : Option ℕ). AreSolved warm p limit ss os z) (sym counted) (by_warm warm ss os n after h))
