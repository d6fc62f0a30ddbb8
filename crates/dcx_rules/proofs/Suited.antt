-- The arguments that a loop has tested.
use Rattle.std.proofs.Common.{◌≡◌, ℕ, zero, suc, ◌+◌, ◌<◌, Bool, true, false, List, [], ◌∷◌, map, take, length, get_or, Some, add-one, refl, sym, ap, ap₂, ◌∙◌}
use Rattle.std.specs.Prelude.{◌&&◌}
use Rattle.std.specs.List.{slice_get}
use Rattle.std.proofs.lemmas.Option.{none-some, same_Some, slice_get-get_or}
use Rattle.dcx_atom.specs.declared.flags.Trend.{Trend}
use Rattle.dcx_atom.specs.declared.flags.Bend.{Bend}
use Rattle.dcx_convex.specs.Rules.{all_suit, suits}
use Rattle.dcx_rules.specs.declared.judgement.Judgement.{Judgement}
use Rattle.dcx_rules.specs.Judgements.{judgement_of}

and_true : (b : Bool) → (b && true) ≡ b
and_true true = refl
and_true false = refl

and_assoc : (a b c : Bool) → (a && (b && c)) ≡ ((a && b) && c)
and_assoc true b c = refl
and_assoc false b c = refl

next : (bend : Bend) (t : ℕ → Trend) (gs : List Judgement) (i : ℕ) (g : Judgement) → slice_get gs i ≡ Some g →
    all_suit bend t (map judgement_of (take (suc i) gs)) ≡ (all_suit bend t (map judgement_of (take i gs)) && suits bend (t i) (judgement_of g))
next bend t [] i g e = absurd (none-some g e)
next bend t (h ∷ gs) zero g e = and_true (suits bend (t 0) (judgement_of h)) ∙ ap (λ x. suits bend (t 0) (judgement_of x)) (same_Some h g e)
next bend t (h ∷ gs) (suc i) g e =
    ap (λ b. suits bend (t 0) (judgement_of h) && b) (next bend (λ k. t (suc k)) gs i g e)
    ∙ and_assoc (suits bend (t 0) (judgement_of h)) (all_suit bend (λ k. t (suc k)) (map judgement_of (take i gs))) (suits bend (t (suc i)) (judgement_of g))

-- one more argument is tested
pub suited_more : (bend : Bend) (t : ℕ → Trend) (gs : List Judgement) (i : ℕ) (g : Judgement) → slice_get gs i ≡ Some g →
    all_suit bend t (map judgement_of (take (i + 1) gs)) ≡ (all_suit bend t (map judgement_of (take i gs)) && suits bend (t i) (judgement_of g))
suited_more bend t gs i g e = ap (λ n. all_suit bend t (map judgement_of (take n gs))) (add-one i) ∙ next bend t gs i g e

pub suited_step : (bend : Bend) (t : ℕ → Trend) (gs : List Judgement) (i : ℕ) (d : Judgement) (trend : Trend) (suited fits after : Bool) → i < length gs →
    suited ≡ all_suit bend t (map judgement_of (take i gs)) → trend ≡ t i → fits ≡ suits bend trend (judgement_of (get_or gs i d)) → after ≡ (suited && fits) →
    after ≡ all_suit bend t (map judgement_of (take (i + 1) gs))
suited_step bend t gs i d trend suited fits after lt was way is e =
    e ∙ ap₂ (λ a b. a && b) was (is ∙ ap (λ (u : Trend). suits bend u (judgement_of (get_or gs i d))) way)
    ∙ sym (suited_more bend t gs i (get_or gs i d) (slice_get-get_or gs i d lt))
