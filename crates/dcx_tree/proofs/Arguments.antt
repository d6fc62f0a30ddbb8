-- The arguments of a call, by their places.
use Rattle.std.proofs.Common.{◌≡◌, ℕ, true, inl, inr, List, [], ◌∷◌, map, Some, subst}
use Rattle.std.specs.List.{list_all}
use Rattle.std.proofs.lemmas.Bool.{and_parts}
use Rattle.dcx_shape.specs.declared.shape.Sides.{Sides}
use Rattle.dcx_arena.specs.Gather.{has}
use Rattle.dcx_arena.proofs.Orders.{head_or}
use Rattle.dcx_convex.specs.Rules.{Judgement}
use Rattle.dcx_call.specs.Calls.{own_sides}

-- what has its own sides has no arguments
pub no_args : (own sides : Sides) (f : ℕ → Sides) (ids : List ℕ) (a : ℕ) → own_sides own (map f ids) ≡ Some sides → has ids a ≡ true → ⊥
no_args own sides f [] a e h = cc
no_args own sides f (i ∷ ids) a e h = cc

-- where all arguments are fixed, each is
pub all_fixed : (judged : ℕ → Judgement) (ids : List ℕ) (a : ℕ) → list_all (λ g. g.fixed) (map judged ids) ≡ true → has ids a ≡ true → (judged a).fixed ≡ true
all_fixed judged [] a t h = absurd (cc)
all_fixed judged (b ∷ ids) a t h =
    let q = and_parts (judged b).fixed (list_all (λ g. g.fixed) (map judged ids)) t in
    elim (head_or b a ids h) [
      | inl e ↦ subst (λ z. (judged z).fixed ≡ true) e q.0
      | inr r ↦ all_fixed judged ids a q.1 r
    ]
