-- Settings that end one after the other: one setting more, and what is told of each.
use Rattle.std.proofs.Common.{◌≡◌, ℕ, ◌+◌, ◌<◌, List, [], ◌∷◌, ◌++◌, length, take, get_or, refl, sym, subst}
use Rattle.std.specs.List.{AllZip}
use Rattle.dcx_math.proofs.Lists.{taken_more}
use Rattle.dcx_point.specs.Pairs.{Pairs}
use Rattle.dcx_cache.specs.InTurn.{EndInTurn}

module _ {K O : Type 0} (Ends : Pairs → K → O → K → Type 0) where
  one_more : (ss : List Pairs) (before : K) (os : List O) (mid : K) (s : Pairs) (o : O) (after : K) → EndInTurn Ends ss before os mid → Ends s mid o after
      → EndInTurn Ends (ss ++ s ∷ []) before (os ++ o ∷ []) after
  one_more [] before [] mid s o after h k = (after, subst (λ (z : K). Ends s z o after) h k, refl)
  one_more (t ∷ ss) before (q ∷ os) mid s o after (next, e, h) k = (next, e, one_more ss next os mid s o after h k)
  one_more [] before (q ∷ os) mid s o after h k = absurd h
  one_more (t ∷ ss) before [] mid s o after h k = absurd h

  -- the end of the next setting
  pub step_in_turn : (settings : List Pairs) (i : ℕ) (before : K) (os items : List O) (mid : K) (s : Pairs) (o : O) (after : K) → i < length settings → s ≡ get_or settings i s
      → items ≡ os ++ o ∷ [] → EndInTurn Ends (take i settings) before os mid → Ends s mid o after → EndInTurn Ends (take (i + 1) settings) before items after
  step_in_turn settings i before os items mid s o after lt is pushed h k =
      subst (λ (z : List Pairs). EndInTurn Ends z before items after) (sym (taken_more settings i s lt is))
      (subst (λ (z : List O). EndInTurn Ends (take i settings ++ s ∷ []) before z after) (sym pushed) (one_more (take i settings) before os mid s o after h k))

  -- what each tells of its setting
  pub each_in_turn : (R : Pairs → O → Type 0) → ((s : Pairs) (before : K) (o : O) (after : K) → Ends s before o after → R s o) → (ss : List Pairs) (before : K) (os : List O) (after : K)
      → EndInTurn Ends ss before os after → AllZip R ss os
  each_in_turn R f [] before [] after h = tt
  each_in_turn R f (s ∷ ss) before (o ∷ os) after (mid, e, h) = (f s before o mid e, each_in_turn R f ss mid os after h)
  each_in_turn R f [] before (o ∷ os) after h = absurd h
  each_in_turn R f (s ∷ ss) before [] after h = absurd h
