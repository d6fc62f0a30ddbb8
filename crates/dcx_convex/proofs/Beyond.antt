-- Being beyond a number is an order, and an argument that suits a call follows its trend.
use Rattle.std.proofs.Common.{◌≡◌, inl, inr, ℕ, zero, suc, IsTrue, List, [], ◌∷◌, map, All, refl, subst}
use Rattle.std.specs.Prelude.{◌⊎◌, ◌&&◌, ◌||◌}
use Rattle.std.proofs.lemmas.Bool.{and_parts, or_cases}
use Rattle.std.proofs.lemmas.List.Elements.{All-head, All-tail}
use Rattle.dcx_math.specs.Rational.{ℚ}
use Rattle.dcx_math.proofs.Orders.{≤ℚ_antisym}
use Rattle.dcx_atom.specs.declared.flags.Trend.{Trend}
use Rattle.dcx_atom.specs.declared.flags.Bend.{Bend}
use Rattle.dcx_atom.specs.declared.flags.Bend.TheVariants.{Convex, Concave}
use Rattle.dcx_atom.specs.Signs.{IsBeyond, Follows}
use Rattle.dcx_convex.specs.Nodes.{Numbers, arguments}
use Rattle.dcx_convex.specs.Rules.{Judgement, is_affine, is_bent, opposite, suits, all_suit}
use Rattle.dcx_atom.specs.Farthest.{beyond_refl}

pub beyond_same : (bend : Bend) {x y : ℚ} → x ≡ y → IsBeyond bend x y
beyond_same bend {x} {y} e = subst (λ u. IsBeyond bend x u) e (beyond_refl bend x)

pub beyond_turned : (bend : Bend) (x y : ℚ) → IsBeyond (opposite bend) x y → IsBeyond bend y x
beyond_turned Convex x y h = h
beyond_turned Concave x y h = h

-- y lies beyond x as far as the judgement says
abbrev pub IsBeyondAs : Judgement → ℚ → ℚ → Type 0
IsBeyondAs g x y = (bend : Bend) → IsTrue (is_bent bend g) → IsBeyond bend x y

-- what is affine is the same
pub affine_same : (g : Judgement) (x y : ℚ) → IsTrue (is_affine g) → IsBeyondAs g x y → x ≡ y
affine_same g x y t h = let b = and_parts g.convex g.concave t in ≤ℚ_antisym (h Convex b.0) (h Concave b.1)

-- an argument that suits a call follows its trend
pub follows : (bend : Bend) (trend : Trend) (g : Judgement) (x y : ℚ) → IsTrue (suits bend trend g) → IsBeyondAs g x y → Follows bend trend x y
follows bend trend g x y t h = by (or_cases (is_affine g) ((is_bent bend g && trend.rising) || (is_bent (opposite bend) g && trend.falling)) t)
  where
    then : IsTrue (is_bent bend g && trend.rising) ⊎ IsTrue (is_bent (opposite bend) g && trend.falling) → Follows bend trend x y
    then (inl k) = let b = and_parts (is_bent bend g) trend.rising k in inr (inl (b.1, h bend b.0))
    then (inr k) = let b = and_parts (is_bent (opposite bend) g) trend.falling k in inr (inr (b.1, beyond_turned bend x y (h (opposite bend) b.0)))

    by : IsTrue (is_affine g) ⊎ IsTrue ((is_bent bend g && trend.rising) || (is_bent (opposite bend) g && trend.falling)) → Follows bend trend x y
    by (inl k) = inl (affine_same g x y k h)
    by (inr k) = then (or_cases (is_bent bend g && trend.rising) (is_bent (opposite bend) g && trend.falling) k)

-- and so do all arguments, where it is known of nodes that meet P
pub args_follow : (bend : Bend) (trend : ℕ → Trend) (judged : ℕ → Judgement) (v w : ℕ → Numbers) (P : ℕ → Type 0)
    → ((i : ℕ) → P i → (j : ℕ) → IsBeyondAs (judged i) (v i j) (w i j)) → (args : List ℕ) → All P args →
    IsTrue (all_suit bend trend (map judged args)) → (k e : ℕ) → Follows bend (trend k) (arguments (map v args) k e) (arguments (map w args) k e)
args_follow bend trend judged v w P h [] all t k e = inl refl
args_follow bend trend judged v w P h (i ∷ args) all t zero e =
    follows bend (trend 0) (judged i) (v i e) (w i e) (and_parts (suits bend (trend 0) (judged i)) (all_suit bend (λ k. trend (suc k)) (map judged args)) t).0 (h i (All-head P i args all) e)
args_follow bend trend judged v w P h (i ∷ args) all t (suc k) e =
    args_follow bend (λ k. trend (suc k)) judged v w P h args (All-tail P i args all) (and_parts (suits bend (trend 0) (judged i)) (all_suit bend (λ k. trend (suc k)) (map judged args)) t).1 k e
