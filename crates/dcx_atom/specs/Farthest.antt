-- The greatest and the least of numbers: one is the other turned round.
use Rattle.std.proofs.Common.{◌<◌, arith, List, [], ◌∷◌, length, All, sym, subst, ⊎_elim, pos}
use Rattle.std.proofs.lemmas.List.Elements.{All-head, All-tail, All-cons, All-nil}
use Rattle.dcx_math.specs.Rational.{ℚ, whole, rat_max, rat_min}
use Rattle.dcx_math.proofs.Orders.{≤ℚ_refl, ≤ℚ_trans}
use Rattle.dcx_math.proofs.Bounds.{≤ℚ-rat_max_left, ≤ℚ-rat_max_right, rat_max-≤ℚ, rat_min-≤ℚ_left, rat_min-≤ℚ_right, ≤ℚ-rat_min, rat_max-cases, rat_min-cases}
use Rattle.dcx_atom.specs.declared.flags.Bend.{Bend}
use Rattle.dcx_atom.specs.declared.flags.Bend.TheVariants.{Convex, Concave}
use Rattle.dcx_atom.specs.Signs.{IsBeyond}

-- the greater of two numbers, or the lesser for a concave call
abbrev pub farther : Bend → ℚ → ℚ → ℚ
farther Convex x y = rat_max x y
farther Concave x y = rat_min x y

-- the greatest of x and the others, or the least
abbrev pub extreme_from : Bend → ℚ → List ℚ → ℚ
extreme_from bend x [] = x
extreme_from bend x (y ∷ ys) = extreme_from bend (farther bend x y) ys

-- the greatest number of a list, or the least; 0 of none
abbrev pub extreme : Bend → List ℚ → ℚ
extreme bend [] = whole (pos 0)
extreme bend (x ∷ xs) = extreme_from bend x xs

pub beyond_refl : (bend : Bend) (x : ℚ) → IsBeyond bend x x
beyond_refl Convex x = ≤ℚ_refl x
beyond_refl Concave x = ≤ℚ_refl x

pub beyond_trans : (bend : Bend) (x y z : ℚ) → IsBeyond bend x y → IsBeyond bend y z → IsBeyond bend x z
beyond_trans Convex x y z h k = ≤ℚ_trans h k
beyond_trans Concave x y z h k = ≤ℚ_trans k h

pub farther_left : (bend : Bend) (x y : ℚ) → IsBeyond bend x (farther bend x y)
farther_left Convex x y = ≤ℚ-rat_max_left x y
farther_left Concave x y = rat_min-≤ℚ_left x y

pub farther_right : (bend : Bend) (x y : ℚ) → IsBeyond bend y (farther bend x y)
farther_right Convex x y = ≤ℚ-rat_max_right x y
farther_right Concave x y = rat_min-≤ℚ_right x y

pub farther_within : (bend : Bend) (x y z : ℚ) → IsBeyond bend x z → IsBeyond bend y z → IsBeyond bend (farther bend x y) z
farther_within Convex x y z h k = rat_max-≤ℚ h k
farther_within Concave x y z h k = ≤ℚ-rat_min h k

-- it is beyond the first
from_first : (bend : Bend) (x : ℚ) (ys : List ℚ) → IsBeyond bend x (extreme_from bend x ys)
from_first bend x [] = beyond_refl bend x
from_first bend x (y ∷ ys) = beyond_trans bend _ _ _ (farther_left bend x y) (from_first bend (farther bend x y) ys)

-- and beyond the others
from_others : (bend : Bend) (x : ℚ) (ys : List ℚ) → All (λ y. IsBeyond bend y (extreme_from bend x ys)) ys
from_others bend x [] = All-nil (λ y. IsBeyond bend y x)
from_others bend x (y ∷ ys) =
    All-cons (λ z. IsBeyond bend z (extreme_from bend (farther bend x y) ys)) y ys
    (beyond_trans bend _ _ _ (farther_right bend x y) (from_first bend (farther bend x y) ys)) (from_others bend (farther bend x y) ys)

-- it isn't beyond what is beyond all of them
from_within : (bend : Bend) (x : ℚ) (ys : List ℚ) (z : ℚ) → IsBeyond bend x z → All (λ y. IsBeyond bend y z) ys → IsBeyond bend (extreme_from bend x ys) z
from_within bend x [] z h k = h
from_within bend x (y ∷ ys) z h k =
    from_within bend (farther bend x y) ys z (farther_within bend x y z h (All-head (λ y. IsBeyond bend y z) y ys k)) (All-tail (λ y. IsBeyond bend y z) y ys k)

-- one of two numbers is the farther one
farther_among : (bend : Bend) (P : ℚ → Type 0) (x y : ℚ) → P x → P y → P (farther bend x y)
farther_among Convex P x y p q = ⊎_elim (λ h. subst P (sym h.0) q) (λ h. subst P (sym h.0) p) (rat_max-cases x y)
farther_among Concave P x y p q = ⊎_elim (λ h. subst P (sym h.0) p) (λ h. subst P (sym h.0) q) (rat_min-cases x y)

from_among : (bend : Bend) (P : ℚ → Type 0) (x : ℚ) (ys : List ℚ) → P x → All P ys → P (extreme_from bend x ys)
from_among bend P x [] p h = p
from_among bend P x (y ∷ ys) p h = from_among bend P (farther bend x y) ys (farther_among bend P x y p (All-head P y ys h)) (All-tail P y ys h)

-- what holds of each number, and of 0, holds of the greatest or least
pub extreme_among : (bend : Bend) (P : ℚ → Type 0) (xs : List ℚ) → P (whole (pos 0)) → All P xs → P (extreme bend xs)
extreme_among bend P [] p h = p
extreme_among bend P (x ∷ xs) p h = from_among bend P x xs (All-head P x xs h) (All-tail P x xs h)

-- the greatest or least of a list is beyond each number
pub extreme_each : (bend : Bend) (xs : List ℚ) → All (λ x. IsBeyond bend x (extreme bend xs)) xs
extreme_each bend [] = All-nil (λ x. IsBeyond bend x (whole (pos 0)))
extreme_each bend (x ∷ xs) = All-cons (λ y. IsBeyond bend y (extreme_from bend x xs)) x xs (from_first bend x xs) (from_others bend x xs)

-- and what is beyond each number is beyond it
pub extreme_within : (bend : Bend) (xs : List ℚ) (z : ℚ) → 0 < length xs → All (λ x. IsBeyond bend x z) xs → IsBeyond bend (extreme bend xs) z
extreme_within bend [] z n h = absurd (omega arith)
extreme_within bend (x ∷ xs) z n h = from_within bend x xs z (All-head (λ y. IsBeyond bend y z) x xs h) (All-tail (λ y. IsBeyond bend y z) x xs h)
