-- Signs and moves of products, quotients and their sums.
use Rattle.std.proofs.Common.{◌≡◌, ◌⊎◌, inl, inr, ◌&&◌, ◌||◌, IsTrue, List, [], ◌∷◌, sym, ap, ◌∙◌, subst, pos}
use Rattle.std.proofs.lemmas.Bool.{and_parts, or_cases}
use Rattle.dcx_math.specs.Rational.{ℚ, whole, ◌+ℚ◌, ◌*ℚ◌, ◌/ℚ◌, inverse, ◌≤ℚ◌}
use Rattle.dcx_math.specs.Sums.{rat_sum_by}
use Rattle.dcx_math.proofs.Ring.{/ℚ-is}
use Rattle.dcx_math.proofs.Orders.{≤ℚ_refl, ≤ℚ_antisym, ≤ℚ-from_≡, *ℚ_comm, *ℚ-zero, zero-*ℚ, *ℚ-≤ℚ, +ℚ-≤ℚ, +ℚ-nonnegative, +ℚ-nonpositive}
use Rattle.dcx_math.proofs.Products.{*ℚ-≤ℚ_turned, *ℚ-nonnegative, *ℚ-nonpositive, *ℚ-nonnegative_both_negative, inverse-nonnegative, inverse-nonpositive}
use Rattle.dcx_atom.specs.declared.flags.Sign.{Sign}
use Rattle.dcx_atom.specs.declared.flags.Bend.{Bend}
use Rattle.dcx_atom.specs.declared.flags.Bend.TheVariants.{Convex, Concave}
use Rattle.dcx_atom.specs.Signs.{HasSign, IsBeyond, Follows, is_zero, product_sign, by_other}
use Rattle.dcx_atom.specs.Farthest.{beyond_refl}

-- ---- signs
zero_of : (s : Sign) (x : ℚ) → HasSign s x → IsTrue (is_zero s) → x ≡ whole (pos 0)
zero_of s x h z = let t = and_parts s.nonneg s.nonpos z in ≤ℚ_antisym (h.nonpos t.1) (h.nonneg t.0)

-- a product with 0 is 0
product_zero : (l r : Sign) (x y : ℚ) → HasSign l x → HasSign r y → IsTrue (is_zero l || is_zero r) → x *ℚ y ≡ whole (pos 0)
product_zero l r x y h k z = by (or_cases (is_zero l) (is_zero r) z)
  where
    by : IsTrue (is_zero l) ⊎ IsTrue (is_zero r) → x *ℚ y ≡ whole (pos 0)
    by (inl t) = ap (λ u. u *ℚ y) (zero_of l x h t) ∙ zero-*ℚ y
    by (inr t) = ap (λ u. x *ℚ u) (zero_of r y k t) ∙ *ℚ-zero x

product_nonneg : (l r : Sign) (x y : ℚ) → HasSign l x → HasSign r y → IsTrue (product_sign l r).nonneg → whole (pos 0) ≤ℚ x *ℚ y
product_nonneg l r x y h k t = by (or_cases (is_zero l || is_zero r) _ t)
  where
    same : IsTrue (l.nonneg && r.nonneg) ⊎ IsTrue (l.nonpos && r.nonpos) → whole (pos 0) ≤ℚ x *ℚ y
    same (inl e) = let s = and_parts l.nonneg r.nonneg e in *ℚ-nonnegative (h.nonneg s.0) (k.nonneg s.1)
    same (inr e) = let s = and_parts l.nonpos r.nonpos e in *ℚ-nonnegative_both_negative (h.nonpos s.0) (k.nonpos s.1)

    by : IsTrue (is_zero l || is_zero r) ⊎ IsTrue ((l.nonneg && r.nonneg) || (l.nonpos && r.nonpos)) → whole (pos 0) ≤ℚ x *ℚ y
    by (inl z) = ≤ℚ-from_≡ (sym (product_zero l r x y h k z))
    by (inr e) = same (or_cases (l.nonneg && r.nonneg) (l.nonpos && r.nonpos) e)

product_nonpos : (l r : Sign) (x y : ℚ) → HasSign l x → HasSign r y → IsTrue (product_sign l r).nonpos → x *ℚ y ≤ℚ whole (pos 0)
product_nonpos l r x y h k t = by (or_cases (is_zero l || is_zero r) _ t)
  where
    other : IsTrue (l.nonneg && r.nonpos) ⊎ IsTrue (l.nonpos && r.nonneg) → x *ℚ y ≤ℚ whole (pos 0)
    other (inl e) = let s = and_parts l.nonneg r.nonpos e in *ℚ-nonpositive (h.nonneg s.0) (k.nonpos s.1)
    other (inr e) = let s = and_parts l.nonpos r.nonneg e in subst (λ u. u ≤ℚ whole (pos 0)) (*ℚ_comm y x) (*ℚ-nonpositive (k.nonneg s.1) (h.nonpos s.0))

    by : IsTrue (is_zero l || is_zero r) ⊎ IsTrue ((l.nonneg && r.nonpos) || (l.nonpos && r.nonneg)) → x *ℚ y ≤ℚ whole (pos 0)
    by (inl z) = ≤ℚ-from_≡ (product_zero l r x y h k z)
    by (inr e) = other (or_cases (l.nonneg && r.nonpos) (l.nonpos && r.nonneg) e)

-- a product has the sign that is told of its sides
pub product_has_sign : (l r : Sign) (x y : ℚ) → HasSign l x → HasSign r y → HasSign (product_sign l r) (x *ℚ y)
product_has_sign l r x y h k = record { nonneg = product_nonneg l r x y h k; nonpos = product_nonpos l r x y h k }

-- the reciprocal has the sign of the number
pub inverse_has_sign : (s : Sign) (y : ℚ) → HasSign s y → HasSign s (inverse y)
inverse_has_sign s y h = record { nonneg = λ t. inverse-nonnegative y (h.nonneg t); nonpos = λ t. inverse-nonpositive y (h.nonpos t) }

pub quotient_has_sign : (l r : Sign) (x y : ℚ) → HasSign l x → HasSign r y → HasSign (product_sign l r) (x /ℚ y)
quotient_has_sign l r x y h k = subst (HasSign (product_sign l r)) (sym (/ℚ-is x y)) (product_has_sign l r x (inverse y) h (inverse_has_sign r y k))

-- so has a sum of numbers that have it
pub sum_has_sign : {A : Type 0} (s : Sign) (f : A → ℚ) (xs : List A) → ((x : A) → HasSign s (f x)) → HasSign s (rat_sum_by f xs)
sum_has_sign s f [] h = record { nonneg = λ t. ≤ℚ_refl (whole (pos 0)); nonpos = λ t. ≤ℚ_refl (whole (pos 0)) }
sum_has_sign s f (x ∷ xs) h =
    let rest = sum_has_sign s f xs h in
    record { nonneg = λ t. +ℚ-nonnegative ((h x).nonneg t) (rest.nonneg t); nonpos = λ t. +ℚ-nonpositive ((h x).nonpos t) (rest.nonpos t) }

-- ---- moves
scaled_up : (bend : Bend) (y u v : ℚ) → whole (pos 0) ≤ℚ y → IsBeyond bend u v → IsBeyond bend (y *ℚ u) (y *ℚ v)
scaled_up Convex y u v h k = *ℚ-≤ℚ h k
scaled_up Concave y u v h k = *ℚ-≤ℚ h k

scaled_down : (bend : Bend) (y u v : ℚ) → y ≤ℚ whole (pos 0) → IsBeyond bend v u → IsBeyond bend (y *ℚ u) (y *ℚ v)
scaled_down Convex y u v h k = *ℚ-≤ℚ_turned h k
scaled_down Concave y u v h k = *ℚ-≤ℚ_turned h k

-- a side of a product moves it as the sign of the other side says
pub product_beyond : (bend : Bend) (s : Sign) (y u v : ℚ) → HasSign s y → Follows bend (by_other s) u v → IsBeyond bend (y *ℚ u) (y *ℚ v)
product_beyond bend s y u v h (inl e) = subst (λ w. IsBeyond bend (y *ℚ u) (y *ℚ w)) e (beyond_refl bend (y *ℚ u))
product_beyond bend s y u v h (inr (inl k)) = scaled_up bend y u v (h.nonneg k.0) k.1
product_beyond bend s y u v h (inr (inr k)) = scaled_down bend y u v (h.nonpos k.0) k.1

pub left_beyond : (bend : Bend) (s : Sign) (y u v : ℚ) → HasSign s y → Follows bend (by_other s) u v → IsBeyond bend (u *ℚ y) (v *ℚ y)
left_beyond bend s y u v h f =
    subst (λ w. IsBeyond bend w (v *ℚ y)) (*ℚ_comm y u) (subst (λ w. IsBeyond bend (y *ℚ u) w) (*ℚ_comm y v) (product_beyond bend s y u v h f))

pub dividend_beyond : (bend : Bend) (s : Sign) (y u v : ℚ) → HasSign s y → Follows bend (by_other s) u v → IsBeyond bend (u /ℚ y) (v /ℚ y)
dividend_beyond bend s y u v h f =
    subst (λ w. IsBeyond bend w (v /ℚ y)) (sym (/ℚ-is u y)) (subst (λ w. IsBeyond bend (u *ℚ inverse y) w) (sym (/ℚ-is v y))
    (left_beyond bend s (inverse y) u v (inverse_has_sign s y h) f))

two_beyond : (bend : Bend) (a b c d : ℚ) → IsBeyond bend a b → IsBeyond bend c d → IsBeyond bend (a +ℚ c) (b +ℚ d)
two_beyond Convex a b c d h k = +ℚ-≤ℚ h k
two_beyond Concave a b c d h k = +ℚ-≤ℚ h k

-- so does a sum of numbers that move so
pub sum_beyond : {A : Type 0} (bend : Bend) (f g : A → ℚ) (xs : List A) → ((x : A) → IsBeyond bend (f x) (g x)) → IsBeyond bend (rat_sum_by f xs) (rat_sum_by g xs)
sum_beyond bend f g [] h = beyond_refl bend (whole (pos 0))
sum_beyond bend f g (x ∷ xs) h = two_beyond bend (f x) (g x) (rat_sum_by f xs) (rat_sum_by g xs) (h x) (sum_beyond bend f g xs h)
