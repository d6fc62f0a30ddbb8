-- Each call keeps its sign and its trends: by the laws of nonlinear and of linear calls, and of products.
use Rattle.std.proofs.Common.{◌≡◌, ◌≢◌, inl, inr, ℕ, zero, suc, ◌<◌, arith, true, false, List, [], ◌∷◌, Some, sym, subst, pos}
use Rattle.std.specs.List.{list_all}
use Rattle.std.proofs.lemmas.Bool.{and_parts}
use native.Mathlib.Decide.{dec_lt}
use Rattle.dcx_math.specs.Rational.{ℚ, whole, rat_le, ◌≤ℚ◌}
use Rattle.dcx_math.proofs.Orders.{≤ℚ_refl}
use Rattle.dcx_math.proofs.Ratios.{IsTrue-rat_le}
use Rattle.dcx_frac.specs.declared.fraction.Frac.{Frac}
use Rattle.dcx_frac.specs.Frac.{value}
use Rattle.dcx_shape.specs.declared.shape.Sides.{Sides}
use Rattle.dcx_shape.specs.Shape.{sides_of}
use Rattle.dcx_shape.specs.Sides.{entries_of}
use Rattle.dcx_atom.specs.declared.flags.Sign.{Sign}
use Rattle.dcx_atom.specs.declared.flags.Trend.{Trend}
use Rattle.dcx_atom.specs.declared.flags.Bend.{Bend}
use Rattle.dcx_atom.specs.Arrays.{Entries, number_at, sides_at}
use Rattle.dcx_atom.specs.Signs.{HasSign, sign_at, HaveSigns, Follows, IsBeyond, no_trend, product_sign, by_other}
use Rattle.dcx_atom.specs.Farthest.{beyond_refl}
use Rattle.dcx_atom.proofs.SignedProducts.{product_has_sign, quotient_has_sign, sum_has_sign, product_beyond, left_beyond, dividend_beyond, sum_beyond}
use Rattle.dcx_affine.specs.declared.pairing.Pairing.{Pairing}
use Rattle.dcx_affine.specs.declared.pairing.Pairing.TheVariants.{Times, MatTimes, Over}
use Rattle.dcx_affine.specs.declared.pairing.Pair.{Pair}
use Rattle.dcx_affine.specs.Pairing.{pairs_at}
use Rattle.dcx_call.specs.declared.attribute.Attribute.{Attribute}
use Rattle.dcx_call.specs.declared.attribute.Attribute.TheVariants.{Free, Nonneg, Nonpos, Symmetric, Diag}
use Rattle.dcx_call.specs.declared.call.Call.{Call}
use Rattle.dcx_call.specs.declared.call.Call.TheVariants as calls
use Rattle.dcx_call.specs.Attributes.{attribute_sign, counted, IsWithin}
use Rattle.dcx_call.specs.Atoms.{atom_meaning, atom_lawful}
use Rattle.dcx_call.specs.Linears.{linear_meaning, linear_lawful}
use Rattle.dcx_call.specs.Calls.{own_sides, pairing_trend}
use Rattle.dcx_call.specs.Values.{pairing_value}
use Rattle.dcx_call.specs.Laws.{KeepsSign, KeepsTrend, HoldsForCalls}

-- ---- leaves
pub own_is : (own : Sides) (args : List Sides) (sides : Sides) → own_sides own args ≡ Some sides → own ≡ sides
own_is own [] sides e = cc
own_is own (a ∷ rest) sides e = cc

no_sign : (x : ℚ) → HasSign (record { nonneg = false; nonpos = false }) x
no_sign x = record { nonneg = λ t. cc; nonpos = λ t. cc }

attribute_has_sign : (attribute : Attribute) (sides : Sides) (x : ℕ → ℚ) → IsWithin attribute sides x → (j : ℕ) → j < entries_of sides → HasSign (attribute_sign attribute) (x j)
attribute_has_sign Free sides x h j b = no_sign (x j)
attribute_has_sign Nonneg sides x h j b = record { nonneg = λ t. h j b; nonpos = λ t. cc }
attribute_has_sign Nonpos sides x h j b = record { nonneg = λ t. cc; nonpos = λ t. h j b }
attribute_has_sign Symmetric sides x h j b = no_sign (x j)
attribute_has_sign Diag sides x h j b = no_sign (x j)

numbers_nonneg : (xs : List Frac) → list_all (λ x. rat_le (whole (pos 0)) (value x)) xs ≡ true → (j : ℕ) → whole (pos 0) ≤ℚ number_at xs j
numbers_nonneg [] h j = ≤ℚ_refl (whole (pos 0))
numbers_nonneg (x ∷ xs) h zero = (IsTrue-rat_le (whole (pos 0)) (value x)).0 (and_parts (rat_le (whole (pos 0)) (value x)) (list_all (λ x. rat_le (whole (pos 0)) (value x)) xs) h).0
numbers_nonneg (x ∷ xs) h (suc j) = numbers_nonneg xs (and_parts _ _ h).1 j

numbers_nonpos : (xs : List Frac) → list_all (λ x. rat_le (value x) (whole (pos 0))) xs ≡ true → (j : ℕ) → number_at xs j ≤ℚ whole (pos 0)
numbers_nonpos [] h j = ≤ℚ_refl (whole (pos 0))
numbers_nonpos (x ∷ xs) h zero = (IsTrue-rat_le (value x) (whole (pos 0))).0 (and_parts (rat_le (value x) (whole (pos 0))) (list_all (λ x. rat_le (value x) (whole (pos 0))) xs) h).0
numbers_nonpos (x ∷ xs) h (suc j) = numbers_nonpos xs (and_parts _ _ h).1 j

-- ---- products and quotients
pairing_has_sign : (p : Pairing) (pairs : List Pair) (l r : Sign) (x y : ℕ → ℚ) → ((j : ℕ) → HasSign l (x j)) → ((j : ℕ) → HasSign r (y j)) →
    HasSign (product_sign l r) (pairing_value p pairs x y)
pairing_has_sign Times pairs l r x y h k = sum_has_sign (product_sign l r) _ pairs (λ q. product_has_sign l r (x q.left) (y q.right) (h q.left) (k q.right))
pairing_has_sign MatTimes pairs l r x y h k = sum_has_sign (product_sign l r) _ pairs (λ q. product_has_sign l r (x q.left) (y q.right) (h q.left) (k q.right))
pairing_has_sign Over pairs l r x y h k = sum_has_sign (product_sign l r) _ pairs (λ q. quotient_has_sign l r (x q.left) (y q.right) (h q.left) (k q.right))

-- the left side moves
left_moves : (bend : Bend) (p : Pairing) (pairs : List Pair) (s : Sign) (u v y z : ℕ → ℚ) → ((j : ℕ) → HasSign s (y j)) → ((j : ℕ) → y j ≡ z j) → ((j : ℕ) → Follows bend (by_other s) (u j) (v j)) →
    IsBeyond bend (pairing_value p pairs u y) (pairing_value p pairs v z)
left_moves bend Times pairs s u v y z h e f =
    sum_beyond bend _ _ pairs (λ q. rw (← e q.right) (left_beyond bend s (y q.right) (u q.left) (v q.left) (h q.right) (f q.left)))
left_moves bend MatTimes pairs s u v y z h e f =
    sum_beyond bend _ _ pairs (λ q. rw (← e q.right) (left_beyond bend s (y q.right) (u q.left) (v q.left) (h q.right) (f q.left)))
left_moves bend Over pairs s u v y z h e f =
    sum_beyond bend _ _ pairs (λ q. rw (← e q.right) (dividend_beyond bend s (y q.right) (u q.left) (v q.left) (h q.right) (f q.left)))

-- both sides stay
both_stay : (bend : Bend) (p : Pairing) (pairs : List Pair) (u v y z : ℕ → ℚ) → ((j : ℕ) → u j ≡ v j) → ((j : ℕ) → y j ≡ z j) → IsBeyond bend (pairing_value p pairs u y) (pairing_value p pairs v z)
both_stay bend p pairs u v y z d e =
    subst (λ w. IsBeyond bend (pairing_value p pairs u y) (pairing_value p pairs w z)) (λ i j. d j i)
    (subst (λ w. IsBeyond bend (pairing_value p pairs u y) (pairing_value p pairs u w)) (λ i j. e j i) (beyond_refl bend (pairing_value p pairs u y)))

-- what has no trend only stays
stays : (bend : Bend) (x y : ℚ) → Follows bend no_trend x y → x ≡ y
stays bend x y (inl e) = e
stays bend x y (inr (inl h)) = let f = h.0 in cc
stays bend x y (inr (inr h)) = let f = h.0 in cc

-- the right side moves
right_moves : (bend : Bend) (p : Pairing) (pairs : List Pair) (signs : List Sign) (i : ℕ) (x w u v : ℕ → ℚ) → ((j : ℕ) → HasSign (sign_at signs 0) (x j)) → ((j : ℕ) → x j ≡ w j) →
    ((j : ℕ) → Follows bend (pairing_trend p signs (suc i)) (u j) (v j)) → IsBeyond bend (pairing_value p pairs x u) (pairing_value p pairs w v)
right_moves bend Times pairs signs i x w u v h e f =
    sum_beyond bend _ _ pairs (λ q. rw (← e q.left) (product_beyond bend (sign_at signs 0) (x q.left) (u q.right) (v q.right) (h q.left) (f q.right)))
right_moves bend MatTimes pairs signs i x w u v h e f =
    sum_beyond bend _ _ pairs (λ q. rw (← e q.left) (product_beyond bend (sign_at signs 0) (x q.left) (u q.right) (v q.right) (h q.left) (f q.right)))
right_moves bend Over pairs signs i x w u v h e f = both_stay bend Over pairs x w u v e (λ j. stays bend (u j) (v j) (f j))

pairing_moves : (bend : Bend) (p : Pairing) (pairs : List Pair) (signs : List Sign) (a b : Entries) → HaveSigns signs a → (i : ℕ) → ((k e : ℕ) → k ≢ i → a k e ≡ b k e) →
    ((e : ℕ) → Follows bend (pairing_trend p signs i) (a i e) (b i e)) → IsBeyond bend (pairing_value p pairs (a 0) (a 1)) (pairing_value p pairs (b 0) (b 1))
pairing_moves bend p pairs signs a b h zero d f = left_moves bend p pairs (sign_at signs 1) (a 0) (b 0) (a 1) (b 1) (h 1) (λ j. d 1 j (λ e. absurd (omega arith))) f
pairing_moves bend p pairs signs a b h (suc zero) d f = right_moves bend p pairs signs 0 (a 0) (b 0) (a 1) (b 1) (h 0) (λ j. d 0 j (λ e. absurd (omega arith))) f
pairing_moves bend p pairs signs a b h (suc (suc i)) d f =
    both_stay bend p pairs (a 0) (b 0) (a 1) (b 1) (λ j. d 0 j (λ e. absurd (omega arith))) (λ j. d 1 j (λ e. absurd (omega arith)))

-- ---- where one argument moves, each moves as it may
each_follows : (bend : Bend) (trend : ℕ → Trend) (a b : Entries) (i : ℕ) → ((k e : ℕ) → k ≢ i → a k e ≡ b k e) → ((e : ℕ) → Follows bend (trend i) (a i e) (b i e)) →
    (k e : ℕ) → Follows bend (trend k) (a k e) (b k e)
each_follows bend trend a b i d f k e = by (dec_lt k i) (dec_lt i k)
  where
    by : Dec (k < i) → Dec (i < k) → Follows bend (trend k) (a k e) (b k e)
    by (yes h) g = inl (d k e (λ q. absurd (omega arith)))
    by (no n) (yes h) = inl (d k e (λ q. absurd (omega arith)))
    by (no n) (no m) = let q : i ≡ k = omega arith in subst (λ z. Follows bend (trend z) (a z e) (b z e)) q (f e)

-- ---- all calls
call_sign : (call : Call) → KeepsSign call
call_sign (calls.Variable v) setting point args sides is taken signs a n h j b =
    attribute_has_sign (counted v.whole v.attribute) (sides_of v.shape) (point v.name) taken j (subst (λ s. j < entries_of s) (sym (own_is (sides_of v.shape) args sides is)) b)
call_sign (calls.Parameter p) setting point args sides is taken signs a n h j b =
    attribute_has_sign p.attribute (sides_of p.shape) (setting p.name) taken j (subst (λ s. j < entries_of s) (sym (own_is (sides_of p.shape) args sides is)) b)
call_sign (calls.Constant x) setting point args sides is taken signs a n h j b =
    record { nonneg = λ t. numbers_nonneg x.entries t j; nonpos = λ t. numbers_nonpos x.entries t j }
call_sign (calls.Atom m) setting point args sides is taken signs a n h j b = (atom_lawful m).sign args sides is j b signs a n h
call_sign (calls.Linear l) setting point args sides is taken signs a n h j b = (linear_lawful l).sign args sides is j b signs a n h
call_sign (calls.Pairing p) setting point args sides is taken signs a n h j b =
    pairing_has_sign p (pairs_at p (sides_at args 0) (sides_at args 1) j) (sign_at signs 0) (sign_at signs 1) (a 0) (a 1) (h 0) (h 1)

call_trend : (call : Call) → KeepsTrend call
call_trend (calls.Variable v) setting point args sides is bend may signs a b h i d f j below = beyond_refl bend (point v.name j)
call_trend (calls.Parameter p) setting point args sides is bend may signs a b h i d f j below = beyond_refl bend (setting p.name j)
call_trend (calls.Constant x) setting point args sides is bend may signs a b h i d f j below = beyond_refl bend (number_at x.entries j)
call_trend (calls.Atom m) setting point args sides is bend may signs a b h i d f j below =
    subst (λ way. IsBeyond way ((atom_meaning m).value args a j) ((atom_meaning m).value args b j)) may
    ((atom_lawful m).monotonicity args sides is j below signs a b h
    (λ k e. subst (λ way. Follows way ((atom_meaning m).trend k (sign_at signs k)) (a k e) (b k e)) (sym may)
    (each_follows bend (λ k. (atom_meaning m).trend k (sign_at signs k)) a b i d f k e)))
call_trend (calls.Linear l) setting point args sides is bend may signs a b h i d f j below =
    (linear_lawful l).monotonicity args sides is j below bend a b (each_follows bend (linear_meaning l).trend a b i d f)
call_trend (calls.Pairing p) setting point args sides is bend may signs a b h i d f j below =
    pairing_moves bend p (pairs_at p (sides_at args 0) (sides_at args 1) j) signs a b h i d f

pub calls_hold : HoldsForCalls
calls_hold = record { sign = call_sign; trend = call_trend }
