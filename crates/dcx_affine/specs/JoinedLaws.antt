-- The laws of joining.
use Rattle.std.specs.Prelude.{◌≡◌, ℕ, zero, suc, ◌+◌, ◌/◌, ◌%◌, ◌<◌, List, [], ◌∷◌, length, slice_index_or, Some, pos}
use Rattle.std.specs.List.{All}
use Rattle.std.proofs.Common.{refl, sym, subst, arith}
use Rattle.std.proofs.lemmas.List.Elements.{All-cons, All-nil, All-append, All-head, All-tail}
use Rattle.dcx_math.specs.Rational.{ℚ, whole, ◌+ℚ◌, ◌*ℚ◌}
use Rattle.dcx_math.specs.Sums.{IsNonnegative}
use Rattle.dcx_math.proofs.Ring.{ring, reads}
use Rattle.dcx_shape.specs.declared.shape.Sides.{Sides}
use Rattle.dcx_shape.specs.Places.{row_place}
use Rattle.dcx_shape.specs.Sides.{cols_of}
use Rattle.dcx_atom.specs.Arrays.{list_below, sides_at}
use Rattle.dcx_atom.specs.Linear.{LinearTerm, IsLinear, KeepsSign, KeepsTrend}
use Rattle.dcx_atom.proofs.LinearSums.{HasNoNegative, HasOnlyArguments, rising_trend, shared_sign, All-list_below}
use Rattle.dcx_affine.specs.declared.slots.Slot.{Slot}
use Rattle.dcx_affine.specs.declared.slots.Line.{Line}
use Rattle.dcx_affine.specs.declared.slots.Line.TheVariants.{Row, Column}
use Rattle.dcx_affine.specs.StridedLaws.{one_nonneg}
use Rattle.dcx_affine.specs.Joined.{lines_of, lined_up, slot_at, all_lines, hstack_sides, hstack_meaning, vstack_sides, vstack_meaning}

one_is : (x : ℚ) → x ≡ whole (pos 1) *ℚ x +ℚ whole (pos 0)
one_is x = ring (x ∷ []) (search reads depth 30) tt

-- each line is of an argument that there is
lined_within : (line : Line) (i : ℕ) (args : List Sides) (n : ℕ) → i + length args ≡ n → All (λ x. x.argument < n) (lined_up line i args)
lined_within line i [] n e = All-nil (λ x. x.argument < n)
lined_within line i (s ∷ rest) n e =
    All-append (λ x. x.argument < n) (list_below (lines_of line s) (λ p. record { argument = i; place = p })) (lined_up line (suc i) rest)
    (All-list_below (λ x. x.argument < n) (lines_of line s) (λ p. record { argument = i; place = p }) (λ p b. omega (arith, e)))
    (lined_within line (suc i) rest n (omega (arith, e)))

each_within : (n : ℕ) (xs : List Slot) (c : ℕ) (d : Slot) → All (λ x. x.argument < n) xs → d.argument < n → (slice_index_or xs c d).argument < n
each_within n [] c d h k = k
each_within n (x ∷ xs) zero d h k = All-head (λ x. x.argument < n) x xs h
each_within n (x ∷ xs) (suc c) d h k = each_within n xs c d (All-tail (λ x. x.argument < n) x xs h) k

slot_within : (line : Line) (args : List Sides) (c : ℕ) → 0 < length args → (slot_at line args c).argument < length args
slot_within line args c some = each_within (length args) (lined_up line 0 args) c (record { argument = 0; place = 0 }) (lined_within line 0 args (length args) (omega arith)) some

one_nonneg_term : (t : LinearTerm) → t.coefficient ≡ whole (pos 1) → All (λ x. IsNonnegative x.coefficient) (t ∷ [])
one_nonneg_term t e = All-cons (λ x. IsNonnegative x.coefficient) t [] (subst IsNonnegative (sym e) one_nonneg) (All-nil (λ x. IsNonnegative x.coefficient))

one_within_term : (n : ℕ) (t : LinearTerm) → t.argument < n → All (λ x. x.argument < n) (t ∷ [])
one_within_term n t h = All-cons (λ x. x.argument < n) t [] h (All-nil (λ x. x.argument < n))

-- ---- side by side
pub hstack_linear : IsLinear hstack_meaning
hstack_linear args to e k b a = let x = slot_at Column args (k % all_lines Column args) in one_is (a x.argument (row_place (sides_at args x.argument) (k / all_lines Column args) x.place))

hstack_nonneg : HasNoNegative hstack_meaning
hstack_nonneg args to e k b = one_nonneg_term _ refl

some_side_by_side : (args : List Sides) (to : Sides) → hstack_sides args ≡ Some to → 0 < length args
some_side_by_side [] to e = cc
some_side_by_side (s ∷ rest) to e = omega arith

hstack_within : HasOnlyArguments hstack_meaning
hstack_within args to e k b = one_within_term (length args) _ (slot_within Column args (k % all_lines Column args) (some_side_by_side args to e))

pub hstack_sign : KeepsSign hstack_meaning
hstack_sign = shared_sign hstack_meaning hstack_linear (λ signs. refl) hstack_nonneg hstack_within

pub hstack_trend : KeepsTrend hstack_meaning
hstack_trend = rising_trend hstack_meaning hstack_linear (λ i. refl) hstack_nonneg

-- ---- one below the other
pub vstack_linear : IsLinear vstack_meaning
vstack_linear args to e k b a =
    let n = cols_of (sides_at args 0) in
    let x = slot_at Row args (k / n) in one_is (a x.argument (row_place (sides_at args x.argument) x.place (k % n)))

vstack_nonneg : HasNoNegative vstack_meaning
vstack_nonneg args to e k b = one_nonneg_term _ refl

some_below : (args : List Sides) (to : Sides) → vstack_sides args ≡ Some to → 0 < length args
some_below [] to e = cc
some_below (s ∷ rest) to e = omega arith

vstack_within : HasOnlyArguments vstack_meaning
vstack_within args to e k b = one_within_term (length args) _ (slot_within Row args (k / cols_of (sides_at args 0)) (some_below args to e))

pub vstack_sign : KeepsSign vstack_meaning
vstack_sign = shared_sign vstack_meaning vstack_linear (λ signs. refl) vstack_nonneg vstack_within

pub vstack_trend : KeepsTrend vstack_meaning
vstack_trend = rising_trend vstack_meaning vstack_linear (λ i. refl) vstack_nonneg
