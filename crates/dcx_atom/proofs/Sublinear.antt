-- A call with a sound and tight graph is sublinear, or superlinear where it is concave. So it is convex or concave, and
-- recedes.
use Rattle.std.proofs.Common.{◌≡◌, subst, ◌∙◌, ap, ap₂, pos}
use Rattle.dcx_math.specs.Rational.{ℚ, whole, ◌+ℚ◌, ◌*ℚ◌}
use Rattle.dcx_math.specs.Sums.{IsNonnegative}
use Rattle.dcx_math.proofs.Orders.{*ℚ_idl, whole-≤ℤ, +ℚ_idr, zero-*ℚ}
use Rattle.dcx_shape.specs.Sides.{entries_of}
use Rattle.dcx_atom.specs.Arrays.{Entries}
use Rattle.dcx_atom.specs.Signs.{IsBeyond, combination, shifted}
use Rattle.dcx_atom.specs.Rows.{form_at}
use Rattle.dcx_atom.specs.Meaning.{Meaning}
use Rattle.dcx_atom.specs.Laws.{ForEachEntry, GraphHolds, IsSoundGraph, IsTightGraph, IsBent, Recedes}
use Rattle.dcx_atom.proofs.RowSums.{filling_combination, rows_combination, form_combination, nonnegative_combination}

-- the value at a combination isn't beyond the combination of the values
abbrev pub IsSublinear : Meaning → Type 0
IsSublinear m = ForEachEntry m (λ args j. (p q : ℚ) (a b : Entries) → IsNonnegative p → IsNonnegative q →
    IsBeyond m.bend (m.value args (combination p q a b) j) (p *ℚ m.value args a j +ℚ q *ℚ m.value args b j))

-- the combination of the fillings makes the rows hold
pub sublinear : (m : Meaning) → IsSoundGraph m → IsTightGraph m → IsSublinear m
sublinear m sound tight args sides is j below p q a b hp hq =
    let u = m.filling args a in
    let v = m.filling args b in
    let left = tight args sides is a in
    let right = tight args sides is b in
    let holds : GraphHolds m args (entries_of sides) (combination p q a b) (filling_combination p q u v) = record {
      kinds = λ k nonneg. nonnegative_combination hp hq (left.holds.kinds k nonneg) (right.holds.kinds k nonneg);
      rows = λ k within. rows_combination (m.rows args k) a b u v hp hq (left.holds.rows k within) (right.holds.rows k within);
    } in
    let same : form_at (m.result args j) (filling_combination p q u v) ≡ p *ℚ m.value args a j +ℚ q *ℚ m.value args b j =
    form_combination p q (m.result args j) u v ∙ ap₂ (λ x y. p *ℚ x +ℚ q *ℚ y) (left.reaches j below) (right.reaches j below) in
    subst (λ y. IsBeyond m.bend (m.value args (combination p q a b) j) y) same (sound args sides is (combination p q a b) (filling_combination p q u v) holds j below)

-- the curvature law of a call with a sound and tight graph
pub curvature_of : (m : Meaning) → IsSoundGraph m → IsTightGraph m → IsBent m
curvature_of m sound tight args sides is j below p q a b hp hq one = sublinear m sound tight args sides is j below p q a b hp hq

-- 1 a + k b is a + k b
pub one_combination : (a : Entries) (k : ℚ) (b : Entries) → combination (whole (pos 1)) k a b ≡ shifted a k b
one_combination a k b = λ t i j. *ℚ_idl (a i j) t +ℚ k *ℚ b i j

-- a + 0 b is a
none_added : (x y : ℚ) → x +ℚ whole (pos 0) *ℚ y ≡ x
none_added x y = ap (λ z. x +ℚ z) (zero-*ℚ y) ∙ +ℚ_idr x

pub none_shifted : (a b : Entries) → shifted a (whole (pos 0)) b ≡ a
none_shifted a b = λ t i j. none_added (a i j) (b i j) t

-- the recession law of a call with a sound and tight graph
pub recession_of : (m : Meaning) → IsSoundGraph m → IsTightGraph m → Recedes m
recession_of m sound tight args sides is j below a b k hk =
    subst (λ y. IsBeyond m.bend (m.value args (shifted a k b) j) y) (ap (λ x. x +ℚ k *ℚ m.value args b j) (*ℚ_idl (m.value args a j)))
    (subst (λ x. IsBeyond m.bend (m.value args x j) (whole (pos 1) *ℚ m.value args a j +ℚ k *ℚ m.value args b j)) (one_combination a k b)
    (sublinear m sound tight args sides is j below (whole (pos 1)) k a b (whole-≤ℤ (pos 0) (pos 1) (record { le = tt })) hk))
