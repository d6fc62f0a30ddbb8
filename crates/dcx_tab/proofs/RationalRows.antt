-- Rows at rational assignments.
use Rattle.std.proofs.Common.{◌≡◌, ℕ, zero, suc, ◌+◌, ◌<◌, ◌≤◌, List, [], ◌∷◌, ◌++◌, length, ℤ, pos, ◌*ℤ◌, ◌<ℤ◌, arith, refl, sym, ap, ap₂, ◌∙◌}
use Rattle.std.proofs.lemmas.Int.{ints}
use Rattle.std.proofs.lemmas.List.{length-append, length-map}
use Rattle.dcx_math.specs.Rational.{ℚ, ratio, whole, ◌+ℚ◌, ◌*ℚ◌}
use Rattle.dcx_math.specs.Sums.{rat_dot, rat_added, rat_scaled, rat_sum_below}
use Rattle.dcx_math.proofs.Points.{wholes, over, rat_dot-over, rat_dot-wholes}
use Rattle.dcx_math.proofs.Denominators.{by_point, whole-ratio, ratio-≡}
use Rattle.dcx_math.proofs.FieldLaws.{≡ℚ_prop, +ℚ_idl}
use Rattle.dcx_math.proofs.Orders.{+ℚ_assoc, zero-*ℚ}
use Rattle.dcx_math.proofs.Vectors.{rat_dot-nil, rat_dot-added_right, rat_dot-scaled_right, length-rat_scaled}
use Rattle.dcx_math.proofs.Ring.{ring, reads}
use Rattle.dcx_math.specs.Integers.{*ℤ_idl}
use Rattle.dcx_math.specs.IntegerSums.{int_dot}
use Rattle.dcx_tab.specs.Rows.{Row, Assignment, entry, row_at, Solves}
use Rattle.dcx_tab.proofs.RowLaws.{unit, int_dot-unit}
use Rattle.dcx_math.proofs.IntegerVectors.{int_scaled-one}

-- each row holds at rational numbers
abbrev pub SolvesRational : List Row → List ℚ → Type 0
SolvesRational rows x = (i : ℕ) → i < length rows → rat_dot (wholes (row_at rows i)) x ≡ whole (pos 0)

zero_over : (d : ℤ) (p : pos 0 <ℤ d) → whole (pos 0) ≡ ratio (pos 0) d p
zero_over d p = whole-ratio d p (pos 0) ∙ ap (λ z. ratio z d p) (omega (arith, ints))

pub rational_of : (rows : List Row) (d : ℤ) (p : pos 0 <ℤ d) (ns : List ℤ) → Solves rows ns → SolvesRational rows (over d p ns)
rational_of rows d p ns h i l = rat_dot-over d p (row_at rows i) ns ∙ ap (λ z. ratio z d p) (h i l) ∙ sym (zero_over d p)

pub integer_of : (rows : List Row) (d : ℤ) (p : pos 0 <ℤ d) (ns : List ℤ) → SolvesRational rows (over d p ns) → Solves rows ns
integer_of rows d p ns h i l = (ratio-≡ d p (int_dot (row_at rows i) ns) (pos 0)).0 (sym (rat_dot-over d p (row_at rows i) ns) ∙ h i l ∙ zero_over d p)

-- rows that hold where others do hold so at rational numbers too
pub solves_rational : (rows others : List Row) → ((x : Assignment) → Solves rows x → Solves others x) → (x : List ℚ) → SolvesRational rows x → SolvesRational others x
solves_rational rows others h =
    by_point (λ x. SolvesRational rows x → SolvesRational others x) (λ x. hlevel ≡ℚ_prop) (λ d p ns s. rational_of others d p ns (h ns (integer_of rows d p ns s)))

-- ---- assignments with three more numbers: of z, of w and of the right side
no_more : (x y : ℚ) → x ≡ whole (pos 0) +ℚ whole (pos 0) *ℚ y → x ≡ whole (pos 0)
no_more x y e = e ∙ +ℚ_idl (whole (pos 0) *ℚ y) ∙ zero-*ℚ y

first_more : (a y : ℚ) → a *ℚ y +ℚ whole (pos 0) ≡ whole (pos 0) +ℚ a *ℚ y
first_more a y = ring (a ∷ y ∷ []) (search reads depth 30) tt

pub dot_more : (row : Row) (xs : List ℚ) (y : ℚ) (n : ℕ) → length xs ≡ n → rat_dot (wholes row) (xs ++ y ∷ []) ≡ rat_dot (wholes row) xs +ℚ whole (entry row n) *ℚ y
dot_more [] [] y n e = sym (no_more _ y refl)
dot_more [] (x ∷ xs) y n e = sym (no_more _ y refl)
dot_more (a ∷ row) [] y zero e = ap (λ z. whole a *ℚ y +ℚ z) (rat_dot-nil (wholes row)) ∙ first_more (whole a) y
dot_more (a ∷ row) [] y (suc n) e = absurd (omega arith)
dot_more (a ∷ row) (x ∷ xs) y zero e = absurd (omega arith)
dot_more (a ∷ row) (x ∷ xs) y (suc n) e = ap (λ z. whole a *ℚ x +ℚ z) (dot_more row xs y n (omega arith)) ∙ sym (+ℚ_assoc (whole a *ℚ x) (rat_dot (wholes row) xs) (whole (entry row n) *ℚ y))

abbrev pub full : List ℚ → ℚ → ℚ → ℚ → List ℚ
full xs z w v = ((xs ++ z ∷ []) ++ w ∷ []) ++ v ∷ []

pub dot_full : (row : Row) (xs : List ℚ) (z w v : ℚ) (n : ℕ) → length xs ≡ n
    → rat_dot (wholes row) (full xs z w v) ≡ ((rat_dot (wholes row) xs +ℚ whole (entry row n) *ℚ z) +ℚ whole (entry row (n + 1)) *ℚ w) +ℚ whole (entry row (n + 2)) *ℚ v
dot_full row xs z w v n e =
    let a = length-append xs (z ∷ []) in
    let b = length-append (xs ++ z ∷ []) (w ∷ []) in
    dot_more row ((xs ++ z ∷ []) ++ w ∷ []) v (n + 2) (omega (arith, a, b, e))
    ∙ ap (λ u. u +ℚ whole (entry row (n + 2)) *ℚ v) (dot_more row (xs ++ z ∷ []) w (n + 1) (omega (arith, a, e)) ∙ ap (λ u. u +ℚ whole (entry row (n + 1)) *ℚ w) (dot_more row xs z n e))

pub dot_front : (es tail : List ℤ) (xs : List ℚ) → length xs ≤ length es → rat_dot (wholes (es ++ tail)) xs ≡ rat_dot (wholes es) xs
dot_front [] tail [] h = rat_dot-nil (wholes tail)
dot_front [] tail (x ∷ xs) h = absurd (omega arith)
dot_front (e ∷ es) tail [] h = refl
dot_front (e ∷ es) tail (x ∷ xs) h = ap (λ u. whole e *ℚ x +ℚ u) (dot_front es tail xs (omega arith))

-- ---- numbers put at columns
pub dot_unit : (row : Row) (k : ℚ) (t : ℕ) → rat_dot (wholes row) (rat_scaled k (wholes (unit t))) ≡ k *ℚ whole (entry row t)
dot_unit row k t =
    rat_dot-scaled_right k (wholes row) (wholes (unit t))
    ∙ ap (λ u. k *ℚ u) (rat_dot-wholes row (unit t) ∙ ap whole (ap (int_dot row) (sym (int_scaled-one (unit t))) ∙ int_dot-unit row (pos 1) t ∙ *ℤ_idl (entry row t)))

-- f 0 at the column own 0, f 1 at the column own 1, and so on
abbrev pub placed : (ℕ → ℚ) → (ℕ → ℕ) → ℕ → List ℚ
placed f own zero = []
placed f own (suc m) = rat_added (placed f own m) (rat_scaled (f m) (wholes (unit (own m))))

pub dot_placed : (row : Row) (f : ℕ → ℚ) (own : ℕ → ℕ) (m : ℕ) → rat_dot (wholes row) (placed f own m) ≡ rat_sum_below m (λ k. f k *ℚ whole (entry row (own k)))
dot_placed row f own zero = rat_dot-nil (wholes row)
dot_placed row f own (suc m) = rat_dot-added_right (wholes row) (placed f own m) _ ∙ ap₂ ◌+ℚ◌ (dot_placed row f own m) (dot_unit row (f m) (own m))

length_unit : (t : ℕ) → length (unit t) ≡ suc t
length_unit zero = refl
length_unit (suc t) = let h = length_unit t in omega (arith, h)

length_both : (xs ys : List ℚ) (n : ℕ) → length xs ≤ n → length ys ≤ n → length (rat_added xs ys) ≤ n
length_both [] ys n h k = k
length_both (x ∷ xs) [] n h k = h
length_both (x ∷ xs) (y ∷ ys) zero h k = absurd (omega arith)
length_both (x ∷ xs) (y ∷ ys) (suc n) h k = let i = length_both xs ys n (omega arith) (omega arith) in omega (arith, i)

pub length_placed : (f : ℕ → ℚ) (own : ℕ → ℕ) (m n : ℕ) → ((k : ℕ) → k < m → own k < n) → length (placed f own m) ≤ n
length_placed f own zero n h = omega arith
length_placed f own (suc m) n h =
    let l = h m (omega arith) in
    length_both (placed f own m) (rat_scaled (f m) (wholes (unit (own m)))) n (length_placed f own m n (λ k q. h k (omega arith)))
    (let a = length-rat_scaled (f m) (wholes (unit (own m))) in let b = length-map (unit (own m)) whole in let c = length_unit (own m) in omega (arith, a, b, c, l))

pub length_added : (xs ys : List ℚ) → length ys ≤ length xs → length (rat_added xs ys) ≡ length xs
length_added [] [] h = refl
length_added [] (y ∷ ys) h = absurd (omega arith)
length_added (x ∷ xs) [] h = refl
length_added (x ∷ xs) (y ∷ ys) h = let i = length_added xs ys (omega arith) in omega (arith, i)
