-- Arrays of numbers that are there.
use Rattle.std.specs.Prelude.{◌≡◌, ◌≢◌, ℕ, ◌+◌, ◌/◌, ◌%◌, ◌<◌, ◌≤◌, pos, List, length, slice_index, Some, Result, Ok, Err}
use Rattle.std.specs.Result.{result_ok}
use Rattle.std.specs.List.{All}
use Rattle.std.proofs.Common.{refl, sym, ap, ◌∙◌, arith, inl, inr, get_or, set, mul_comm}
use Rattle.std.proofs.lemmas.Bool.{eq-eqb, cases_lt, ne_eqb}
use Rattle.std.proofs.lemmas.List.{get_or_default, length-set, get_or-set_same, get_or-set_other}
use Rattle.dcx_math.specs.Rational.{whole, neg_ℚ}
use Rattle.dcx_frac.specs.declared.fraction.Frac.{Frac}
use Rattle.dcx_frac.specs.Frac.{value}
use Rattle.dcx_shape.specs.declared.shape.Sides.{Sides}
use Rattle.dcx_shape.specs.declared.shape.Sides.TheVariants.{Scalar, Vector, Matrix}
use Rattle.dcx_shape.specs.declared.shape.Shape.{Shape}
use Rattle.dcx_shape.specs.declared.index.Pick.{Pick}
use Rattle.dcx_shape.specs.Shape.{sides_of}
use Rattle.dcx_shape.specs.Sides.{entries_of}
use Rattle.dcx_shape.specs.Index.{HasStep, IsIndex}
use Rattle.dcx_atom.specs.declared.array.Array.{Array}
use Rattle.dcx_atom.specs.Arrays.{list_below}
use Rattle.dcx_atom.specs.Formed.{zero_frac, frac_at}
use Rattle.dcx_atom.proofs.FormedSums.{frac_at-value, zero_frac-unique}
use Rattle.dcx_affine.specs.Places.{transposed_sides}
use Rattle.dcx_array.specs.declared.fault.ArrayFault.{ArrayFault}
use Rattle.dcx_array.specs.Answers.{Gives, and_then}
use Rattle.dcx_array.specs.Shapes.{allowed_shape}
use Rattle.dcx_array.specs.Arrays.{entry, filled, formed_array, array_with, identity_entry}
use Rattle.dcx_array.specs.Operators.{negated_number, negated}
use Rattle.dcx_array.specs.Picks.{picked_array}
use Rattle.dcx_array.proofs.Answered.{gives_next, gives_same}
use Rattle.dcx_array.proofs.Equals.{list_below-is}
use Rattle.dcx_array.proofs.AllowedShapes.{shape_with-is, allowed_shape-is, allowed_shape-back}
use Rattle.dcx_array.proofs.FormedEntries.{formed_given}
use Rattle.dcx_array.proofs.Indices.{taken_is}
use Rattle.dcx_atom.proofs.OneArray.{array_from_parts}

-- ---- a list of numbers
-- a list is that of its numbers
pub listed : (xs : List Frac) (n : ℕ) → length xs ≡ n → xs ≡ list_below n (λ k. get_or xs k zero_frac)
listed xs n e = list_below-is n (λ k. get_or xs k zero_frac) xs e (λ k d b. get_or_default xs k d zero_frac (omega (arith, b, e)))

pub ok_back : (r : Result Shape ArrayFault) (x : Shape) → result_ok r ≡ Some x → r ≡ Ok x
ok_back (Ok y) x e = let same : y ≡ x = cc in ap Ok same
ok_back (Err fault) x e = cc

pub array_with-is : (sides : Sides) (shape : Shape) (xs : List Frac) (a : Array) → allowed_shape sides ≡ Ok shape → a.shape ≡ shape → a.entries ≡ xs → array_with sides xs ≡ Some a
array_with-is sides shape xs a e s t =
    let count : length xs ≡ entries_of (sides_of shape) = ap length (sym t) ∙ a.full ∙ ap (λ x. entries_of (sides_of x)) s in
    rw (shape_with-is sides shape (allowed_shape-back sides shape e))
    (ap Some (sym (array_from_parts a (filled shape (λ k. get_or xs k zero_frac)) s (t ∙ listed xs (entries_of (sides_of shape)) count))))

-- ---- numbers by their place
-- an array of sides that are allowed
pub given_gives : (sides : Sides) (shape : Shape) (f : Shape → ℕ → Frac) (answered : Result Array ArrayFault) → allowed_shape sides ≡ Ok shape
    → Gives answered (formed_array shape (λ k. Ok (f shape k))) →
    Gives answered (and_then (allowed_shape sides) (λ s. Ok (filled s (f s))))
given_gives sides shape f answered e g =
    gives_next (allowed_shape sides) (λ s. Ok (filled s (f s))) shape answered e
    (gives_same answered (formed_array shape (λ k. Ok (f shape k))) (Ok (filled shape (f shape))) g (formed_given shape (f shape)))

-- the entries that picks take
pub picked_gives : (a : Array) (picks : List Pick) (shape : Shape) (places told : List ℕ) (answered : Result Array ArrayFault) → All HasStep picks →
    IsIndex (sides_of a.shape) picks (sides_of shape) places → told ≡ places → Gives answered (formed_array shape (λ k. Ok (entry a (slice_index told k)))) → Gives answered (picked_array a picks)
picked_gives a picks shape places told answered h x e g =
    let meant : picked_array a picks ≡ Ok (filled shape (λ k. entry a (slice_index places k))) =
    rw (taken_is (sides_of a.shape) (sides_of shape) picks places h x, allowed_shape-is (sides_of shape) shape refl) refl in
    gives_same answered (formed_array shape (λ k. Ok (entry a (slice_index told k)))) (picked_array a picks) g
    (formed_given shape (λ k. entry a (slice_index told k)) ∙ ap (λ ps. Ok (filled shape (λ k. entry a (slice_index ps k)))) e ∙ sym meant)

-- ---- diagonals
pub on_diagonal : (n k : ℕ) (one : Frac) → k / n ≡ k % n → value one ≡ whole (pos 1) → one ≡ identity_entry n k
on_diagonal n k one e v = rw (eq-eqb (k / n) (k % n) e) (sym (ap frac_at (sym v) ∙ frac_at-value one))

pub off_diagonal : (n k : ℕ) (zero : Frac) → ¬ (k / n ≡ k % n) → value zero ≡ whole (pos 0) → zero ≡ identity_entry n k
off_diagonal n k zero e v = rw (ne_eqb (k / n) (k % n) e) (zero_frac-unique zero v)

-- ---- transposes
pub transposed_entries : (s : Sides) → entries_of (transposed_sides s) ≡ entries_of s
transposed_entries Scalar = refl
transposed_entries (Vector n) = refl
transposed_entries (Matrix m n) = mul_comm n m

-- ---- signs
pub negated_is : (x z : Frac) → value z ≡ neg_ℚ (value x) → z ≡ negated_number x
negated_is x z e = sym (ap frac_at (sym e) ∙ frac_at-value z)

-- the first so many of these numbers are turned, and the others are as they were
abbrev pub AreTurned : List Frac → List Frac → ℕ → Type 0
AreTurned xs ys i =
    (length xs ≡ length ys)
    × ((k : ℕ) → k < i → get_or xs k zero_frac ≡ negated_number (get_or ys k zero_frac))
    × ((k : ℕ) → i ≤ k → get_or xs k zero_frac ≡ get_or ys k zero_frac)

-- one more
pub turned_more : (xs ys : List Frac) (i : ℕ) (z : Frac) → i < length xs → AreTurned xs ys i → z ≡ negated_number (get_or xs i zero_frac) → AreTurned (set xs i z) ys (i + 1)
turned_more xs ys i z b h e = (
  length-set xs i z ∙ h.0,
  (λ k c. elim (cases_lt k i) [
    | inl before ↦ let ne : k ≢ i = omega arith in get_or-set_other xs i k z zero_frac ne ∙ h.1 k before
    | inr after ↦
        let here : k ≡ i = omega arith in
        ap (λ j. get_or (set xs i z) j zero_frac) here ∙ get_or-set_same xs i z zero_frac b ∙ e ∙ ap negated_number (h.2 i (omega arith)) ∙ ap (λ j. negated_number (get_or ys j zero_frac)) (sym here)
  ]),
  (λ k c. let ne : k ≢ i = omega arith in get_or-set_other xs i k z zero_frac ne ∙ h.2 k (omega arith)),
)

-- all
pub turned_all : (a : Array) (xs ys : List Frac) (i : ℕ) → ys ≡ a.entries → length xs ≤ i → AreTurned xs ys i → xs ≡ (negated a).entries
turned_all a xs ys i e b h =
    let count : length xs ≡ entries_of (sides_of a.shape) = h.0 ∙ ap length e ∙ a.full in
    list_below-is (entries_of (sides_of a.shape)) (λ k. negated_number (entry a k)) xs count (λ k d c.
    let within : k < length xs = omega (arith, c, count) in
    get_or_default xs k d zero_frac within ∙ h.1 k (omega (arith, within, b)) ∙ ap (λ zs. negated_number (get_or zs k zero_frac)) e)
