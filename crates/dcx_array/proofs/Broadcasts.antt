-- The sides that arrays share are those of the relation, and a broadcast array has an entry for each place.
use Rattle.std.specs.Prelude.{◌≡◌, ◌↔◌, ℕ, ◌*◌, ◌/◌, ◌%◌, ◌<◌, ◌≤◌, max, nat_eq, Bool, true, false, ◌||◌, if◌then◌else◌, ◌⊎◌, List, [], ◌∷◌, ◌++◌, Option, Some, None, is_some, IsSome, option_and_then}
use Rattle.std.proofs.Common.{refl, sym, ap, ◌∙◌, subst, arith, inl, inr, mul-pos}
use Rattle.std.proofs.lemmas.Bool.{false≢true, eq-eqb}
use Rattle.std.proofs.lemmas.Bool.Decides.{nat_tests}
use Rattle.std.proofs.lemmas.Nat.{div_below, mod_below, mul-le}
use Rattle.dcx_shape.specs.declared.shape.Sides.{Sides}
use Rattle.dcx_shape.specs.declared.shape.Sides.TheVariants.{Scalar, Vector, Matrix}
use Rattle.dcx_shape.specs.declared.shape.Shape.{Shape}
use Rattle.dcx_shape.specs.Shape.{sides_of}
use Rattle.dcx_shape.specs.Sides.{rank_of, rows_of, cols_of, entries_of, HasFewEntries}
use Rattle.dcx_shape.specs.Broadcast.{IsJoinedSide, IsBroadcast, HasForm}
use Rattle.dcx_shape.proofs.Broadcasts.{broadcast_from_form, some_sides}
use Rattle.dcx_shape.proofs.Entries.{entries_are, factor_pos, place_below}
use Rattle.dcx_affine.specs.Places.{stretched, promoted_place}
use Rattle.dcx_array.specs.Shapes.{shape_with, joined_side, with_rank, with_sides, broadcast_of, common_with}
use Rattle.dcx_array.proofs.AllowedShapes.{shape_with-none}

-- ---- one side
fits_test : (m n : ℕ) → (m ≡ n) ⊎ ((m ≡ 1) ⊎ (n ≡ 1)) → (nat_eq m n || (nat_eq m 1 || nat_eq n 1)) ≡ true
fits_test m n h = grind (arith, nat_tests)

test_fits : (m n : ℕ) → (nat_eq m n || (nat_eq m 1 || nat_eq n 1)) ≡ true → (m ≡ n) ⊎ ((m ≡ 1) ⊎ (n ≡ 1))
test_fits m n e = grind (arith, nat_tests)

joined_is : (m n k : ℕ) → IsJoinedSide m n k → joined_side m n ≡ Some k
joined_is m n k j = rw (fits_test m n j.fits) (ap Some (sym j.greater))

joined_back : (m n k : ℕ) → joined_side m n ≡ Some k → IsJoinedSide m n k
joined_back m n k e = by (nat_eq m n || (nat_eq m 1 || nat_eq n 1)) refl e
  where
    by : (b : Bool) → (nat_eq m n || (nat_eq m 1 || nat_eq n 1)) ≡ b → (if b then Some (max m n) else None) ≡ Some k → IsJoinedSide m n k
    by true t p = let same : max m n ≡ k = cc in record { fits = test_fits m n t; greater = sym same }
    by false t p = cc

-- ---- both sides
own_form : (c : Sides) → with_rank (rank_of c) (rows_of c) (cols_of c) ≡ c
own_form Scalar = refl
own_form (Vector n) = refl
own_form (Matrix m n) = refl

joined_form : (a b : Sides) →
    HasForm (max (rank_of a) (rank_of b)) (max (rows_of a) (rows_of b)) (max (cols_of a) (cols_of b))
    (with_rank (max (rank_of a) (rank_of b)) (max (rows_of a) (rows_of b)) (max (cols_of a) (cols_of b)))
joined_form Scalar Scalar = record { is_rank = refl; is_rows = refl; is_columns = refl }
joined_form Scalar (Vector l) = record { is_rank = refl; is_rows = refl; is_columns = refl }
joined_form Scalar (Matrix l p) = record { is_rank = refl; is_rows = refl; is_columns = refl }
joined_form (Vector n) Scalar = record { is_rank = refl; is_rows = refl; is_columns = refl }
joined_form (Vector n) (Vector l) = record { is_rank = refl; is_rows = refl; is_columns = refl }
joined_form (Vector n) (Matrix l p) = record { is_rank = refl; is_rows = refl; is_columns = refl }
joined_form (Matrix m n) Scalar = record { is_rank = refl; is_rows = refl; is_columns = refl }
joined_form (Matrix m n) (Vector l) = record { is_rank = refl; is_rows = refl; is_columns = refl }
joined_form (Matrix m n) (Matrix l p) = record { is_rank = refl; is_rows = refl; is_columns = refl }

pub broadcast_is : (a b c : Sides) → IsBroadcast a b c → broadcast_of a b ≡ Some c
broadcast_is a b c h =
    rw (joined_is (rows_of a) (rows_of b) (rows_of c) (h.sides 1), joined_is (cols_of a) (cols_of b) (cols_of c) (h.sides 0), sym h.rank) (ap Some (own_form c))

pub broadcast_back : (a b c : Sides) → broadcast_of a b ≡ Some c → IsBroadcast a b c
broadcast_back a b c e = by (joined_side (rows_of a) (rows_of b)) (joined_side (cols_of a) (cols_of b)) refl refl e
  where
    by : (r q : Option ℕ) → joined_side (rows_of a) (rows_of b) ≡ r → joined_side (cols_of a) (cols_of b) ≡ q → with_sides (max (rank_of a) (rank_of b)) r q ≡ Some c → IsBroadcast a b c
    by (Some m) (Some n) s t p =
        let rows : IsJoinedSide (rows_of a) (rows_of b) m = joined_back (rows_of a) (rows_of b) m s in
        let columns : IsJoinedSide (cols_of a) (cols_of b) n = joined_back (cols_of a) (cols_of b) n t in
        let is : with_rank (max (rank_of a) (rank_of b)) m n ≡ c = cc in
        let form : HasForm (max (rank_of a) (rank_of b)) m n (with_rank (max (rank_of a) (rank_of b)) m n) = rw (rows.greater, columns.greater) (joined_form a b) in
        broadcast_from_form a b c (max (rank_of a) (rank_of b)) m n rows columns refl (subst (HasForm (max (rank_of a) (rank_of b)) m n) is form)
    by (Some m) None s t p = cc
    by None q s t p = cc

-- ---- several
pub common_with-append : (o : Option Sides) (bs cs : List Sides) → common_with o (bs ++ cs) ≡ common_with (common_with o bs) cs
common_with-append None bs cs = refl
common_with-append (Some a) [] cs = refl
common_with-append (Some a) (b ∷ bs) cs = common_with-append (broadcast_of a b) bs cs

-- what is shared has no fewer rows and columns
record Grows (a c : Sides) : Type 0 where
  rows : rows_of a ≤ rows_of c
  columns : cols_of a ≤ cols_of c

common_grows : (a c : Sides) (bs : List Sides) → common_with (Some a) bs ≡ Some c → Grows a c
common_grows a c [] e = let same : a ≡ c = cc in record { rows = omega (arith, ap rows_of same); columns = omega (arith, ap cols_of same) }
common_grows a c (b ∷ bs) e = by (λ x p. common_grows x c bs p) (broadcast_of a b) refl e
  where
    by : ((x : Sides) → common_with (Some x) bs ≡ Some c → Grows x c) → (o : Option Sides) → broadcast_of a b ≡ o → common_with o bs ≡ Some c → Grows a c
    by rest None s p = cc
    by rest (Some x) s p =
        let first : IsBroadcast a b x = broadcast_back a b x s in
        let last : Grows x c = rest x p in
        record { rows = omega (arith, (first.sides 1).greater, last.rows); columns = omega (arith, (first.sides 0).greater, last.columns) }

-- so it has no fewer entries
few_before : (a x c : Sides) → HasFewEntries a → Grows a x → Grows x c → HasFewEntries c → HasFewEntries x
few_before a x c first g h last =
    let some : (0 < rows_of a) × (0 < cols_of a) = some_sides a first in
    let rows : 0 < rows_of x = omega (arith, some.0, g.rows) in
    let columns : 0 < cols_of x = omega (arith, some.1, g.columns) in
    record {
      some = rw entries_are (mul-pos rows columns);
      most = omega (arith, entries_are x, entries_are c, last.most, mul-le (rows_of x) (cols_of x) (rows_of c) (cols_of c) h.rows h.columns);
    }

-- where two have no shape in common, they have none with the others either
pub none_shared : (a b : Shape) (o : Option Shape) (rest : List Sides) → (IsSome o ↔ ((c : Sides) × IsBroadcast (sides_of a) (sides_of b) c × HasFewEntries c)) → o ≡ None →
    option_and_then shape_with (common_with (Some (sides_of a)) (sides_of b ∷ rest)) ≡ None
none_shared a b o rest exists e = by (broadcast_of (sides_of a) (sides_of b)) refl
  where
    never : (c : Sides) → IsBroadcast (sides_of a) (sides_of b) c → HasFewEntries c → ⊥
    never c h few = false≢true (sym (ap is_some e) ∙ exists.1 (c, h, few))

    last : (x : Sides) → IsBroadcast (sides_of a) (sides_of b) x → (q : Option Sides) → common_with (Some x) rest ≡ q → option_and_then shape_with q ≡ None
    last x h None p = refl
    last x h (Some c) p =
        let first : Grows (sides_of a) x = record { rows = omega (arith, (h.sides 1).greater); columns = omega (arith, (h.sides 0).greater) } in
        shape_with-none c (λ few. never x h (few_before (sides_of a) x c a.few first (common_grows x c rest p) few))

    by : (r : Option Sides) → broadcast_of (sides_of a) (sides_of b) ≡ r → option_and_then shape_with (common_with r rest) ≡ None
    by None s = refl
    by (Some x) s = last x (broadcast_back (sides_of a) (sides_of b) x s) (common_with (Some x) rest) refl

-- so where the shape of those before has none in common with the next
pub none_after : (first a b : Shape) (bs rest : List Sides) (o : Option Shape) → common_with (Some (sides_of first)) bs ≡ Some (sides_of a) →
    (IsSome o ↔ ((c : Sides) × IsBroadcast (sides_of a) (sides_of b) c × HasFewEntries c)) → o ≡ None →
    option_and_then shape_with (common_with (Some (sides_of first)) (bs ++ sides_of b ∷ rest)) ≡ None
none_after first a b bs rest o before exists e =
    ap (option_and_then shape_with) (common_with-append (Some (sides_of first)) bs (sides_of b ∷ rest) ∙ ap (λ q. common_with q (sides_of b ∷ rest)) before)
    ∙ none_shared a b o rest exists e

-- one more that shares a shape with those before
pub common_more : (a x y : Shape) (bs : List Sides) (b : Sides) → common_with (Some (sides_of a)) bs ≡ Some (sides_of x) → IsBroadcast (sides_of x) b (sides_of y) →
    common_with (Some (sides_of a)) (bs ++ b ∷ []) ≡ Some (sides_of y)
common_more a x y bs b before h =
    common_with-append (Some (sides_of a)) bs (b ∷ []) ∙ ap (λ o. common_with o (b ∷ [])) before ∙ ap (λ o. common_with o []) (broadcast_is (sides_of x) b (sides_of y) h)

-- ---- places
stretched_within : (m n l i : ℕ) → IsJoinedSide m n l → 0 < m → i < l → stretched m i < m
stretched_within m n l i j some b = by (nat_eq m 1) refl j.fits
  where
    by : (t : Bool) → nat_eq m 1 ≡ t → (m ≡ n) ⊎ ((m ≡ 1) ⊎ (n ≡ 1)) → (if t then 0 else i) < m
    by true e fits = some
    by false e (inl same) = omega (arith, j.greater, b)
    by false e (inr (inl one)) = absurd (false≢true (sym e ∙ eq-eqb m 1 one))
    by false e (inr (inr one)) = omega (arith, j.greater, some, b)

-- an array has an entry for each place of what it broadcasts to
pub promoted_within : (a b c : Sides) (k : ℕ) → IsBroadcast a b c → HasFewEntries a → k < entries_of c → promoted_place a c k < entries_of a
promoted_within a b c k h few below =
    let some : (0 < rows_of a) × (0 < cols_of a) = some_sides a few in
    let inside : k < rows_of c * cols_of c = omega (arith, below, entries_are c) in
    let wide : 0 < cols_of c = (factor_pos k (rows_of c) (cols_of c) inside).1 in
    place_below false a (stretched (rows_of a) (k / cols_of c)) (stretched (cols_of a) (k % cols_of c)) (record {
      row = stretched_within (rows_of a) (rows_of b) (rows_of c) (k / cols_of c) (h.sides 1) some.0 (div_below k (cols_of c) (rows_of c) wide inside);
      column = stretched_within (cols_of a) (cols_of b) (cols_of c) (k % cols_of c) (h.sides 0) some.1 (mod_below k (cols_of c) wide);
    })
