-- The shapes of joined arrays.
use Rattle.std.proofs.Common.{◌≡◌, ◌↔◌, ◌<◌, ◌≤◌, ◌*◌, ◌&&◌, Bool, true, false, nat_le, List, [], ◌∷◌, map, get_or, if◌then◌else◌}
use Rattle.std.proofs.Common.{refl, sym, ap, ◌∙◌, subst, Option, Some, None, IsSome, IfSome, option_map, arith, mod-lt}
use Rattle.std.specs.Prelude.{slice_get}
use Rattle.std.specs.List.{list_all}
use Rattle.std.proofs.lemmas.List.Folds.{list_all-map}
use Rattle.dcx_shape.specs.declared.shape.Shape.{Shape}
use Rattle.dcx_shape.specs.declared.shape.Sides.{Sides}
use Rattle.dcx_shape.specs.declared.shape.Sides.TheVariants.{Vector, Matrix}
use Rattle.dcx_shape.specs.Shape.{sides_of}
use Rattle.dcx_shape.specs.Sides.{rows_of, cols_of, entries_of, HasFewEntries}
use Rattle.dcx_atom.specs.Arrays.{sides_list}
use Rattle.dcx_affine.specs.declared.slots.Line.TheVariants.{Row, Column}
use Rattle.dcx_affine.specs.Places.{limited}
use Rattle.dcx_affine.specs.Joined.{is_flat, has_rows, has_columns, all_lines, hstack_sides, vstack_sides}
use Rattle.std.specs.Prelude.{ℕ, zero, suc, ◌/◌, ◌%◌, length, pos, IfOk, Result, Ok, Err}
use Rattle.dcx_math.specs.Rational.{whole}
use Rattle.dcx_shape.specs.Places.{row_place}
use Rattle.dcx_shape.proofs.Entries.{factor_pos}
use Rattle.dcx_atom.specs.declared.terms.Triple.{Triple}
use Rattle.dcx_atom.specs.Arrays.{sides_at, list_below}
use Rattle.dcx_atom.specs.Linear.{linear_term, AreTermsOf}
use Rattle.dcx_affine.specs.declared.slots.Slot.{Slot}
use Rattle.dcx_affine.specs.Added.{term}
use Rattle.dcx_affine.specs.Joined.{lined_up, hstack_term, vstack_meaning}
use Rattle.dcx_affine.proofs.Lines.{no_line, length-lined_up}
use Rattle.dcx_affine.proofs.Products.{few_of, limited_is, cols_few}

none_made : (c : Sides) (d : Bool) → nat_le 1 (entries_of c) && nat_le (entries_of c) 20000 ≡ d → ¬ (HasFewEntries c) → None ≡ (if d then Some c else None)
none_made c false e never = refl
none_made c true e never = absurd (never (few_of c e))

-- a shape that is made exactly where it may be
pub made : (r : Option Shape) (c : Sides) → (IsSome r ↔ HasFewEntries c) → IfSome r (λ s. sides_of s ≡ c) → option_map sides_of r ≡ limited c
made None c exists is = none_made c (nat_le 1 (entries_of c) && nat_le (entries_of c) 20000) refl (λ few. let none = exists.1 few in cc)
made (Some s) c exists is = ap Some is ∙ sym (limited_is c (subst HasFewEntries is s.few))

-- the sides of arrays one below the other, by the test of their columns
pub vstack_by : (args : List Shape) (first : Shape) (cols : ℕ) (same : Bool) → Some first ≡ slice_get args 0 → cols ≡ cols_of (sides_of first) →
    same ≡ list_all (λ s. has_columns cols (sides_of s)) args →
    vstack_sides (sides_list args) ≡ (if same then limited (Matrix (all_lines Row (sides_list args)) cols) else None)
vstack_by [] first cols same e c t = cc
vstack_by (a ∷ rest) first cols same e c t =
    let f : first ≡ a = cc in
    let k : cols_of (sides_of a) ≡ cols = ap (λ s. cols_of (sides_of s)) (sym f) ∙ sym c in
    ap (λ n. if list_all (has_columns n) (sides_list (a ∷ rest)) then limited (Matrix (all_lines Row (sides_list (a ∷ rest))) n) else None) k
    ∙ ap (λ b. if b then limited (Matrix (all_lines Row (sides_list (a ∷ rest))) cols) else None) (list_all-map (has_columns cols) sides_of (a ∷ rest) ∙ sym t)

-- and of arrays side by side
pub hstack_by : (args : List Shape) (first : Shape) (rows : ℕ) (flat same : Bool) → Some first ≡ slice_get args 0 → rows ≡ rows_of (sides_of first) →
    flat ≡ list_all (λ s. is_flat (sides_of s)) args → same ≡ list_all (λ s. has_rows rows (sides_of s)) args →
    hstack_sides (sides_list args) ≡ (if flat then limited (Vector (all_lines Column (sides_list args))) else (if same then limited (Matrix rows (all_lines Column (sides_list args))) else None))
hstack_by [] first rows flat same e c t u = cc
hstack_by (a ∷ rest) first rows flat same e c t u =
    let f : first ≡ a = cc in
    let k : rows_of (sides_of a) ≡ rows = ap (λ s. rows_of (sides_of s)) (sym f) ∙ sym c in
    let n = all_lines Column (sides_list (a ∷ rest)) in
    ap (λ m. if list_all is_flat (sides_list (a ∷ rest)) then limited (Vector n) else (if list_all (has_rows m) (sides_list (a ∷ rest)) then limited (Matrix m n) else None)) k
    ∙ ap (λ b. if b then limited (Vector n) else (if list_all (has_rows rows) (sides_list (a ∷ rest)) then limited (Matrix rows n) else None)) (list_all-map is_flat sides_of (a ∷ rest) ∙ sym t)
    ∙ ap (λ b. if flat then limited (Vector n) else (if b then limited (Matrix rows n) else None)) (list_all-map (has_rows rows) sides_of (a ∷ rest) ∙ sym u)

some_limited : (s to : Sides) → limited s ≡ Some to → HasFewEntries s × (s ≡ to)
some_limited s to e = by (nat_le 1 (entries_of s) && nat_le (entries_of s) 20000) refl e
  where
    by : (b : Bool) → nat_le 1 (entries_of s) && nat_le (entries_of s) 20000 ≡ b → (if b then Some s else None) ≡ Some to → HasFewEntries s × (s ≡ to)
    by true f e = (few_of s f, cc)
    by false f e = cc

-- arrays side by side have columns, and not too many
pub hstack_few : (args : List Sides) → IsSome (hstack_sides args) → (0 < all_lines Column args) × (all_lines Column args ≤ 20000)
hstack_few [] e = cc
hstack_few (s ∷ rest) e = by (list_all is_flat (s ∷ rest)) (list_all (has_rows (rows_of s)) (s ∷ rest)) e
  where
    n : ℕ
    n = all_lines Column (s ∷ rest)

    limited_vector : (o : Option Sides) → limited (Vector n) ≡ o → IsSome o → (0 < n) × (n ≤ 20000)
    limited_vector None e h = cc
    limited_vector (Some to) e h = let f = (some_limited (Vector n) to e).0 in (f.some, f.most)

    limited_matrix : (o : Option Sides) → limited (Matrix (rows_of s) n) ≡ o → IsSome o → (0 < n) × (n ≤ 20000)
    limited_matrix None e h = cc
    limited_matrix (Some to) e h = let f = (some_limited (Matrix (rows_of s) n) to e).0 in ((factor_pos 0 (rows_of s) n f.some).1, cols_few (Matrix (rows_of s) n) f)

    by : (f g : Bool) → IsSome (if f then limited (Vector n) else (if g then limited (Matrix (rows_of s) n) else None)) → (0 < n) × (n ≤ 20000)
    by true g e = limited_vector (limited (Vector n)) refl e
    by false true e = limited_matrix (limited (Matrix (rows_of s) n)) refl e
    by false false e = cc

-- arrays one below the other have the rows of all, and the columns of the first
pub vstack_is : (args : List Sides) → IsSome (vstack_sides args)
    → (vstack_sides args ≡ Some (Matrix (all_lines Row args) (cols_of (sides_at args 0)))) × HasFewEntries (Matrix (all_lines Row args) (cols_of (sides_at args 0)))
vstack_is [] e = cc
vstack_is (s ∷ rest) e = by (list_all (has_columns (cols_of s)) (s ∷ rest)) e
  where
    m : Sides
    m = Matrix (all_lines Row (s ∷ rest)) (cols_of s)

    limited_rows : (o : Option Sides) → limited m ≡ o → IsSome o → (limited m ≡ Some m) × HasFewEntries m
    limited_rows None e h = cc
    limited_rows (Some to) e h = let f = some_limited m to e in (e ∙ ap Some (sym f.1), f.0)

    by : (f : Bool) → IsSome (if f then limited m else None) → ((if f then limited m else None) ≡ Some m) × HasFewEntries m
    by true e = limited_rows (limited m) refl e
    by false e = cc

-- ---- the terms
pub hstack_term_is : (args : List Sides) (xs : List Slot) (k : ℕ) → xs ≡ lined_up Column 0 args →
    term (get_or xs (k % length xs) no_line).argument (row_place (sides_at args (get_or xs (k % length xs) no_line).argument) (k / length xs)
    (get_or xs (k % length xs) no_line).place) (whole (pos 1)) ≡ hstack_term args k
hstack_term_is args xs k e = rw (e, length-lined_up Column 0 args) refl

pub below_length : (k n : ℕ) → 0 < n → k % n < n
below_length k zero h = absurd (omega (arith, h))
below_length k (suc n) h = mod-lt k (omega arith)

-- the terms of all rows are those of the value
pub vstack_terms_are : {E : Type 0} (args : List Sides) (n : ℕ) (r : Result (List (List Triple)) E) → vstack_sides args ≡ Some (Matrix n (cols_of (sides_at args 0)))
    → IfOk r (λ t. map (map linear_term) t ≡ list_below (n * cols_of (sides_at args 0)) (vstack_meaning.terms args))
    → IfOk r (λ t. IfSome (vstack_sides args) (λ s. AreTermsOf vstack_meaning args (entries_of s) t))
vstack_terms_are args n (Ok t) e h = rw e h
vstack_terms_are args n (Err x) e h = tt

-- the sides of the first argument
pub first_sides : (args : List Shape) (x : Shape) → IsSome (vstack_sides (sides_list args)) → x ≡ get_or args 0 x → sides_of x ≡ sides_at (sides_list args) 0
first_sides [] x h e = cc
first_sides (a ∷ rest) x h e = ap sides_of e
