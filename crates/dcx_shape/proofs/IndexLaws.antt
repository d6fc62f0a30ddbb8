-- The laws of indices.
use Rattle.std.proofs.Common.{◌≡◌, ℕ, ◌+◌, ◌*◌, ◌/◌, ◌%◌, ◌<◌, List, [], ◌∷◌, length, get_or, refl, sym, ◌∙◌, ap, subst, arith, inl, inr}
use Rattle.std.specs.Prelude.{pos}
use Rattle.std.specs.List.{All}
use Rattle.std.proofs.lemmas.Bool.{cases_lt}
use Rattle.std.proofs.lemmas.List.{get_or_past}
use Rattle.std.proofs.lemmas.List.FromFn.{length-range_with_len, get_or-range_with_len}
use Rattle.std.proofs.lemmas.Nat.{div-add-mod', div_below, mod_below}
use Rattle.std.proofs.lemmas.Grind.{same_number_lists}
use Rattle.dcx_shape.specs.declared.shape.Sides.{Sides}
use Rattle.dcx_shape.specs.declared.shape.Sides.TheVariants.{Scalar, Vector, Matrix}
use Rattle.dcx_shape.specs.declared.index.Pick.{Pick}
use Rattle.dcx_shape.specs.declared.index.Pick.TheVariants.{At, Range}
use Rattle.dcx_shape.specs.Sides.{rows_of, cols_of, entries_of}
use Rattle.dcx_shape.specs.Places.{row_place, places_below}
use Rattle.dcx_shape.specs.Index.{whole_slice, Takes, row_pick, column_pick, kept_sides, IsCrossed, IsIndex}
use Rattle.dcx_shape.specs.Laws.{HoldsForIndices}
use Rattle.dcx_shape.proofs.Entries.{entries_are, factor_pos}
use Rattle.dcx_shape.proofs.SliceLaws.{slice_one, whole_is}
use Rattle.dcx_shape.proofs.Indices.{crossed_at}

takes_one : (n : ℕ) (p : Pick) (xs ys : List ℕ) → Takes n p xs → Takes n p ys → xs ≡ ys
takes_one n (At i) xs ys (a, below, is, e) (b, under, at, f) = cc
takes_one n (Range s) xs ys (r, some) (t, other) = slice_one n s xs ys r t

-- rows and columns are crossed in one way
pub crossed_one : (from : Sides) (rows columns xs ys : List ℕ) → IsCrossed from rows columns xs → IsCrossed from rows columns ys → xs ≡ ys
crossed_one from rows columns xs ys c d =
    let same : length xs ≡ length ys = c.count ∙ sym d.count in
    same_number_lists xs ys same (λ k h. crossed_at from rows columns xs c k h ∙ sym (crossed_at from rows columns ys d k (omega arith)))

index_one : (from to other : Sides) (picks : List Pick) (xs ys : List ℕ) → IsIndex from picks to xs → IsIndex from picks other ys → (to ≡ other) × (xs ≡ ys)
index_one from to other picks xs ys x y =
    let rows : x.rows ≡ y.rows = takes_one _ (row_pick from picks) x.rows y.rows x.takes.takes_rows y.takes.takes_rows in
    let columns : x.columns ≡ y.columns = takes_one _ (column_pick from picks) x.columns y.columns x.takes.takes_columns y.takes.takes_columns in (
      x.sides ∙ rw (rows, columns) (sym y.sides),
      crossed_one from x.rows x.columns xs ys x.crossed (rw (rows, columns) y.crossed),
    )

-- ---- whole slices

pick_whole : (picks : List Pick) (k : ℕ) → All (λ p. p ≡ Range whole_slice) picks → get_or picks k (Range whole_slice) ≡ Range whole_slice
pick_whole picks k h = elim (cases_lt k (length picks)) [ inl b ↦ h k (Range whole_slice) b | inr b ↦ get_or_past picks k (Range whole_slice) b ]

takes_whole : (n : ℕ) (p : Pick) (xs : List ℕ) → p ≡ Range whole_slice → Takes n p xs → xs ≡ places_below n
takes_whole n p xs e t = let u : Takes n (Range whole_slice) xs = subst (λ (q : Pick). Takes n q xs) e t in slice_one n whole_slice xs (places_below n) u.0 (whole_is n)

takes_only : (xs : List ℕ) → Takes 1 (At (pos 0)) xs → xs ≡ places_below 1
takes_only xs (p, below, is, e) = let first : p ≡ 0 = omega arith in e ∙ ap (λ q. q ∷ []) first

whole_rows : (from : Sides) (picks : List Pick) (rows : List ℕ) → All (λ p. p ≡ Range whole_slice) picks → Takes (rows_of from) (row_pick from picks) rows → rows ≡ places_below (rows_of from)
whole_rows Scalar picks rows h t = takes_only rows t
whole_rows (Vector n) picks rows h t = takes_only rows t
whole_rows (Matrix m n) picks rows h t = takes_whole m _ rows (pick_whole picks 0 h) t

whole_columns : (from : Sides) (picks : List Pick) (columns : List ℕ) → All (λ p. p ≡ Range whole_slice) picks → Takes (cols_of from) (column_pick from picks) columns
    → columns ≡ places_below (cols_of from)
whole_columns Scalar picks columns h t = takes_only columns t
whole_columns (Vector n) picks columns h t = takes_whole n _ columns (pick_whole picks 0 h) t
whole_columns (Matrix m n) picks columns h t = takes_whole n _ columns (pick_whole picks 1 h) t

whole_sides : (from : Sides) (picks : List Pick) → All (λ p. p ≡ Range whole_slice) picks → kept_sides (row_pick from picks) (rows_of from) (column_pick from picks) (cols_of from) ≡ from
whole_sides Scalar picks h = refl
whole_sides (Vector n) picks h = ap (λ p. kept_sides (At (pos 0)) 1 p n) (pick_whole picks 0 h)
whole_sides (Matrix m n) picks h = ap (λ p. kept_sides p m (get_or picks 1 (Range whole_slice)) n) (pick_whole picks 0 h) ∙ ap (λ p. kept_sides (Range whole_slice) m p n) (pick_whole picks 1 h)

-- all rows and columns crossed are all entries
crossed_whole : (from : Sides) (xs : List ℕ) → IsCrossed from (places_below (rows_of from)) (places_below (cols_of from)) xs → xs ≡ places_below (entries_of from)
crossed_whole from xs c =
    let size : length xs ≡ rows_of from * cols_of from = rw (length-range_with_len 0 (rows_of from), length-range_with_len 0 (cols_of from)) at c.count in
    same_number_lists xs (places_below (entries_of from)) (size ∙ sym (entries_are from) ∙ sym (length-range_with_len 0 (entries_of from))) (λ k h.
    let below : k < rows_of from * cols_of from = omega (arith, h, size) in
    let wide : 0 < cols_of from = (factor_pos k (rows_of from) (cols_of from) below).1 in
    let here : get_or xs k 0 ≡ row_place from (get_or (places_below (rows_of from)) (k / cols_of from) 0) (get_or (places_below (cols_of from)) (k % cols_of from) 0) =
    rw (length-range_with_len 0 (cols_of from)) at (crossed_at from (places_below (rows_of from)) (places_below (cols_of from)) xs c k h) in
    let row = get_or-range_with_len 0 (rows_of from) (k / cols_of from) 0 (div_below k (cols_of from) (rows_of from) wide below) in
    let column = get_or-range_with_len 0 (cols_of from) (k % cols_of from) 0 (mod_below k (cols_of from) wide) in
    let at : get_or (places_below (entries_of from)) k 0 ≡ 0 + k = get_or-range_with_len 0 (entries_of from) k 0 (omega (arith, below, entries_are from)) in
    here ∙ rw (row, column, at) (omega (arith, div-add-mod' k (cols_of from))))

index_whole : (from to : Sides) (picks : List Pick) (xs : List ℕ) → All (λ p. p ≡ Range whole_slice) picks → IsIndex from picks to xs → (to ≡ from) × (xs ≡ places_below (entries_of from))
index_whole from to picks xs h x =
    let rows : x.rows ≡ places_below (rows_of from) = whole_rows from picks x.rows h x.takes.takes_rows in
    let columns : x.columns ≡ places_below (cols_of from) = whole_columns from picks x.columns h x.takes.takes_columns in (
      x.sides ∙ rw (rows, columns, length-range_with_len 0 (rows_of from), length-range_with_len 0 (cols_of from)) (whole_sides from picks h),
      crossed_whole from xs (rw (rows, columns) at x.crossed),
    )

pub indices_hold : HoldsForIndices
indices_hold = record { one = index_one; whole = index_whole }
