-- Indices: how much the picks take, and that they have one fault at most.
use Rattle.std.proofs.Common.{◌≡◌, ℕ, zero, suc, ◌+◌, ◌*◌, ◌/◌, ◌%◌, ◌<◌, ◌≤◌, List, [], ◌∷◌, length, get_or, Result, Err, refl, sym, ◌∙◌, ap, arith, inl, inr, mul_comm, mul-pos, false}
use Rattle.std.specs.Prelude.{◌↔◌}
use Rattle.std.specs.List.{All}
use Rattle.std.proofs.lemmas.Int.{ints}
use Rattle.std.proofs.lemmas.Nat.{div-add-mod', div_below, mod_below, mul-le, mul-add-lt, div-mul-add, mod-mul-add}
use Rattle.std.proofs.lemmas.List.{get_or_default}
use Rattle.dcx_shape.specs.declared.shape.Sides.{Sides}
use Rattle.dcx_shape.specs.declared.shape.Sides.TheVariants.{Scalar, Vector, Matrix}
use Rattle.dcx_shape.specs.declared.index.Pick.{Pick}
use Rattle.dcx_shape.specs.declared.index.Pick.TheVariants.{At, Range}
use Rattle.dcx_shape.specs.declared.fault.ShapeFault.{ShapeFault}
use Rattle.dcx_shape.specs.declared.fault.ShapeFault.TheVariants.{Clash, Range as OutOfRange, Empty, Memory}
use Rattle.dcx_shape.specs.Sides.{HasFewEntries, rank_of, rows_of, cols_of, entries_of}
use Rattle.dcx_shape.specs.Places.{row_place}
use Rattle.dcx_shape.specs.Index.{HasStep, Takes, IsPickFault, row_pick, column_pick, kept_sides, TakesBoth, IsCrossed, IsIndex, IsFirstFault, IsIndexFault}
use Rattle.dcx_shape.proofs.Entries.{entries_are, factor_pos, place_below}
use Rattle.dcx_shape.specs.declared.run.Run.{Run}
use Rattle.dcx_shape.specs.Run.{run_place, places_of}
use Rattle.dcx_shape.proofs.Slices.{slice_below, slice_most, slice_length, length-places_from, get_or-places_from}

-- ---- one pick

pub takes_below : (n : ℕ) (p : Pick) (places : List ℕ) → HasStep p → Takes n p places → All (λ q. q < n) places
takes_below n (At i) places h (q, below, is, e) = rw e (λ k d b. one_below k d b)
  where
    one_below : (k d : ℕ) → k < 1 → get_or (q ∷ []) k d < n
    one_below zero d b = below
    one_below (suc k) d b = absurd (omega arith)
takes_below n (Range s) places h (is, some) = slice_below n s places h is

pub takes_some : (n : ℕ) (p : Pick) (places : List ℕ) → Takes n p places → 0 < length places
takes_some n (At i) places (q, below, is, e) = rw e (omega arith)
takes_some n (Range s) [] (is, some) = absurd (some refl)
takes_some n (Range s) (q ∷ places) (is, some) = omega arith

pub takes_most : (n : ℕ) (p : Pick) (places : List ℕ) → HasStep p → Takes n p places → length places ≤ n
takes_most n (At i) places h (q, below, is, e) = rw e (omega arith)
takes_most n (Range s) places h (is, some) = slice_most n s places h is

-- a pick takes something or has a fault, and has one fault
pub takes_no_fault : (n : ℕ) (p : Pick) (places : List ℕ) (fault : ShapeFault) → Takes n p places → IsPickFault n p fault → ⊥
takes_no_fault n (At i) places fault (q, below, is, e) (f, inl low) = omega (arith, ints)
takes_no_fault n (At i) places fault (q, below, is, e) (f, inr high) = omega (arith, ints)
takes_no_fault n (Range s) places fault (is, some) (f, none) = omega (arith, takes_some n (Range s) places (is, some), slice_length n s places [] is none)

pub pick_fault_one : (n : ℕ) (p : Pick) (fault other : ShapeFault) → IsPickFault n p fault → IsPickFault n p other → fault ≡ other
pick_fault_one n (At i) fault other f g = f.0 ∙ sym g.0
pick_fault_one n (Range s) fault other f g = f.0 ∙ sym g.0

-- ---- both picks

pub row_pick_steps : (from : Sides) (picks : List Pick) → All HasStep picks → HasStep (row_pick from picks)
row_pick_steps Scalar picks h = tt
row_pick_steps (Vector n) picks h = tt
row_pick_steps (Matrix m n) [] h = λ e. absurd (omega (arith, ints))
row_pick_steps (Matrix m n) (p ∷ picks) h = h 0 p (omega arith)

pub column_pick_steps : (from : Sides) (picks : List Pick) → All HasStep picks → HasStep (column_pick from picks)
column_pick_steps Scalar picks h = tt
column_pick_steps (Vector n) [] h = λ e. absurd (omega (arith, ints))
column_pick_steps (Vector n) (p ∷ picks) h = h 0 p (omega arith)
column_pick_steps (Matrix m n) [] h = λ e. absurd (omega (arith, ints))
column_pick_steps (Matrix m n) (p ∷ []) h = λ e. absurd (omega (arith, ints))
column_pick_steps (Matrix m n) (p ∷ (q ∷ picks)) h = h 1 p (omega arith)

-- a side that goes away had one place taken
kept_entries : (m n : ℕ) (p q : Pick) (xs ys : List ℕ) → Takes m p xs → Takes n q ys → entries_of (kept_sides p (length xs) q (length ys)) ≡ length xs * length ys
kept_entries m n (At i) (At j) xs ys (a, below, is, e) (b, under, at, f) = rw (e, f) (omega arith)
kept_entries m n (At i) (Range t) xs ys (a, below, is, e) u = rw e (omega arith)
kept_entries m n (Range s) (At j) xs ys t (b, under, at, f) = rw f (omega arith)
kept_entries m n (Range s) (Range t) xs ys r u = refl

pub index_entries : (from : Sides) (picks : List Pick) (rows columns : List ℕ) → TakesBoth from picks rows columns
    → entries_of (kept_sides (row_pick from picks) (length rows) (column_pick from picks) (length columns)) ≡ length rows * length columns
index_entries from picks rows columns t = kept_entries _ _ (row_pick from picks) (column_pick from picks) rows columns t.takes_rows t.takes_columns

-- the picks take no more entries than there are, and at least one
pub takes_few : (from : Sides) (picks : List Pick) (rows columns : List ℕ) → All HasStep picks → TakesBoth from picks rows columns → length rows * length columns ≤ entries_of from
takes_few from picks rows columns h t =
    rw entries_are (mul-le (length rows) (length columns) (rows_of from) (cols_of from)
    (takes_most _ (row_pick from picks) rows (row_pick_steps from picks h) t.takes_rows)
    (takes_most _ (column_pick from picks) columns (column_pick_steps from picks h) t.takes_columns))

pub kept_few : (from : Sides) (picks : List Pick) (rows columns : List ℕ) → HasFewEntries from → All HasStep picks → TakesBoth from picks rows columns
    → HasFewEntries (kept_sides (row_pick from picks) (length rows) (column_pick from picks) (length columns))
kept_few from picks rows columns few h t = record {
  some = rw (index_entries from picks rows columns t)
      (mul-pos (takes_some _ (row_pick from picks) rows t.takes_rows) (takes_some _ (column_pick from picks) columns t.takes_columns));
  most = rw (index_entries from picks rows columns t) (omega (arith, takes_few from picks rows columns h t, few.most));
}

pub rows_below : (from : Sides) (picks : List Pick) (rows columns : List ℕ) → All HasStep picks → TakesBoth from picks rows columns → All (λ p. p < rows_of from) rows
rows_below from picks rows columns h t = takes_below _ (row_pick from picks) rows (row_pick_steps from picks h) t.takes_rows

pub columns_below : (from : Sides) (picks : List Pick) (rows columns : List ℕ) → All HasStep picks → TakesBoth from picks rows columns → All (λ p. p < cols_of from) columns
columns_below from picks rows columns h t = takes_below _ (column_pick from picks) columns (column_pick_steps from picks h) t.takes_columns

-- ---- rows and columns crossed

-- place k of the crossing
pub crossed_at : (from : Sides) (rows columns places : List ℕ) → IsCrossed from rows columns places → (k : ℕ) → k < length places
    → get_or places k 0 ≡ row_place from (get_or rows (k / length columns) 0) (get_or columns (k % length columns) 0)
crossed_at from rows columns places c k h =
    let below : k < length rows * length columns = omega (arith, h, c.count) in
    let wide : 0 < length columns = (factor_pos k (length rows) (length columns) below).1 in
    ap (λ q. get_or places q 0) (sym (div-add-mod' k (length columns)))
    ∙ c.entries (k / length columns) (k % length columns) (div_below k (length columns) (length rows) wide below) (mod_below k (length columns) wide)

pub crossed_below : (from : Sides) (rows columns places : List ℕ) → All (λ p. p < rows_of from) rows → All (λ p. p < cols_of from) columns → IsCrossed from rows columns places
    → All (λ p. p < entries_of from) places
crossed_below from rows columns places r s c k d h =
    let below : k < length rows * length columns = omega (arith, h, c.count) in
    let wide : 0 < length columns = (factor_pos k (length rows) (length columns) below).1 in
    let row : get_or rows (k / length columns) 0 < rows_of from = r (k / length columns) 0 (div_below k (length columns) (length rows) wide below) in
    let column : get_or columns (k % length columns) 0 < cols_of from = s (k % length columns) 0 (mod_below k (length columns) wide) in
    rw (get_or_default places k d 0 h, crossed_at from rows columns places c k h) (place_below false from _ _ (record { row = row; column = column }))

-- places that are found by quotient and remainder are the crossing
pub crossed_from_places : (from : Sides) (rows columns places : List ℕ) → length places ≡ length rows * length columns → ((k : ℕ) → k < length places
    → get_or places k 0 ≡ row_place from (get_or rows (k / length columns) 0) (get_or columns (k % length columns) 0)) → IsCrossed from rows columns places
crossed_from_places from rows columns places count each = record {
  count = count;
  entries = λ i j h k.
      let below : i * length columns + j < length places = omega (arith, count, mul-add-lt i (length columns) j (length rows) h k, mul_comm (length rows) (length columns)) in
      each (i * length columns + j) below ∙ rw (div-mul-add i (length columns) j k, mod-mul-add i (length columns) j k) refl;
}

-- ---- faults

first_fault_one : (from : Sides) (picks : List Pick) (fault other : ShapeFault) → IsFirstFault from picks fault → IsFirstFault from picks other → fault ≡ other
first_fault_one from picks fault other f g = elim f.first [
  | inl a ↦ elim g.first [
    | inl b ↦ pick_fault_one _ (row_pick from picks) fault other a b
    | inr b ↦ absurd (takes_no_fault _ (row_pick from picks) b.0.0 fault b.0.1 a)
  ]
  | inr a ↦ elim g.first [
    | inl b ↦ absurd (takes_no_fault _ (row_pick from picks) a.0.0 other a.0.1 b)
    | inr b ↦ pick_fault_one _ (column_pick from picks) fault other a.1 b.1
  ]
]

too_many : (from : Sides) (picks : List Pick) (fault : ShapeFault) → rank_of from < length picks → IsFirstFault from picks fault → ⊥
too_many from picks fault h f = omega (arith, h, f.few)

pub index_fault_one : (from : Sides) (picks : List Pick) (fault other : ShapeFault) → IsIndexFault from picks fault → IsIndexFault from picks other → fault ≡ other
index_fault_one from picks Clash Clash f g = refl
index_fault_one from picks Clash OutOfRange f g = absurd (too_many from picks OutOfRange f g)
index_fault_one from picks Clash Empty f g = absurd (too_many from picks Empty f g)
index_fault_one from picks OutOfRange Clash f g = absurd (too_many from picks OutOfRange g f)
index_fault_one from picks OutOfRange OutOfRange f g = refl
index_fault_one from picks OutOfRange Empty f g = first_fault_one from picks OutOfRange Empty f g
index_fault_one from picks Empty Clash f g = absurd (too_many from picks Empty g f)
index_fault_one from picks Empty OutOfRange f g = first_fault_one from picks Empty OutOfRange f g
index_fault_one from picks Empty Empty f g = refl
index_fault_one from picks Memory other f g = absurd f
index_fault_one from picks fault Memory f g = absurd g

takes_no_first_fault : (from : Sides) (picks : List Pick) (rows columns : List ℕ) (fault : ShapeFault) → TakesBoth from picks rows columns → IsFirstFault from picks fault → ⊥
takes_no_first_fault from picks rows columns fault t f = elim f.first [
  | inl a ↦ takes_no_fault _ (row_pick from picks) rows fault t.takes_rows a
  | inr a ↦ takes_no_fault _ (column_pick from picks) columns fault t.takes_columns a.1
]

pub takes_no_index_fault : (from : Sides) (picks : List Pick) (rows columns : List ℕ) (fault : ShapeFault) → TakesBoth from picks rows columns → IsIndexFault from picks fault → ⊥
takes_no_index_fault from picks rows columns Clash t f = omega (arith, f, t.few)
takes_no_index_fault from picks rows columns OutOfRange t f = takes_no_first_fault from picks rows columns OutOfRange t f
takes_no_index_fault from picks rows columns Empty t f = takes_no_first_fault from picks rows columns Empty t f
takes_no_index_fault from picks rows columns Memory t f = f

-- a result that is the index's fault is no other
pub same_fault : (from : Sides) (picks : List Pick) {X : Type 0} (r : Result X ShapeFault) (fault other : ShapeFault) → r ≡ Err fault → IsIndexFault from picks fault
    → (r ≡ Err other) ↔ IsIndexFault from picks other
same_fault from picks r fault other is f = (
  (λ e. let same : fault ≡ other = cc in rw (← same) f),
  (λ g. is ∙ ap Err (index_fault_one from picks fault other f g)),
)

-- where the picks take something, a result that isn't this fault has it exactly where the index has
pub never_fault : (from : Sides) (picks : List Pick) (rows columns : List ℕ) {X : Type 0} (r : Result X ShapeFault) (fault : ShapeFault) → TakesBoth from picks rows columns
    → (r ≡ Err fault → ⊥) → (r ≡ Err fault) ↔ IsIndexFault from picks fault
never_fault from picks rows columns r fault t never = ((λ e. absurd (never e)), (λ f. absurd (takes_no_index_fault from picks rows columns fault t f)))

-- the same of two runs
pub crossed_from_runs : (from : Sides) (rows columns : Run) (places : List ℕ) → length places ≡ rows.count * columns.count
    → ((k : ℕ) → k < length places → get_or places k 0 ≡ row_place from (run_place rows (k / columns.count)) (run_place columns (k % columns.count)))
    → IsCrossed from (places_of rows) (places_of columns) places
crossed_from_runs from rows columns places count each =
    crossed_from_places from (places_of rows) (places_of columns) places
    (rw (length-places_from rows.first rows.step rows.count, length-places_from columns.first columns.step columns.count) count) (λ k h.
    let below : k < rows.count * columns.count = omega (arith, h, count) in
    let wide : 0 < columns.count = (factor_pos k rows.count columns.count below).1 in
    rw (
      length-places_from columns.first columns.step columns.count,
      get_or-places_from rows.first rows.step rows.count (k / columns.count) 0
          (div_below k columns.count rows.count wide below),
      get_or-places_from columns.first columns.step columns.count (k % columns.count) 0
          (mod_below k columns.count wide),
    ) (each k h))

-- ---- the index

pub index_count : (from to : Sides) (picks : List Pick) (places : List ℕ) → IsIndex from picks to places → length places ≡ entries_of to
index_count from to picks places x = x.crossed.count ∙ sym (index_entries from picks x.rows x.columns x.takes) ∙ sym (ap entries_of x.sides)

pub index_within : (from to : Sides) (picks : List Pick) (places : List ℕ) → All HasStep picks → IsIndex from picks to places → All (λ p. p < entries_of from) places
index_within from to picks places h x = crossed_below from x.rows x.columns places (rows_below from picks x.rows x.columns h x.takes) (columns_below from picks x.rows x.columns h x.takes) x.crossed
