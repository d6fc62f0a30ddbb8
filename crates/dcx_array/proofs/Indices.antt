-- What picks take of an array, and why they take nothing, is what the relations of indices say.
use Rattle.std.specs.Prelude.{◌≡◌, ◌↔◌, ℕ, zero, suc, ◌+◌, ◌-◌, ◌*◌, ◌<◌, ◌⊎◌, List, [], ◌∷◌, map, length, Some, Result, Ok, Err}
use Rattle.std.specs.List.{All, flat_map}
use Rattle.std.proofs.Common.{refl, sym, ap, ◌∙◌, subst, arith, inl, inr, get_or}
use Rattle.std.proofs.lemmas.Bool.{cases_lt, le-leb, lt-leb}
use Rattle.std.proofs.lemmas.List.{length-map, length-append, get_or-map, get_or_append_left, get_or-append_right}
use native.Mathlib.Decide.{ℕ_discrete}
use Rattle.dcx_shape.specs.declared.shape.Sides.{Sides}
use Rattle.dcx_shape.specs.declared.shape.Shape.{Shape}
use Rattle.dcx_shape.specs.declared.index.Pick.{Pick}
use Rattle.dcx_shape.specs.declared.index.Pick.TheVariants.{At, Range as Along}
use Rattle.dcx_shape.specs.declared.fault.ShapeFault.{ShapeFault}
use Rattle.dcx_shape.specs.declared.fault.ShapeFault.TheVariants as shape_faults
use Rattle.dcx_shape.specs.Shape.{sides_of}
use Rattle.dcx_shape.specs.Sides.{rank_of, rows_of, cols_of, entries_of, HasFewEntries}
use Rattle.dcx_shape.specs.Places.{row_place}
use Rattle.dcx_shape.specs.Index.{HasStep, IsPickFault, row_pick, column_pick, IsCrossed, IsIndex, IsFirstFault, IsIndexFault}
use Rattle.dcx_shape.proofs.Indices.{row_pick_steps, column_pick_steps, kept_few, index_count, index_within}
use Rattle.dcx_shape.proofs.IndexLaws.{crossed_one}
use Rattle.dcx_affine.specs.declared.places.Index.{Index}
use Rattle.dcx_array.specs.declared.fault.ArrayFault.{ArrayFault}
use Rattle.dcx_array.specs.Answers.{Gives, fault_of, ◌>>=◌}
use Rattle.dcx_array.specs.Picks.{Picked, crossed, taken, dec_below, index_with, indexed}
use Rattle.dcx_array.proofs.Equals.{index_from_parts}
use Rattle.dcx_array.proofs.AllowedShapes.{allowed_shape-is}
use Rattle.dcx_array.proofs.PickedPlaces.{picked_is, picked_fault, decided, fault_of-injective}

-- ---- rows and columns crossed
abbrev crossing : Sides → List ℕ → List ℕ → List ℕ
crossing from rows columns = flat_map (λ i. map (row_place from i) columns) rows

length-crossing : (from : Sides) (rows columns : List ℕ) → length (crossing from rows columns) ≡ length rows * length columns
length-crossing from [] columns = omega arith
length-crossing from (r ∷ rows) columns =
    let first : length (map (row_place from r) columns) ≡ length columns = length-map columns (row_place from r) in
    length-append (map (row_place from r) columns) (crossing from rows columns) ∙ omega (arith, first, length-crossing from rows columns)

get_or-crossing : (from : Sides) (rows columns : List ℕ) (i j : ℕ) → i < length rows → j < length columns →
    get_or (crossing from rows columns) (i * length columns + j) 0 ≡ row_place from (get_or rows i 0) (get_or columns j 0)
get_or-crossing from [] columns i j b c = absurd (omega arith)
get_or-crossing from (r ∷ rows) columns zero j b c =
    let first : length (map (row_place from r) columns) ≡ length columns = length-map columns (row_place from r) in
    let here : zero * length columns + j ≡ j = omega arith in
    ap (λ k. get_or (crossing from (r ∷ rows) columns) k 0) here
    ∙ get_or_append_left (map (row_place from r) columns) (crossing from rows columns) 0 j (omega (arith, c, first))
    ∙ get_or-map (row_place from r) columns j 0 0 c
get_or-crossing from (r ∷ rows) columns (suc i) j b c =
    let first : length (map (row_place from r) columns) ≡ length columns = length-map columns (row_place from r) in
    let rest : suc i * length columns + j - length columns ≡ i * length columns + j = omega arith in
    get_or-append_right (map (row_place from r) columns) (crossing from rows columns) (length columns) (suc i * length columns + j) 0 first (omega arith)
    ∙ ap (λ k. get_or (crossing from rows columns) k 0) rest ∙ get_or-crossing from rows columns i j (omega arith) c

pub crossing_is : (from : Sides) (rows columns : List ℕ) → IsCrossed from rows columns (crossing from rows columns)
crossing_is from rows columns = record { count = length-crossing from rows columns; entries = get_or-crossing from rows columns }

-- ---- picks of an array
pub taken_is : (from to : Sides) (picks : List Pick) (places : List ℕ) → All HasStep picks → IsIndex from picks to places → taken from picks ≡ Ok (record { sides = to; places = places })
taken_is from to picks places h x =
    let same : crossing from x.rows x.columns ≡ places = crossed_one from x.rows x.columns (crossing from x.rows x.columns) places (crossing_is from x.rows x.columns) x.crossed in
    let what : crossed from picks x.rows x.columns ≡ record { sides = to; places = places } = λ i. record { sides = sym x.sides i; places = same i } in
    rw (
      le-leb (length picks) (rank_of from) x.takes.few,
      picked_is (rows_of from) (row_pick from picks) x.rows (row_pick_steps from picks h) x.takes.takes_rows,
      picked_is (cols_of from) (column_pick from picks) x.columns (column_pick_steps from picks h) x.takes.takes_columns,
    ) (ap Ok what)

-- the first pick that takes nothing
first_fault : (from : Sides) (picks : List Pick) (fault : ShapeFault) → All HasStep picks → IsFirstFault from picks fault → taken from picks ≡ Err (fault_of fault)
first_fault from picks fault h f = elim f.first [
  | inl a ↦ rw (le-leb (length picks) (rank_of from) f.few, picked_fault (rows_of from) (row_pick from picks) fault (row_pick_steps from picks h) a) refl
  | inr b ↦ rw (
    le-leb (length picks) (rank_of from) f.few,
    picked_is (rows_of from) (row_pick from picks) b.0.0 (row_pick_steps from picks h) b.0.1,
    picked_fault (cols_of from) (column_pick from picks) fault (column_pick_steps from picks h) b.1,
  ) refl
]

pub taken_fault : (from : Sides) (picks : List Pick) (fault : ShapeFault) → All HasStep picks → IsIndexFault from picks fault → taken from picks ≡ Err (fault_of fault)
taken_fault from picks shape_faults.Clash h f = rw (lt-leb (length picks) (rank_of from) f) refl
taken_fault from picks shape_faults.Range h f = first_fault from picks shape_faults.Range h f
taken_fault from picks shape_faults.Empty h f = first_fault from picks shape_faults.Empty h f
taken_fault from picks shape_faults.Memory h f = absurd f

-- ---- and back
-- picks take something, or have a fault
decided_index : (from : Sides) (picks : List Pick) → All HasStep picks → ((p : Picked) × IsIndex from picks p.sides p.places) ⊎ ((fault : ShapeFault) × IsIndexFault from picks fault)
decided_index from picks h = elim (cases_lt (rank_of from) (length picks)) [
  | inl many ↦ inr (shape_faults.Clash, many)
  | inr few ↦ elim (decided (rows_of from) (row_pick from picks) (row_pick_steps from picks h)) [
    | inr f ↦ inr (by_kind f.0 (record { few = few; first = inl f.1 }) (pick_kind (rows_of from) (row_pick from picks) f.0 f.1))
    | inl rows ↦ elim (decided (cols_of from) (column_pick from picks) (column_pick_steps from picks h)) [
      | inr f ↦ inr (by_kind f.0 (record { few = few; first = inr (rows, f.1) }) (pick_kind (cols_of from) (column_pick from picks) f.0 f.1))
      | inl columns ↦ inl (
        crossed from picks rows.0 columns.0,
        record {
          rows = rows.0;
          columns = columns.0;
          takes = record { few = few; takes_rows = rows.1; takes_columns = columns.1 };
          sides = refl;
          crossed = crossing_is from rows.0 columns.0;
        },
      )
    ]
  ]
]
  where
    pick_kind : (n : ℕ) (p : Pick) (f : ShapeFault) → IsPickFault n p f → (f ≡ shape_faults.Range) ⊎ (f ≡ shape_faults.Empty)
    pick_kind n (At i) f x = inl x.0
    pick_kind n (Along s) f x = inr x.0

    by_kind : (f : ShapeFault) → IsFirstFault from picks f → (f ≡ shape_faults.Range) ⊎ (f ≡ shape_faults.Empty) → (fault : ShapeFault) × IsIndexFault from picks fault
    by_kind f x (inl e) = (shape_faults.Range, subst (IsFirstFault from picks) e x)
    by_kind f x (inr e) = (shape_faults.Empty, subst (IsFirstFault from picks) e x)

pub taken-Ok : (from to : Sides) (picks : List Pick) (places : List ℕ) → All HasStep picks → taken from picks ≡ Ok (record { sides = to; places = places }) → IsIndex from picks to places
taken-Ok from to picks places h e = elim (decided_index from picks h) [
  | inl x ↦
      let is : taken from picks ≡ Ok x.0 = taken_is from x.0.sides picks x.0.places h x.1 in
      let same : x.0 ≡ record { sides = to; places = places } = cc in
      subst (λ p. IsIndex from picks p.sides p.places) same x.1
  | inr f ↦ let is : taken from picks ≡ Err (fault_of f.0) = taken_fault from picks f.0 h f.1 in cc
]

pub taken-Err : (from : Sides) (picks : List Pick) (fault : ShapeFault) → All HasStep picks → taken from picks ≡ Err (fault_of fault) → IsIndexFault from picks fault
taken-Err from picks fault h e = elim (decided_index from picks h) [
  | inl x ↦ let is : taken from picks ≡ Ok x.0 = taken_is from x.0.sides picks x.0.places h x.1 in cc
  | inr f ↦
      let is : taken from picks ≡ Err (fault_of f.0) = taken_fault from picks f.0 h f.1 in
      let same : fault_of f.0 ≡ fault_of fault = cc in
      subst (IsIndexFault from picks) (fault_of-injective f.0 fault same) f.1
]

-- ---- the call
-- a call is there for its own parts
pub index_with-is : (call : Index) → index_with call.from call.to call.places ≡ Some call
unfolding index_with
index_with-is call = by (ℕ_discrete (length call.places) (entries_of (sides_of call.to))) refl (dec_below (entries_of (sides_of call.from)) call.places) refl
  where
    by : (d : Dec (length call.places ≡ entries_of (sides_of call.to))) → ℕ_discrete (length call.places) (entries_of (sides_of call.to)) ≡ d →
        (b : Dec (All (λ p. p < entries_of (sides_of call.from)) call.places)) → dec_below (entries_of (sides_of call.from)) call.places ≡ b →
        index_with call.from call.to call.places ≡ Some call
    by (yes count) e (yes within) q =
        rw (e, q) (ap Some (index_from_parts (record { from = call.from; to = call.to; places = call.places; count = count; within = within }) call refl refl refl))
    by (yes count) e (no f) q = absurd (f call.within)
    by (no f) e b q = absurd (f call.count)

pub indexed_is : (picks : List Pick) (call : Index) → All HasStep picks → IsIndex (sides_of call.from) picks (sides_of call.to) call.places → indexed call.from picks ≡ Ok call
indexed_is picks call h x =
    rw (taken_is (sides_of call.from) (sides_of call.to) picks call.places h x, allowed_shape-is (sides_of call.to) call.to refl, index_with-is call) refl

pub indexed-Ok : (from : Shape) (picks : List Pick) (call : Index) → All HasStep picks → indexed from picks ≡ Ok call
    → (call.from ≡ from) × IsIndex (sides_of from) picks (sides_of call.to) call.places
indexed-Ok from picks call h e = elim (decided_index (sides_of from) picks h) [
  | inl x ↦
      let few : HasFewEntries x.0.sides = subst HasFewEntries (sym x.1.sides) (kept_few (sides_of from) picks x.1.rows x.1.columns from.few h x.1.takes) in
      let own : Index = record {
        from = from;
        to = record { sides = x.0.sides; few = few };
        places = x.0.places;
        count = index_count (sides_of from) x.0.sides picks x.0.places x.1;
        within = index_within (sides_of from) x.0.sides picks x.0.places h x.1;
      } in
      let is : indexed from picks ≡ Ok own = indexed_is picks own h x.1 in
      let same : own ≡ call = cc in
      (ap (λ c. c.from) (sym same), subst (λ c. IsIndex (sides_of from) picks (sides_of c.to) c.places) same x.1)
  | inr f ↦
      let is : taken (sides_of from) picks ≡ Err (fault_of f.0) = taken_fault (sides_of from) picks f.0 h f.1 in
      let none : indexed from picks ≡ Err (fault_of f.0) = rw is refl in
      cc
]

-- ---- what the code answers
-- the fault that is told
pub told_fault : {A B : Type 0} (from : Sides) (picks : List Pick) (answered : Result B ShapeFault) (fault : ShapeFault) (next : Picked → Result A ArrayFault)
    → All HasStep picks → answered ≡ Err fault →
    ((answered ≡ Err shape_faults.Clash) ↔ (rank_of from < length picks)) →
    ((answered ≡ Err shape_faults.Range) ↔ IsFirstFault from picks shape_faults.Range) →
    ((answered ≡ Err shape_faults.Empty) ↔ IsFirstFault from picks shape_faults.Empty) →
    Gives (Err (fault_of fault)) (taken from picks >>= next)
told_fault from picks answered shape_faults.Clash next h is clash range empty = inr (sym (ap (λ t. t >>= next) (taken_fault from picks shape_faults.Clash h (clash.0 is))))
told_fault from picks answered shape_faults.Range next h is clash range empty = inr (sym (ap (λ t. t >>= next) (taken_fault from picks shape_faults.Range h (range.0 is))))
told_fault from picks answered shape_faults.Empty next h is clash range empty = inr (sym (ap (λ t. t >>= next) (taken_fault from picks shape_faults.Empty h (empty.0 is))))
told_fault from picks answered shape_faults.Memory next h is clash range empty = inl refl
