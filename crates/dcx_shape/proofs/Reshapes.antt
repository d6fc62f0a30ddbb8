-- Reshapes: what their places are, that they are a permutation, and the way back.
use Rattle.std.proofs.Common.{◌≡◌, ℕ, ◌<◌, Bool, true, false, List, length, get_or, refl, sym, ◌∙◌, ap, subst, arith, zero-add}
use Rattle.std.specs.List.{Contains}
use Rattle.std.specs.List.Sorted.{IsPermutation}
use Rattle.dcx_shape.specs.declared.shape.Sides.{Sides}
use Rattle.dcx_shape.specs.Sides.{entries_of}
use Rattle.dcx_shape.specs.Places.{HasEntry, row_place, place_of, places_below}
use Rattle.dcx_shape.specs.Reshape.{IsReshape, IsSource}
use Rattle.dcx_shape.specs.Laws.{HoldsForReshapes}
use Rattle.std.proofs.lemmas.Grind.{same_number_lists}
use Rattle.std.proofs.lemmas.List.FromFn.{length-range_with_len, get_or-range_with_len}
use Rattle.std.proofs.lemmas.List.{get_or_default}
use Rattle.dcx_shape.proofs.Entries.{Entry, entry_at, place_below, same_entry}
use Rattle.dcx_shape.proofs.Permutations.{permutation_from_each}

-- by rows entry k is entry k
pub same_place : (c : Bool) (from to : Sides) (k : ℕ) → c ≡ false → entries_of from ≡ entries_of to → k < entries_of to → IsSource c from to k k
same_place true from to k e sizes h = absurd (cc)
same_place false from to k e sizes h =
    let f : Entry false from k = entry_at false from k (omega arith) in
    let t : Entry false to k = entry_at false to k h in
    record {
      row = f.row;
      column = f.column;
      to_row = t.row;
      to_column = t.column;
      entry = f.entry;
      to_entry = t.entry;
      same = sym f.is_place ∙ t.is_place;
      is_to = t.is_place;
      is_from = f.is_place;
    }

-- an entry of the source at the same place is the one that was found
pub source_is : (c : Bool) (from to : Sides) (k p : ℕ) → IsSource c from to k p → (i j a b : ℕ) → HasEntry from i j → HasEntry to a b → place_of c from i j ≡ place_of c to a b
    → k ≡ row_place to a b → p ≡ row_place from i j
source_is c from to k p s i j a b e f same is_to =
    let t : (s.to_row ≡ a) × (s.to_column ≡ b) = same_entry false to s.to_row s.to_column a b s.to_entry f (sym s.is_to ∙ is_to) in
    let w : place_of c from s.row s.column ≡ place_of c from i j = s.same ∙ rw (t.0, t.1) (sym same) in
    let u : (s.row ≡ i) × (s.column ≡ j) = same_entry c from s.row s.column i j s.entry e w in
    s.is_from ∙ rw (u.0, u.1) refl

-- the sources of all entries make the reshape
pub reshape_from_sources : (c : Bool) (from to : Sides) (places : List ℕ) → entries_of from ≡ entries_of to → length places ≡ entries_of to
    → ((k : ℕ) → k < entries_of to → IsSource c from to k (get_or places k 0)) → IsReshape c from to places
reshape_from_sources c from to places sizes count each = record {
  sizes = sizes;
  count = count;
  entries = λ i j k l e f same. source_is c from to (row_place to k l) (get_or places (row_place to k l) 0) (each (row_place to k l) (place_below false to k l f)) i j k l e f same refl;
}

-- the entry of one array that has the same place as an entry of the other
counterpart : (c : Bool) (from to : Sides) → entries_of from ≡ entries_of to → (i j : ℕ) → HasEntry from i j → Entry c to (place_of c from i j)
counterpart c from to sizes i j e = entry_at c to (place_of c from i j) (subst (λ n. place_of c from i j < n) sizes (place_below c from i j e))

-- each place of the source stands in a reshape
reshape_contains : (c : Bool) (from to : Sides) (places : List ℕ) → IsReshape c from to places → (p : ℕ) → p < entries_of from → Contains places p
reshape_contains c from to places r p h =
    let e : Entry false from p = entry_at false from p h in
    let t : Entry c to (place_of c from e.row e.column) = counterpart c from to r.sizes e.row e.column e.entry in
    let below : row_place to t.row t.column < length places = omega (arith, r.count, place_below false to t.row t.column t.entry) in
    (row_place to t.row t.column, below, get_or_default places _ p 0 below ∙ r.entries _ _ _ _ e.entry t.entry t.is_place ∙ sym e.is_place)

-- a reshape is a permutation of the places
pub reshape_permutes : (c : Bool) (from to : Sides) (places : List ℕ) → IsReshape c from to places → IsPermutation (places_below (entries_of from)) places
reshape_permutes c from to places r = permutation_from_each (entries_of from) places (r.count ∙ sym r.sizes) (reshape_contains c from to places r)

-- ---- laws

-- a reshape and the way back leave each place where it was
reshape_back : (c : Bool) (from to : Sides) (there back : List ℕ) → IsReshape c from to there → IsReshape c to from back → (k : ℕ) → k < entries_of from → get_or there (get_or back k 0) 0 ≡ k
reshape_back c from to there back r s k h =
    let e : Entry false from k = entry_at false from k h in
    let t : Entry c to (place_of c from e.row e.column) = counterpart c from to r.sizes e.row e.column e.entry in
    let way : get_or back k 0 ≡ row_place to t.row t.column = ap (λ x. get_or back x 0) e.is_place ∙ s.entries _ _ _ _ t.entry e.entry (sym t.is_place) in
    ap (λ x. get_or there x 0) way ∙ r.entries _ _ _ _ e.entry t.entry t.is_place ∙ sym e.is_place

-- place k of a reshape, by the entry that has the same place
reshape_at : (c : Bool) (from to : Sides) (places : List ℕ) → IsReshape c from to places → (k : ℕ) (e : Entry false to k) (f : Entry c from (place_of c to e.row e.column))
    → get_or places k 0 ≡ row_place from f.row f.column
reshape_at c from to places r k e f = ap (λ q. get_or places q 0) e.is_place ∙ r.entries _ _ _ _ f.entry e.entry (sym f.is_place)

reshape_one : (c : Bool) (from to : Sides) (xs ys : List ℕ) → IsReshape c from to xs → IsReshape c from to ys → xs ≡ ys
reshape_one c from to xs ys r s =
    same_number_lists xs ys (r.count ∙ sym s.count) (λ k h.
    let e : Entry false to k = entry_at false to k (omega (arith, h, r.count)) in
    let f : Entry c from (place_of c to e.row e.column) = counterpart c to from (sym r.sizes) e.row e.column e.entry in
    reshape_at c from to xs r k e f ∙ sym (reshape_at c from to ys s k e f))

-- by rows no entry moves
reshape_rows : (from to : Sides) (xs : List ℕ) → IsReshape false from to xs → xs ≡ places_below (entries_of to)
reshape_rows from to xs r =
    reshape_one false from to xs (places_below (entries_of to)) r
    (reshape_from_sources false from to (places_below (entries_of to)) r.sizes (length-range_with_len 0 (entries_of to)) (λ k h.
    rw (get_or-range_with_len 0 (entries_of to) k 0 h, zero-add k) (same_place false from to k refl r.sizes h)))

pub reshapes_hold : HoldsForReshapes
reshapes_hold = record { one = reshape_one; permutes = reshape_permutes; back = reshape_back; rows = reshape_rows }
