-- Which entries are listed as those that may be bounded.
use Rattle.std.proofs.Common.{◌≡◌, ◌≢◌, ℕ, zero, suc, ◌+◌, ◌<◌, ◌≤◌, arith, get_or, List, [], ◌∷◌, ◌++◌, length, map, Option}
use Rattle.std.proofs.Common.{Some, None, option_map, slice_get, refl, sym, ap, ◌∙◌, subst, add-zero, zero-add}
use Rattle.std.proofs.lemmas.Option.{none-some, same_Some, slice_get-map, slice_get_within, get_or_from_slice_get, slice_get-get_or}
use Rattle.std.specs.List.{All}
use Rattle.std.proofs.lemmas.List.FromFn.{length-range_with_len, get_or-range_with_len}
use Rattle.dcx_math.proofs.Lists.{mapped}
use Rattle.dcx_shape.specs.Sides.{entries_of}
use Rattle.dcx_shape.specs.Places.{places_below}
use Rattle.dcx_call.specs.declared.attribute.Variable.{Variable}
use Rattle.dcx_call.specs.Attributes.{IsSquare, AreSquare}
use Rattle.dcx_call.specs.declared.attribute.Whole.{Whole}
use Rattle.dcx_call.specs.declared.attribute.Whole.TheVariants.{Not, Integer, Boolean}
use Rattle.dcx_unknowns.specs.Own.{source_of, own_before}
use Rattle.dcx_unknowns.specs.Unknowns.{demanded, sides_in, variable_unknowns, first_unknown, unknown_from}
use Rattle.dcx_unknowns.proofs.Places.{place_within, own_before-lt}
use Rattle.dcx_unknowns.proofs.Sources.{Owns, source_own}
use Rattle.dcx_unknowns.proofs.Owners.{count_of, first_fits}
use Rattle.dcx_branch.specs.declared.place.Place.{Place}
use Rattle.dcx_branch.proofs.Known.{IsIn}
use Rattle.dcx_branch.specs.Places.{places_of, entry_places, marked_places, variable_places, places_from, places}

-- the place of an entry
abbrev pub place_at : ℕ → Whole → ℕ → ℕ → Place
place_at k mark j n = record { variable = k; entry = j; unknown = n; whole = mark }

-- it is an entry of a marked variable, with its unknown
pub record IsPlaceOf (vs : List Variable) (q : Place) : Type 0 where
  pub variable : Variable
  pub there : slice_get vs q.variable ≡ Some variable
  pub entry : q.entry < entries_of (sides_in variable)
  pub unknown : unknown_from (first_unknown vs q.variable) variable q.entry ≡ Some q.unknown
  pub whole : q.whole ≡ variable.whole
  pub marked : variable.whole ≢ Not

-- what holds of each item of a list
abbrev pub Each : {A : Type 0} → (A → Type 0) → List A → Type 0
Each {A} P xs = (i : ℕ) (x : A) → slice_get xs i ≡ Some x → P x

pub each_append : {A : Type 0} (P : A → Type 0) (xs ys : List A) → Each P xs → Each P ys → Each P (xs ++ ys)
each_append P [] ys h k i x e = k i x e
each_append P (a ∷ xs) ys h k zero x e = h 0 x e
each_append P (a ∷ xs) ys h k (suc i) x e = each_append P xs ys (λ n y d. h (suc n) y d) k i x e

pub each_left : {A : Type 0} (P : A → Type 0) (xs ys : List A) → Each P (xs ++ ys) → Each P xs
each_left P [] ys h i x e = absurd (none-some x e)
each_left P (a ∷ xs) ys h zero x e = h 0 x e
each_left P (a ∷ xs) ys h (suc i) x e = each_left P xs ys (λ n y d. h (suc n) y d) i x e

pub each_right : {A : Type 0} (P : A → Type 0) (xs ys : List A) → Each P (xs ++ ys) → Each P ys
each_right P [] ys h i x e = h i x e
each_right P (a ∷ xs) ys h i x e = each_right P xs ys (λ n y d. h (suc n) y d) i x e

pub in_left : {A : Type 0} (x : A) (xs ys : List A) → IsIn x xs → IsIn x (xs ++ ys)
in_left x [] ys (i, e) = absurd (none-some x e)
in_left x (a ∷ xs) ys (zero, e) = (0, e)
in_left x (a ∷ xs) ys (suc i, e) = let (j, d) = in_left x xs ys (i, e) in (suc j, d)

pub in_right : {A : Type 0} (x : A) (xs ys : List A) → IsIn x ys → IsIn x (xs ++ ys)
in_right x [] ys h = h
in_right x (a ∷ xs) ys h = let (j, d) = in_right x xs ys h in (suc j, d)

-- ---- the entries of a variable
module _ (k : ℕ) (mark : Whole) where
  each_of : (P : Place → Type 0) (j : ℕ) (us : List (Option ℕ)) → ((e n : ℕ) → slice_get us e ≡ Some (Some n) → P (place_at k mark (j + e) n)) → Each P (places_of k mark j us)
  each_of P j [] h i q e = absurd (none-some q e)
  each_of P j (None ∷ us) h i q e =
      each_of P (suc j) us (λ m n at. let s : j + suc m ≡ suc j + m = omega arith in subst (λ x. P (place_at k mark x n)) s (h (suc m) n at)) i q e
  each_of P j (Some u ∷ us) h zero q e = subst P (same_Some (place_at k mark j u) q e) (subst (λ x. P (place_at k mark x u)) (add-zero j) (h 0 u refl))
  each_of P j (Some u ∷ us) h (suc i) q e =
      each_of P (suc j) us (λ m n at. let s : j + suc m ≡ suc j + m = omega arith in subst (λ x. P (place_at k mark x n)) s (h (suc m) n at)) i q e

  there_of : (j : ℕ) (us : List (Option ℕ)) (e n : ℕ) → slice_get us e ≡ Some (Some n) → IsIn (place_at k mark (j + e) n) (places_of k mark j us)
  there_of j [] e n at = absurd (none-some (Some n) at)
  there_of j (None ∷ us) zero n at = absurd (cc)
  there_of j (None ∷ us) (suc e) n at = let s : suc j + e ≡ j + suc e = omega arith in subst (λ x. IsIn (place_at k mark x n) (places_of k mark (suc j) us)) s (there_of (suc j) us e n at)
  there_of j (Some u ∷ us) zero n at =
      let same : u ≡ n = cc in
      (0, ap (λ m. Some (place_at k mark j m)) same ∙ ap (λ x. Some (place_at k mark x n)) (sym (add-zero j)))
  there_of j (Some u ∷ us) (suc e) n at =
      let s : suc j + e ≡ j + suc e = omega arith in
      let (i, d) = subst (λ x. IsIn (place_at k mark x n) (places_of k mark (suc j) us)) s (there_of (suc j) us e n at) in (suc i, d)

-- a place that is listed is its own number
place_number : (n k e : ℕ) → slice_get (places_below n) k ≡ Some e → e ≡ k
place_number n k e at =
    let there : k < length (places_below n) = slice_get_within (places_below n) k e at in
    let lt : k < n = omega (arith, there, length-range_with_len 0 n) in
    sym (get_or_from_slice_get (places_below n) k e 0 at) ∙ get_or-range_with_len 0 n k 0 lt ∙ zero-add k

place_there : (n k : ℕ) → k < n → slice_get (places_below n) k ≡ Some k
place_there n k lt =
    let there : k < length (places_below n) = omega (arith, length-range_with_len 0 n) in
    slice_get-get_or (places_below n) k 0 there ∙ ap Some (get_or-range_with_len 0 n k 0 lt ∙ zero-add k)

module _ (vs : List Variable) where
  own_place : (k : ℕ) (v : Variable) → slice_get vs k ≡ Some v → v.whole ≢ Not → Each (IsPlaceOf vs) (entry_places k (first_unknown vs k) v)
  own_place k v at marked =
      each_of k v.whole (IsPlaceOf vs) 0 (map (unknown_from (first_unknown vs k) v) (places_below (entries_of (sides_in v))))
      (λ e n there.
      let (j, listed, is) = mapped (unknown_from (first_unknown vs k) v) (places_below (entries_of (sides_in v))) e (Some n) there in
      let same = place_number (entries_of (sides_in v)) e j listed in
      let within = place_within (entries_of (sides_in v)) e j listed in
      let z : j ≡ 0 + e = same ∙ sym (zero-add e) in
      record {
        variable = v;
        there = at;
        entry = subst (λ x. x < entries_of (sides_in v)) z within;
        unknown = subst (λ x. unknown_from (first_unknown vs k) v x ≡ Some n) z is;
        whole = refl;
        marked = marked;
      })

  variable_place : (k : ℕ) (v : Variable) → slice_get vs k ≡ Some v → Each (IsPlaceOf vs) (variable_places k (first_unknown vs k) v)
  variable_place k v at = by v.whole refl
    where
      by : (w : Whole) → v.whole ≡ w → Each (IsPlaceOf vs) (marked_places w (entry_places k (first_unknown vs k) v))
      by Not e = λ i q at_i. absurd (none-some q at_i)
      by Integer e = own_place k v at (λ d. cc)
      by Boolean e = own_place k v at (λ d. cc)

  each_from : (k : ℕ) (rest : List Variable) → ((m : ℕ) (v : Variable) → slice_get rest m ≡ Some v → slice_get vs (k + m) ≡ Some v) → Each (IsPlaceOf vs) (places_from vs k rest)
  each_from k [] h = λ i q e. absurd (none-some q e)
  each_from k (v ∷ rest) h =
      each_append (IsPlaceOf vs) (variable_places k (first_unknown vs k) v) (places_from vs (suc k) rest)
      (variable_place k v (subst (λ x. slice_get vs x ≡ Some v) (add-zero k) (h 0 v refl)))
      (each_from (suc k) rest (λ m w at. let s : k + suc m ≡ suc k + m = omega arith in subst (λ x. slice_get vs x ≡ Some w) s (h (suc m) w at)))

  pub each_place : Each (IsPlaceOf vs) (places vs)
  each_place = each_from 0 vs (λ m v at. subst (λ x. slice_get vs x ≡ Some v) (sym (zero-add m)) at)

  -- ---- each marked entry with an unknown is listed
  entry_there : (k : ℕ) (v : Variable) (j n : ℕ) → j < entries_of (sides_in v) → unknown_from (first_unknown vs k) v j ≡ Some n → IsIn (place_at k v.whole j n) (entry_places k (first_unknown vs k) v)
  entry_there k v j n lt e =
      let f = unknown_from (first_unknown vs k) v in
      subst (λ x. IsIn (place_at k v.whole x n) (entry_places k (first_unknown vs k) v)) (zero-add j)
      (there_of k v.whole 0 (map f (places_below (entries_of (sides_in v)))) j n
      (slice_get-map f (places_below (entries_of (sides_in v))) j ∙ ap (option_map f) (place_there (entries_of (sides_in v)) j lt) ∙ ap Some e))

  variable_there : (k : ℕ) (v : Variable) (q : Place) → v.whole ≢ Not → IsIn q (entry_places k (first_unknown vs k) v) → IsIn q (variable_places k (first_unknown vs k) v)
  variable_there k v q marked h = by v.whole refl
    where
      by : (w : Whole) → v.whole ≡ w → IsIn q (marked_places w (entry_places k (first_unknown vs k) v))
      by Not e = absurd (marked e)
      by Integer e = h
      by Boolean e = h

  there_from : (k : ℕ) (rest : List Variable) (m : ℕ) (v : Variable) (q : Place) → slice_get rest m ≡ Some v → IsIn q (variable_places (k + m) (first_unknown vs (k + m)) v)
      → IsIn q (places_from vs k rest)
  there_from k [] m v q at h = absurd (none-some v at)
  there_from k (w ∷ rest) zero v q at h =
      let same : w ≡ v = same_Some w v at in
      in_left q (variable_places k (first_unknown vs k) w) (places_from vs (suc k) rest)
      (subst (λ (u : Variable). IsIn q (variable_places k (first_unknown vs k) u)) (sym same) (subst (λ x. IsIn q (variable_places x (first_unknown vs x) v)) (add-zero k) h))
  there_from k (w ∷ rest) (suc m) v q at h =
      let s : k + suc m ≡ suc k + m = omega arith in
      in_right q (variable_places k (first_unknown vs k) w) (places_from vs (suc k) rest)
      (there_from (suc k) rest m v q at (subst (λ x. IsIn q (variable_places x (first_unknown vs x) v)) s h))

  pub place_listed : (k : ℕ) (v : Variable) (j n : ℕ) → slice_get vs k ≡ Some v → v.whole ≢ Not → j < entries_of (sides_in v) → unknown_from (first_unknown vs k) v j ≡ Some n →
      IsIn (place_at k v.whole j n) (places vs)
  place_listed k v j n at marked lt e =
      there_from 0 vs k v (place_at k v.whole j n) at
      (subst (λ x. IsIn (place_at k v.whole j n) (variable_places x (first_unknown vs x) v)) (sym (zero-add k)) (variable_there k v (place_at k v.whole j n) marked (entry_there k v j n lt e)))

-- ---- the unknown of an entry is one of the variables'
-- an unknown that stands for an entry is that of an entry with its own
source_there : (f : ℕ → ℕ) (o : Option ℕ) (n : ℕ) → option_map f o ≡ Some n → (e : ℕ) × (o ≡ Some e) × (f e ≡ n)
source_there f None n h = absurd (none-some n h)
source_there f (Some e) n h = (e, refl, same_Some (f e) n h)

unknown_within : (first all : ℕ) (v : Variable) (j n : ℕ) → IsSquare v → j < entries_of (sides_in v) → first + count_of v ≤ all → unknown_from first v j ≡ Some n → n < all
unknown_within first all v j n sq lt fits e =
    let (k, at, is) = source_there (λ i. first + own_before (demanded v) (sides_in v) i) (source_of (demanded v) (sides_in v) j) n e in
    let own : Owns (demanded v) (sides_in v) k = source_own (demanded v) (sides_in v) j k sq lt at in
    let less = own_before-lt (demanded v) (sides_in v) k own.0 own.1 in
    omega (arith, is, less, fits)

pub place_below : (vs : List Variable) → AreSquare vs → (q : Place) → IsPlaceOf vs q → q.unknown < variable_unknowns vs
place_below vs squares q is =
    let k = q.variable in
    let v = is.variable in
    let lt = slice_get_within vs k v is.there in
    let same : get_or vs k v ≡ v = get_or_from_slice_get vs k v v is.there in
    let square : IsSquare v = subst (λ (w : Variable). IsSquare w) same (squares k v lt) in
    let fits = first_fits vs k (first_unknown vs k) v lt (sym same) refl in
    unknown_within (first_unknown vs k) (variable_unknowns vs) v q.entry q.unknown square is.entry fits is.unknown

-- so each place is below any number that the unknowns are
pub places_below_all : (vs : List Variable) (n : ℕ) → AreSquare vs → variable_unknowns vs ≤ n → All (λ (q : Place). q.unknown < n) (places vs)
places_below_all vs n squares few i d lt =
    let at = slice_get-get_or (places vs) i d lt in
    let less = place_below vs squares (get_or (places vs) i d) (each_place vs i (get_or (places vs) i d) at) in
    omega (arith, less, few)
