-- Unknowns and the entries whose own they are.
use Rattle.std.proofs.Common.{◌≡◌, ◌⊎◌, inl, inr, ℕ, zero, suc, ◌+◌, ◌*◌, ◌<◌, ◌≤◌, List, [], ◌∷◌, ◌++◌, length, map, take, get_or}
use Rattle.std.proofs.Common.{replicate, Some, option_map, refl, sym, ap, subst, ◌∙◌, arith, zero-add, add-zero, length-append}
use Rattle.std.specs.Prelude.{sum_by, slice_get, All}
use Rattle.std.proofs.Math.Path.{fun_ext}
use Rattle.std.proofs.lemmas.List.{length-map, get_or-map, take_all, map_push}
use Rattle.std.proofs.lemmas.List.Concat.{length-flat_map}
use Rattle.std.proofs.lemmas.List.Sums.{sum_by-cons, sum_by-le, sum_by_more, sum_by_more_le}
use Rattle.std.proofs.lemmas.List.Folds.{sum_by-replicate}
use Rattle.std.proofs.lemmas.List.FromFn.{length-range_with_len, get_or-range_with_len}
use Rattle.std.proofs.lemmas.Option.{none-some, same_Some, slice_get-map}
use Rattle.dcx_math.proofs.Lists.{mapped}
use Rattle.dcx_shape.specs.Sides.{entries_of}
use Rattle.dcx_shape.specs.Places.{places_below}
use Rattle.dcx_call.specs.declared.attribute.Variable.{Variable}
use Rattle.dcx_linear.specs.declared.row.UnknownKind.{UnknownKind}
use Rattle.dcx_linear.specs.Size.{columns_for}
use Rattle.dcx_unknowns.specs.Own.{own_count, own_before}
use Rattle.dcx_unknowns.specs.Unknowns.{demanded, sides_in, own_of, Owner, owners_from, variable_unknowns, kind_of, own_kinds, variable_kinds, first_unknown, AreFirstsOf}
use Rattle.dcx_unknowns.specs.Laws.{IsVariable, HasOwn, AreNumbered}
use Rattle.dcx_math.proofs.Lists.{in_left}
use Rattle.dcx_unknowns.proofs.Places.{in_right, in_either, own_at, own_listed, own_count_is, own_before-le, places_next}

-- the unknowns of one variable
abbrev pub count_of : Variable → ℕ
count_of v = own_count (demanded v) (sides_in v)

abbrev pub place_of : Variable → ℕ → ℕ
place_of v e = own_before (demanded v) (sides_in v) e

abbrev pub owner_of : ℕ → ℕ → Owner
owner_of k e = record { variable = k; entry = e }

-- ---- how many there are
pub count_from : (m : ℕ) (vs : List Variable) → length (owners_from m vs) ≡ sum_by count_of vs
count_from m [] = refl
count_from m (v ∷ vs) =
    let rest = count_from (suc m) vs in
    omega (arith, length-append (map (owner_of m) (own_of v)) (owners_from (suc m) vs), length-map (own_of v) (owner_of m), rest, sum_by-cons count_of v vs)

pub unknowns_sum : (vs : List Variable) → variable_unknowns vs ≡ sum_by count_of vs
unknowns_sum vs = count_from 0 vs

kinds_count : (vs : List Variable) → length (variable_kinds vs) ≡ sum_by count_of vs
kinds_count vs = length-flat_map own_kinds vs ∙ ap (λ (f : Variable → ℕ). sum_by f vs) (fun_ext (λ (v : Variable). length-map (own_of v) (λ e. kind_of (demanded v))))

first_next : (v : Variable) (vs : List Variable) (k : ℕ) → first_unknown (v ∷ vs) (suc k) ≡ count_of v + first_unknown vs k
first_next v vs k = sum_by-cons count_of v (take k vs)

-- the kinds of one variable are all the same
pub own_kinds_are : (v : Variable) → own_kinds v ≡ replicate (count_of v) (kind_of (demanded v))
own_kinds_are v = by (own_of v)
  where
    by : (es : List ℕ) → map (λ e. kind_of (demanded v)) es ≡ replicate (length es) (kind_of (demanded v))
    by [] = refl
    by (e ∷ es) = ap (λ kinds. kind_of (demanded v) ∷ kinds) (by es)

-- and so are their columns
pub own_columns : (v : Variable) → sum_by columns_for (own_kinds v) ≡ count_of v * columns_for (kind_of (demanded v))
own_columns v = ap (sum_by columns_for) (own_kinds_are v) ∙ sum_by-replicate columns_for (count_of v) (kind_of (demanded v))

-- ---- the owner of an unknown
owner_here : (m : ℕ) (v : Variable) (e : ℕ) → HasOwn v e → slice_get (map (owner_of m) (own_of v)) (place_of v e) ≡ Some (owner_of m e)
owner_here m v e h = slice_get-map (owner_of m) (own_of v) (place_of v e) ∙ ap (option_map (owner_of m)) (own_at (demanded v) (sides_in v) e h.within h.own)

kind_here : (v : Variable) (e : ℕ) → HasOwn v e → slice_get (own_kinds v) (place_of v e) ≡ Some (kind_of (demanded v))
kind_here v e h =
    let kind : ℕ → UnknownKind = λ i. kind_of (demanded v) in
    slice_get-map kind (own_of v) (place_of v e) ∙ ap (option_map kind) (own_at (demanded v) (sides_in v) e h.within h.own)

owner_from : (m : ℕ) (vs : List Variable) (k : ℕ) (v : Variable) (e : ℕ) → IsVariable vs k v → HasOwn v e → slice_get (owners_from m vs) (first_unknown vs k + place_of v e) ≡ Some (owner_of (m + k) e)
owner_from m [] k v e at h = absurd (none-some v at)
owner_from m (w ∷ vs) zero v e at h =
    let front = in_left (map (owner_of m) (own_of v)) (owners_from (suc m) vs) (place_of v e) (owner_of m e) (owner_here m v e h) in
    let here : slice_get (owners_from m (w ∷ vs)) (place_of v e) ≡ Some (owner_of m e) =
    subst (λ (z : Variable). slice_get (map (owner_of m) (own_of z) ++ owners_from (suc m) vs) (place_of v e) ≡ Some (owner_of m e)) (sym (same_Some w v at)) front in
    ap (slice_get (owners_from m (w ∷ vs))) (zero-add (place_of v e)) ∙ here ∙ ap (λ i. Some (owner_of i e)) (sym (add-zero m))
owner_from m (w ∷ vs) (suc k) v e at h =
    let long = length-map (own_of w) (owner_of m) in
    let place : first_unknown (w ∷ vs) (suc k) + place_of v e ≡ length (map (owner_of m) (own_of w)) + (first_unknown vs k + place_of v e) = omega (arith, long, first_next w vs k) in
    let number : suc m + k ≡ m + suc k = omega arith in
    ap (slice_get (owners_from m (w ∷ vs))) place ∙ in_right (map (owner_of m) (own_of w)) (owners_from (suc m) vs) (first_unknown vs k + place_of v e)
    ∙ owner_from (suc m) vs k v e at h ∙ ap (λ i. Some (owner_of i e)) number

kind_from : (vs : List Variable) (k : ℕ) (v : Variable) (e : ℕ) → IsVariable vs k v → HasOwn v e → slice_get (variable_kinds vs) (first_unknown vs k + place_of v e) ≡ Some (kind_of (demanded v))
kind_from [] k v e at h = absurd (none-some v at)
kind_from (w ∷ vs) zero v e at h =
    let front = in_left (own_kinds v) (variable_kinds vs) (place_of v e) (kind_of (demanded v)) (kind_here v e h) in
    let here : slice_get (variable_kinds (w ∷ vs)) (place_of v e) ≡ Some (kind_of (demanded v)) =
    subst (λ (z : Variable). slice_get (own_kinds z ++ variable_kinds vs) (place_of v e) ≡ Some (kind_of (demanded v))) (sym (same_Some w v at)) front in
    ap (slice_get (variable_kinds (w ∷ vs))) (zero-add (place_of v e)) ∙ here
kind_from (w ∷ vs) (suc k) v e at h =
    let long = length-map (own_of w) (λ i. kind_of (demanded w)) in
    let place : first_unknown (w ∷ vs) (suc k) + place_of v e ≡ length (own_kinds w) + (first_unknown vs k + place_of v e) = omega (arith, long, first_next w vs k) in
    ap (slice_get (variable_kinds (w ∷ vs))) place ∙ in_right (own_kinds w) (variable_kinds vs) (first_unknown vs k + place_of v e) ∙ kind_from vs k v e at h

pub are_numbered : (vs : List Variable) → AreNumbered vs
are_numbered vs = record {
  owner = λ k v e at h. owner_from 0 vs k v e at h ∙ ap (λ i. Some (owner_of i e)) (zero-add k);
  kind = λ k v e at h. kind_from vs k v e at h;
  all = ap (sum_by count_of) (take_all (length vs) vs (omega arith)) ∙ sym (unknowns_sum vs);
  kinds = kinds_count vs ∙ sym (unknowns_sum vs);
}

-- ---- whose an unknown with a kind is
pub record IsOwned (vs : List Variable) (m n : ℕ) (kind : UnknownKind) : Type 0 where
  pub number : ℕ
  pub variable : Variable
  pub entry : ℕ
  pub there : IsVariable vs number variable
  pub own : HasOwn variable entry
  pub owner : slice_get (owners_from m vs) n ≡ Some (owner_of (m + number) entry)
  pub kind_is : kind ≡ kind_of (demanded variable)

pub owned : (m : ℕ) (vs : List Variable) (n : ℕ) (kind : UnknownKind) → slice_get (variable_kinds vs) n ≡ Some kind → IsOwned vs m n kind
owned m [] n kind e = absurd (none-some kind e)
owned m (v ∷ vs) n kind e = by (in_either (own_kinds v) (variable_kinds vs) n kind e) (λ j. owned (suc m) vs j kind)
  where
    by : (slice_get (own_kinds v) n ≡ Some kind) ⊎ ((j : ℕ) × (n ≡ length (own_kinds v) + j) × (slice_get (variable_kinds vs) j ≡ Some kind)) →
        ((j : ℕ) → slice_get (variable_kinds vs) j ≡ Some kind → IsOwned vs (suc m) j kind) → IsOwned (v ∷ vs) m n kind
    by (inl here) rest =
        let (i, at, is) = mapped (λ (i : ℕ). kind_of (demanded v)) (own_of v) n kind here in
        let own = own_listed (demanded v) (sides_in v) n i at in
        record {
          number = 0;
          variable = v;
          entry = i;
          there = refl;
          own = record { within = own.0; own = own.1 };
          owner = in_left (map (owner_of m) (own_of v)) (owners_from (suc m) vs) n (owner_of (m + 0) i)
              (slice_get-map (owner_of m) (own_of v) n ∙ ap (option_map (owner_of m)) at ∙ ap (λ k. Some (owner_of k i)) (sym (add-zero m)));
          kind_is = sym is;
        }
    by (inr (j, place, there)) rest =
        let r = rest j there in
        let long = length-map (own_of v) (λ i. kind_of (demanded v)) in
        let long' = length-map (own_of v) (owner_of m) in
        let place' : n ≡ length (map (owner_of m) (own_of v)) + j = omega (arith, place, long, long') in
        let number : suc m + r.number ≡ m + suc r.number = omega arith in
        record {
          number = suc r.number;
          variable = r.variable;
          entry = r.entry;
          there = r.there;
          own = r.own;
          owner = ap (slice_get (owners_from m (v ∷ vs))) place' ∙ in_right (map (owner_of m) (own_of v)) (owners_from (suc m) vs) j ∙ r.owner ∙ ap (λ k. Some (owner_of k r.entry)) number;
          kind_is = r.kind_is;
        }

-- ---- where the unknowns of each variable begin
-- one variable more is passed
pub firsts_next : (vs : List Variable) (k next : ℕ) (v : Variable) (xs ys : List ℕ) → k < length vs → v ≡ get_or vs k v → next ≡ first_unknown vs k → xs ≡ map (first_unknown vs) (places_below k)
    → ys ≡ xs ++ next ∷ []
    → (ys ≡ map (first_unknown vs) (places_below (k + 1))) × (next + count_of v ≡ first_unknown vs (k + 1))
firsts_next vs k next v xs ys lt at is so_far e = (
  e ∙ ap (λ zs. zs ++ next ∷ []) so_far ∙ ap (λ i. map (first_unknown vs) (places_below k) ++ i ∷ []) is
      ∙ sym (ap (map (first_unknown vs)) (places_next k) ∙ map_push (first_unknown vs) (places_below k) k),
  ap (λ i. next + i) (ap count_of at) ∙ ap (λ i. i + count_of (get_or vs k v)) is ∙ sym (sum_by_more count_of vs k v lt),
)

-- and its unknowns are within all
pub first_fits : (vs : List Variable) (k next : ℕ) (v : Variable) → k < length vs → v ≡ get_or vs k v → next ≡ first_unknown vs k → next + count_of v ≤ variable_unknowns vs
first_fits vs k next v lt at is =
    let same : count_of v ≡ count_of (get_or vs k v) = ap count_of at in
    omega (arith, same, is, sum_by_more_le count_of vs k v lt, unknowns_sum vs)

-- ---- where the unknowns of each variable begin, as they are listed
pub firsts_counted : (vs : List Variable) (firsts : List ℕ) → AreFirstsOf vs firsts → length firsts ≡ length vs
firsts_counted vs firsts e = ap length e ∙ length-map (places_below (length vs)) (first_unknown vs) ∙ length-range_with_len 0 (length vs)

pub first_at : (vs : List Variable) (firsts : List ℕ) (k d : ℕ) → AreFirstsOf vs firsts → k < length vs → get_or firsts k d ≡ first_unknown vs k
first_at vs firsts k d e lt =
    let within : k < length (places_below (length vs)) = omega (arith, lt, length-range_with_len 0 (length vs)) in
    ap (λ xs. get_or xs k d) e ∙ get_or-map (first_unknown vs) (places_below (length vs)) k 0 d within ∙ ap (first_unknown vs) (get_or-range_with_len 0 (length vs) k 0 lt ∙ zero-add k)

-- those of variable k are within all
pub listed_fits : (vs : List Variable) (firsts : List ℕ) (k next : ℕ) (v : Variable) → AreFirstsOf vs firsts → k < length vs → v ≡ get_or vs k v → next ≡ get_or firsts k next →
    (next ≡ first_unknown vs k) × (next + count_of v ≤ variable_unknowns vs)
listed_fits vs firsts k next v e lt at is =
    let first = is ∙ first_at vs firsts k next e lt in
    (first, first_fits vs k next v lt at first)

-- ---- how many a variable may have
pub few_own : (v : Variable) → count_of v ≤ 20000
few_own v =
    let most = v.shape.few.most in
    omega (arith, own_count_is (demanded v) (sides_in v), own_before-le (demanded v) (sides_in v) (entries_of (sides_in v)), most)

pub few_unknowns : (vs : List Variable) → length vs ≤ 20000 → variable_unknowns vs ≤ 400000000
few_unknowns vs few =
    let each : All (λ v. count_of v ≤ 20000) vs = λ k d lt. few_own (get_or vs k d) in
    omega (arith, few, unknowns_sum vs, sum_by-le count_of 20000 vs each)
