-- Points that are read from unknowns, and unknowns that are read from points.
use Rattle.std.proofs.Common.{◌≡◌, ℕ, ◌+◌, ◌<◌, Bool, true, false, if◌then◌else◌, List, Option, Some, None, option_map, refl, sym, ap, subst, ◌∙◌, zero-add, pos}
use Rattle.std.specs.Prelude.{nat_lt, nat_le, nat_eq, slice_get}
use Rattle.std.proofs.Math.Path.{fun_ext}
use Rattle.std.proofs.lemmas.Bool.{eqb-false}
use Rattle.std.proofs.lemmas.Option.{get_or_from_slice_get, slice_get_within}
use Rattle.dcx_math.specs.Rational.{ℚ, whole, ◌+ℚ◌, ◌*ℚ◌, ◌≤ℚ◌}
use Rattle.dcx_math.proofs.Orders.{zero_shifted}
use Rattle.dcx_shape.specs.declared.shape.Sides.{Sides}
use Rattle.dcx_shape.specs.Sides.{entries_of}
use Rattle.dcx_shape.specs.Places.{HasEntry, row_place}
use Rattle.dcx_shape.proofs.Entries.{place_below}
use Rattle.dcx_atom.specs.Signs.{shifted}
use Rattle.dcx_call.specs.declared.attribute.Attribute.{Attribute}
use Rattle.dcx_call.specs.declared.attribute.Attribute.TheVariants.{Free, Nonneg, Nonpos, Symmetric, Diag}
use Rattle.dcx_call.specs.declared.attribute.Whole.{Whole}
use Rattle.dcx_call.specs.declared.attribute.Whole.TheVariants.{Not, Integer, Boolean}
use Rattle.dcx_call.specs.declared.attribute.Variable.{Variable}
use Rattle.dcx_call.specs.Attributes.{counted, IsSquareFor, AreSquare}
use Rattle.dcx_convex.specs.Nodes as convex
use Rattle.dcx_convex.specs.Nodes.{Numbers, Point, zeros, first_of, Keeps}
use Rattle.dcx_convex.specs.Reductions.{further}
use Rattle.dcx_convex.proofs.Signs.{first_in}
use Rattle.dcx_tree.specs.Nodes.{attribute_of, variable_attribute}
use Rattle.dcx_linear.specs.declared.row.UnknownKind.{UnknownKind}
use Rattle.dcx_linear.specs.FormTerms.{Unknowns}
use Rattle.dcx_linear.specs.Rows.{IsOfKind, AreOfKinds}
use Rattle.dcx_shape.proofs.EntryPlaces.{entry_here, place_here}
use Rattle.dcx_unknowns.specs.Own.{row_in, column_in, mirror_of, source_of, own_before}
use Rattle.dcx_unknowns.specs.Unknowns.{demanded, sides_in, Owner, kind_of, variable_kinds, first_unknown, unknown_in, unknown_from, number_at, array_from, point_at, nobody, owners, unknowns_of}
use Rattle.dcx_unknowns.specs.Laws.{IsVariable, HasOwn, AreKept, AreAlike, StandForPoints}
use Rattle.dcx_unknowns.proofs.Sources.{Owns, source_own, source_mirror, source_off, mirror_entry}
use Rattle.dcx_unknowns.proofs.Owners.{owner_of, are_numbered, owned}

-- ---- arrays
-- what is demanded of a variable, in the terms of disciplined convex programming
attribute_is : (w : Whole) (a : Attribute) → variable_attribute w a ≡ attribute_of (counted w a)
attribute_is Not a = refl
attribute_is Integer a = refl
attribute_is Boolean a = refl

-- the array that is read from unknowns, of an attribute and sides
abbrev array_of : Unknowns → ℕ → Attribute → Sides → Numbers
array_of u first a s = first_of (entries_of s) (λ j. number_at u (unknown_in first a s j))

-- entries that have the same source have the same number
same_number : (u : Unknowns) (first : ℕ) (a : Attribute) (s : Sides) (j k : ℕ) → j < entries_of s → k < entries_of s → source_of a s j ≡ source_of a s k
    → array_of u first a s j ≡ array_of u first a s k
same_number u first a s j k h h' e =
    first_in (entries_of s) (λ i. number_at u (unknown_in first a s i)) j h ∙ ap (λ o. number_at u (option_map (λ i. first + own_before a s i) o)) e
    ∙ sym (first_in (entries_of s) (λ i. number_at u (unknown_in first a s i)) k h')

-- ---- unknowns of their kinds make an array of the domain
array_keeps : (u : Unknowns) (first : ℕ) (a : Attribute) (s : Sides) → IsSquareFor a s → ((j : ℕ) → Owns a s j → IsOfKind (kind_of a) (u (first + own_before a s j)))
    → Keeps (attribute_of a) s (array_of u first a s)
array_keeps u first Free s sq of = tt
array_keeps u first Nonneg s sq of = λ j h. subst (λ q. whole (pos 0) ≤ℚ q) (sym (first_in (entries_of s) (λ i. number_at u (unknown_in first Nonneg s i)) j h)) (of j (h, refl))
array_keeps u first Nonpos s sq of = λ j h. subst (λ q. q ≤ℚ whole (pos 0)) (sym (first_in (entries_of s) (λ i. number_at u (unknown_in first Nonpos s i)) j h)) (of j (h, refl))
array_keeps u first Symmetric s sq of = λ i j h.
    let mirror : HasEntry s j i = record { row = subst (λ n. j < n) (sym sq) h.column; column = subst (λ n. i < n) sq h.row } in
    same_number u first Symmetric s (row_place s i j) (row_place s j i) (place_below false s i j h) (place_below false s j i mirror) (source_mirror s i j sq h)
array_keeps u first Diag s sq of = λ i j h ne.
    first_in (entries_of s) (λ k. number_at u (unknown_in first Diag s k)) (row_place s i j) (place_below false s i j h)
    ∙ ap (λ o. number_at u (option_map (λ k. first + own_before Diag s k) o)) (source_off s i j h ne)

-- ---- an array of the domain has at each entry what it has at the entry's source
kept_source : (a : Attribute) (s : Sides) (x : Numbers) → Keeps (attribute_of a) s x → IsSquareFor a s → (k : ℕ) → k < entries_of s → number_at x (source_of a s k) ≡ x k
kept_source Free s x keeps sq k h = refl
kept_source Nonneg s x keeps sq k h = refl
kept_source Nonpos s x keeps sq k h = refl
kept_source Symmetric s x keeps sq k h = by (nat_le (row_in s k) (column_in s k))
  where
    by : (b : Bool) → x (if b then k else mirror_of s k) ≡ x k
    by true = refl
    by false = keeps (column_in s k) (row_in s k) (mirror_entry s sq k h) ∙ ap x (sym (place_here s k h))
kept_source Diag s x keeps sq k h = by (nat_eq (row_in s k) (column_in s k)) refl
  where
    by : (b : Bool) → nat_eq (row_in s k) (column_in s k) ≡ b → number_at x (if b then Some k else None) ≡ x k
    by true e = refl
    by false e = sym (ap x (place_here s k h) ∙ keeps (row_in s k) (column_in s k) (entry_here s k h) (eqb-false (row_in s k) (column_in s k) e))

-- an array of the domain has numbers of the kind
kept_kind : (a : Attribute) (s : Sides) (x : Numbers) → Keeps (attribute_of a) s x → (k : ℕ) → k < entries_of s → IsOfKind (kind_of a) (x k)
kept_kind Free s x keeps k h = tt
kept_kind Nonneg s x keeps k h = keeps k h
kept_kind Nonpos s x keeps k h = keeps k h
kept_kind Symmetric s x keeps k h = tt
kept_kind Diag s x keeps k h = tt

-- ---- points
module _ (vs : List Variable) where
  square_at : AreSquare vs → (k : ℕ) (v : Variable) → IsVariable vs k v → IsSquareFor (demanded v) (sides_in v)
  square_at sq k v at = subst (λ (w : Variable). IsSquareFor (demanded w) (sides_in w)) (get_or_from_slice_get vs k v v at) (sq k v (slice_get_within vs k v at))

  -- the array of a variable
  pub array_is : (u : Unknowns) (k : ℕ) (v : Variable) → IsVariable vs k v → point_at vs u k ≡ array_of u (first_unknown vs k) (demanded v) (sides_in v)
  array_is u k v at = ap (array_from u (first_unknown vs k)) at

  -- what a point has for an unknown with an owner
  pub owner_number : (x : Point) (k : ℕ) (v : Variable) (e : ℕ) → IsVariable vs k v → HasOwn v e → unknowns_of vs x (first_unknown vs k + own_before (demanded v) (sides_in v) e) ≡ x k e
  owner_number x k v e at h =
      let n = first_unknown vs k + own_before (demanded v) (sides_in v) e in
      ap (λ (o : Owner). x o.variable o.entry) (get_or_from_slice_get (owners vs) n (owner_of k e) nobody ((are_numbered vs).owner k v e at h))

  to_point : AreSquare vs → (u : Unknowns) → AreOfKinds (variable_kinds vs) u → AreKept vs (point_at vs u)
  to_point sq u of = λ k v at.
      let own : (j : ℕ) → Owns (demanded v) (sides_in v) j → IsOfKind (kind_of (demanded v)) (u (first_unknown vs k + own_before (demanded v) (sides_in v) j)) =
      λ j h. of (first_unknown vs k + own_before (demanded v) (sides_in v) j) (kind_of (demanded v)) ((are_numbered vs).kind k v j at (record { within = h.0; own = h.1 })) in
      let here = array_keeps u (first_unknown vs k) (demanded v) (sides_in v) (square_at sq k v at) own in
      subst (λ (x : Numbers). Keeps (variable_attribute v.whole v.attribute) (sides_in v) x) (sym (array_is u k v at))
      (subst (λ (a : convex.Attribute). Keeps a (sides_in v) (array_of u (first_unknown vs k) (demanded v) (sides_in v))) (sym (attribute_is v.whole v.attribute)) here)

  demand : (x : Point) → AreKept vs x → (k : ℕ) (v : Variable) → IsVariable vs k v → Keeps (attribute_of (demanded v)) (sides_in v) (x k)
  demand x kept k v at = subst (λ (a : convex.Attribute). Keeps a (sides_in v) (x k)) (attribute_is v.whole v.attribute) (kept k v at)

  to_kinds : (x : Point) → AreKept vs x → AreOfKinds (variable_kinds vs) (unknowns_of vs x)
  to_kinds x kept = λ n kind at.
      let o = owned 0 vs n kind at in
      let owner : unknowns_of vs x n ≡ x o.number o.entry =
      ap (λ (z : Owner). x z.variable z.entry) (get_or_from_slice_get (owners vs) n (owner_of (0 + o.number) o.entry) nobody o.owner) ∙ ap (λ i. x i o.entry) (zero-add o.number) in
      let here = kept_kind (demanded o.variable) (sides_in o.variable) (x o.number) (demand x kept o.number o.variable o.there) o.entry o.own.within in
      subst (λ q. IsOfKind kind q) (sym owner) (subst (λ (t : UnknownKind). IsOfKind t (x o.number o.entry)) (sym o.kind_is) here)

  to_same : AreSquare vs → (x : Point) → AreKept vs x → AreAlike vs (point_at vs (unknowns_of vs x)) x
  to_same sq x kept = λ k v at e lt.
      let first = first_unknown vs k in
      let a = demanded v in
      let s = sides_in v in
      let one : (o : Option ℕ) → source_of a s e ≡ o → number_at (unknowns_of vs x) (option_map (λ i. first + own_before a s i) o) ≡ number_at (x k) o =
      elim [
        | None ↦ λ is. refl
        | Some j ↦ λ is. let own = source_own a s e j (square_at sq k v at) lt is in owner_number x k v j at (record { within = own.0; own = own.1 })
      ] in
      ap (λ (f : Numbers). f e) (array_is (unknowns_of vs x) k v at) ∙ first_in (entries_of s) (λ i. number_at (unknowns_of vs x) (unknown_in first a s i)) e lt
      ∙ one (source_of a s e) refl ∙ kept_source a s (x k) (demand x kept k v at) (square_at sq k v at) e lt

  pub stand_for_points : AreSquare vs → StandForPoints vs
  stand_for_points sq = record { point = to_point sq; kinds = to_kinds; same = to_same sq }

-- ---- along a ray
number_along : (u d : Unknowns) (k : ℚ) (o : Option ℕ) → number_at (further u k d) o ≡ number_at u o +ℚ k *ℚ number_at d o
number_along u d k None = zero_shifted k
number_along u d k (Some n) = refl

first_along : (k : ℚ) (x y z : ℚ) (b : Bool) → x ≡ y +ℚ k *ℚ z → (if b then x else whole (pos 0)) ≡ (if b then y else whole (pos 0)) +ℚ k *ℚ (if b then z else whole (pos 0))
first_along k x y z true e = e
first_along k x y z false e = zero_shifted k

array_along : (u d : Unknowns) (k : ℚ) (first : ℕ) (o : Option Variable) (j : ℕ) → array_from (further u k d) first o j ≡ array_from u first o j +ℚ k *ℚ array_from d first o j
array_along u d k first None j = zero_shifted k
array_along u d k first (Some v) j =
    first_along k (number_at (further u k d) (unknown_from first v j)) (number_at u (unknown_from first v j)) (number_at d (unknown_from first v j)) (nat_lt j (entries_of (sides_in v)))
    (number_along u d k (unknown_from first v j))

pub point_along : (vs : List Variable) (u d : Unknowns) (k : ℚ) → point_at vs (further u k d) ≡ shifted (point_at vs u) k (point_at vs d)
point_along vs u d k = fun_ext (λ i. fun_ext (λ j. array_along u d k (first_unknown vs i) (slice_get vs i) j))
