-- A point to which the arrays of variables are put one after the other.
use Rattle.std.proofs.Common.{◌≡◌, ◌≢◌, ℕ, suc, ◌+◌, ◌<◌, ◌≤◌, List, [], ◌∷◌, ◌++◌, length, map, take, get_or, Some, None, option_map, cond, refl, sym, ap, ◌∙◌, subst, inl, inr, ◌⊎◌, arith}
use Rattle.std.specs.Prelude.{slice_get}
use Rattle.std.specs.Option.{unwrap_or}
use Rattle.std.specs.List.{IsDistinct}
use Rattle.std.proofs.lemmas.Bool.{cases_lt}
use Rattle.std.proofs.lemmas.List.{map_more, map_push, take_all}
use Rattle.std.proofs.lemmas.Option.{slice_get-map, slice_get_within, slice_get-get_or, get_or_from_slice_get, same_Some}
use Rattle.dcx_math.proofs.Lists.{mapped}
use Rattle.dcx_frac.specs.declared.fraction.Frac.{Frac}
use Rattle.dcx_shape.specs.Shape.{sides_of}
use Rattle.dcx_atom.specs.declared.array.Array.{Array}
use Rattle.dcx_atom.specs.Arrays as arrays
use Rattle.dcx_point.specs.Pairs.{Pairs, same_name, names_of, array_of}
use Rattle.dcx_point.proofs.Puts.{same_name-false, found, others, absent}
use Rattle.dcx_call.specs.declared.attribute.Variable.{Variable}
use Rattle.dcx_call.specs.Values.{given_by, HasArray}
use Rattle.dcx_tree.specs.Nodes.{number_in}
use Rattle.dcx_unknowns.specs.Unknowns.{first_unknown, array_from, point_at}
use Rattle.dcx_unknowns.specs.Laws.{IsVariable}
use Rattle.dcx_unknowns.proofs.Domains.{number_of}
use Rattle.dcx_postsolve.specs.Points.{numbered, IsArrayFrom, PutsArray, IsPointOf}
use Rattle.dcx_postsolve.proofs.Lists.{in_front}

abbrev name_of : Variable → List ℕ
name_of v = v.name

-- the point has the array of a variable
pub record HasArrayFrom (us : List Frac) (first : ℕ) (v : Variable) (point : Pairs) : Type 0 where
  pub array : Array
  pub there : array_of point v.name ≡ Some array
  pub is : IsArrayFrom us first v array

-- it has the names of the first k variables, in order, and the array of each
pub record IsFront (vs : List Variable) (us : List Frac) (k : ℕ) (point : Pairs) : Type 0 where
  pub names : names_of point ≡ map (λ v. v.name) (take k vs)
  pub arrays : (i : ℕ) (v : Variable) → i < k → IsVariable vs i v → HasArrayFrom us (first_unknown vs i) v point

-- a name that none of the pairs has
unnamed : (pairs : Pairs) (name : List ℕ) → ((i : ℕ) (n : List ℕ) → slice_get (names_of pairs) i ≡ Some n → name ≢ n) → array_of pairs name ≡ None
unnamed [] name h = refl
unnamed (p ∷ pairs) name h = ap (λ b. cond b (Some p.1) (array_of pairs name)) (same_name-false name p.0 (h 0 p.0 refl)) ∙ unnamed pairs name (λ i. h (suc i))

module _ (vs : List Variable) (distinct : IsDistinct same_name (map (λ v. v.name) vs)) where
  place_is : (i : ℕ) (v : Variable) → IsVariable vs i v → number_in (map name_of vs) v.name ≡ i
  place_is i v at = number_of (map name_of vs) i v.name distinct (slice_get-map name_of vs i ∙ ap (option_map name_of) at)

  apart : (i k : ℕ) (v w : Variable) → i < k → IsVariable vs i v → IsVariable vs k w → w.name ≢ v.name
  apart i k v w l at at' e = let same : k ≡ i = sym (place_is k w at') ∙ ap (number_in (map name_of vs)) e ∙ place_is i v at in omega (arith, same, l)

  module _ (us : List Frac) (k : ℕ) (w : Variable) (at : IsVariable vs k w) (before after : Pairs) (front : IsFront vs us k before) (puts : PutsArray us (first_unknown vs k) w before after) where
    unnamed_yet : array_of before w.name ≡ None
    unnamed_yet = unnamed before w.name (λ i n e.
        let (v, there, is) = mapped name_of (take k vs) i n (ap (λ l. slice_get l i) (sym front.names) ∙ e) in
        let (l, stands) = in_front k vs i v there in
        λ same. apart i k v w l stands at (same ∙ sym is))

    after_is : after ≡ before ++ (w.name, puts.array) ∷ []
    after_is = puts.put ∙ absent before w.name puts.array unnamed_yet

    names_next : names_of after ≡ map name_of (take (k + 1) vs)
    names_next =
        ap names_of after_is ∙ map_push (λ (p : List ℕ × Array). p.0) before (w.name, puts.array) ∙ ap (λ l. l ++ w.name ∷ []) front.names
        ∙ ap (λ n. map name_of (take k vs) ++ n ∷ []) (ap name_of (sym (get_or_from_slice_get vs k w w at))) ∙ sym (map_more name_of vs k w (slice_get_within vs k w at))

    earlier : (i : ℕ) (v : Variable) → i < k → IsVariable vs i v → HasArrayFrom us (first_unknown vs i) v after
    earlier i v l stands =
        let h = front.arrays i v l stands in
        record { array = h.array; there = ap (λ p. array_of p v.name) puts.put ∙ others before w.name v.name puts.array (apart i k v w l stands at) ∙ h.there; is = h.is }

    last : (i : ℕ) (v : Variable) → i ≡ k → IsVariable vs i v → HasArrayFrom us (first_unknown vs i) v after
    last i v e stands =
        let same : w ≡ v = same_Some w v (sym at ∙ ap (slice_get vs) (sym e) ∙ stands) in
        subst (λ (n : ℕ). HasArrayFrom us (first_unknown vs n) v after) (sym e)
        (subst (λ (u : Variable). HasArrayFrom us (first_unknown vs k) u after) same
        (record { array = puts.array; there = ap (λ p. array_of p w.name) puts.put ∙ found before w.name puts.array; is = puts.is }))

    pub front_next : IsFront vs us (k + 1) after
    front_next = record {
      names = names_next;
      arrays = λ i v l stands. by i v l stands (cases_lt i k);
    }
      where
        by : (i : ℕ) (v : Variable) → i < k + 1 → IsVariable vs i v → (i < k) ⊎ (k ≤ i) → HasArrayFrom us (first_unknown vs i) v after
        by i v l stands (inl below) = earlier i v below stands
        by i v l stands (inr above) = let e : i ≡ k = omega (arith, l, above) in last i v e stands

-- where no variable is left, it is the point of all
module _ (vs : List Variable) (us : List Frac) (k : ℕ) (point : Pairs) (all : length vs ≤ k) (front : IsFront vs us k point) where
  stands_for : (i : ℕ) (v : Variable) → IsVariable vs i v → HasArrayFrom us (first_unknown vs i) v point
  stands_for i v at = let l = slice_get_within vs i v at in front.arrays i v (omega (arith, l, all)) at

  numbers_are : (i : ℕ) (v : Variable) → IsVariable vs i v → (j : ℕ) → given_by point v.name j ≡ point_at vs (numbered us) i j
  numbers_are i v at j =
      let h = stands_for i v at in
      ap (λ o. arrays.number_at (unwrap_or (option_map (λ (x : Array). x.entries) o) []) j) h.there ∙ h.is.numbers j ∙ sym (ap (λ o. array_from (numbered us) (first_unknown vs i) o j) at)

  shaped_at : (i : ℕ) (v : Variable) → IsVariable vs i v → HasArray point v.name (sides_of v.shape)
  shaped_at i v at = let h = stands_for i v at in record { array = h.array; there = h.there; shape = h.is.shape }

  pub front_all : IsPointOf vs us point
  front_all = record {
    names = front.names ∙ ap (map name_of) (take_all k vs all);
    shaped = λ i d l. shaped_at i (get_or vs i d) (slice_get-get_or vs i d l);
    numbers = numbers_are;
  }
