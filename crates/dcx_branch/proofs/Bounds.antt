-- The bounds of a box in row order: each is one of the box, and numbers that keep them are within the box.
use Rattle.std.proofs.Common.{◌≡◌, zero, suc, Bool, true, false, if◌then◌else◌, List, [], ◌∷◌, Option, Some, None, refl, subst}
use Rattle.std.specs.Prelude.{ℤ, pos}
use Rattle.std.proofs.lemmas.Option.{none-some, same_Some}
use Rattle.dcx_math.specs.Rational.{whole, ◌-ℚ◌, ◌≤ℚ◌}
use Rattle.dcx_math.proofs.Orders.{≤ℚ-from_difference, -ℚ-nonpositive}
use Rattle.dcx_linear.specs.FormTerms.{Unknowns}
use Rattle.dcx_tree.specs.declared.problem.Problem.{Problem}
use Rattle.dcx_right.specs.Boxes.{IsAtLeast, IsAtMost, IsWithin, Box}
use Rattle.dcx_branch.specs.declared.place.Place.{Place}
use Rattle.dcx_branch.specs.declared.bound.BoundAt.{BoundAt}
use Rattle.dcx_branch.specs.Places.{places}
use Rattle.dcx_branch.specs.Rows.{bound_of, bounds_of, all_bounds}
use Rattle.dcx_branch.specs.Nodes.{excess, IsBoundOf}
use Rattle.dcx_branch.proofs.Members.{IsPlaceOf, Each, each_append, each_left, each_right, each_place}

-- ---- each is one of the box
module _ (p : Problem) (box : Box) where
  one_bound : (q : Place) → IsPlaceOf p.variables q → (upper : Bool) (o : Option ℤ) → (if upper then (box q.variable q.entry).upper else (box q.variable q.entry).lower) ≡ o
      → Each (IsBoundOf p box) (bound_of q upper o)
  one_bound q is upper None e i b at = absurd (none-some b at)
  one_bound q is upper (Some n) e zero b at =
      subst (λ (c : BoundAt). IsBoundOf p box c) (same_Some (let c : BoundAt = record { place = q; upper = upper; limit = n } in c) b at)
      (record { variable = is.variable; entry = record { variable = is.there; entry = is.entry }; unknown = is.unknown; limit = e })
  one_bound q is upper (Some n) e (suc i) b at = absurd (none-some b at)

  bounds_each : (ps : List Place) → Each (IsPlaceOf p.variables) ps → Each (IsBoundOf p box) (all_bounds ps box)
  bounds_each [] h = λ i b at. absurd (none-some b at)
  bounds_each (q ∷ ps) h =
      let b = box q.variable q.entry in
      each_append (IsBoundOf p box) (bounds_of q b) (all_bounds ps box)
      (each_append (IsBoundOf p box) (bound_of q false b.lower) (bound_of q true b.upper) (one_bound q (h 0 q refl) false b.lower refl) (one_bound q (h 0 q refl) true b.upper refl))
      (bounds_each ps (λ i. h (suc i)))

  pub each_bound : Each (IsBoundOf p box) (all_bounds (places p.variables) box)
  each_bound = bounds_each (places p.variables) (each_place p.variables)

-- ---- kept bounds
-- numbers keep a bound where it isn't exceeded
abbrev pub Keeps : Unknowns → BoundAt → Type 0
Keeps x b = excess b.upper b.limit (x b.place.unknown) ≤ℚ whole (pos 0)

module _ (x : Unknowns) where
  lower_kept : (q : Place) (o : Option ℤ) → Each (Keeps x) (bound_of q false o) → IsAtLeast o (x q.unknown)
  lower_kept q None h = tt
  lower_kept q (Some n) h = ≤ℚ-from_difference (whole n) (x q.unknown) (h 0 (record { place = q; upper = false; limit = n }) refl)

  upper_kept : (q : Place) (o : Option ℤ) → Each (Keeps x) (bound_of q true o) → IsAtMost o (x q.unknown)
  upper_kept q None h = tt
  upper_kept q (Some n) h = ≤ℚ-from_difference (x q.unknown) (whole n) (h 0 (record { place = q; upper = true; limit = n }) refl)

  -- numbers that keep the bounds of a box are within it
  pub kept_within : (ps : List Place) (box : Box) → Each (Keeps x) (all_bounds ps box) → Each (λ (q : Place). IsWithin (box q.variable q.entry) (x q.unknown)) ps
  kept_within [] box h i q e = absurd (none-some q e)
  kept_within (a ∷ ps) box h zero q e =
      let b = box a.variable a.entry in
      let own = each_left (Keeps x) (bounds_of a b) (all_bounds ps box) h in
      subst (λ (c : Place). IsWithin (box c.variable c.entry) (x c.unknown)) (same_Some a q e)
      (record {
        lower = lower_kept a b.lower (each_left (Keeps x) (bound_of a false b.lower) (bound_of a true b.upper) own);
        upper = upper_kept a b.upper (each_right (Keeps x) (bound_of a false b.lower) (bound_of a true b.upper) own);
      })
  kept_within (a ∷ ps) box h (suc i) q e = kept_within ps box (each_right (Keeps x) (bounds_of a (box a.variable a.entry)) (all_bounds ps box) h) i q e

  lower_keeps : (q : Place) (o : Option ℤ) → IsAtLeast o (x q.unknown) → Each (Keeps x) (bound_of q false o)
  lower_keeps q None h i b at = absurd (none-some b at)
  lower_keeps q (Some n) h zero b at =
      subst (λ (c : BoundAt). Keeps x c) (same_Some (let c : BoundAt = record { place = q; upper = false; limit = n } in c) b at) (-ℚ-nonpositive (whole n) (x q.unknown) h)
  lower_keeps q (Some n) h (suc i) b at = absurd (none-some b at)

  upper_keeps : (q : Place) (o : Option ℤ) → IsAtMost o (x q.unknown) → Each (Keeps x) (bound_of q true o)
  upper_keeps q None h i b at = absurd (none-some b at)
  upper_keeps q (Some n) h zero b at =
      subst (λ (c : BoundAt). Keeps x c) (same_Some (let c : BoundAt = record { place = q; upper = true; limit = n } in c) b at) (-ℚ-nonpositive (x q.unknown) (whole n) h)
  upper_keeps q (Some n) h (suc i) b at = absurd (none-some b at)

  -- and numbers within a box keep its bounds
  pub within_keeps : (ps : List Place) (box : Box) → Each (λ (q : Place). IsWithin (box q.variable q.entry) (x q.unknown)) ps → Each (Keeps x) (all_bounds ps box)
  within_keeps [] box h = λ i b at. absurd (none-some b at)
  within_keeps (a ∷ ps) box h =
      let b = box a.variable a.entry in
      let own = h 0 a refl in
      each_append (Keeps x) (bounds_of a b) (all_bounds ps box)
      (each_append (Keeps x) (bound_of a false b.lower) (bound_of a true b.upper) (lower_keeps a b.lower own.lower) (upper_keeps a b.upper own.upper))
      (within_keeps ps box (λ i. h (suc i)))
