-- Where the root is solved, no node falls for ever: its solutions solve the rows of the root.
use Rattle.std.proofs.Common.{◌≡◌, ℕ, zero, suc, List, [], ◌∷◌, map, Some, option_map, slice_get, refl, sym, ap, ◌∙◌, subst, pos}
use Rattle.std.proofs.lemmas.Option.{none-some, same_Some, slice_get-map}
use Rattle.std.proofs.Math.Logic.{∥∥₁_elim}
use Rattle.dcx_math.specs.Rational.{ℚ, whole, ◌+ℚ◌, ◌-ℚ◌, ◌*ℚ◌, ◌≤ℚ◌}
use Rattle.dcx_math.proofs.Orders.{≤ℚ_trans, <ℚ-not, whole-≤ℤ}
use Rattle.dcx_math.proofs.Products.{falls_below, zero-<ℚ-one}
use Rattle.dcx_frac.specs.declared.fraction.Frac.{Frac}
use Rattle.dcx_call.specs.declared.attribute.Whole.{Whole}
use Rattle.dcx_call.specs.declared.attribute.Whole.TheVariants.{Not, Integer, Boolean}
use Rattle.dcx_convex.proofs.OneAnswer.{less_by_one}
use Rattle.dcx_tree.specs.declared.problem.Problem.{Problem}
use Rattle.dcx_linear.specs.FormTerms.{Unknowns}
use Rattle.dcx_linear.specs.Rows.{RowAt, LinearProgram, IsSolution, StandsTo, IsOptimal, IsUnbounded}
use Rattle.dcx_linear.proofs.RowAnswers.{least}
use Rattle.dcx_postsolve.specs.Programs.{bound_row}
use Rattle.dcx_postsolve.proofs.Rows.{AllFrom, all_left, all_right}
use Rattle.dcx_std.specs.Solutions.{linear_program}
use Rattle.dcx_graph.specs.Program.{Program}
use Rattle.dcx_graph.specs.Answers.{rows_of}
use Rattle.dcx_right.specs.Boxes.{Bounds, IsWithin, IsAtMost, Box, mark_bounds, root_box}
use Rattle.dcx_branch.specs.declared.place.Place.{Place}
use Rattle.dcx_branch.specs.declared.bound.BoundAt.{BoundAt}
use Rattle.dcx_branch.specs.Places.{places}
use Rattle.dcx_branch.specs.Nodes.{bound_number, node_program}
use Rattle.dcx_branch.specs.Run.{bounds_in}
use Rattle.dcx_branch.proofs.Known.{IsNested, HasFloor}
use Rattle.dcx_branch.proofs.Members.{Each, each_append, each_place}
use Rattle.dcx_branch.proofs.Bounds.{Keeps, kept_within, within_keeps}
use Rattle.dcx_branch.proofs.Found.{root_at}

module _ (p : Problem) (q : Program Frac) where
  abbrev l : LinearProgram
  l = linear_program (rows_of q)

  pub root_floor : (v : ℚ) (x : Unknowns) (m : ℕ → ℚ) → IsOptimal (node_program l (bounds_in p (root_box p))) v x m → HasFloor p q
  root_floor v x m h = record { least = v; bound = λ u s. least (node_program l (bounds_in p (root_box p))) v x u m h s }

  -- ---- rows of bounds
  -- the rows of the program and those of bounds, apart
  of_program : (u : Unknowns) (bs : List BoundAt) → IsSolution (node_program l bs) u → AllFrom (λ n r. StandsTo r.kind (r.number u)) 0 l.rows
  of_program u bs s = all_left (λ n r. StandsTo r.kind (r.number u)) 0 l.rows (map bound_row (map bound_number bs)) s.rows

  pub of_bounds : (u : Unknowns) (bs : List BoundAt) → IsSolution (node_program l bs) u → Each (Keeps u) bs
  of_bounds u bs s i b at =
      all_right (λ n r. StandsTo r.kind (r.number u)) 0 l.rows (map bound_row (map bound_number bs)) s.rows i (bound_row (bound_number b))
      (slice_get-map bound_row (map bound_number bs) i ∙ ap (option_map bound_row) (slice_get-map bound_number bs i ∙ ap (option_map bound_number) at))

  rows_of_bounds : (u : Unknowns) (bs : List BoundAt) → Each (Keeps u) bs → (k : ℕ) (r : RowAt) → slice_get (map bound_row (map bound_number bs)) k ≡ Some r → StandsTo r.kind (r.number u)
  rows_of_bounds u [] h k r e = absurd (none-some r e)
  rows_of_bounds u (b ∷ bs) h zero r e = subst (λ (s : RowAt). StandsTo s.kind (s.number u)) (same_Some (bound_row (bound_number b)) r e) (h 0 b refl)
  rows_of_bounds u (b ∷ bs) h (suc k) r e = rows_of_bounds u bs (λ i. h (suc i)) k r e

  -- numbers that are within a nested box are within the root box
  at_root : (w : Whole) (y : ℚ) → (w ≡ Boolean → y ≤ℚ whole (pos 1)) → IsWithin (mark_bounds w) y
  at_root Not y h = record { lower = tt; upper = tt }
  at_root Integer y h = record { lower = tt; upper = tt }
  at_root Boolean y h = record { lower = tt; upper = h refl }

  within_root : (u : Unknowns) (box : Box) → IsNested p box → Each (λ (a : Place). IsWithin (box a.variable a.entry) (u a.unknown)) (places p.variables) →
      Each (λ (a : Place). IsWithin (root_box p a.variable a.entry) (u a.unknown)) (places p.variables)
  within_root u box nested h i a at =
      subst (λ (b : Bounds). IsWithin b (u a.unknown)) (sym (root_at p a (each_place p.variables i a at)))
      (at_root a.whole (u a.unknown) (λ e.
      let (n, up, low) = nested a (i, at) e in
      ≤ℚ_trans (subst (λ o. IsAtMost o (u a.unknown)) up (h i a at).upper) (whole-≤ℤ n (pos 1) low)))

  -- solutions of the rows of a node are solutions of those of the root
  pub solves_root : (u : Unknowns) (box : Box) → IsNested p box → IsSolution (node_program l (bounds_in p box)) u → IsSolution (node_program l (bounds_in p (root_box p))) u
  solves_root u box nested s =
      let within = within_root u box nested (kept_within u (places p.variables) box (of_bounds u (bounds_in p box) s)) in
      record {
        kinds = s.kinds;
        rows = each_append (λ (r : RowAt). StandsTo r.kind (r.number u)) l.rows (map bound_row (map bound_number (bounds_in p (root_box p))))
            (λ k r at. of_program u (bounds_in p box) s k r at)
            (rows_of_bounds u (bounds_in p (root_box p)) (within_keeps u (places p.variables) (root_box p) within));
      }

  -- so no node falls for ever
  pub never_falls : HasFloor p q → (box : Box) → IsNested p box → (x ray : Unknowns) (bound slope : ℚ) → IsUnbounded (node_program l (bounds_in p box)) x ray bound slope → ⊥
  never_falls floor box nested x ray bound slope h =
      let none : IsProp ⊥ = hlevel in
      ∥∥₁_elim (falls_below bound (floor.least -ℚ whole (pos 1)) slope h.falls) none (λ k. <ℚ-not zero-<ℚ-one (less_by_one floor.least
      (≤ℚ_trans (floor.bound (λ i. x i +ℚ k.0 *ℚ ray i) (solves_root (λ i. x i +ℚ k.0 *ℚ ray i) box nested (h.solution k.0 k.1.0))) (≤ℚ_trans (h.objective k.0 k.1.0) k.1.1))))
