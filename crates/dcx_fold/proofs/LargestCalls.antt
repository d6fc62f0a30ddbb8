-- The value, the graph and the slopes of the largest and the smallest, as the code has them.
use Rattle.std.proofs.Common.{◌≡◌, ℕ, zero, suc, ◌+◌, ◌<◌, arith, List, [], ◌∷◌, ◌++◌, map, length, get_or, replicate, Option, Some, None, Ok, IsSome, IfSome, IsOk, refl, sym, ap, ◌∙◌, subst}
use Rattle.std.proofs.lemmas.List.{length-map}
use Rattle.dcx_math.specs.Sums.{rat_sum}
use Rattle.dcx_frac.specs.declared.fraction.Frac.{Frac}
use Rattle.dcx_frac.specs.Frac.{value}
use Rattle.dcx_shape.specs.declared.shape.Shape.{Shape}
use Rattle.dcx_shape.specs.declared.shape.Sides.{Sides}
use Rattle.dcx_shape.specs.declared.shape.Sides.TheVariants.{Scalar}
use Rattle.dcx_shape.specs.Shape.{sides_of}
use Rattle.dcx_shape.specs.Sides.{entries_of}
use Rattle.dcx_atom.specs.declared.array.Array.{Array}
use Rattle.dcx_atom.specs.declared.flags.Bend.{Bend}
use Rattle.dcx_atom.specs.declared.graph.Graph.{Graph}
use Rattle.dcx_atom.specs.declared.graph.AuxKind.TheVariants.{Free, Nonneg}
use Rattle.dcx_atom.specs.declared.stops.SlopeStop.{SlopeStop}
use Rattle.dcx_atom.specs.declared.stops.ValueStop.{ValueStop}
use Rattle.dcx_atom.specs.declared.stops.ValueStop.TheVariants as values
use Rattle.dcx_atom.specs.Arrays.{list_below, number_at, numbers_of, array_sides, sides_list, sides_at}
use Rattle.dcx_atom.specs.Formed.{sum_in_order}
use Rattle.dcx_atom.specs.Graph.{placed_row, form_term, IsGraphOf}
use Rattle.dcx_atom.specs.Value.{IsValueOf, IsValueStop}
use Rattle.dcx_atom.specs.Steps.{test, is_weight, first_stop, entry_stop, rows_before, weights_of, slope_at, AreSlopesOf, IsSlopeStop}
use Rattle.dcx_atom.specs.Bounding.{outward}
use Rattle.dcx_atom.proofs.BoundRows.{length-list_below, map-list_below}
use Rattle.dcx_atom.proofs.Lists.{number_at-map}
use Rattle.dcx_atom.proofs.Weights.{stop_at}
use Rattle.dcx_fold.specs.Stops.{IsStopOfSum}
use Rattle.dcx_fold.specs.Largest.{chosen_sides, chosen, level_row, level_form, level_conditions, largest_meaning}
use Rattle.dcx_fold.specs.LargestLaws.{is_chosen}
use Rattle.dcx_fold.proofs.LargestSteps.{largest_stop}

-- ---- a value of one entry
-- what holds of one entry
pub at_chosen : (k : ℕ) (args : List Sides) (P : ℕ → Type 0) → P 1 → IfSome (chosen_sides k args) (λ s. P (entries_of s))
at_chosen k args P h = by (chosen_sides k args) refl
  where
    by : (o : Option Sides) → chosen_sides k args ≡ o → IfSome o (λ s. P (entries_of s))
    by None e = tt
    by (Some s) e = subst (λ (r : Sides). P (entries_of r)) (sym (is_chosen k args s e).is) h

pub of_chosen : (k : ℕ) (args : List Sides) (P : ℕ → Type 0) → IsSome (chosen_sides k args) → IfSome (chosen_sides k args) (λ s. P (entries_of s)) → P 1
of_chosen k args P some h = by (chosen_sides k args) refl some h
  where
    by : (o : Option Sides) → chosen_sides k args ≡ o → IsSome o → IfSome o (λ s. P (entries_of s)) → P 1
    by None e some h = cc
    by (Some s) e some h = subst (λ (r : Sides). P (entries_of r)) (is_chosen k args s e).is h

sides_are : (k : ℕ) (args : List Sides) → IsSome (chosen_sides k args) → chosen_sides k args ≡ Some Scalar
sides_are k args some = by (chosen_sides k args) refl some
  where
    by : (o : Option Sides) → chosen_sides k args ≡ o → IsSome o → chosen_sides k args ≡ Some Scalar
    by None e some = cc
    by (Some s) e some = e ∙ ap Some (is_chosen k args s e).is

-- ---- the value
-- the chosen entries of the only argument
entries_chosen : (bend : Bend) (k : ℕ) (args : List Array) (x : Array) → IsSome (chosen_sides k (array_sides args)) → x ≡ get_or args 0 x →
    chosen bend k (entries_of (sides_at (array_sides args) 0)) (numbers_of args 0) ≡ chosen bend k (length x.entries) (number_at x.entries)
entries_chosen bend k [] x some e = cc
entries_chosen bend k (y ∷ ys) x some e = ap (λ n. chosen bend k n (number_at y.entries)) (sym y.full) ∙ ap (λ (z : Array). chosen bend k (length z.entries) (number_at z.entries)) (sym e)

pub largest_value_is : (bend : Bend) (k : ℕ) (args : List Array) (x v : Array) (sum : Frac) (xs : List Frac) → IsSome (chosen_sides k (array_sides args)) → x ≡ get_or args 0 x → xs ≡ x.entries →
    sides_of v.shape ≡ Scalar → v.entries ≡ sum ∷ [] → Ok sum ≡ sum_in_order (chosen bend k (length xs) (number_at xs)) → value sum ≡ rat_sum (chosen bend k (length xs) (number_at xs)) →
    IsValueOf (largest_meaning bend k) args v
largest_value_is bend k args x v sum xs some e f shape entries forms is = record {
  shape = sides_are k (array_sides args) some ∙ ap Some (sym shape);
  numbers = λ j b.
      let zero : j ≡ 0 = first j (subst (λ s. j < entries_of s) shape b) in
      ap (number_at v.entries) zero ∙ ap (λ ys. number_at ys 0) entries ∙ is ∙ ap rat_sum same;
  forms = λ j b. subst (λ ys. IsOk (sum_in_order ys)) same (subst IsOk forms refl);
}
  where
    first : (j : ℕ) → j < 1 → j ≡ 0
    first j h = omega arith

    same : chosen bend k (length xs) (number_at xs) ≡ chosen bend k (entries_of (sides_at (array_sides args) 0)) (numbers_of args 0)
    same = ap (λ ys. chosen bend k (length ys) (number_at ys)) f ∙ sym (entries_chosen bend k args x some e)

stop_of_one : (bend : Bend) (k : ℕ) (args : List Array) (stop : ValueStop) → IsStopOfSum 0 (chosen bend k (entries_of (sides_at (array_sides args) 0)) (numbers_of args 0)) stop
    → IsValueStop (largest_meaning bend k) args 1 stop
stop_of_one bend k args (values.Passes entry passes) h =
    let e : entry ≡ 0 = h.0 in
    (omega (arith, e), record { before = λ j b. absurd (omega (arith, e, b)); here = h.1 })
stop_of_one bend k args (values.ZeroDivisor entry) h = h
stop_of_one bend k args values.Memory h = tt

pub largest_value_stop : (bend : Bend) (k : ℕ) (args : List Array) (x : Array) (xs : List Frac) (stop : ValueStop) → IsSome (chosen_sides k (array_sides args)) → x ≡ get_or args 0 x → xs ≡ x.entries →
    IsStopOfSum 0 (chosen bend k (length xs) (number_at xs)) stop → IfSome (chosen_sides k (array_sides args)) (λ s. IsValueStop (largest_meaning bend k) args (entries_of s) stop)
largest_value_stop bend k args x xs stop some e f h =
    at_chosen k (array_sides args) (λ n. IsValueStop (largest_meaning bend k) args n stop)
    (stop_of_one bend k args stop (subst (λ ys. IsStopOfSum 0 ys stop) (ap (λ ys. chosen bend k (length ys) (number_at ys)) f ∙ sym (entries_chosen bend k args x some e)) h))

-- ---- the only argument of a graph and of slopes
pub first_size : (k : ℕ) (args : List Shape) (x : Shape) (size : ℕ) → IsSome (chosen_sides k (sides_list args)) → x ≡ get_or args 0 x → size ≡ entries_of (sides_of x)
    → size ≡ entries_of (sides_at (sides_list args) 0)
first_size k [] x size some e n = cc
first_size k (y ∷ ys) x size some e n = n ∙ ap (λ z. entries_of (sides_of z)) e

pub largest_graph_is : (bend : Bend) (k : ℕ) (args : List Sides) (size : ℕ) (g : Graph) → size ≡ entries_of (sides_at args 0) → g.aux ≡ Free ∷ replicate size Nonneg →
    map placed_row g.rows ≡ list_below size (λ i. record { entry = 0; row = level_row bend i }) → map (map form_term) g.results ≡ level_form bend k size ∷ []
    → IsGraphOf (largest_meaning bend k) args 1 g
largest_graph_is bend k args size g n kinds rows results = record {
  kinds = kinds ∙ ap (λ m. Free ∷ replicate m Nonneg) n;
  rows = rows ∙ sym (map-list_below size (level_row bend) (λ row. record { entry = 0; row = row })) ∙ ap (λ m. map (λ row. record { entry = 0; row = row }) (list_below m (level_row bend))) n;
  results = results ∙ ap (λ m. level_form bend k m ∷ []) n;
}

-- as many weights as rows
pub rows_of_one : (bend : Bend) (k : ℕ) (args : List Sides) (ws : List Frac) → length ws ≡ rows_before (largest_meaning bend k) args 1 → length ws ≡ entries_of (sides_at args 0)
rows_of_one bend k args ws e = let n = length-list_below (entries_of (sides_at args 0)) (level_row bend) in omega (arith, e, n)

pub largest_slopes_are : (bend : Bend) (k : ℕ) (args : List Sides) (cs ws gs : List Frac) (c : Frac) → IsSome (chosen_sides k args) → length ws ≡ entries_of (sides_at args 0)
    → value c ≡ number_at cs 0 →
    first_stop 0 (map (λ w. test (is_weight w)) (map value ws) ++ map test (level_conditions bend k (value c) (map value ws))) ≡ None → map value gs ≡ map (λ w. outward bend (value w)) ws →
    AreSlopesOf (largest_meaning bend k) args 1 cs ws gs
largest_slopes_are bend k [] cs ws gs c some n e none is = cc
largest_slopes_are bend k (s ∷ []) cs ws gs c some n e none is = record { no_stop = at_first; count = omega (arith, len, n); slopes = each }
  where
    at_first : (j : ℕ) → j < 1 → entry_stop (largest_meaning bend k) (s ∷ []) (number_at cs) (weights_of (largest_meaning bend k) (s ∷ []) ws) j ≡ None
    at_first zero h = largest_stop bend k (s ∷ []) cs ws c n e ∙ none
    at_first (suc j) h = absurd (omega arith)

    len : length gs ≡ length ws
    len = sym (length-map gs value) ∙ ap length is ∙ length-map ws (λ w. outward bend (value w))

    each : (i k' : ℕ) → i < 1 → k' < entries_of (sides_at (s ∷ []) i) → slope_at (s ∷ []) gs i k' ≡ outward bend (weights_of (largest_meaning bend k) (s ∷ []) ws 0 k')
    each zero j h b =
        let z : 0 + j ≡ j = omega arith in
        ap (number_at gs) z ∙ number_at-map (outward bend) ws gs is j (subst (λ m. j < m) (sym n) b) ∙ ap (λ m. outward bend (number_at ws m)) (sym z)
    each (suc i) j h b = absurd (omega arith)
largest_slopes_are bend k (q ∷ r ∷ rs) cs ws gs c some n e none is = cc

pub largest_slopes_stop : (bend : Bend) (k : ℕ) (args : List Sides) (cs ws : List Frac) (c : Frac) (stop : SlopeStop) → length ws ≡ entries_of (sides_at args 0) → value c ≡ number_at cs 0 →
    first_stop 0 (map (λ w. test (is_weight w)) (map value ws) ++ map test (level_conditions bend k (value c) (map value ws))) ≡ Some stop → IsSlopeStop (largest_meaning bend k) args 1 cs ws stop
largest_slopes_stop bend k args cs ws c stop n e here =
    stop_at (largest_meaning bend k) args 1 cs ws stop 0 (omega arith) (λ j h. absurd (omega arith)) (largest_stop bend k args cs ws c n e ∙ here)
