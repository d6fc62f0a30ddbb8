-- The graphs of these calls speak of no unknowns but their own.
use Rattle.std.proofs.Common.{◌≡◌, ℕ, ◌<◌, arith, List, length, replicate, Some, ap, pos}
use Rattle.std.proofs.lemmas.List.{length-replicate}
use Rattle.dcx_math.specs.Rational.{whole}
use Rattle.dcx_shape.specs.declared.shape.Sides.{Sides}
use Rattle.dcx_shape.specs.Sides.{entries_of}
use Rattle.dcx_atom.specs.declared.flags.Bend.{Bend}
use Rattle.dcx_atom.specs.declared.flags.Bend.TheVariants.{Convex}
use Rattle.dcx_atom.specs.declared.graph.AuxKind.TheVariants.{Free, Nonneg}
use Rattle.dcx_atom.specs.Arrays.{sides_at}
use Rattle.dcx_atom.specs.Bounding.{argument_term, bound_row, only, only_is}
use Rattle.dcx_atom.specs.OwnUnknowns.{HasOwnUnknowns}
use Rattle.dcx_atom.proofs.OwnTerms.{rows_below, bound_own, bounds_own}
use Rattle.dcx_elem.specs.declared.kinks.Kink.{Kink}
use Rattle.dcx_elem.specs.Kinks.{kink_factors, kink_meaning}
use Rattle.dcx_elem.specs.Extremes.{extreme_meaning}
use Rattle.dcx_elem.specs.ExtremeLaws.{alike_are}

-- each entry of the value has its unknown
entry_within : (args : List Sides) (sides : Sides) → only args ≡ Some sides → (j : ℕ) → j < entries_of sides → j < length (replicate (entries_of (sides_at args 0)) Nonneg)
entry_within args sides is j b =
    let size : entries_of (sides_at args 0) ≡ entries_of sides = ap (λ xs. entries_of (sides_at xs 0)) (only_is args sides is) in
    let count = length-replicate (entries_of (sides_at args 0)) Nonneg in
    omega (arith, size, count, b)

pub kink_own : (p : Kink) → HasOwnUnknowns (kink_meaning p)
kink_own p args sides is = record {
  rows = λ j b. bounds_own _ j Convex (argument_term 0 j) (kink_factors p) (entry_within args sides is j b) (λ q. tt);
  results = λ j b. (entry_within args sides is j b, tt);
}

pub extreme_own : (bend : Bend) (count : ℕ) → HasOwnUnknowns (extreme_meaning bend count)
extreme_own bend n args sides is =
    let size : entries_of (sides_at args 0) ≡ entries_of sides = ap entries_of (alike_are n args sides is).first in
    let count = length-replicate (entries_of (sides_at args 0)) Free in
    record {
      rows = λ j b. rows_below _ n (λ i. bound_row bend j (argument_term i j (whole (pos 1))))
          (λ i c. bound_own _ j bend (argument_term i j (whole (pos 1))) (omega (arith, size, count, b)) tt);
      results = λ j b. (omega (arith, size, count, b), tt);
    }
