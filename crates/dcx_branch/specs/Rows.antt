-- The rows of a node: those of the program, and after them one for each bound of its box, place by place and the lower one first.
use Rattle.std.specs.Prelude.{ℕ, Bool, true, false, List, [], ◌∷◌, ◌++◌, Option, Some, None, ℤ, pos}
use Rattle.dcx_math.specs.Rational.{ℚ, whole, neg_ℚ}
use Rattle.dcx_frac.specs.declared.fraction.Frac.{Frac}
use Rattle.dcx_atom.specs.Formed.{frac_at}
use Rattle.dcx_linear.specs.declared.row.Row.{Row}
use Rattle.dcx_linear.specs.declared.row.RowKind.TheVariants.{AtMost}
use Rattle.dcx_std.specs.GivenRows.{GivenRows, given}
use Rattle.dcx_graph.specs.Program.{Program}
use Rattle.dcx_right.specs.Boxes.{Bounds, Box}
use Rattle.dcx_branch.specs.declared.place.Place.{Place}
use Rattle.dcx_branch.specs.declared.bound.BoundAt.{BoundAt}

-- ---- bounds in order
-- a bound of a place
abbrev pub bound_of : Place → Bool → Option ℤ → List BoundAt
bound_of place upper None = []
bound_of place upper (Some n) = record { place = place; upper = upper; limit = n } ∷ []

abbrev pub bounds_of : Place → Bounds → List BoundAt
bounds_of place b = bound_of place false b.lower ++ bound_of place true b.upper

abbrev pub all_bounds : List Place → Box → List BoundAt
all_bounds [] box = []
all_bounds (q ∷ ps) box = bounds_of q (box q.variable q.entry) ++ all_bounds ps box

-- ---- rows
-- a multiple of an unknown and a number are at most 0
abbrev pub unit_row : ℚ → ℕ → ℚ → Row Frac
unit_row coefficient unknown constant = record {
  kind = AtMost;
  form = record { constant = frac_at constant; terms = record { unknown = unknown; coefficient = frac_at coefficient } ∷ [] };
}

-- an unknown is at most its upper bound: the unknown less the bound is at most 0; or the bound less the unknown is
abbrev pub bound_form : Bool → ℕ → ℤ → Row Frac
bound_form true unknown limit = unit_row (whole (pos 1)) unknown (neg_ℚ (whole limit))
bound_form false unknown limit = unit_row (neg_ℚ (whole (pos 1))) unknown (whole limit)

abbrev pub bound_row : BoundAt → Row Frac
bound_row b = bound_form b.upper b.place.unknown b.limit

abbrev pub bound_rows : List BoundAt → List (Row Frac)
bound_rows [] = []
bound_rows (b ∷ bs) = bound_row b ∷ bound_rows bs

-- the rows of a node whose box has these bounds
abbrev pub node_rows : Program Frac → List BoundAt → GivenRows
node_rows q bs = given q.kinds (q.rows ++ bound_rows bs) q.objective
