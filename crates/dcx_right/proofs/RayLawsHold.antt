-- The main statements hold: steepness, recession, fixed sides, and rays of unbounded problems.
use Rattle.dcx_tree.specs.Meaning.{names_in, convex_problem}
use Rattle.dcx_tree.proofs.Lawful.{problem_lawful}
use Rattle.dcx_right.specs.RayLaws.{SteepnessIsTold, CallsRecede, NodesRecede, ValuesAreFixed, TreeValuesAreFixed, RaysAreUnbounded, RaysShow}
use Rattle.dcx_right.proofs.Calls.{atom_recedes, linear_recedes, product_recedes, quotient_recedes}
use Rattle.dcx_right.proofs.Told.{steep_tells, only}
use Rattle.dcx_right.proofs.Along.{nodes_along}
use Rattle.dcx_right.proofs.Rays.{unbounded}
use Rattle.dcx_right.proofs.Values.{side_fixed}
use Rattle.dcx_right.proofs.Reached.{tree_side_fixed}
use Rattle.dcx_right.proofs.TreeValues.{tree_recedes}

pub steepness_is_told : SteepnessIsTold
steepness_is_told nodes ordered s d = record { told = steep_tells nodes s d ordered; one = only nodes s d ordered }

pub calls_recede : CallsRecede
calls_recede = record { atoms = atom_recedes; linear_calls = linear_recedes; products = product_recedes; quotients = quotient_recedes }

pub nodes_recede : NodesRecede
nodes_recede nodes ordered law recede s fit x d dx dd k low i bend t j = nodes_along nodes ordered law recede s fit.parameters x d dx dd k low i j bend t

pub values_are_fixed : ValuesAreFixed
values_are_fixed = side_fixed

pub tree_values_are_fixed : TreeValuesAreFixed
tree_values_are_fixed = tree_side_fixed

pub rays_are_unbounded : RaysAreUnbounded
rays_are_unbounded p ordered law recede ok s fit x d b e ray = unbounded p ordered law recede ok s fit x d b e ray

pub rays_show : RaysShow
rays_show p ok s fit x d b e ray =
    let lawful = problem_lawful p in
    unbounded (convex_problem p) lawful.ordered lawful.lawful (tree_recedes (names_in p) p.tree p.nodes) ok s fit x d b e ray
