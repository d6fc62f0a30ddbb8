-- A ray that passes its checks is one along which the problem is unbounded.
use Rattle.std.proofs.Common.{◌<◌, subst}
use Rattle.std.proofs.lemmas.Option.{slice_get_within}
use Rattle.dcx_math.proofs.Lists.{mapped}
use Rattle.dcx_point.specs.Pairs.{Pairs}
use Rattle.dcx_convex.specs.Problems as convex
use Rattle.dcx_convex.specs.Problems.{EachRow, Holds, gap_of}
use Rattle.dcx_tree.specs.declared.problem.Problem.{Problem}
use Rattle.dcx_tree.specs.Meaning.{convex_constraint, convex_problem, setting_of, point_of}
use Rattle.dcx_right.proofs.RayLawsHold.{rays_show}
use Rattle.dcx_cert_rays.specs.Steepness.{steepness_at}
use Rattle.dcx_cert_rays.specs.Rays.{constraint_check, constraints_check}
use Rattle.dcx_cert_rays.specs.Laws.{PassedIsUnbounded}

module _ (p : Problem) (setting ray : Pairs) where
  rows_hold : (constraints_check p setting ray).passes → EachRow (convex_problem p) (λ k c j. Holds c.relation (gap_of (steepness_at p setting ray) c j))
  rows_hold pass k c at j below =
      let (own, there, is) = mapped convex_constraint p.constraints k c at in
      let here = subst (λ o. (constraint_check p setting ray k o).passes) there (pass k (slice_get_within p.constraints k own there)) in
      subst (λ (z : convex.Constraint). j < z.size → Holds z.relation (gap_of (steepness_at p setting ray) z j)) is (here.1 j) below

pub passed_is_unbounded : PassedIsUnbounded
passed_is_unbounded p accepted setting fitting point ray bound slope feasible start positive domain pass =
    rays_show p accepted (setting_of p setting) fitting.fits (point_of p point) (point_of p ray) _ _ (record {
      positive = positive;
      feasible = feasible;
      start = start;
      domain = domain;
      rows = rows_hold p setting ray pass.0;
      falls = pass.1.1;
    })
