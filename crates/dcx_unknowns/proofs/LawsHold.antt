-- Unknowns are numbered and few, and points, domains and rays are unknowns: the laws' proofs.
use Rattle.dcx_unknowns.specs.Laws.{UnknownsAreNumbered, PointsAreUnknowns, DomainsAreUnknowns, RaysAreUnknowns, UnknownsAreFew}
use Rattle.dcx_unknowns.proofs.Owners.{are_numbered}
use Rattle.dcx_unknowns.proofs.Points.{stand_for_points, point_along}
use Rattle.dcx_unknowns.proofs.Domains.{stand_for_domain, unknowns_few}

pub unknowns_are_numbered : UnknownsAreNumbered
unknowns_are_numbered vs = are_numbered vs

pub points_are_unknowns : PointsAreUnknowns
points_are_unknowns vs sq = stand_for_points vs sq

pub domains_are_unknowns : DomainsAreUnknowns
domains_are_unknowns p = stand_for_domain p

pub rays_are_unknowns : RaysAreUnknowns
rays_are_unknowns vs u d k = point_along vs u d k

pub unknowns_are_few : UnknownsAreFew
unknowns_are_few p = unknowns_few p
