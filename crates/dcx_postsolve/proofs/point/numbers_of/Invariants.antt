-- The numbers of the sources so far.
use Rattle.std.proofs.Common.{◌≡◌, map, take}
use Rattle.dcx_frac.specs.Frac.{value}
use Rattle.dcx_unknowns.specs.Unknowns.{number_at}
use Rattle.dcx_postsolve.specs.Points.{numbered}
use Rattle.dcx_postsolve.proofs.point.numbers_of.Given as goal

abbrev pub invariant-sources : goal.invariant-sources
invariant-sources l = map value l.numbers.items ≡ map (number_at (numbered l.unknowns)) (take l.source-index l.sources)
