-- What stands against a range is that of a parameter that the problem reaches, but for its name.
use Rattle.std.proofs.Common.{inr, subst}
use Rattle.dcx_answer.specs.declared.not_ranged.NotRanged.{NotRanged}
use Rattle.dcx_outcomes.specs.Ranges.{LacksRange}
use Rattle.dcx_outcomes.proofs.RangeEnds.{lacking_shape, lacking_map, lacking_coefficient}
use Rattle.dcx_top.proofs.no_range.fault_place.Goals as goal

pub place_of-requires : goal.place_of-requires
place_of-requires c = inr (lacking_shape c.args.problem.now c.args.name.now (subst (λ (f : NotRanged). LacksRange c.args.problem.now c.args.name.now f) c.in-Shape.is c.requires))

pub place_of-requires-in-Map : goal.place_of-requires-in-Map
place_of-requires-in-Map c = inr (lacking_map c.args.problem.now c.args.name.now (subst (λ (f : NotRanged). LacksRange c.args.problem.now c.args.name.now f) c.in-Map.is c.requires))

pub place_of-requires-in-Coefficient : goal.place_of-requires-in-Coefficient
place_of-requires-in-Coefficient c =
    inr (lacking_coefficient c.args.problem.now c.args.name.now (subst (λ (f : NotRanged). LacksRange c.args.problem.now c.args.name.now f) c.in-Coefficient.is c.requires))
