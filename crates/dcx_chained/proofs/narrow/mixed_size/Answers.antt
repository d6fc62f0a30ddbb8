-- A difference is no greater than the magnitudes together.
use Rattle.std.proofs.Common.{rules, arith, to_z-of_z, SFits}
use Rattle.std.specs.Int.{w128}
use Rattle.dcx_chained.proofs.Sizes.{bounds_sum}
use Rattle.dcx_chained.proofs.narrow.mixed_size.Goals as goal

pub returns : goal.returns
returns c = λ lt.
    let fr : SFits w128 c.args.factors.row = search rules in
    let fb : SFits w128 c.args.factors.by = search rules in
    bounds_sum c.args.factors.row c.args.factors.by c.args.size c.args.pivot_size c.multiple_size-of_row.result c.multiple_size-of_pivot.result
    ((simp to_z-of_z at c.multiple_size-of_row.ensures.within) (omega (arith, lt))) ((simp to_z-of_z at c.multiple_size-of_pivot.ensures.within) (omega (arith, lt)))
