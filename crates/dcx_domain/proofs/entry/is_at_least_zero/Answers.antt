-- The comparison is exact.
use Rattle.std.proofs.Common.{ap₂, ◌∙◌, pos}
use Rattle.dcx_math.specs.Rational.{whole, rat_le}
use Rattle.dcx_atom.specs.Arrays.{number_at}
use Rattle.dcx_domain.proofs.Comparisons.{at_most}
use Rattle.dcx_domain.proofs.entry.is_at_least_zero.Goals as goal

pub returns : goal.returns
returns c = at_most c.is_at_most.result (whole (pos 0)) (number_at c.args.numbers.now c.args.entry) (c.is_at_most.ensures ∙ ap₂ rat_le c.zero.ensures c.number_at.ensures.exact)
