-- The comparison is exact.
use Rattle.std.proofs.Common.{ap₂, ◌∙◌, pos}
use Rattle.dcx_math.specs.Rational.{whole, rat_le}
use Rattle.dcx_atom.specs.Arrays.{number_at}
use Rattle.dcx_domain.proofs.Comparisons.{at_most}
use Rattle.dcx_domain.proofs.entry.is_at_most_zero.Goals as goal

pub returns : goal.returns
returns c = at_most c.is_at_most.result (number_at c.args.numbers.now c.args.entry) (whole (pos 0)) (c.is_at_most.ensures ∙ ap₂ rat_le c.number_at.ensures.exact c.zero.ensures)
