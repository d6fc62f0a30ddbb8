-- The negative that the code takes is that of the definition.
use Rattle.std.proofs.Common.{sym, ap, ◌∙◌}
use Rattle.dcx_atom.specs.Formed.{frac_at}
use Rattle.dcx_atom.proofs.FormedSums.{frac_at-value}
use Rattle.dcx_range.proofs.rates.opposite.Goals as goal

pub returns : goal.returns
returns c = sym (frac_at-value c.neg.result) ∙ ap frac_at c.neg.ensures
