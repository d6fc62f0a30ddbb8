-- Where the coefficient is no number the result is the fraction 0.
use Rattle.std.proofs.Common.{unwrap_or, sym, ap, ◌∙◌}
use Rattle.dcx_atom.specs.Formed.{zero_frac}
use Rattle.dcx_atom.proofs.FormedSums.{zero_frac-unique}
use Rattle.dcx_entries.proofs.numbers.number_or_zero.Goals as goal

pub returns-in-None : goal.returns-in-None
returns-in-None g c = zero_frac-unique c.zero.result c.zero.ensures ∙ ap (λ o. unwrap_or o zero_frac) (sym (sym c.as_number.ensures ∙ c.in-None.is))
