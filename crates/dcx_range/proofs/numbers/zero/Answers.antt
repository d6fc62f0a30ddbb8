-- The number 0 that the code takes is that of the definitions.
use Rattle.std.proofs.Common.{sym, ap, ◌∙◌}
use Rattle.dcx_atom.specs.Formed.{frac_at}
use Rattle.dcx_atom.proofs.FormedSums.{frac_at-value, frac_at-zero}
use Rattle.dcx_range.proofs.numbers.zero.Goals as goal

pub returns : goal.returns
returns c = sym (frac_at-value c.zero.result) ∙ ap frac_at c.zero.ensures ∙ frac_at-zero
