-- The fraction with the sign turned is the one of its value.
use Rattle.std.proofs.Common.{sym, ap, ◌∙◌}
use Rattle.dcx_atom.specs.Formed.{frac_at}
use Rattle.dcx_atom.proofs.FormedSums.{frac_at-value}
use Rattle.dcx_std.proofs.whole.negative.Goals as goal

pub returns : goal.returns
returns c = sym (frac_at-value c.neg.result) ∙ ap frac_at c.neg.ensures
