-- Fractions of one value have the same parts.
use Rattle.std.proofs.Common.{◌∙◌}
use Rattle.dcx_frac.proofs.Parts.{same_parts}
use Rattle.dcx_atom.proofs.forming.is_equal.Goals as goal

pub returns : goal.returns
returns c = c.eq.ensures ∙ same_parts c.args.x.now c.args.y.now
