-- The comparison is exact.
use Rattle.std.proofs.Common.{sym}
use Rattle.dcx_atom.proofs.FirstStops.{rat_le-greater, rat_le-not_greater}
use Rattle.dcx_atom.proofs.forming.is_at_most.Goals as goal

pub returns-in-Greater : goal.returns-in-Greater
returns-in-Greater c = sym (rat_le-greater (c.cmp_exact.ensures.greater.0 c.in-Greater.is))

pub returns-in_default : goal.returns-in_default
returns-in_default c = sym (rat_le-not_greater (λ h. c.in_default.not-Greater (c.cmp_exact.ensures.greater.1 h)))
