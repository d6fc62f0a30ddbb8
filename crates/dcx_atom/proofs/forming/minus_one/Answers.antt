-- -1 is 1 turned round.
use Rattle.std.proofs.Common.{sym, ap, ◌∙◌, pos}
use Rattle.dcx_math.specs.Rational.{neg_ℚ}
use Rattle.dcx_math.proofs.Orders.{whole-neg_ℤ}
use Rattle.dcx_atom.proofs.forming.minus_one.Goals as goal

pub returns : goal.returns
returns c = c.neg.ensures ∙ ap neg_ℚ c.one.ensures ∙ sym (whole-neg_ℤ (pos 1))
