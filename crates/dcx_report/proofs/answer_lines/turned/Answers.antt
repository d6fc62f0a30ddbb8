-- Fractions of equal value are equal.
use Rattle.std.proofs.Common.{sym, ◌∙◌}
use Rattle.dcx_frac.proofs.Parts.{value_injective}
use Rattle.dcx_report.proofs.Negation.{value-negated}
use Rattle.dcx_report.proofs.answer_lines.turned.Goals as goal

pub returns : goal.returns
returns c = value_injective _ _ (c.neg.ensures ∙ sym (value-negated c.args.number))
