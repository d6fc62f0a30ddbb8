-- The number is turned where the test holds.
use Rattle.std.proofs.Common.{sym, ap, ◌∙◌}
use Rattle.dcx_std.specs.WholeRows.{turned_frac as turned_of}
use Rattle.dcx_range.proofs.rates.turned.Goals as goal

pub returns-then-is_negated : goal.returns-then-is_negated
returns-then-is_negated c = c.opposite.ensures ∙ sym (ap (λ b. turned_of b c.args.number) c.if-is_negated.true)

pub returns-else-is_negated : goal.returns-else-is_negated
returns-else-is_negated c = sym (ap (λ b. turned_of b c.args.number) c.if-is_negated.false)
