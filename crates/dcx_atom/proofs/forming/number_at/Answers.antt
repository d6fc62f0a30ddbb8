-- Within the list the number is there, and past its end it is 0.
use Rattle.std.proofs.Common.{sym, ◌∙◌}
use Rattle.std.proofs.lemmas.List.{get_or_default, get_or_past}
use Rattle.dcx_atom.specs.Formed.{zero_frac}
use Rattle.dcx_atom.proofs.FormedSums.{zero_frac-unique}
use Rattle.dcx_atom.proofs.Lists.{number_is, number_past}
use Rattle.dcx_atom.proofs.forming.number_at.Goals as goal

pub returns-then-k-numbers-clause-is : goal.returns-then-k-numbers-clause-is
returns-then-k-numbers-clause-is c = c.index-numbers-k.is ∙ get_or_default c.args.numbers.now c.args.k c.index-numbers-k.result zero_frac c.if-k-numbers.true

pub returns-then-k-numbers-clause-exact : goal.returns-then-k-numbers-clause-exact
returns-then-k-numbers-clause-exact c = number_is c.args.numbers.now c.args.k c.index-numbers-k.result c.if-k-numbers.true c.index-numbers-k.is

pub returns-else-k-numbers-clause-is : goal.returns-else-k-numbers-clause-is
returns-else-k-numbers-clause-is c = zero_frac-unique c.zero.result c.zero.ensures ∙ sym (get_or_past c.args.numbers.now c.args.k zero_frac c.if-k-numbers.false)

pub returns-else-k-numbers-clause-exact : goal.returns-else-k-numbers-clause-exact
returns-else-k-numbers-clause-exact c = c.zero.ensures ∙ sym (number_past c.args.numbers.now c.args.k c.if-k-numbers.false)
