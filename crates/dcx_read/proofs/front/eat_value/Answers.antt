-- Without a name and a dot, or another name and `=`, there is no value.
use Rattle.dcx_read.proofs.LineRules.{value-none}
use Rattle.dcx_read.proofs.front.eat_value.Goals as goal

pub returns-in_default-clause-front : goal.returns-in_default-clause-front
returns-in_default-clause-front c = λ t p rest v. c.in_default.ensures.front t v.dot_place v.dotted v.first

pub returns-in_default-eat_name_and-clause-front : goal.returns-in_default-eat_name_and-clause-front
returns-in_default-eat_name_and-clause-front c = value-none c.args.text.now c.args.tokens.now c.in-Some.head.now _ c.in-Some.dotted.now c.in-Some.ensures.front c.in_default-eat_name_and.ensures.front
