-- A sign, and then digits; or digits alone.
use Rattle.dcx_lines.proofs.Written.{read_below, read_above}
use Rattle.dcx_lines.proofs.numbers.whole.Goals as goal

pub returns-in-Some : goal.returns-in-Some
returns-in-Some c = λ z small e. read_below z c.args.bytes.now c.in-Some.digits.now c.worth.result c.downward.result small e c.in-Some.ensures c.worth.ensures c.downward.ensures

pub returns-in-None : goal.returns-in-None
returns-in-None c = λ z small e. read_above z c.args.bytes.now c.worth-in-None.result c.upward.result small e c.in-None.ensures c.worth-in-None.ensures c.upward.ensures
