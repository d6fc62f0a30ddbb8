-- One more token that is no bracket is passed, until a bracket stands in front.
use Rattle.std.proofs.Common.{arith}
use Rattle.dcx_read.proofs.LineDescent.{balanced-none, balanced-beside}
use Rattle.dcx_read.proofs.statement.behind_plain.Goals as goal

pub more-init : goal.more-init
more-init c =
    (balanced-none c.args.text.now c.args.tokens.now, omega arith)

pub more-preserved : goal.more-preserved
more-preserved c = (
  balanced-beside c.args.text.now c.args.tokens.now c.more.rest.now c.in-Some.behind.now c.more.invariant.0 c.in-Some.ensures.front,
  let a = c.in-Some.ensures.shorter in
      let i = c.more.invariant.1 in omega (arith, a, i),
)

pub returns-clause-read : goal.returns-clause-read
returns-clause-read c =
    c.more.invariant.0

pub returns-clause-ends : goal.returns-clause-ends
returns-clause-ends c =
    c.in_default.ensures.front

pub returns-clause-shorter : goal.returns-clause-shorter
returns-clause-shorter c =
    c.more.invariant.1
