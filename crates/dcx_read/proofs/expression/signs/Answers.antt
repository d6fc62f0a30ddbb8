-- One more sign is read, until the token in front is none.
use Rattle.std.proofs.Common.{arith}
use Rattle.dcx_read.proofs.Fronts.{signs-begin, signs-more}
use Rattle.dcx_read.proofs.expression.signs.Goals as goal

pub more-init : goal.more-init
more-init c =
    ((λ source. signs-begin source _ _ c.new-all.ensures.items), omega arith)

pub more-smaller : goal.more-smaller
more-smaller c =
    c.in-Some.ensures.shorter

pub more-preserved : goal.more-preserved
more-preserved c = (
  (λ source. signs-more source c.args.tokens.now c.more.rest.now c.in-Some.behind.now _ _ c.in-Some.sign c.in-Some.place
      (c.more.invariant.0 source) c.in-Some.ensures.front c.in_ok-push.ensures.ok),
  let a = c.in-Some.ensures.shorter in let i = c.more.invariant.1 in omega (arith, a, i),
)

pub returns-clause-signs : goal.returns-clause-signs
returns-clause-signs c =
    record { parts = c.more.invariant.0; ends = λ s. c.in_default.ensures.front s }

pub returns-clause-shorter : goal.returns-clause-shorter
returns-clause-shorter c =
    c.more.invariant.1
