-- What each answer is read from.
use Rattle.std.proofs.Common.{arith}
use Rattle.std.proofs.lemmas.Result.{err_from_is_err_and}
use Rattle.dcx_read.proofs.LineDescent.{balanced-join, balanced-within, inner-stops, unclosed-stops, balanced-done}
use Rattle.dcx_read.proofs.statement.+balanced.Goals as goal

pub more-init : goal.more-init
more-init t c =
    (c.behind_plain-rest.ensures.read, (c.behind_plain-rest.ensures.ends, c.behind_plain-rest.ensures.shorter))

pub returns-in_err-closing-clause-read : goal.returns-in_err-closing-clause-read
returns-in_err-closing-clause-read t c =
    let p = err_from_is_err_and c.from_residual.result c.from_residual.ensures.1 in
    rw (p.1, p.2) (inner-stops c.args.text.now c.args.tokens.now c.more.rest.now c.in-Some.inside.now c.in-Some.bracket _ c.more.invariant.0 c.in-Some.ensures.front
    c.in_err-closing.field-0.0 c.in_err-closing.ensures.read)

pub returns-in_err-behind-clause-read : goal.returns-in_err-behind-clause-read
returns-in_err-behind-clause-read t c =
    let p = err_from_is_err_and c.from_residual-in_err-behind.result c.from_residual-in_err-behind.ensures.1 in
    rw (p.1, p.2) (unclosed-stops c.args.text.now c.args.tokens.now c.more.rest.now c.in-Some.inside.now c.in-Some.bracket _ c.more.invariant.0 c.in-Some.ensures.front
    c.in_ok-closing.closing.now c.in_err-behind.field-0.0 c.in_ok-closing.ensures.read c.in_err-behind.ensures.refused)

pub more-preserved : goal.more-preserved
more-preserved t c = (
  balanced-join c.args.text.now c.args.tokens.now c.in_ok-behind.behind.now c.behind_plain-rest-in-Some.result.now
      (balanced-within c.args.text.now c.args.tokens.now c.more.rest.now c.in-Some.inside.now c.in-Some.bracket _ c.more.invariant.0 c.in-Some.ensures.front
      c.in_ok-closing.closing.now c.in_ok-behind.behind.now c.in_ok-closing.ensures.read c.in_ok-behind.ensures.front) c.behind_plain-rest-in-Some.ensures.read,
  (
    c.behind_plain-rest-in-Some.ensures.ends,
    let a = c.in-Some.ensures.shorter in let b = c.in_ok-closing.ensures.shorter in let d = c.in_ok-behind.ensures.shorter in
        let e = c.behind_plain-rest-in-Some.ensures.shorter in let i = c.more.invariant.1.1 in omega (arith, a, b, d, e, i),
  ),
)

pub more-smaller : goal.more-smaller
more-smaller t c =
    let a = c.in-Some.ensures.shorter in let b = c.in_ok-closing.ensures.shorter in let d = c.in_ok-behind.ensures.shorter in let e =
    c.behind_plain-rest-in-Some.ensures.shorter in omega (arith, a, b, d, e)

pub returns-clause-read : goal.returns-clause-read
returns-clause-read t c =
    balanced-done c.args.text.now c.args.tokens.now c.more.rest.now c.more.invariant.0 c.more.invariant.1.0 c.in_default.ensures.front

pub returns-clause-shorter : goal.returns-clause-shorter
returns-clause-shorter t c =
    c.more.invariant.1.1
