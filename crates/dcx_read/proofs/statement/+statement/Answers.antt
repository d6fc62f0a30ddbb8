-- What each answer is read from.
use Rattle.std.proofs.Common.{arith, ◌∙◌, [], ◌∷◌, map, length, sym}
use Rattle.std.proofs.lemmas.Result.{err_from_is_err_and}
use Rattle.dcx_syntax.specs.Terminal.{plain}
use Rattle.dcx_read.specs.Terminals.{terminals}
use Rattle.dcx_syntax.specs.Terminal as marks_of
use Rattle.dcx_syntax.specs.View.{expr_view, line_view, lines_of}
use Rattle.dcx_read.specs.Moves.{dedent_s, line_s, lines_s}
use Rattle.dcx_read.proofs.Progress.{stops}
use Rattle.dcx_read.proofs.Rules.{for-front}
use Rattle.dcx_read.proofs.LineDescent.{nearer, body-ends, body-shorter, block-ends, block-shorter, lines-begun, lines-step, lines-stop, lines-done}
use Rattle.dcx_read.proofs.statement.+statement.Goals as goal

pub block-returns-in_err-begun-clause-read : goal.block-returns-in_err-begun-clause-read
block-returns-in_err-begun-clause-read t c =
    let p = err_from_is_err_and c.from_residual.result c.from_residual.ensures.1 in
    rw (p.1, p.2) (c.in_err-begun.ensures.read)

pub block-returns-clause-read : goal.block-returns-clause-read
block-returns-clause-read t c =
    block-ends (λ x. ((x.0.0, x.0.1), x.1.now)) (λ x. (x.0, x.1.now)) (λ x. (line_view x.0, x.1.now)) c.args.place (λ b. b.0) (λ b. expr_view b.1) (λ u. line_view u.0)
    (λ u. lines_of (map line_view u.1.items)) c.in_ok-begun.begun c.args.text.now (plain (marks_of.for c.args.place) ∷ (terminals c.args.text.now c.args.tokens.now))
    (terminals c.args.text.now c.in_ok-begun.inside.now) c.in_ok-begun.ensures.read c.body.result c.beside.result c.whole.result
    c.body.ensures.read c.beside.ensures c.whole.ensures

pub block-returns-clause-shorter : goal.block-returns-clause-shorter
block-returns-clause-shorter t c =
    block-shorter (λ x. ((x.0.0, x.0.1), x.1.now)) (λ x. (x.0, x.1.now)) (λ x. (line_view x.0, x.1.now)) c.args.place (λ b. b.0) (λ b. expr_view b.1) (λ u. line_view u.0)
    (λ u. lines_of (map line_view u.1.items)) c.in_ok-begun.begun (length c.in_ok-begun.inside.now)
    (length c.args.tokens.now) c.in_ok-begun.ensures.shorter c.body.result c.beside.result c.whole.result c.body.ensures.shorter c.beside.ensures c.whole.ensures

pub body-returns-in_err-first-clause-read : goal.body-returns-in_err-first-clause-read
body-returns-in_err-first-clause-read t c =
    let p = err_from_is_err_and c.from_residual.result c.from_residual.ensures.1 in
    rw (p.1, p.2) (λ from make h. stops line_s line_s from (terminals c.args.text.now c.args.tokens.now)
    (lines_s ∷ dedent_s ∷ []) _ c.args.text.now c.in_err-first.field-0.0 h c.in_err-first.ensures.read)

pub body-returns-clause-read : goal.body-returns-clause-read
body-returns-clause-read t c =
    body-ends (λ x. ((x.0.0, x.0.1), x.1.now)) (λ x. (x.0, x.1.now)) c.args.text.now (terminals c.args.text.now c.args.tokens.now) c.in_ok-first.behind.now c.in_ok-first.first
    line_view (λ u. lines_of (map line_view u.items)) c.in_ok-first.ensures.read.0 c.in_ok-first.ensures.read.1.0 c.in_ok-first.ensures.read.1.1 c.lines.result
    c.closed.result c.beside.result c.lines.ensures.read c.closed.ensures c.beside.ensures

pub body-returns-clause-shorter : goal.body-returns-clause-shorter
body-returns-clause-shorter t c =
    body-shorter (λ x. ((x.0.0, x.0.1), x.1.now)) (λ x. (x.0, x.1.now)) c.args.text.now (terminals c.args.text.now c.args.tokens.now) c.in_ok-first.behind.now
    c.in_ok-first.first line_view (λ u. lines_of (map line_view u.items)) (length c.in_ok-first.behind.now)
    (length c.args.tokens.now) c.in_ok-first.ensures.shorter c.lines.result c.closed.result c.beside.result c.lines.ensures.shorter c.closed.ensures c.beside.ensures

pub line-returns-in-Some-clause-read : goal.line-returns-in-Some-clause-read
line-returns-in-Some-clause-read t c =
    rw (for-front c.args.text.now c.args.tokens.now c.in-Some.behind.now c.in-Some.place c.in-Some.ensures.front) c.block.ensures.read

pub line-returns-in-Some-clause-shorter : goal.line-returns-in-Some-clause-shorter
line-returns-in-Some-clause-shorter t c =
    nearer (λ x. length x.1.now) (length c.in-Some.behind.now) (length c.args.tokens.now) c.in-Some.ensures.shorter c.block.result c.block.ensures.shorter

pub line-returns-clause-read : goal.line-returns-clause-read
line-returns-clause-read t c =
    c.flat.ensures.read

pub lines-more-init : goal.lines-more-init
lines-more-init t c =
    (lines-begun line_view _ (terminals c.args.text.now c.args.tokens.now) c.new-all.ensures.items, omega arith)

pub lines-returns-in_err-next-clause-read : goal.lines-returns-in_err-next-clause-read
lines-returns-in_err-next-clause-read t c =
    let p = err_from_is_err_and c.from_residual.result c.from_residual.ensures.1 in
    rw (p.1, p.2) (lines-stop c.args.text.now (terminals c.args.text.now c.args.tokens.now) c.more.rest.now line_view _ c.more.invariant.0
    (sym c.starts_line.ensures ∙ c.more-test.true) c.in_err-next.field-0.0 c.in_err-next.ensures.read)

pub lines-returns-in_err-push-clause-read : goal.lines-returns-in_err-push-clause-read
lines-returns-in_err-push-clause-read t c =
    let p = err_from_is_err_and c.from_residual-in_err-push.result c.from_residual-in_err-push.ensures.1 in
    rw (p.1, p.2) tt

pub lines-more-smaller : goal.lines-more-smaller
lines-more-smaller t c =
    let b = c.in_ok-next.ensures.shorter in let i = c.more.invariant.1 in omega (arith, b, i)

pub lines-more-preserved : goal.lines-more-preserved
lines-more-preserved t c = (
  lines-step c.args.text.now (terminals c.args.text.now c.args.tokens.now) c.more.rest.now line_view _ c.more.invariant.0 c.in_ok-next.behind.now c.in_ok-next.next _
      (sym c.starts_line.ensures ∙ c.more-test.true) c.in_ok-next.ensures.read c.in_ok-push.ensures.items,
  let b = c.in_ok-next.ensures.shorter in
      let i = c.more.invariant.1 in omega (arith, b, i),
)

pub lines-returns-clause-read : goal.lines-returns-clause-read
lines-returns-clause-read t c =
    lines-done c.args.text.now (terminals c.args.text.now c.args.tokens.now) c.more.rest.now line_view _ c.more.invariant.0 (sym c.starts_line.ensures ∙ c.more-test.false)

pub lines-returns-clause-shorter : goal.lines-returns-clause-shorter
lines-returns-clause-shorter t c =
    c.more.invariant.1
