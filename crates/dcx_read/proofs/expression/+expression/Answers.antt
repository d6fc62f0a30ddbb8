-- What each answer of the descent is read from.
use Rattle.std.proofs.Common.{arith, Ok, Err, Some, None, IfSome, ◌∙◌, ◌<◌, ◌++◌, false, [], ◌∷◌, length, map, refl, sym, ap, subst}
use Rattle.std.specs.Prelude.{IfOk, MatchOption}
use Rattle.std.proofs.lemmas.Result.{err_from_is_err_and}
use Rattle.dcx_syntax.specs.declared.bracket.Bracket.TheVariants.{Round, Square}
use Rattle.dcx_read.specs.declared.role.Role.TheVariants as roles
use Rattle.dcx_syntax.specs.Terminal.{opens, plain}
use Rattle.dcx_read.specs.Terminals.{terminals, named_by}
use Rattle.dcx_syntax.specs.Terminal as marks_of
use Rattle.dcx_syntax.specs.Expressions.{expr, compared, no_comparison, sum, added, no_addition, term, scaled, no_scaling, power_of, raised, no_power, exponent, postfix}
use Rattle.dcx_syntax.specs.Expressions.{no_trailer, attribute, call, no_index, more_indices, by_name, by_place, slice, absent, present, step, tuple, list, comprehension}
use Rattle.dcx_syntax.specs.View.{args_of, items_of, more_items_of, indices_of, arg_view, index_view, primary_view, step_view, trailer_view, added_view}
use Rattle.dcx_syntax.specs.View.{compared_view, expr_view, factor_view, postfix_view, power_view, raised_view, scaled_view, sum_view, term_view, optional_view}
use Rattle.dcx_read.specs.Moves.{expr_s, compared_s, sum_s, added_s, term_s, scaled_s, factor_s, power_s, raised_s, exponent_s, postfix_s, trailers_s, args_s, arg_s}
use Rattle.dcx_read.specs.Moves.{indices_s, index_s, after_index_s, optional_s, step_s, primary_s, after_round_s, after_square_s, items_s, name_s, in_s, closes_s, as_index}
use Rattle.dcx_read.specs.Moves.{no_slice, slices, as_round, round_holds, round_closed, round_goes_on, as_square, square_holds, square_lists, square_for, items_behind}
use Rattle.dcx_read.specs.Steps.{Gives}
use Rattle.dcx_read.specs.Leaves.{ReadsLeaf, EndsByComma}
use Rattle.dcx_read.proofs.Progress.{front, goes, turns, stops, gives-is, loop-done}
use Rattle.dcx_read.proofs.Rules.{expr-rule, sum-rule, term-rule, power-rule, postfix-rule, compared-item, compared-ends, added-item, added-ends, scaled-item, scaled-ends}
use Rattle.dcx_read.proofs.Rules.{raised-item, raised-ends, attribute-item, call-item, indexed-item, trailers-end, indices-item, indices-ends, closes_round-gives, closes_round-stops}
use Rattle.dcx_read.proofs.Rules.{closes_square-gives, closes_square-stops, in-gives, in-stops, arg-named, arg-place, index-colon, index-rule, after_index-ends, after_index-colon}
use Rattle.dcx_read.proofs.Rules.{args-none, optional-none, optional-starts, step-ends, step-colon, round-empty, round-rule, after_round-closes, after_round-stops, after_round-comma}
use Rattle.dcx_read.proofs.Rules.{square-empty, square-rule, after_square-closes, after_square-stops, after_square-comma, after_square-for, for-front}
use Rattle.dcx_read.proofs.Loops.{none-yet, loop-begin, loop-next, loop-stops, factor-gives, factor-stops}
use Rattle.dcx_read.proofs.Descent.{made-length, ReadsItem, item-read, transposed-reads, transposed-shorter, grown-stops, grown-next, exponent-reads, beside-shorter, part-read}
use Rattle.dcx_read.proofs.Descent.{mark-read, beside-read, all-read, mark-shorter, index-ends, index-shorter, loosely, closed-reads, closed-shorter, pair-reads, pair-shorter}
use Rattle.dcx_read.proofs.Descent.{made-last, made-pair, made-shorter, finish, trailer-is, no-primary, front-opens-round, front-opens-square, list-items, indices-begun}
use Rattle.dcx_read.proofs.Descent.{indices-pushed, args-begun, args-stop, args-step, args-last-one, args-close, items-begun, items-stop, items-step, items-last-one, items-close}
use Rattle.dcx_read.proofs.expression.+expression.Goals as goal

pub expr-returns-in_err-front-clause-read : goal.expr-returns-in_err-front-clause-read
expr-returns-in_err-front-clause-read t c =
    let p = err_from_is_err_and c.from_residual.result c.from_residual.ensures.1 in
    rw (p.1, p.2) (stops expr_s sum_s (terminals c.args.text.now c.args.tokens.now) (terminals c.args.text.now c.args.tokens.now)
    (compared_s ∷ []) _ c.args.text.now c.in_err-front.field-0.0 (expr-rule (terminals c.args.text.now c.args.tokens.now)) c.in_err-front.ensures.read)

pub expr-more-init : goal.expr-more-init
expr-more-init t c = (
  loop-begin expr_s compared_s sum_s (terminals c.args.text.now c.args.tokens.now) (terminals c.args.text.now c.in_ok-front.behind.now) expr (sum_view c.in_ok-front.front) _
      (expr-rule (terminals c.args.text.now c.args.tokens.now)) c.in_ok-front.ensures.read
      (λ y. ap (expr (sum_view c.in_ok-front.front)) (sym (none-yet compared_view _ c.new-none.ensures.items y))),
  c.in_ok-front.ensures.shorter,
)

pub expr-returns-in_err-read-clause-read : goal.expr-returns-in_err-read-clause-read
expr-returns-in_err-read-clause-read t c =
    let p = err_from_is_err_and c.from_residual-in_err-read.result c.from_residual-in_err-read.ensures.1 in
    rw (p.1, p.2) (grown-stops expr_s compared_s (λ f. expr (sum_view f)) compared_view (λ x. ((x.0.0, x.0.1.items), x.1.now)) (λ y. (y.0, y.1.now)) c.args.text.now
    (terminals c.args.text.now c.args.tokens.now) (terminals c.args.text.now c.more.read.1.now) c.more.read c.more.invariant.0 c.compared_of-next.result
    c.in_err-read.field-0.0 (item-read compared_s (λ y. (compared_view y.0, y.1.now)) c.args.text.now (terminals c.args.text.now c.more.read.1.now) sum_s
    (terminals c.args.text.now c.in-Some.after.now) (compared c.in-Some.comparison c.in-Some.place) (λ z. (sum_view z.0, z.1.now))
    (compared-item c.args.text.now c.more.read.1.now c.in-Some.after.now c.in-Some.comparison c.in-Some.place c.in-Some.ensures.front) c.sum-operand.result
    c.compared_of-next.result c.sum-operand.ensures.read c.compared_of-next.ensures) c.in_err-read.ensures)

pub expr-more-smaller : goal.expr-more-smaller
expr-more-smaller t c =
    let a = c.in-Some.ensures.shorter in let b = made-length (λ x. ((x.0.0, x.0.1.items), x.1.now)) (λ y. ((c.more.read.0.0, c.more.read.0.1.items ++ y.0 ∷ []), y.1.now))
    (length c.in-Some.after.now) (Ok c.in_ok-read.read) c.compared_of-next.result
    (made-length (λ y. (compared_view y.0, y.1.now)) (λ z. (compared c.in-Some.comparison c.in-Some.place (sum_view z.0), z.1.now)) (length c.in-Some.after.now)
    c.compared_of-next.result c.sum-operand.result c.sum-operand.ensures.shorter c.compared_of-next.ensures) c.in_ok-read.ensures in omega (arith, a, b)

pub expr-more-preserved : goal.expr-more-preserved
expr-more-preserved t c = (
  grown-next expr_s compared_s (λ f. expr (sum_view f)) compared_view (λ x. ((x.0.0, x.0.1.items), x.1.now)) (λ y. (y.0, y.1.now)) c.args.text.now
      (terminals c.args.text.now c.args.tokens.now) (terminals c.args.text.now c.more.read.1.now) c.more.read c.more.invariant.0 c.compared_of-next.result c.in_ok-read.read
      (item-read compared_s (λ y. (compared_view y.0, y.1.now)) c.args.text.now (terminals c.args.text.now c.more.read.1.now) sum_s
      (terminals c.args.text.now c.in-Some.after.now) (compared c.in-Some.comparison c.in-Some.place) (λ z. (sum_view z.0, z.1.now))
      (compared-item c.args.text.now c.more.read.1.now c.in-Some.after.now c.in-Some.comparison c.in-Some.place c.in-Some.ensures.front) c.sum-operand.result
      c.compared_of-next.result c.sum-operand.ensures.read c.compared_of-next.ensures) c.in_ok-read.ensures,
  let a = c.in-Some.ensures.shorter in let b = made-length
      (λ x. ((x.0.0, x.0.1.items), x.1.now)) (λ y. ((c.more.read.0.0, c.more.read.0.1.items ++ y.0 ∷ []), y.1.now)) (length c.in-Some.after.now) (Ok c.in_ok-read.read)
      c.compared_of-next.result (made-length (λ y. (compared_view y.0, y.1.now)) (λ z. (compared c.in-Some.comparison c.in-Some.place (sum_view z.0), z.1.now))
      (length c.in-Some.after.now) c.compared_of-next.result c.sum-operand.result c.sum-operand.ensures.shorter c.compared_of-next.ensures) c.in_ok-read.ensures in
      let i = c.more.invariant.1 in omega (arith, a, b, i),
)

pub expr-returns-clause-read : goal.expr-returns-clause-read
expr-returns-clause-read t c =
    loop-done expr_s compared_s (terminals c.args.text.now c.args.tokens.now) (terminals c.args.text.now c.more.read.1.now) _ no_comparison _ c.more.invariant.0
    (compared-ends c.args.text.now c.more.read.1.now c.in_default.ensures.front) c.expr_of.ensures

pub expr-returns-clause-shorter : goal.expr-returns-clause-shorter
expr-returns-clause-shorter t c =
    c.more.invariant.1

pub sum-returns-in_err-front-clause-read : goal.sum-returns-in_err-front-clause-read
sum-returns-in_err-front-clause-read t c =
    let p = err_from_is_err_and c.from_residual.result c.from_residual.ensures.1 in
    rw (p.1, p.2) (stops sum_s term_s (terminals c.args.text.now c.args.tokens.now) (terminals c.args.text.now c.args.tokens.now)
    (added_s ∷ []) _ c.args.text.now c.in_err-front.field-0.0 (sum-rule (terminals c.args.text.now c.args.tokens.now)) c.in_err-front.ensures.read)

pub sum-more-init : goal.sum-more-init
sum-more-init t c = (
  loop-begin sum_s added_s term_s (terminals c.args.text.now c.args.tokens.now) (terminals c.args.text.now c.in_ok-front.behind.now) sum (term_view c.in_ok-front.front) _
      (sum-rule (terminals c.args.text.now c.args.tokens.now)) c.in_ok-front.ensures.read
      (λ y. ap (sum (term_view c.in_ok-front.front)) (sym (none-yet added_view _ c.new-none.ensures.items y))),
  c.in_ok-front.ensures.shorter,
)

pub sum-returns-in_err-read-clause-read : goal.sum-returns-in_err-read-clause-read
sum-returns-in_err-read-clause-read t c =
    let p = err_from_is_err_and c.from_residual-in_err-read.result c.from_residual-in_err-read.ensures.1 in
    rw (p.1, p.2) (grown-stops sum_s added_s (λ f. sum (term_view f)) added_view (λ x. ((x.0.0, x.0.1.items), x.1.now)) (λ y. (y.0, y.1.now)) c.args.text.now
    (terminals c.args.text.now c.args.tokens.now)
    (terminals c.args.text.now c.more.read.1.now) c.more.read c.more.invariant.0 c.added_of-next.result c.in_err-read.field-0.0
    (item-read added_s (λ y. (added_view y.0, y.1.now)) c.args.text.now (terminals c.args.text.now c.more.read.1.now) term_s (terminals c.args.text.now c.in-Some.after.now)
    (added c.in-Some.sign c.in-Some.place) (λ z. (term_view z.0, z.1.now)) (added-item c.args.text.now c.more.read.1.now c.in-Some.after.now c.in-Some.sign c.in-Some.place
    c.in-Some.ensures.front) c.term-operand.result c.added_of-next.result c.term-operand.ensures.read c.added_of-next.ensures) c.in_err-read.ensures)

pub sum-more-smaller : goal.sum-more-smaller
sum-more-smaller t c =
    let a = c.in-Some.ensures.shorter in let b = made-length (λ x. ((x.0.0, x.0.1.items), x.1.now)) (λ y. ((c.more.read.0.0, c.more.read.0.1.items ++ y.0 ∷ []), y.1.now))
    (length c.in-Some.after.now) (Ok c.in_ok-read.read) c.added_of-next.result
    (made-length (λ y. (added_view y.0, y.1.now)) (λ z. (added c.in-Some.sign c.in-Some.place (term_view z.0), z.1.now)) (length c.in-Some.after.now) c.added_of-next.result
    c.term-operand.result c.term-operand.ensures.shorter c.added_of-next.ensures) c.in_ok-read.ensures in omega (arith, a, b)

pub sum-more-preserved : goal.sum-more-preserved
sum-more-preserved t c = (
  grown-next sum_s added_s (λ f. sum (term_view f)) added_view (λ x. ((x.0.0, x.0.1.items), x.1.now)) (λ y. (y.0, y.1.now)) c.args.text.now
      (terminals c.args.text.now c.args.tokens.now) (terminals c.args.text.now c.more.read.1.now) c.more.read c.more.invariant.0 c.added_of-next.result c.in_ok-read.read
      (item-read added_s (λ y. (added_view y.0, y.1.now)) c.args.text.now (terminals c.args.text.now c.more.read.1.now) term_s (terminals c.args.text.now c.in-Some.after.now)
      (added c.in-Some.sign c.in-Some.place) (λ z. (term_view z.0, z.1.now)) (added-item c.args.text.now c.more.read.1.now c.in-Some.after.now c.in-Some.sign c.in-Some.place
      c.in-Some.ensures.front) c.term-operand.result c.added_of-next.result c.term-operand.ensures.read c.added_of-next.ensures) c.in_ok-read.ensures,
  let a = c.in-Some.ensures.shorter in let b = made-length (λ x. ((x.0.0, x.0.1.items), x.1.now)) (λ y. ((c.more.read.0.0, c.more.read.0.1.items ++ y.0 ∷ []), y.1.now))
      (length c.in-Some.after.now) (Ok c.in_ok-read.read) c.added_of-next.result
      (made-length (λ y. (added_view y.0, y.1.now)) (λ z. (added c.in-Some.sign c.in-Some.place (term_view z.0), z.1.now)) (length c.in-Some.after.now) c.added_of-next.result
      c.term-operand.result c.term-operand.ensures.shorter c.added_of-next.ensures) c.in_ok-read.ensures in let i = c.more.invariant.1 in omega (arith, a, b, i),
)

pub sum-returns-clause-read : goal.sum-returns-clause-read
sum-returns-clause-read t c =
    loop-done sum_s added_s (terminals c.args.text.now c.args.tokens.now) (terminals c.args.text.now c.more.read.1.now) _ no_addition _ c.more.invariant.0
    (added-ends c.args.text.now c.more.read.1.now c.in_default.ensures.front) c.sum_of.ensures

pub sum-returns-clause-shorter : goal.sum-returns-clause-shorter
sum-returns-clause-shorter t c =
    c.more.invariant.1

pub term-returns-in_err-front-clause-read : goal.term-returns-in_err-front-clause-read
term-returns-in_err-front-clause-read t c =
    let p = err_from_is_err_and c.from_residual.result c.from_residual.ensures.1 in
    rw (p.1, p.2) (stops term_s factor_s (terminals c.args.text.now c.args.tokens.now) (terminals c.args.text.now c.args.tokens.now)
    (scaled_s ∷ []) _ c.args.text.now c.in_err-front.field-0.0 (term-rule (terminals c.args.text.now c.args.tokens.now)) c.in_err-front.ensures.read)

pub term-more-init : goal.term-more-init
term-more-init t c = (
  loop-begin term_s scaled_s factor_s (terminals c.args.text.now c.args.tokens.now) (terminals c.args.text.now c.in_ok-front.behind.now) term
      (factor_view c.in_ok-front.front) _ (term-rule (terminals c.args.text.now c.args.tokens.now)) c.in_ok-front.ensures.read
      (λ y. ap (term (factor_view c.in_ok-front.front)) (sym (none-yet scaled_view _ c.new-none.ensures.items y))),
  c.in_ok-front.ensures.shorter,
)

pub term-returns-in_err-read-clause-read : goal.term-returns-in_err-read-clause-read
term-returns-in_err-read-clause-read t c =
    let p = err_from_is_err_and c.from_residual-in_err-read.result c.from_residual-in_err-read.ensures.1 in
    rw (p.1, p.2) (grown-stops term_s scaled_s (λ f. term (factor_view f)) scaled_view (λ x. ((x.0.0, x.0.1.items), x.1.now)) (λ y. (y.0, y.1.now)) c.args.text.now
    (terminals c.args.text.now c.args.tokens.now) (terminals c.args.text.now c.more.read.1.now) c.more.read c.more.invariant.0 c.scaled_of-next.result
    c.in_err-read.field-0.0 (item-read scaled_s (λ y. (scaled_view y.0, y.1.now)) c.args.text.now (terminals c.args.text.now c.more.read.1.now) factor_s
    (terminals c.args.text.now c.in-Some.after.now) (scaled c.in-Some.scaling c.in-Some.place) (λ z. (factor_view z.0, z.1.now))
    (scaled-item c.args.text.now c.more.read.1.now c.in-Some.after.now c.in-Some.scaling c.in-Some.place c.in-Some.ensures.front) c.factor-operand.result
    c.scaled_of-next.result c.factor-operand.ensures.read c.scaled_of-next.ensures) c.in_err-read.ensures)

pub term-more-smaller : goal.term-more-smaller
term-more-smaller t c =
    let a = c.in-Some.ensures.shorter in let b = made-length (λ x. ((x.0.0, x.0.1.items), x.1.now)) (λ y. ((c.more.read.0.0, c.more.read.0.1.items ++ y.0 ∷ []), y.1.now))
    (length c.in-Some.after.now) (Ok c.in_ok-read.read) c.scaled_of-next.result
    (made-length (λ y. (scaled_view y.0, y.1.now)) (λ z. (scaled c.in-Some.scaling c.in-Some.place (factor_view z.0), z.1.now)) (length c.in-Some.after.now)
    c.scaled_of-next.result c.factor-operand.result c.factor-operand.ensures.shorter c.scaled_of-next.ensures) c.in_ok-read.ensures in omega (arith, a, b)

pub term-more-preserved : goal.term-more-preserved
term-more-preserved t c = (
  grown-next term_s scaled_s (λ f. term (factor_view f)) scaled_view (λ x. ((x.0.0, x.0.1.items), x.1.now)) (λ y. (y.0, y.1.now)) c.args.text.now
      (terminals c.args.text.now c.args.tokens.now) (terminals c.args.text.now c.more.read.1.now) c.more.read c.more.invariant.0 c.scaled_of-next.result c.in_ok-read.read
      (item-read scaled_s (λ y. (scaled_view y.0, y.1.now)) c.args.text.now (terminals c.args.text.now c.more.read.1.now) factor_s
      (terminals c.args.text.now c.in-Some.after.now) (scaled c.in-Some.scaling c.in-Some.place) (λ z. (factor_view z.0, z.1.now))
      (scaled-item c.args.text.now c.more.read.1.now c.in-Some.after.now c.in-Some.scaling c.in-Some.place c.in-Some.ensures.front) c.factor-operand.result
      c.scaled_of-next.result c.factor-operand.ensures.read c.scaled_of-next.ensures) c.in_ok-read.ensures,
  let a = c.in-Some.ensures.shorter in let b = made-length
      (λ x. ((x.0.0, x.0.1.items), x.1.now)) (λ y. ((c.more.read.0.0, c.more.read.0.1.items ++ y.0 ∷ []), y.1.now)) (length c.in-Some.after.now) (Ok c.in_ok-read.read)
      c.scaled_of-next.result (made-length (λ y. (scaled_view y.0, y.1.now)) (λ z. (scaled c.in-Some.scaling c.in-Some.place (factor_view z.0), z.1.now))
      (length c.in-Some.after.now) c.scaled_of-next.result c.factor-operand.result c.factor-operand.ensures.shorter c.scaled_of-next.ensures) c.in_ok-read.ensures in
      let i = c.more.invariant.1 in omega (arith, a, b, i),
)

pub term-returns-clause-read : goal.term-returns-clause-read
term-returns-clause-read t c =
    loop-done term_s scaled_s (terminals c.args.text.now c.args.tokens.now) (terminals c.args.text.now c.more.read.1.now) _ no_scaling _ c.more.invariant.0
    (scaled-ends c.args.text.now c.more.read.1.now c.in_default.ensures.front) c.term_of.ensures

pub term-returns-clause-shorter : goal.term-returns-clause-shorter
term-returns-clause-shorter t c =
    c.more.invariant.1

pub power-returns-in_err-front-clause-read : goal.power-returns-in_err-front-clause-read
power-returns-in_err-front-clause-read t c =
    let p = err_from_is_err_and c.from_residual.result c.from_residual.ensures.1 in
    rw (p.1, p.2) (stops power_s postfix_s (terminals c.args.text.now c.args.tokens.now) (terminals c.args.text.now c.args.tokens.now)
    (raised_s ∷ []) _ c.args.text.now c.in_err-front.field-0.0 (power-rule (terminals c.args.text.now c.args.tokens.now)) c.in_err-front.ensures.read)

pub power-more-init : goal.power-more-init
power-more-init t c = (
  loop-begin power_s raised_s postfix_s (terminals c.args.text.now c.args.tokens.now) (terminals c.args.text.now c.in_ok-front.behind.now) power_of
      (postfix_view c.in_ok-front.front) _ (power-rule (terminals c.args.text.now c.args.tokens.now)) c.in_ok-front.ensures.read
      (λ y. ap (power_of (postfix_view c.in_ok-front.front)) (sym (none-yet raised_view _ c.new-none.ensures.items y))),
  c.in_ok-front.ensures.shorter,
)

pub power-returns-in_err-read-clause-read : goal.power-returns-in_err-read-clause-read
power-returns-in_err-read-clause-read t c =
    let p = err_from_is_err_and c.from_residual-in_err-read.result c.from_residual-in_err-read.ensures.1 in
    rw (p.1, p.2) (grown-stops power_s raised_s (λ f. power_of (postfix_view f)) raised_view (λ x. ((x.0.0, x.0.1.items), x.1.now)) (λ y. (y.0, y.1.now)) c.args.text.now
    (terminals c.args.text.now c.args.tokens.now) (terminals c.args.text.now c.more.read.1.now) c.more.read c.more.invariant.0 c.raised_of-next.result
    c.in_err-read.field-0.0 (item-read raised_s (λ y. (raised_view y.0, y.1.now)) c.args.text.now (terminals c.args.text.now c.more.read.1.now) exponent_s
    (terminals c.args.text.now c.in-Some.after.now) (raised c.in-Some.place) (λ z. (exponent z.0.0.items (postfix_view z.0.1), z.1.now))
    (raised-item c.args.text.now c.more.read.1.now c.in-Some.after.now c.in-Some.place c.in-Some.ensures.front) c.exponent-operand.result c.raised_of-next.result
    c.exponent-operand.ensures.read c.raised_of-next.ensures) c.in_err-read.ensures)

pub power-more-smaller : goal.power-more-smaller
power-more-smaller t c =
    let a = c.in-Some.ensures.shorter in let b = made-length (λ x. ((x.0.0, x.0.1.items), x.1.now)) (λ y. ((c.more.read.0.0, c.more.read.0.1.items ++ y.0 ∷ []), y.1.now))
    (length c.in-Some.after.now) (Ok c.in_ok-read.read) c.raised_of-next.result
    (made-length (λ y. (raised_view y.0, y.1.now)) (λ z. (raised c.in-Some.place (exponent z.0.0.items (postfix_view z.0.1)), z.1.now)) (length c.in-Some.after.now)
    c.raised_of-next.result c.exponent-operand.result c.exponent-operand.ensures.shorter c.raised_of-next.ensures) c.in_ok-read.ensures in omega (arith, a, b)

pub power-more-preserved : goal.power-more-preserved
power-more-preserved t c = (
  grown-next power_s raised_s (λ f. power_of (postfix_view f)) raised_view (λ x. ((x.0.0, x.0.1.items), x.1.now)) (λ y. (y.0, y.1.now)) c.args.text.now
      (terminals c.args.text.now c.args.tokens.now) (terminals c.args.text.now c.more.read.1.now) c.more.read c.more.invariant.0 c.raised_of-next.result c.in_ok-read.read
      (item-read raised_s (λ y. (raised_view y.0, y.1.now)) c.args.text.now (terminals c.args.text.now c.more.read.1.now) exponent_s
      (terminals c.args.text.now c.in-Some.after.now) (raised c.in-Some.place) (λ z. (exponent z.0.0.items (postfix_view z.0.1), z.1.now))
      (raised-item c.args.text.now c.more.read.1.now c.in-Some.after.now c.in-Some.place c.in-Some.ensures.front) c.exponent-operand.result c.raised_of-next.result
      c.exponent-operand.ensures.read c.raised_of-next.ensures) c.in_ok-read.ensures,
  let a = c.in-Some.ensures.shorter in let b = made-length
      (λ x. ((x.0.0, x.0.1.items), x.1.now)) (λ y. ((c.more.read.0.0, c.more.read.0.1.items ++ y.0 ∷ []), y.1.now)) (length c.in-Some.after.now) (Ok c.in_ok-read.read)
      c.raised_of-next.result (made-length (λ y. (raised_view y.0, y.1.now)) (λ z. (raised c.in-Some.place (exponent z.0.0.items (postfix_view z.0.1)), z.1.now))
      (length c.in-Some.after.now) c.raised_of-next.result c.exponent-operand.result c.exponent-operand.ensures.shorter c.raised_of-next.ensures) c.in_ok-read.ensures in
      let i = c.more.invariant.1 in omega (arith, a, b, i),
)

pub power-returns-clause-read : goal.power-returns-clause-read
power-returns-clause-read t c =
    loop-done power_s raised_s (terminals c.args.text.now c.args.tokens.now) (terminals c.args.text.now c.more.read.1.now) _ no_power _ c.more.invariant.0
    (raised-ends c.args.text.now c.more.read.1.now c.in_default.ensures.front) c.raised_power.ensures

pub power-returns-clause-shorter : goal.power-returns-clause-shorter
power-returns-clause-shorter t c =
    c.more.invariant.1

pub exponent-returns-clause-read : goal.exponent-returns-clause-read
exponent-returns-clause-read t c =
    exponent-reads c.args.text.now c.args.tokens.now c.in_ok-before.before c.in_ok-before.behind.now (λ b. b.items) postfix_view (λ x. ((x.0.0, x.0.1), x.1.now))
    (λ x. (x.0, x.1.now)) c.in_ok-before.ensures.signs c.beside.result c.postfix.result c.postfix.ensures.read c.beside.ensures

pub exponent-returns-clause-shorter : goal.exponent-returns-clause-shorter
exponent-returns-clause-shorter t c =
    beside-shorter (λ x. ((x.0.0, x.0.1), x.1.now)) (λ x. (x.0, x.1.now)) c.in_ok-before.before (length c.in_ok-before.behind.now)
    (length c.args.tokens.now) c.in_ok-before.ensures.shorter c.postfix.result c.beside.result c.postfix.ensures.shorter c.beside.ensures

pub factor-returns-in_err-operand-clause-read : goal.factor-returns-in_err-operand-clause-read
factor-returns-in_err-operand-clause-read t c =
    let p = err_from_is_err_and c.from_residual-in_err-operand.result c.from_residual-in_err-operand.ensures.1 in
    rw (p.1, p.2) (factor-stops c.args.text.now c.args.tokens.now c.in_ok-before.before.items c.in_ok-before.behind.now c.in_err-operand.field-0.0
    c.in_ok-before.ensures.signs c.in_err-operand.ensures.read)

pub factor-returns-clause-read : goal.factor-returns-clause-read
factor-returns-clause-read t c =
    gives-is factor_s (terminals c.args.text.now c.args.tokens.now) (terminals c.args.text.now c.in_ok-operand.rest.now) _ _ (sym c.factor_of.ensures)
    (factor-gives c.args.text.now c.args.tokens.now c.in_ok-before.before.items c.in_ok-before.behind.now (power_view c.in_ok-operand.operand)
    (terminals c.args.text.now c.in_ok-operand.rest.now) c.in_ok-before.ensures.signs c.in_ok-operand.ensures.read)

pub postfix-returns-in_err-front-clause-read : goal.postfix-returns-in_err-front-clause-read
postfix-returns-in_err-front-clause-read t c =
    let p = err_from_is_err_and c.from_residual.result c.from_residual.ensures.1 in
    rw (p.1, p.2) (stops postfix_s primary_s (terminals c.args.text.now c.args.tokens.now) (terminals c.args.text.now c.args.tokens.now)
    (trailers_s ∷ []) _ c.args.text.now c.in_err-front.field-0.0 (postfix-rule (terminals c.args.text.now c.args.tokens.now)) c.in_err-front.ensures.read)

pub postfix-more-init : goal.postfix-more-init
postfix-more-init t c = (
  loop-begin postfix_s trailers_s primary_s (terminals c.args.text.now c.args.tokens.now) (terminals c.args.text.now c.in_ok-front.behind.now) postfix
      (primary_view c.in_ok-front.front) _ (postfix-rule (terminals c.args.text.now c.args.tokens.now)) c.in_ok-front.ensures.read
      (λ y. ap (postfix (primary_view c.in_ok-front.front)) (sym (none-yet trailer_view _ c.new-none.ensures.items y))),
  c.in_ok-front.ensures.shorter,
)

pub postfix-returns-in_err-read-clause-read : goal.postfix-returns-in_err-read-clause-read
postfix-returns-in_err-read-clause-read t c =
    let p = err_from_is_err_and c.from_residual-in_err-read.result c.from_residual-in_err-read.ensures.1 in
    rw (p.1, p.2) (grown-stops postfix_s trailers_s (λ f. postfix (primary_view f)) trailer_view (λ x. ((x.0.0, x.0.1.items), x.1.now)) (λ y. (y.0, y.1.now)) c.args.text.now
    (terminals c.args.text.now c.args.tokens.now) (terminals c.args.text.now c.more.read.1.now) c.more.read c.more.invariant.0 c.in-Some.next c.in_err-read.field-0.0
    (subst (λ o. MatchOption o (Gives trailers_s (terminals c.args.text.now c.more.read.1.now) no_trailer (terminals c.args.text.now c.more.read.1.now))
    (λ i. ReadsItem trailers_s (λ y. (trailer_view y.0, y.1.now)) c.args.text.now (terminals c.args.text.now c.more.read.1.now) i)) (sym c.in-Some.ensures)
    (transposed-reads trailers_s (λ y. (trailer_view y.0, y.1.now)) c.args.text.now
    (terminals c.args.text.now c.more.read.1.now) no_trailer c.trailer.result c.trailer.ensures.read)) c.in_err-read.ensures)

pub postfix-more-smaller : goal.postfix-more-smaller
postfix-more-smaller t c =
    let b = made-length (λ x. ((x.0.0, x.0.1.items), x.1.now)) (λ y. ((c.more.read.0.0, c.more.read.0.1.items ++ y.0 ∷ []), y.1.now)) (length c.more.read.1.now)
    (Ok c.in_ok-read.read) c.in-Some.next (subst (λ o. IfSome o (λ i. IfOk i (λ y. length y.1.now < length c.more.read.1.now))) (sym c.in-Some.ensures)
    (transposed-shorter (λ y. length y.1.now) (length c.more.read.1.now) c.trailer.result c.trailer.ensures.shorter)) c.in_ok-read.ensures in omega (arith, b)

pub postfix-more-preserved : goal.postfix-more-preserved
postfix-more-preserved t c = (
  grown-next postfix_s trailers_s (λ f. postfix (primary_view f)) trailer_view (λ x. ((x.0.0, x.0.1.items), x.1.now)) (λ y. (y.0, y.1.now)) c.args.text.now
      (terminals c.args.text.now c.args.tokens.now) (terminals c.args.text.now c.more.read.1.now) c.more.read c.more.invariant.0 c.in-Some.next c.in_ok-read.read
      (subst (λ o. MatchOption o (Gives trailers_s (terminals c.args.text.now c.more.read.1.now) no_trailer (terminals c.args.text.now c.more.read.1.now)) (λ i. ReadsItem
      trailers_s (λ y. (trailer_view y.0, y.1.now)) c.args.text.now (terminals c.args.text.now c.more.read.1.now) i)) (sym c.in-Some.ensures) (transposed-reads trailers_s
      (λ y. (trailer_view y.0, y.1.now)) c.args.text.now (terminals c.args.text.now c.more.read.1.now) no_trailer c.trailer.result c.trailer.ensures.read))
      c.in_ok-read.ensures,
  let b = made-length (λ x. ((x.0.0, x.0.1.items), x.1.now)) (λ y. ((c.more.read.0.0, c.more.read.0.1.items ++ y.0 ∷ []), y.1.now))
      (length c.more.read.1.now) (Ok c.in_ok-read.read) c.in-Some.next (subst (λ o. IfSome o (λ i. IfOk i (λ y. length y.1.now < length c.more.read.1.now)))
      (sym c.in-Some.ensures) (transposed-shorter (λ y. length y.1.now) (length c.more.read.1.now) c.trailer.result c.trailer.ensures.shorter)) c.in_ok-read.ensures in
      let i = c.more.invariant.1 in omega (arith, b, i),
)

pub postfix-returns-clause-read : goal.postfix-returns-clause-read
postfix-returns-clause-read t c =
    loop-done postfix_s trailers_s (terminals c.args.text.now c.args.tokens.now) (terminals c.args.text.now c.more.read.1.now) _ no_trailer _ c.more.invariant.0
    (subst (λ o. MatchOption o (Gives trailers_s (terminals c.args.text.now c.more.read.1.now) no_trailer (terminals c.args.text.now c.more.read.1.now))
    (λ i. ReadsItem trailers_s (λ y. (trailer_view y.0, y.1.now)) c.args.text.now (terminals c.args.text.now c.more.read.1.now) i)) (sym c.in_default.ensures)
    (transposed-reads trailers_s (λ y. (trailer_view y.0, y.1.now)) c.args.text.now
    (terminals c.args.text.now c.more.read.1.now) no_trailer c.trailer.result c.trailer.ensures.read)) c.postfix_of.ensures

pub postfix-returns-clause-shorter : goal.postfix-returns-clause-shorter
postfix-returns-clause-shorter t c =
    c.more.invariant.1

pub trailer-returns-in_err-word-clause-read : goal.trailer-returns-in_err-word-clause-read
trailer-returns-in_err-word-clause-read t c =
    let p = err_from_is_err_and c.from_residual.result c.from_residual.ensures.1 in
    rw (p.1, p.2) (stops trailers_s name_s (terminals c.args.text.now c.args.tokens.now) (terminals c.args.text.now c.in-Some.behind.now) (trailers_s ∷ []) _ c.args.text.now
    c.in_err-word.field-0.0 (attribute-item c.args.text.now c.args.tokens.now c.in-Some.behind.now _ c.in-Some.ensures.front) c.in_err-word.ensures.read)

pub trailer-returns-in-Some-clause-read : goal.trailer-returns-in-Some-clause-read
trailer-returns-in-Some-clause-read t c =
    trailer-is (terminals c.args.text.now c.args.tokens.now) (terminals c.args.text.now c.in_ok-word.rest.now) (λ x. attribute c.in_ok-word.word x) _ (goes trailers_s name_s
    (terminals c.args.text.now c.args.tokens.now) (terminals c.args.text.now c.in-Some.behind.now) (terminals c.args.text.now c.in_ok-word.rest.now) (trailers_s ∷ []) _
    c.in_ok-word.word (attribute-item c.args.text.now c.args.tokens.now c.in-Some.behind.now _ c.in-Some.ensures.front) c.in_ok-word.ensures.read) c.attribute_of.ensures

pub call-returns-in_err-all-clause-read : goal.call-returns-in_err-all-clause-read
call-returns-in_err-all-clause-read t c =
    let p = err_from_is_err_and c.from_residual.result c.from_residual.ensures.1 in
    rw (p.1, p.2) (stops trailers_s args_s (terminals c.args.text.now c.args.tokens.now) (terminals c.args.text.now c.args.inside.now) ((closes_s Round) ∷ trailers_s ∷ []) _
    c.args.text.now c.in_err-all.field-0.0 (call-item c.args.text.now c.args.tokens.now c.args.inside.now c.args.place c.requires.front) c.in_err-all.ensures.read)

pub call-returns-in_err-outside-clause-read : goal.call-returns-in_err-outside-clause-read
call-returns-in_err-outside-clause-read t c =
    let p = err_from_is_err_and c.from_residual-in_err-outside.result c.from_residual-in_err-outside.ensures.1 in
    rw (p.1, p.2) (stops trailers_s (closes_s Round) (terminals c.args.text.now c.args.tokens.now) (terminals c.args.text.now c.in_ok-all.closing.now) (trailers_s ∷ []) _
    c.args.text.now c.in_err-outside.field-0.0 (goes trailers_s args_s (terminals c.args.text.now c.args.tokens.now) (terminals c.args.text.now c.args.inside.now)
    (terminals c.args.text.now c.in_ok-all.closing.now) ((closes_s Round) ∷ trailers_s ∷ []) _ (args_of (map arg_view c.in_ok-all.all.items) c.in_ok-all.comma)
    (call-item c.args.text.now c.args.tokens.now c.args.inside.now c.args.place c.requires.front) c.in_ok-all.ensures.read)
    (closes_round-stops c.args.text.now c.in_ok-all.closing.now c.in_err-outside.field-0.0 c.in_err-outside.ensures.refused))

pub call-returns-clause-read : goal.call-returns-clause-read
call-returns-clause-read t c =
    trailer-is (terminals c.args.text.now c.args.tokens.now) (terminals c.args.text.now c.in_ok-outside.outside.now)
    (λ x. call c.args.place (args_of (map arg_view c.in_ok-all.all.items) c.in_ok-all.comma) x) _ (goes trailers_s (closes_s Round)
    (terminals c.args.text.now c.args.tokens.now) (terminals c.args.text.now c.in_ok-all.closing.now) (terminals c.args.text.now c.in_ok-outside.outside.now)
    (trailers_s ∷ []) _ tt (goes trailers_s args_s (terminals c.args.text.now c.args.tokens.now) (terminals c.args.text.now c.args.inside.now)
    (terminals c.args.text.now c.in_ok-all.closing.now) ((closes_s Round) ∷ trailers_s ∷ []) _ (args_of (map arg_view c.in_ok-all.all.items) c.in_ok-all.comma)
    (call-item c.args.text.now c.args.tokens.now c.args.inside.now c.args.place c.requires.front) c.in_ok-all.ensures.read)
    (closes_round-gives c.args.text.now c.in_ok-all.closing.now c.in_ok-outside.outside.now c.in_ok-outside.ensures.front)) c.call_of.ensures

pub indexed-returns-in_err-first-clause-read : goal.indexed-returns-in_err-first-clause-read
indexed-returns-in_err-first-clause-read t c =
    let p = err_from_is_err_and c.from_residual.result c.from_residual.ensures.1 in
    rw (p.1, p.2) (stops trailers_s index_s (terminals c.args.text.now c.args.tokens.now) (terminals c.args.text.now c.args.within.now)
    (indices_s ∷ (closes_s Square) ∷ trailers_s ∷ []) _ c.args.text.now c.in_err-first.field-0.0
    (indexed-item c.args.text.now c.args.tokens.now c.args.within.now c.args.place c.requires.front) c.in_err-first.ensures.read)

pub indexed-returns-clause-read : goal.indexed-returns-clause-read
indexed-returns-clause-read t c =
    index-ends (λ x. ((x.0.0, x.0.1), x.1.now)) (λ x. (x.0, x.1.now)) (λ x. (trailer_view x.0, x.1.now)) c.args.place index_view (λ u. indices_of (map index_view u.items))
    c.in_ok-first.first c.args.text.now c.args.tokens.now c.args.within.now c.in_ok-first.after.now c.requires.front c.in_ok-first.ensures.read c.indices-others.result
    c.closed.result c.beside.result c.index_made.result c.indices-others.ensures.read c.closed.ensures c.beside.ensures c.index_made.ensures

pub indexed-returns-clause-shorter : goal.indexed-returns-clause-shorter
indexed-returns-clause-shorter t c =
    index-shorter (λ x. ((x.0.0, x.0.1), x.1.now)) (λ x. (x.0, x.1.now)) (λ x. (trailer_view x.0, x.1.now)) c.args.place index_view
    (λ u. indices_of (map index_view u.items)) c.in_ok-first.first (length c.in_ok-first.after.now) (length c.args.tokens.now)
    (let a = ap length c.requires.front.parts in let b = c.in_ok-first.ensures.shorter in omega (arith, a, b)) c.indices-others.result c.closed.result c.beside.result
    c.index_made.result c.indices-others.ensures.shorter c.closed.ensures c.beside.ensures c.index_made.ensures

pub trailer-returns-in-None-clause-read : goal.trailer-returns-in-None-clause-read
trailer-returns-in-None-clause-read t c =
    trailers-end c.args.text.now c.args.tokens.now c.in_default.ensures.front c.in_default-eat.ensures.front c.in-None.ensures.front

pub indices-more-init : goal.indices-more-init
indices-more-init t c =
    (indices-begun index_view _ (terminals c.args.text.now c.args.tokens.now) c.new-all.ensures.items, omega arith)

pub indices-returns-in_err-item-clause-read : goal.indices-returns-in_err-item-clause-read
indices-returns-in_err-item-clause-read t c =
    let p = err_from_is_err_and c.from_residual.result c.from_residual.ensures.1 in
    rw (p.1, p.2) (loop-stops indices_s indices_s (terminals c.args.text.now c.args.tokens.now)
    (terminals c.args.text.now c.more.rest.now) _ c.args.text.now c.in_err-item.field-0.0 c.more.invariant.0
    (stops indices_s index_s (terminals c.args.text.now c.more.rest.now) (terminals c.args.text.now c.in-Some.behind.now) (indices_s ∷ []) _ c.args.text.now
    c.in_err-item.field-0.0 (indices-item c.args.text.now c.more.rest.now c.in-Some.behind.now _ c.in-Some.ensures.front) c.in_err-item.ensures.read))

pub indices-more-smaller : goal.indices-more-smaller
indices-more-smaller t c =
    let a = c.in-Some.ensures.shorter in let b = c.in_ok-item.ensures.shorter in let i = c.more.invariant.1 in omega (arith, a, b, i)

pub indices-more-preserved : goal.indices-more-preserved
indices-more-preserved t c = (
  loop-next indices_s indices_s index_s (terminals c.args.text.now c.args.tokens.now) (terminals c.args.text.now c.more.rest.now)
      (terminals c.args.text.now c.in-Some.behind.now) (terminals c.args.text.now c.in_ok-item.next.now) _ _ more_indices (index_view c.in_ok-item.item) c.more.invariant.0
      (indices-item c.args.text.now c.more.rest.now c.in-Some.behind.now _ c.in-Some.ensures.front) c.in_ok-item.ensures.read
      (λ y. sym (indices-pushed index_view _ _ _ c.in_ok-push.ensures.items y)),
  let a = c.in-Some.ensures.shorter in let b = c.in_ok-item.ensures.shorter in
      let i = c.more.invariant.1 in omega (arith, a, b, i),
)

pub indices-returns-clause-read : goal.indices-returns-clause-read
indices-returns-clause-read t c =
    loop-done indices_s indices_s (terminals c.args.text.now c.args.tokens.now) (terminals c.args.text.now c.more.rest.now) _ no_index _ c.more.invariant.0
    (indices-ends c.args.text.now c.more.rest.now c.in_default.ensures.front) refl

pub indices-returns-clause-shorter : goal.indices-returns-clause-shorter
indices-returns-clause-shorter t c =
    c.more.invariant.1

pub args-more-init : goal.args-more-init
args-more-init t c =
    (args-begun arg_view _ (terminals c.args.text.now c.args.tokens.now) c.new-all.ensures.items, omega arith)

pub args-returns-in_err-item-clause-read : goal.args-returns-in_err-item-clause-read
args-returns-in_err-item-clause-read t c =
    let p = err_from_is_err_and c.from_residual.result c.from_residual.ensures.1 in
    rw (p.1, p.2) (args-stop c.args.text.now (terminals c.args.text.now c.args.tokens.now) c.more.rest.now arg_view _ c.more.invariant.0
    (sym c.starts_expr-in-more.ensures ∙ c.more-test.true) c.in_err-item.field-0.0 c.in_err-item.ensures.read)

pub args-more-smaller : goal.args-more-smaller
args-more-smaller t c =
    let a = c.in-Some.ensures.shorter in let b = c.in_ok-item.ensures.shorter in let i = c.more.invariant.1 in omega (arith, a, b, i)

pub args-more-preserved : goal.args-more-preserved
args-more-preserved t c = (
  args-step c.args.text.now (terminals c.args.text.now c.args.tokens.now) c.more.rest.now arg_view _ c.more.invariant.0 c.in_ok-item.behind.now c.in-Some.next.now
      c.in_ok-item.item _ _ (sym c.starts_expr-in-more.ensures ∙ c.more-test.true) c.in_ok-item.ensures.read c.in-Some.ensures.front c.in_ok-push.ensures.items,
  let a = c.in-Some.ensures.shorter in let b = c.in_ok-item.ensures.shorter in let i = c.more.invariant.1 in omega (arith, a, b, i),
)

pub args-returns-in_default-clause-read : goal.args-returns-in_default-clause-read
args-returns-in_default-clause-read t c =
    args-last-one c.args.text.now (terminals c.args.text.now c.args.tokens.now) c.more.rest.now arg_view _ c.more.invariant.0 c.in_ok-item.behind.now c.in_ok-item.item _
    (sym c.starts_expr-in-more.ensures ∙ c.more-test.true) c.in_ok-item.ensures.read c.in_default.ensures.front c.in_ok-push.ensures.items

pub args-returns-in_default-clause-shorter : goal.args-returns-in_default-clause-shorter
args-returns-in_default-clause-shorter t c =
    let b = c.in_ok-item.ensures.shorter in let i = c.more.invariant.1 in omega (arith, b, i)

pub args-returns-clause-read : goal.args-returns-clause-read
args-returns-clause-read t c =
    args-close c.args.text.now (terminals c.args.text.now c.args.tokens.now) c.more.rest.now arg_view _ c.more.invariant.0 (sym c.starts_expr-in-more.ensures ∙ c.more-test.false)

pub args-returns-clause-shorter : goal.args-returns-clause-shorter
args-returns-clause-shorter t c =
    c.more.invariant.1

pub args-returns-then-not-starts_expr-clause-read : goal.args-returns-then-not-starts_expr-clause-read
args-returns-then-not-starts_expr-clause-read t c =
    gives-is args_s (terminals c.args.text.now c.args.tokens.now) (terminals c.args.text.now c.args.tokens.now) _ _
    (sym (ap (λ xs. args_of (map arg_view xs) false) c.new-all.ensures.items))
    (args-none c.args.text.now c.args.tokens.now (sym c.starts_expr.ensures ∙ c.if-not-starts_expr.true))

pub items-more-init : goal.items-more-init
items-more-init t c =
    (items-begun expr_view _ (terminals c.args.text.now c.args.tokens.now) c.new-all.ensures.items, omega arith)

pub items-returns-in_err-item-clause-read : goal.items-returns-in_err-item-clause-read
items-returns-in_err-item-clause-read t c =
    let p = err_from_is_err_and c.from_residual.result c.from_residual.ensures.1 in
    rw (p.1, p.2) (items-stop c.args.text.now (terminals c.args.text.now c.args.tokens.now) c.more.rest.now expr_view _ c.more.invariant.0
    (sym c.starts_expr.ensures ∙ c.more-test.true) c.in_err-item.field-0.0 c.in_err-item.ensures.read)

pub items-more-smaller : goal.items-more-smaller
items-more-smaller t c =
    let a = c.in-Some.ensures.shorter in let b = c.in_ok-item.ensures.shorter in let i = c.more.invariant.1 in omega (arith, a, b, i)

pub items-more-preserved : goal.items-more-preserved
items-more-preserved t c = (
  items-step c.args.text.now (terminals c.args.text.now c.args.tokens.now) c.more.rest.now expr_view _ c.more.invariant.0 c.in_ok-item.behind.now c.in-Some.next.now
      c.in_ok-item.item _ _ (sym c.starts_expr.ensures ∙ c.more-test.true) c.in_ok-item.ensures.read c.in-Some.ensures.front c.in_ok-push.ensures.items,
  let a = c.in-Some.ensures.shorter in let b = c.in_ok-item.ensures.shorter in let i = c.more.invariant.1 in omega (arith, a, b, i),
)

pub items-returns-in_default-clause-read : goal.items-returns-in_default-clause-read
items-returns-in_default-clause-read t c =
    items-last-one c.args.text.now (terminals c.args.text.now c.args.tokens.now) c.more.rest.now expr_view _ c.more.invariant.0 c.in_ok-item.behind.now c.in_ok-item.item _
    (sym c.starts_expr.ensures ∙ c.more-test.true) c.in_ok-item.ensures.read c.in_default.ensures.front c.in_ok-push.ensures.items

pub items-returns-in_default-clause-shorter : goal.items-returns-in_default-clause-shorter
items-returns-in_default-clause-shorter t c =
    let b = c.in_ok-item.ensures.shorter in let i = c.more.invariant.1 in omega (arith, b, i)

pub items-returns-clause-read : goal.items-returns-clause-read
items-returns-clause-read t c =
    items-close c.args.text.now (terminals c.args.text.now c.args.tokens.now) c.more.rest.now expr_view _ c.more.invariant.0 (sym c.starts_expr.ensures ∙ c.more-test.false)

pub items-returns-clause-shorter : goal.items-returns-clause-shorter
items-returns-clause-shorter t c =
    c.more.invariant.1

pub arg-returns-in_err-value-clause-read : goal.arg-returns-in_err-value-clause-read
arg-returns-in_err-value-clause-read t c =
    let p = err_from_is_err_and c.from_residual-in_err-value.result c.from_residual-in_err-value.ensures.1 in
    rw (p.1, p.2) (stops arg_s expr_s (terminals c.args.text.now c.args.tokens.now) (terminals c.args.text.now c.in-Some.behind.now) ([]) _ c.args.text.now
    c.in_err-value.field-0.0 (arg-named c.args.text.now c.args.tokens.now c.in-Some.behind.now c.in-Some.head.now _ c.in-Some.ensures.front) c.in_err-value.ensures.read)

pub arg-returns-in-Some-clause-read : goal.arg-returns-in-Some-clause-read
arg-returns-in-Some-clause-read t c =
    finish arg_s expr_s (terminals c.args.text.now c.args.tokens.now) (terminals c.args.text.now c.in-Some.behind.now) (terminals c.args.text.now c.in_ok-value.after.now)
    (λ x. by_name (named_by c.args.text.now c.in-Some.head.now) x) (expr_view c.in_ok-value.value) _
    (arg-named c.args.text.now c.args.tokens.now c.in-Some.behind.now c.in-Some.head.now _ c.in-Some.ensures.front) c.in_ok-value.ensures.read
    (c.by_name_of.ensures ∙ ap (λ m. by_name m (expr_view c.in_ok-value.value)) c.in_ok-word.ensures)

pub arg-returns-in_err-value-2-clause-read : goal.arg-returns-in_err-value-2-clause-read
arg-returns-in_err-value-2-clause-read t c =
    let p = err_from_is_err_and c.from_residual-in_err-value-2.result c.from_residual-in_err-value-2.ensures.1 in
    rw (p.1, p.2) (stops arg_s expr_s (terminals c.args.text.now c.args.tokens.now) (terminals c.args.text.now c.args.tokens.now)
    ([]) _ c.args.text.now c.in_err-value-2.field-0.0 (arg-place c.args.text.now c.args.tokens.now c.in_default.ensures.front) c.in_err-value-2.ensures.read)

pub arg-returns-clause-read : goal.arg-returns-clause-read
arg-returns-clause-read t c =
    finish arg_s expr_s (terminals c.args.text.now c.args.tokens.now) (terminals c.args.text.now c.args.tokens.now)
    (terminals c.args.text.now c.in_ok-value-2.rest.now) by_place (expr_view c.in_ok-value-2.value) _
    (arg-place c.args.text.now c.args.tokens.now c.in_default.ensures.front) c.in_ok-value-2.ensures.read (c.by_place_of.ensures)

pub index-returns-clause-read : goal.index-returns-clause-read
index-returns-clause-read t c =
    made-pair index_s (λ x. ((x.0.0, x.0.1), x.1.now)) (λ x. (x.0, x.1.now)) (λ x. (index_view x.0, x.1.now))
    (λ f u. slice (optional_view f) (optional_view u.0) (step_view u.1)) None optional_s step_s c.args.text.now (terminals c.args.text.now c.args.tokens.now)
    (terminals c.args.text.now c.in-Some.inside.now) (slice absent) (λ u. optional_view u.0) (λ u. step_view u.1)
    (index-colon c.args.text.now c.args.tokens.now c.in-Some.inside.now _ c.in-Some.ensures.front)
    (λ u. refl) c.slice_end.result c.beside.result c.slice_made.result c.slice_end.ensures.read c.beside.ensures c.slice_made.ensures

pub index-returns-clause-shorter : goal.index-returns-clause-shorter
index-returns-clause-shorter t c =
    made-shorter index_s (λ x. ((x.0.0, x.0.1), x.1.now)) (λ x. (x.0, x.1.now)) (λ x. (index_view x.0, x.1.now))
    (λ f u. slice (optional_view f) (optional_view u.0) (step_view u.1)) None (length c.in-Some.inside.now) (length c.args.tokens.now) c.in-Some.ensures.shorter
    c.slice_end.result c.beside.result c.slice_made.result c.slice_end.ensures.shorter c.beside.ensures c.slice_made.ensures

pub at_or_slice-returns-in_err-first-clause-read : goal.at_or_slice-returns-in_err-first-clause-read
at_or_slice-returns-in_err-first-clause-read t c =
    let p = err_from_is_err_and c.from_residual.result c.from_residual.ensures.1 in
    rw (p.1, p.2) (stops index_s expr_s (terminals c.args.text.now c.args.tokens.now) (terminals c.args.text.now c.args.tokens.now)
    (after_index_s ∷ []) _ c.args.text.now c.in_err-first.field-0.0 (index-rule c.args.text.now c.args.tokens.now c.requires.begun) c.in_err-first.ensures.read)

pub at_or_slice-returns-in_default-clause-read : goal.at_or_slice-returns-in_default-clause-read
at_or_slice-returns-in_default-clause-read t c =
    finish index_s after_index_s (terminals c.args.text.now c.args.tokens.now) (terminals c.args.text.now c.in_ok-first.behind.now)
    (terminals c.args.text.now c.in_ok-first.behind.now) (λ z. as_index (expr_view c.in_ok-first.first) z) no_slice _
    (goes index_s expr_s (terminals c.args.text.now c.args.tokens.now) (terminals c.args.text.now c.args.tokens.now) (terminals c.args.text.now c.in_ok-first.behind.now)
    (after_index_s ∷ []) _ (expr_view c.in_ok-first.first) (index-rule c.args.text.now c.args.tokens.now c.requires.begun) c.in_ok-first.ensures.read)
    (after_index-ends c.args.text.now c.in_ok-first.behind.now c.in_default.ensures.front) (c.at_of.ensures)

pub at_or_slice-returns-clause-read : goal.at_or_slice-returns-clause-read
at_or_slice-returns-clause-read t c =
    made-pair index_s (λ x. ((x.0.0, x.0.1), x.1.now)) (λ x. (x.0, x.1.now)) (λ x. (index_view x.0, x.1.now))
    (λ f u. slice (optional_view f) (optional_view u.0) (step_view u.1)) (Some c.in_ok-first.first) optional_s step_s c.args.text.now
    (terminals c.args.text.now c.args.tokens.now) (terminals c.args.text.now c.in-Some.after.now) (λ a b. as_index (expr_view c.in_ok-first.first) (slices a b))
    (λ u. optional_view u.0) (λ u. step_view u.1)
    (turns index_s after_index_s (terminals c.args.text.now c.args.tokens.now) (terminals c.args.text.now c.in_ok-first.behind.now)
    (terminals c.args.text.now c.in-Some.after.now) (optional_s ∷ step_s ∷ []) (as_index (expr_view c.in_ok-first.first)) _
    (goes index_s expr_s (terminals c.args.text.now c.args.tokens.now) (terminals c.args.text.now c.args.tokens.now) (terminals c.args.text.now c.in_ok-first.behind.now)
    (after_index_s ∷ []) _ (expr_view c.in_ok-first.first) (index-rule c.args.text.now c.args.tokens.now c.requires.begun) c.in_ok-first.ensures.read)
    (after_index-colon c.args.text.now c.in_ok-first.behind.now c.in-Some.after.now _ c.in-Some.ensures.front))
    (λ u. refl) c.slice_end.result c.beside.result c.slice_made.result c.slice_end.ensures.read c.beside.ensures c.slice_made.ensures

pub at_or_slice-returns-clause-shorter : goal.at_or_slice-returns-clause-shorter
at_or_slice-returns-clause-shorter t c =
    made-shorter index_s (λ x. ((x.0.0, x.0.1), x.1.now)) (λ x. (x.0, x.1.now)) (λ x. (index_view x.0, x.1.now))
    (λ f u. slice (optional_view f) (optional_view u.0) (step_view u.1)) (Some c.in_ok-first.first) (length c.in-Some.after.now) (length c.args.tokens.now)
    (let a = c.in-Some.ensures.shorter in let b = c.in_ok-first.ensures.shorter in omega (arith, a, b)) c.slice_end.result c.beside.result c.slice_made.result
    c.slice_end.ensures.shorter c.beside.ensures c.slice_made.ensures

pub slice_end-returns-in_err-stop-clause-read : goal.slice_end-returns-in_err-stop-clause-read
slice_end-returns-in_err-stop-clause-read t c =
    let p = err_from_is_err_and c.from_residual.result c.from_residual.ensures.1 in
    rw (p.1, p.2) (λ s from join h. stops s optional_s from (terminals c.args.text.now c.args.tokens.now) (step_s ∷ []) join c.args.text.now c.in_err-stop.field-0.0 h c.in_err-stop.ensures.read)

pub slice_end-returns-clause-read : goal.slice_end-returns-clause-read
slice_end-returns-clause-read t c =
    pair-reads (λ x. ((x.0.0, x.0.1), x.1.now)) (λ x. (x.0, x.1.now)) c.in_ok-stop.stop optional_s step_s c.args.text.now (terminals c.args.text.now c.args.tokens.now)
    (terminals c.args.text.now c.in_ok-stop.middle.now) optional_view step_view c.in_ok-stop.ensures.read c.step.result c.beside.result c.step.ensures.read c.beside.ensures

pub slice_end-returns-clause-shorter : goal.slice_end-returns-clause-shorter
slice_end-returns-clause-shorter t c =
    pair-shorter (λ x. ((x.0.0, x.0.1), x.1.now)) (λ x. (x.0, x.1.now)) c.in_ok-stop.stop (length c.in_ok-stop.middle.now)
    (length c.args.tokens.now) c.in_ok-stop.ensures.shorter c.step.result c.beside.result c.step.ensures.shorter c.beside.ensures

pub optional-returns-then-not-starts_expr-clause-read : goal.optional-returns-then-not-starts_expr-clause-read
optional-returns-then-not-starts_expr-clause-read t c =
    optional-none c.args.text.now c.args.tokens.now (sym c.starts_expr.ensures ∙ c.if-not-starts_expr.true)

pub optional-returns-in_err-value-clause-read : goal.optional-returns-in_err-value-clause-read
optional-returns-in_err-value-clause-read t c =
    let p = err_from_is_err_and c.from_residual.result c.from_residual.ensures.1 in
    rw (p.1, p.2) (stops optional_s expr_s (terminals c.args.text.now c.args.tokens.now) (terminals c.args.text.now c.args.tokens.now) ([]) _ c.args.text.now
    c.in_err-value.field-0.0 (optional-starts c.args.text.now c.args.tokens.now (sym c.starts_expr.ensures ∙ c.if-not-starts_expr.false)) c.in_err-value.ensures.read)

pub optional-returns-clause-read : goal.optional-returns-clause-read
optional-returns-clause-read t c =
    finish optional_s expr_s (terminals c.args.text.now c.args.tokens.now) (terminals c.args.text.now c.args.tokens.now)
    (terminals c.args.text.now c.in_ok-value.rest.now) present (expr_view c.in_ok-value.value) _
    (optional-starts c.args.text.now c.args.tokens.now (sym c.starts_expr.ensures ∙ c.if-not-starts_expr.false)) c.in_ok-value.ensures.read (refl)

pub step-returns-in_default-clause-read : goal.step-returns-in_default-clause-read
step-returns-in_default-clause-read t c =
    gives-is step_s (terminals c.args.text.now c.args.tokens.now) (terminals c.args.text.now c.args.tokens.now) _ _ (sym c.absent_step.ensures)
    (step-ends c.args.text.now c.args.tokens.now c.in_default.ensures.front)

pub step-returns-in_err-value-clause-read : goal.step-returns-in_err-value-clause-read
step-returns-in_err-value-clause-read t c =
    let p = err_from_is_err_and c.from_residual.result c.from_residual.ensures.1 in
    rw (p.1, p.2) (stops step_s optional_s (terminals c.args.text.now c.args.tokens.now) (terminals c.args.text.now c.in-Some.behind.now) ([]) _ c.args.text.now
    c.in_err-value.field-0.0 (step-colon c.args.text.now c.args.tokens.now c.in-Some.behind.now _ c.in-Some.ensures.front) c.in_err-value.ensures.read)

pub step-returns-clause-read : goal.step-returns-clause-read
step-returns-clause-read t c =
    finish step_s optional_s (terminals c.args.text.now c.args.tokens.now) (terminals c.args.text.now c.in-Some.behind.now)
    (terminals c.args.text.now c.in_ok-value.rest.now) step (optional_view c.in_ok-value.value) _
    (step-colon c.args.text.now c.args.tokens.now c.in-Some.behind.now _ c.in-Some.ensures.front) c.in_ok-value.ensures.read (c.step_of.ensures)

pub primary-returns-in-Some-eat-clause-read : goal.primary-returns-in-Some-eat-clause-read
primary-returns-in-Some-eat-clause-read t c =
    rw (front-opens-round c.args.text.now c.in-Some-eat.place c.args.tokens.now c.in-Some-eat.inside.now c.in-Some-eat.ensures.front) (c.round.ensures.read)

pub primary-returns-clause-read : goal.primary-returns-clause-read
primary-returns-clause-read t c =
    rw (front-opens-square c.args.text.now c.in-Some-eat-2.place c.args.tokens.now c.in-Some-eat-2.within.now c.in-Some-eat-2.ensures.front) (c.square.ensures.read)

pub primary-returns-in_default-eat-2-clause-read : goal.primary-returns-in_default-eat-2-clause-read
primary-returns-in_default-eat-2-clause-read t c =
    no-primary c.args.text.now c.args.tokens.now (subst (λ o. ReadsLeaf c.args.text.now c.args.tokens.now (λ x. (primary_view x.0, x.1.now)) o) c.in_default.is
    c.in_ok-found.ensures.read) c.in_default-eat.ensures.front c.in_default-eat-2.ensures.front

pub round-returns-in-Some-clause-read : goal.round-returns-in-Some-clause-read
round-returns-in-Some-clause-read t c =
    gives-is primary_s (opens Round c.args.place ∷ (terminals c.args.text.now c.args.tokens.now)) (terminals c.args.text.now c.in-Some.outside.now) _ _ (sym c.unit_of.ensures)
    (round-empty c.args.text.now c.args.place c.args.tokens.now c.in-Some.outside.now (_, c.in-Some.ensures.front))

pub round-returns-in_err-first-clause-read : goal.round-returns-in_err-first-clause-read
round-returns-in_err-first-clause-read t c =
    let p = err_from_is_err_and c.from_residual.result c.from_residual.ensures.1 in
    rw (p.1, p.2) (stops primary_s expr_s (opens Round c.args.place ∷ (terminals c.args.text.now c.args.tokens.now)) (terminals c.args.text.now c.args.tokens.now)
    (after_round_s ∷ []) _ c.args.text.now c.in_err-first.field-0.0
    (round-rule c.args.text.now c.args.place c.args.tokens.now c.in_default.ensures.front) c.in_err-first.ensures.read)

pub round-returns-in-Some-eat-clause-read : goal.round-returns-in-Some-eat-clause-read
round-returns-in-Some-eat-clause-read t c =
    finish primary_s after_round_s (opens Round c.args.place ∷ (terminals c.args.text.now c.args.tokens.now)) (terminals c.args.text.now c.in_ok-first.behind.now)
    (terminals c.args.text.now c.in-Some-eat.beyond.now) (λ z. as_round c.args.place (round_holds (expr_view c.in_ok-first.first) z)) round_closed _
    (goes primary_s expr_s (opens Round c.args.place ∷ (terminals c.args.text.now c.args.tokens.now)) (terminals c.args.text.now c.args.tokens.now)
    (terminals c.args.text.now c.in_ok-first.behind.now) (after_round_s ∷ []) _ (expr_view c.in_ok-first.first)
    (round-rule c.args.text.now c.args.place c.args.tokens.now c.in_default.ensures.front) c.in_ok-first.ensures.read)
    (after_round-closes c.args.text.now c.in_ok-first.behind.now c.in-Some-eat.beyond.now (_, c.in-Some-eat.ensures.front)) (c.in_ok-only.ensures)

pub round-returns-clause-read : goal.round-returns-clause-read
round-returns-clause-read t c =
    made-last primary_s (λ x. ((x.0.0, x.0.1), x.1.now)) (λ x. (x.0, x.1.now)) (λ x. (primary_view x.0, x.1.now))
    (λ f u. tuple c.args.place (expr_view f) (items_of (map expr_view u.0.items) u.1)) c.in_ok-first.first after_round_s c.args.text.now
    (opens Round c.args.place ∷ (terminals c.args.text.now c.args.tokens.now)) (terminals c.args.text.now c.in_ok-first.behind.now)
    (λ z. as_round c.args.place (round_holds (expr_view c.in_ok-first.first) z)) (λ u. round_goes_on (items_of (map expr_view u.0.items) u.1))
    (goes primary_s expr_s (opens Round c.args.place ∷ (terminals c.args.text.now c.args.tokens.now)) (terminals c.args.text.now c.args.tokens.now)
    (terminals c.args.text.now c.in_ok-first.behind.now) (after_round_s ∷ []) _ (expr_view c.in_ok-first.first)
    (round-rule c.args.text.now c.args.place c.args.tokens.now c.in_default.ensures.front) c.in_ok-first.ensures.read)
    (λ u. refl) c.tuple_end.result c.beside.result c.tuple_made.result c.tuple_end.ensures.read c.beside.ensures c.tuple_made.ensures

pub round-returns-clause-shorter : goal.round-returns-clause-shorter
round-returns-clause-shorter t c =
    made-shorter primary_s (λ x. ((x.0.0, x.0.1), x.1.now)) (λ x. (x.0, x.1.now)) (λ x. (primary_view x.0, x.1.now))
    (λ f u. tuple c.args.place (expr_view f) (items_of (map expr_view u.0.items) u.1)) c.in_ok-first.first (length c.in_ok-first.behind.now)
    (length c.args.tokens.now) c.in_ok-first.ensures.shorter c.tuple_end.result c.beside.result c.tuple_made.result
    (loosely c.tuple_end.result (λ x. length x.1.now) (length c.in_ok-first.behind.now) c.tuple_end.ensures.shorter) c.beside.ensures c.tuple_made.ensures

pub tuple_end-returns-in_err-after-clause-read : goal.tuple_end-returns-in_err-after-clause-read
tuple_end-returns-in_err-after-clause-read t c =
    let p = err_from_is_err_and c.from_residual.result c.from_residual.ensures.1 in
    rw (p.1, p.2) (after_round-stops c.args.text.now c.args.tokens.now c.in_err-after.field-0.0 c.requires.goes_on c.in_err-after.ensures.refused)

pub tuple_end-returns-clause-read : goal.tuple_end-returns-clause-read
tuple_end-returns-clause-read t c =
    closed-reads (λ x. EndsByComma x.0.0.items x.0.1) after_round_s items_s Round (λ x. (x.0, x.1.now)) c.args.text.now (terminals c.args.text.now c.args.tokens.now)
    (terminals c.args.text.now c.in_ok-after.after.now) round_goes_on (λ u. items_of (map expr_view u.0.items) u.1)
    (λ u. round_goes_on (items_of (map expr_view u.0.items) u.1)) (after_round-comma c.args.text.now c.args.tokens.now c.in_ok-after.after.now _
    c.in_ok-after.ensures.front.1) (λ x e. refl) c.items.result c.closed.result c.items.ensures.read c.items.ensures.comma c.closed.ensures

pub tuple_end-returns-clause-shorter : goal.tuple_end-returns-clause-shorter
tuple_end-returns-clause-shorter t c =
    closed-shorter Round (λ x. (x.0, x.1.now)) (length c.in_ok-after.after.now) (length c.args.tokens.now)
    (let a = c.in_ok-after.ensures.shorter in omega (arith, a)) c.items.result c.closed.result c.items.ensures.shorter c.closed.ensures

pub square-returns-in-Some-clause-read : goal.square-returns-in-Some-clause-read
square-returns-in-Some-clause-read t c =
    gives-is primary_s (opens Square c.args.place ∷ (terminals c.args.text.now c.args.tokens.now)) (terminals c.args.text.now c.in-Some.outside.now) _ _
    (sym c.empty_list_of.ensures) (square-empty c.args.text.now c.args.place c.args.tokens.now c.in-Some.outside.now (_, c.in-Some.ensures.front))

pub square-returns-in_err-first-clause-read : goal.square-returns-in_err-first-clause-read
square-returns-in_err-first-clause-read t c =
    let p = err_from_is_err_and c.from_residual.result c.from_residual.ensures.1 in
    rw (p.1, p.2) (stops primary_s expr_s (opens Square c.args.place ∷ (terminals c.args.text.now c.args.tokens.now)) (terminals c.args.text.now c.args.tokens.now)
    (after_square_s ∷ []) _ c.args.text.now c.in_err-first.field-0.0
    (square-rule c.args.text.now c.args.place c.args.tokens.now c.in_default.ensures.front) c.in_err-first.ensures.read)

pub square-returns-in-Some-eat-clause-read : goal.square-returns-in-Some-eat-clause-read
square-returns-in-Some-eat-clause-read t c =
    made-last primary_s (λ x. ((x.0.0, x.0.1), x.1.now)) (λ x. (x.0, x.1.now)) (λ x. (primary_view x.0, x.1.now))
    (λ f u. comprehension c.args.place (expr_view f) c.in-Some-eat.for_place u.0 (expr_view u.1)) c.in_ok-first.first after_square_s c.args.text.now
    (opens Square c.args.place ∷ (terminals c.args.text.now c.args.tokens.now)) (terminals c.args.text.now c.in_ok-first.behind.now)
    (λ z. as_square c.args.place (square_holds (expr_view c.in_ok-first.first) z)) (λ u. square_for c.in-Some-eat.for_place u.0 (expr_view u.1))
    (goes primary_s expr_s (opens Square c.args.place ∷ (terminals c.args.text.now c.args.tokens.now)) (terminals c.args.text.now c.args.tokens.now)
    (terminals c.args.text.now c.in_ok-first.behind.now) (after_square_s ∷ []) _ (expr_view c.in_ok-first.first)
    (square-rule c.args.text.now c.args.place c.args.tokens.now c.in_default.ensures.front) c.in_ok-first.ensures.read) (λ u. refl) c.source.result c.beside-parts.result
    c.comprehension_made.result (rw (for-front c.args.text.now c.in_ok-first.behind.now c.in-Some-eat.word.now c.in-Some-eat.for_place c.in-Some-eat.ensures.front)
    c.source.ensures.read) c.beside-parts.ensures c.comprehension_made.ensures

pub square-returns-in-Some-eat-clause-shorter : goal.square-returns-in-Some-eat-clause-shorter
square-returns-in-Some-eat-clause-shorter t c =
    made-shorter primary_s (λ x. ((x.0.0, x.0.1), x.1.now)) (λ x. (x.0, x.1.now)) (λ x. (primary_view x.0, x.1.now))
    (λ f u. comprehension c.args.place (expr_view f) c.in-Some-eat.for_place u.0 (expr_view u.1)) c.in_ok-first.first (length c.in-Some-eat.word.now)
    (length c.args.tokens.now) (let a = c.in-Some-eat.ensures.shorter in let b = c.in_ok-first.ensures.shorter in omega (arith, a, b)) c.source.result
    c.beside-parts.result c.comprehension_made.result
    (loosely c.source.result (λ x. length x.1.now) (length c.in-Some-eat.word.now) c.source.ensures.shorter) c.beside-parts.ensures c.comprehension_made.ensures

pub square-returns-in-None-clause-read : goal.square-returns-in-None-clause-read
square-returns-in-None-clause-read t c =
    made-last primary_s (λ x. ((x.0.0, x.0.1), x.1.now)) (λ x. (x.0, x.1.now)) (λ x. (primary_view x.0, x.1.now))
    (λ f u. list c.args.place (expr_view f) (more_items_of (map expr_view u.0.items) u.1)) c.in_ok-first.first after_square_s c.args.text.now
    (opens Square c.args.place ∷ (terminals c.args.text.now c.args.tokens.now)) (terminals c.args.text.now c.in_ok-first.behind.now)
    (λ z. as_square c.args.place (square_holds (expr_view c.in_ok-first.first) z)) (λ u. square_lists (more_items_of (map expr_view u.0.items) u.1))
    (goes primary_s expr_s (opens Square c.args.place ∷ (terminals c.args.text.now c.args.tokens.now)) (terminals c.args.text.now c.args.tokens.now)
    (terminals c.args.text.now c.in_ok-first.behind.now) (after_square_s ∷ []) _ (expr_view c.in_ok-first.first)
    (square-rule c.args.text.now c.args.place c.args.tokens.now c.in_default.ensures.front) c.in_ok-first.ensures.read)
    (λ u. refl) c.list_end.result c.beside.result c.list_made.result c.list_end.ensures.read c.beside.ensures c.list_made.ensures

pub square-returns-in-None-clause-shorter : goal.square-returns-in-None-clause-shorter
square-returns-in-None-clause-shorter t c =
    made-shorter primary_s (λ x. ((x.0.0, x.0.1), x.1.now)) (λ x. (x.0, x.1.now)) (λ x. (primary_view x.0, x.1.now))
    (λ f u. list c.args.place (expr_view f) (more_items_of (map expr_view u.0.items) u.1)) c.in_ok-first.first (length c.in_ok-first.behind.now)
    (length c.args.tokens.now) c.in_ok-first.ensures.shorter c.list_end.result c.beside.result c.list_made.result
    (loosely c.list_end.result (λ x. length x.1.now) (length c.in_ok-first.behind.now) c.list_end.ensures.shorter) c.beside.ensures c.list_made.ensures

pub list_end-returns-in-Some-clause-read : goal.list_end-returns-in-Some-clause-read
list_end-returns-in-Some-clause-read t c =
    closed-reads (λ x. EndsByComma x.0.0.items x.0.1) after_square_s items_s Square (λ x. (x.0, x.1.now)) c.args.text.now (terminals c.args.text.now c.args.tokens.now)
    (terminals c.args.text.now c.in-Some.after.now) (λ xs. square_lists (items_behind xs)) (λ u. items_of (map expr_view u.0.items) u.1)
    (λ u. square_lists (more_items_of (map expr_view u.0.items) u.1)) (after_square-comma c.args.text.now c.args.tokens.now c.in-Some.after.now _ c.in-Some.ensures.front)
    (λ x e. ap square_lists (list-items expr_view x.0.0.items x.0.1 e)) c.items.result c.closed.result c.items.ensures.read c.items.ensures.comma c.closed.ensures

pub list_end-returns-in-Some-clause-shorter : goal.list_end-returns-in-Some-clause-shorter
list_end-returns-in-Some-clause-shorter t c =
    closed-shorter Square (λ x. (x.0, x.1.now)) (length c.in-Some.after.now) (length c.args.tokens.now)
    (let a = c.in-Some.ensures.shorter in omega (arith, a)) c.items.result c.closed.result c.items.ensures.shorter c.closed.ensures

pub list_end-returns-in_err-rest-clause-read : goal.list_end-returns-in_err-rest-clause-read
list_end-returns-in_err-rest-clause-read t c =
    let p = err_from_is_err_and c.from_residual.result c.from_residual.ensures.1 in
    rw (p.1, p.2) (after_square-stops c.args.text.now c.args.tokens.now c.in_err-rest.field-0.0 c.requires.lists c.in_default.ensures.front c.in_err-rest.ensures.refused)

pub list_end-returns-clause-read : goal.list_end-returns-clause-read
list_end-returns-clause-read t c =
    gives-is after_square_s (terminals c.args.text.now c.args.tokens.now) (terminals c.args.text.now c.in_ok-rest.rest.now) _ _
    (ap (λ zs. square_lists (more_items_of (map expr_view zs) false)) (sym c.new-none.ensures.items))
    (after_square-closes c.args.text.now c.args.tokens.now c.in_ok-rest.rest.now c.in_ok-rest.ensures.front)

pub source-returns-in_err-each-clause-read : goal.source-returns-in_err-each-clause-read
source-returns-in_err-each-clause-read t c =
    let p = err_from_is_err_and c.from_residual.result c.from_residual.ensures.1 in
    rw (p.1, p.2) (mark-read after_square_s c.args.text.now (plain (marks_of.for c.args.place) ∷ (terminals c.args.text.now c.args.tokens.now)) in_s tt roles.In
    (expr_s ∷ closes_s Square ∷ []) (λ n ss f. front after_square_s ss (square_for c.args.place n f.1.0) f.1.1.1) (λ x. (x.0, x.1.now)) (in-gives c.args.text.now)
    (in-stops c.args.text.now) (Err c.in_err-each.field-0.0) c.name.result
    (part-read after_square_s c.args.text.now (plain (marks_of.for c.args.place) ∷ (terminals c.args.text.now c.args.tokens.now)) name_s
    (in_s ∷ expr_s ∷ closes_s Square ∷ []) (terminals c.args.text.now c.args.tokens.now) (λ ss f. front after_square_s ss (square_for c.args.place f.0 f.1.1.0) f.1.1.1.1)
    (λ x. (x.0, x.1.now)) (after_square-for c.args.place (terminals c.args.text.now c.args.tokens.now)) c.name.result c.name.ensures.read) c.in_err-each.ensures)

pub source-returns-clause-read : goal.source-returns-clause-read
source-returns-clause-read t c =
    all-read after_square_s c.args.text.now (plain (marks_of.for c.args.place) ∷ (terminals c.args.text.now c.args.tokens.now))
    (λ x. square_for c.args.place x.0.0 (expr_view x.0.1)) (λ x. x.1.now) c.closed-2.result
    (mark-read after_square_s c.args.text.now (plain (marks_of.for c.args.place) ∷ (terminals c.args.text.now c.args.tokens.now)) (closes_s Square) tt (roles.Closes Square) []
    (λ u ss f. front after_square_s ss (square_for c.args.place u.0 (expr_view u.1)) f.1) (λ x. (x.0, x.1.now)) (closes_square-gives c.args.text.now)
    (closes_square-stops c.args.text.now) c.closed-2.result c.beside-parts.result
    (beside-read after_square_s c.args.text.now (plain (marks_of.for c.args.place) ∷ (terminals c.args.text.now c.args.tokens.now)) expr_s (closes_s Square ∷ [])
    (terminals c.args.text.now c.in_ok-each.after.now) (λ n ss f. front after_square_s ss (square_for c.args.place n f.0) f.1.1) expr_view (λ x. ((x.0.0, x.0.1), x.1.now))
    (λ x. (x.0, x.1.now)) c.in_ok-each.each (mark-read after_square_s c.args.text.now (plain (marks_of.for c.args.place) ∷ (terminals c.args.text.now c.args.tokens.now))
    in_s tt roles.In (expr_s ∷ closes_s Square ∷ []) (λ n ss f. front after_square_s ss (square_for c.args.place n f.1.0) f.1.1.1) (λ x. (x.0, x.1.now))
    (in-gives c.args.text.now) (in-stops c.args.text.now) (Ok (c.in_ok-each.each, c.in_ok-each.after)) c.name.result
    (part-read after_square_s c.args.text.now (plain (marks_of.for c.args.place) ∷ (terminals c.args.text.now c.args.tokens.now)) name_s
    (in_s ∷ expr_s ∷ closes_s Square ∷ []) (terminals c.args.text.now c.args.tokens.now) (λ ss f. front after_square_s ss (square_for c.args.place f.0 f.1.1.0) f.1.1.1.1)
    (λ x. (x.0, x.1.now)) (after_square-for c.args.place (terminals c.args.text.now c.args.tokens.now)) c.name.result c.name.ensures.read) c.in_ok-each.ensures)
    c.beside-parts.result c.expr.result c.expr.ensures.read c.beside-parts.ensures) c.closed-2.ensures)

pub source-returns-clause-shorter : goal.source-returns-clause-shorter
source-returns-clause-shorter t c =
    mark-shorter (roles.Closes Square) (λ x. (x.0, x.1.now)) (length c.args.tokens.now) c.beside-parts.result c.closed-2.result
    (beside-shorter (λ x. ((x.0.0, x.0.1), x.1.now)) (λ x. (x.0, x.1.now)) c.in_ok-each.each (length c.in_ok-each.after.now) (length c.args.tokens.now)
    (let a = mark-shorter roles.In (λ x. (x.0, x.1.now)) (length c.args.tokens.now) c.name.result
    (Ok (c.in_ok-each.each, c.in_ok-each.after)) c.name.ensures.shorter c.in_ok-each.ensures in omega (arith, a))
    c.expr.result c.beside-parts.result c.expr.ensures.shorter c.beside-parts.ensures) c.closed-2.ensures
