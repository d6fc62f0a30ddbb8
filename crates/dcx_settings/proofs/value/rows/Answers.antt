-- A matrix goes on by a comma and a row while there is room.
use Rattle.std.proofs.Common.{◌+◌, arith, subst, sym, refl}
use Rattle.dcx_settings.specs.Terminal.{terminals}
use Rattle.dcx_settings.specs.Steps.{AreRowsRead, RowsStopAt}
use Rattle.dcx_settings.proofs.Rows.{err_from}
use Rattle.dcx_settings.proofs.Matrices.{rows_first, rows_full, rows_unopened_at, rows_more, rows_stop, count_few}
use Rattle.dcx_settings.proofs.value.rows.Goals as goal

pub rows-init : goal.rows-init
rows-init c =
    let us = terminals c.args.text.now c.args.tokens.now in
    let rest = terminals c.args.text.now c.in_ok-numbers.behind.now in (
      subst (λ w. AreRowsRead w 1 us c.in_ok-numbers.numbers.items rest) (let e = c.len-width.ensures in omega (arith, e))
          (rows_first us rest c.in_ok-numbers.numbers.items c.in_ok-numbers.ensures.ok),
      c.in_ok-numbers.ensures.shorter,
    )

pub returns-then-len-width-gt-MOST_NUMBERS-clause-stop : goal.returns-then-len-width-gt-MOST_NUMBERS-clause-stop
returns-then-len-width-gt-MOST_NUMBERS-clause-stop c =
    rows_full _ _ _ c.rows.numbers.items _ c.rows.invariant.0 _ c.in-Some.ensures.first (let a = c.if-len-width-gt-MOST_NUMBERS.true in let b = c.len.ensures in omega (arith, a, b))

pub returns-in_err-inner-clause-stop : goal.returns-in_err-inner-clause-stop
returns-in_err-inner-clause-stop c =
    err_from (RowsStopAt c.args.text.now (terminals c.args.text.now c.args.tokens.now)) c.from_residual-in_err-inner.result c.in_err-inner.field-0.0 c.from_residual-in_err-inner.ensures.1
    (rows_unopened_at _ _ _ c.rows.numbers.items _ c.rows.invariant.0 _ c.in-Some.ensures.first c.args.text.now c.in-Some.behind.now refl
    (let a = c.if-len-width-gt-MOST_NUMBERS.false in let b = c.len.ensures in omega (arith, a, b)) c.in_err-inner.field-0.0
    c.in_err-inner.ensures.stop.0 c.in_err-inner.ensures.stop.1)

pub returns-in_err-next-clause-stop : goal.returns-in_err-next-clause-stop
returns-in_err-next-clause-stop c =
    err_from (RowsStopAt c.args.text.now (terminals c.args.text.now c.args.tokens.now)) c.from_residual-in_err-next.result c.in_err-next.field-0.0 c.from_residual-in_err-next.ensures.1
    (rows_stop _ _ _ c.rows.numbers.items _ c.rows.invariant.0 _ c.in-Some.ensures.first (let a = c.if-len-width-gt-MOST_NUMBERS.false in let b = c.len.ensures in
    omega (arith, a, b)) _ c.in_ok-inner.ensures.ok c.args.text.now c.in_err-next.field-0.0 c.in_err-next.ensures.stop)

pub overflow_add-count : goal.overflow_add-count
overflow_add-count c = let f = count_few _ _ _ c.rows.numbers.items _ c.rows.invariant.0 in omega (arith, f)

pub rows-smaller : goal.rows-smaller
rows-smaller c = let a = c.in-Some.ensures.shorter in let b = c.in_ok-next.ensures.shorter in let d = c.in_ok-inner.ensures.shorter in omega (arith, a, b, d)

pub rows-preserved : goal.rows-preserved
rows-preserved c =
    let us = terminals c.args.text.now c.args.tokens.now in
    let rest = terminals c.args.text.now c.in_ok-next.next.now in
    let put = c.in_ok-next.ensures.ok in (
      subst (λ fs. AreRowsRead c.len-width.result (c.rows.count + 1) us fs rest) (sym put.2)
          (rows_more _ _ us c.rows.numbers.items _ c.rows.invariant.0 _ c.in-Some.ensures.first
          (let a = c.if-len-width-gt-MOST_NUMBERS.false in let b = c.len.ensures in omega (arith, a, b)) _ c.in_ok-inner.ensures.ok put.0 rest put.1),
      let a = c.in-Some.ensures.shorter in let b = c.in_ok-next.ensures.shorter in let d = c.in_ok-inner.ensures.shorter in let i = c.rows.invariant.1 in omega (arith, a, b, d, i),
    )

pub returns-clause-ok : goal.returns-clause-ok
returns-clause-ok c = c.rows.invariant.0

pub returns-clause-shorter : goal.returns-clause-shorter
returns-clause-shorter c = c.rows.invariant.1
