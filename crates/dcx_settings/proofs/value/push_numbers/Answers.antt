-- A row goes on by a comma and a number while there is room.
use Rattle.std.proofs.Common.{[], ◌∷◌, ◌++◌, arith, subst, sym, ◌∙◌, ap}
use Rattle.dcx_settings.specs.Terminal.{terminals}
use Rattle.dcx_settings.specs.Steps.{IsRowBegun, RowStopsAt}
use Rattle.dcx_settings.proofs.Rows.{err_from, row_first, comma_stops, row_more, row_stops}
use Rattle.dcx_settings.proofs.value.push_numbers.Goals as goal

pub numbers-init : goal.numbers-init
numbers-init c =
    let us = terminals c.args.text.now c.args.tokens.now in
    let rest = terminals c.args.text.now c.in_ok-first.behind.now in
    let e = c.in_ok-push.ensures.items ∙ ap (λ xs. xs ++ c.in_ok-first.first ∷ []) c.requires.empty in
    (subst (λ fs. IsRowBegun c.args.width us fs rest) (sym e) (row_first c.args.width us rest c.in_ok-first.first c.requires.some c.in_ok-first.ensures.ok), c.in_ok-first.ensures.shorter)

pub returns-then-len-most-clause-stop : goal.returns-then-len-most-clause-stop
returns-then-len-most-clause-stop c =
    comma_stops c.args.width _ c.numbers.found.items _ _ c.in-Some.ensures.first c.numbers.invariant.0
    (let a = c.if-len-most.true in let b = c.most.ensures in let d = c.len.ensures in omega (arith, a, b, d))

pub returns-in_err-next-clause-stop : goal.returns-in_err-next-clause-stop
returns-in_err-next-clause-stop c =
    err_from (RowStopsAt c.args.width c.args.text.now (terminals c.args.text.now c.args.tokens.now)) c.from_residual-in_err-next.result c.in_err-next.field-0.0 c.from_residual-in_err-next.ensures.1
    (row_stops c.args.width _ c.numbers.found.items _ _ c.in-Some.ensures.first c.numbers.invariant.0
    (let a = c.if-len-most.false in let b = c.most.ensures in let d = c.len.ensures in omega (arith, a, b, d)) c.args.text.now _ c.in_err-next.ensures.stop)

pub numbers-smaller : goal.numbers-smaller
numbers-smaller c = let a = c.in-Some.ensures.shorter in let b = c.in_ok-next.ensures.shorter in omega (arith, a, b)

pub numbers-preserved : goal.numbers-preserved
numbers-preserved c =
    let us = terminals c.args.text.now c.args.tokens.now in
    let rest = terminals c.args.text.now c.in_ok-next.behind.now in (
      subst (λ fs. IsRowBegun c.args.width us fs rest) (sym c.in_ok-push-2.ensures.items)
          (row_more c.args.width us c.numbers.found.items _ _ c.in-Some.ensures.first c.numbers.invariant.0
          (let a = c.if-len-most.false in let b = c.most.ensures in let d = c.len.ensures in omega (arith, a, b, d)) c.in_ok-next.next rest c.in_ok-next.ensures.ok),
      let a = c.in-Some.ensures.shorter in let b = c.in_ok-next.ensures.shorter in let d = c.numbers.invariant.1 in omega (arith, a, b, d),
    )

pub returns-clause-ok : goal.returns-clause-ok
returns-clause-ok c = c.numbers.invariant.0

pub returns-clause-shorter : goal.returns-clause-shorter
returns-clause-shorter c = c.numbers.invariant.1

pub returns-clause-ends : goal.returns-clause-ends
returns-clause-ends c = c.in_default.ensures.first
