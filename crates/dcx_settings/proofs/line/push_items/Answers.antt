-- Items go on by a semicolon and end with their line.
use Rattle.std.proofs.Common.{[], ◌∷◌, ◌++◌, arith, subst, sym, ◌∙◌, ap, refl}
use Rattle.std.proofs.lemmas.List.{length-map}
use Rattle.dcx_settings.specs.Terminal.{terminals, terminal_of}
use Rattle.dcx_settings.specs.Steps.{AreItemsRead, LineStopsAt}
use Rattle.dcx_settings.proofs.Rows.{err_from}
use Rattle.dcx_settings.proofs.Lines.{items_first, items_none, items_next, items_stop, items_end, items_open}
use Rattle.dcx_settings.proofs.line.push_items.Goals as goal

pub returns-in_err-first-clause-stop : goal.returns-in_err-first-clause-stop
returns-in_err-first-clause-stop c =
    err_from (LineStopsAt c.args.text.now (terminals c.args.text.now c.args.tokens.now)) c.from_residual.result c.in_err-first.field-0.0 c.from_residual.ensures.1
    (items_none c.args.names.now c.requires.unnamed c.args.text.now (terminals c.args.text.now c.args.tokens.now) c.in_err-first.field-0.0
    (let l = length-map c.args.tokens.now (terminal_of c.args.text.now) in let s = c.requires.some in omega (arith, l, s)) c.requires.not_empty c.in_err-first.ensures.stop)

pub items-init : goal.items-init
items-init c =
    let us = terminals c.args.text.now c.args.tokens.now in
    let rest = terminals c.args.text.now c.in_ok-first.first.now in
    let put = c.in_ok-first.ensures.ok in
    let e = put.3 ∙ ap (λ xs. xs ++ put.0 ∷ []) c.requires.empty in (
      subst (λ xs. AreItemsRead c.push_item.new.names us xs rest) (sym e) (items_first c.args.names.now c.push_item.new.names c.requires.unnamed us rest put.0 put.2 put.1),
      c.in_ok-first.ensures.shorter,
    )

pub returns-in_err-next-clause-stop : goal.returns-in_err-next-clause-stop
returns-in_err-next-clause-stop c =
    err_from (LineStopsAt c.args.text.now (terminals c.args.text.now c.args.tokens.now)) c.from_residual-in_err-next.result c.in_err-next.field-0.0 c.from_residual-in_err-next.ensures.1
    (items_stop c.items.names _ c.items.found.items _ c.items.invariant.0 _ c.in-Some.ensures.first (let l = length-map c.args.tokens.now (terminal_of c.args.text.now) in
    let s = c.requires.some in omega (arith, l, s)) c.requires.not_empty c.args.text.now c.in_err-next.field-0.0 c.in_err-next.ensures.stop)

pub items-preserved : goal.items-preserved
items-preserved c =
    let us = terminals c.args.text.now c.args.tokens.now in
    let rest = terminals c.args.text.now c.in_ok-next.next.now in
    let put = c.in_ok-next.ensures.ok in (
      subst (λ xs. AreItemsRead c.push_item-in-Some.new.names us xs rest) (sym put.3)
          (items_next c.items.names us c.items.found.items _ c.items.invariant.0 _ c.in-Some.ensures.first c.push_item-in-Some.new.names put.0 rest put.2 put.1),
      let a = c.in-Some.ensures.shorter in let b = c.in_ok-next.ensures.shorter in let d = c.items.invariant.1 in omega (arith, a, b, d),
    )

pub returns-in_err-behind-clause-stop : goal.returns-in_err-behind-clause-stop
returns-in_err-behind-clause-stop c =
    err_from (LineStopsAt c.args.text.now (terminals c.args.text.now c.args.tokens.now)) c.from_residual-in_err-behind.result c.in_err-behind.field-0.0 c.from_residual-in_err-behind.ensures.1
    (items_open c.items.names _ c.items.found.items _ c.items.invariant.0 c.args.text.now c.items.rest.now refl
    (let l = length-map c.args.tokens.now (terminal_of c.args.text.now) in let s = c.requires.some in omega (arith, l, s)) c.requires.not_empty c.in_default.ensures.first
    c.in_err-behind.field-0.0 c.in_err-behind.ensures.stop.0 c.in_err-behind.ensures.stop.1)

pub returns-clause-ok : goal.returns-clause-ok
returns-clause-ok c =
    let us = terminals c.args.text.now c.args.tokens.now in
    let rest = terminals c.args.text.now c.in_ok-behind.behind.now in
    items_end c.items.names us c.items.found.items _ c.items.invariant.0 rest c.in_ok-behind.ensures.ok
    (let l = length-map c.args.tokens.now (terminal_of c.args.text.now) in let s = c.requires.some in omega (arith, l, s)) c.requires.not_empty
