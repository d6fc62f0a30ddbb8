-- Each line is that of the definition, and what is left of the lines and of the turns is what is meant.
use Rattle.std.proofs.Common.{◌≡◌, List, length, slice_get, map, Some, Ok, refl, sym, ap, subst, ◌∙◌, arith}
use Rattle.std.proofs.lemmas.Result.{err_from_is_err_and}
use Rattle.dcx_syntax.specs.declared.tree.Line as code_line
use Rattle.dcx_syntax.specs.Statements.{Line}
use Rattle.dcx_syntax.specs.View.{line_view, lines_of, expr_view}
use Rattle.dcx_script_values.specs.Meant.{meant}
use Rattle.dcx_script_values.specs.View.{Fails, Gives}
use Rattle.dcx_script_values.proofs.Acts.{Fails-same, Gives-err}
use Rattle.dcx_signature.specs.declared.turns.Through.{Through}
use Rattle.dcx_signature.specs.View.{through_seen}
use Rattle.dcx_elab.specs.Statements.{line_means, lines_mean}
use Rattle.dcx_elab.proofs.Lines.{line-assign, line-add_to, line-set_value, line-repeats, repeats-is, turns_from, turns-next, turns-fault, turns-later_fault, turns-end}
use Rattle.dcx_elab.proofs.statements.+lines.Goals as goal

pub line-returns-in-Assign : goal.line-returns-in-Assign
line-returns-in-Assign t c =
    subst (λ (x : Line). Gives (λ _. tt) c.assign.result c.assign.new.state (line_means x c.args.state.now))
    (sym (line-assign c.args.tree.now c.in-Assign.name c.in-Assign.value c.in-Assign.is)) c.assign.ensures

pub line-returns-in-AddTo : goal.line-returns-in-AddTo
line-returns-in-AddTo t c =
    subst (λ (x : Line). Gives (λ _. tt) c.add_to.result c.add_to.new.state (line_means x c.args.state.now))
    (sym (line-add_to c.args.tree.now c.in-AddTo.name c.in-AddTo.place c.in-AddTo.value c.in-AddTo.is)) c.add_to.ensures

pub line-returns-in-SetValue : goal.line-returns-in-SetValue
line-returns-in-SetValue t c =
    subst (λ (x : Line). Gives (λ _. tt) c.set_value.result c.set_value.new.state (line_means x c.args.state.now))
    (sym (line-set_value c.args.tree.now c.in-SetValue.name c.in-SetValue.place c.in-SetValue.value c.in-SetValue.is)) c.set_value.ensures

pub line-loop-k-init : goal.line-loop-k-init
line-loop-k-init t c = (
  ap (λ (x : Line). line_means x c.args.state.now) (line-repeats c.args.tree.now c.in-For.place c.in-For.name c.in-For.source c.in-For.first c.in-For.rest c.in-For.is)
      ∙ repeats-is c.in-For.place c.in-For.name (expr_view c.in-For.source) (line_view c.in-For.first.value) (lines_of (map line_view c.in-For.rest.items))
      (meant c.in_ok-value-in-For.value) (through_seen c.in_ok-through-in-For.through)
      c.args.state.now c.step-in-For.new.self c.expr.new.state c.in_ok-step-in-For.ensures c.in_ok-value-in-For.ensures (c.in_ok-through-in-For.ensures c.expr.new.state),
  refl,
)

pub line-item-requires : goal.line-item-requires
line-item-requires t c =
    let e = c.count-k-end.ensures in let h = c.loop-k-test.true in
    let same = ap (λ (x : Through). length (through_seen x)) c.loop-k.invariant.1 in omega (arith, e, h, same)

pub line-returns-in_err-line-in-For : goal.line-returns-in_err-line-in-For
line-returns-in_err-line-in-For t c =
    let p = err_from_is_err_and c.from_residual-in_err-line-in-For.result c.from_residual-in_err-line-in-For.ensures.1 in
    let e = c.in_err-line-in-For.field-0.0 in
    let at = subst (λ (x : Through). slice_get (through_seen x) c.loop-k.k ≡ Some (meant c.in_ok-item-in-For.item)) c.loop-k.invariant.1 c.in_ok-item-in-For.ensures in
    let fails = subst (λ (x : code_line.Line). Fails e (line_means (line_view x) c.bind.new.self)) c.deref.ensures c.in_err-line-in-For.ensures in
    Gives-err (λ _. tt) c.from_residual-in_err-line-in-For.result c.line.new.state (line_means (line_view c.args.tree.now) c.args.state.now) p.0 e p.1 p.2
    (Fails-same e (turns_from c.in-For.name.name (line_view c.in-For.first.value) (lines_of (map line_view c.in-For.rest.items))
    (through_seen c.in_ok-through-in-For.through) c.loop-k.k c.loop-k.state) (line_means (line_view c.args.tree.now) c.args.state.now) c.loop-k.invariant.0
    (turns-fault c.in-For.name.name (line_view c.in-For.first.value) (lines_of (map line_view c.in-For.rest.items)) (through_seen c.in_ok-through-in-For.through) c.loop-k.k
    (meant c.in_ok-item-in-For.item) e c.loop-k.state c.bind.new.self at c.in_ok-bind-in-For.ensures fails))

pub line-returns-in_err-lines-in-For : goal.line-returns-in_err-lines-in-For
line-returns-in_err-lines-in-For t c =
    let p = err_from_is_err_and c.from_residual-in_err-lines-in-For.result c.from_residual-in_err-lines-in-For.ensures.1 in
    let e = c.in_err-lines-in-For.field-0.0 in
    let at = subst (λ (x : Through). slice_get (through_seen x) c.loop-k.k ≡ Some (meant c.in_ok-item-in-For.item)) c.loop-k.invariant.1 c.in_ok-item-in-For.ensures in
    let begins = subst (λ (x : code_line.Line). line_means (line_view x) c.bind.new.self ≡ Ok (tt, c.line.new.state)) c.deref.ensures c.in_ok-line-in-For.ensures in
    let fails = subst (λ (xs : List code_line.Line). Fails e (lines_mean (lines_of (map line_view xs)) c.line.new.state)) c.deref-in-loop-k.ensures.value c.in_err-lines-in-For.ensures in
    Gives-err (λ _. tt) c.from_residual-in_err-lines-in-For.result c.lines.new.state (line_means (line_view c.args.tree.now) c.args.state.now) p.0 e p.1 p.2
    (Fails-same e (turns_from c.in-For.name.name (line_view c.in-For.first.value) (lines_of (map line_view c.in-For.rest.items))
    (through_seen c.in_ok-through-in-For.through) c.loop-k.k c.loop-k.state) (line_means (line_view c.args.tree.now) c.args.state.now) c.loop-k.invariant.0
    (turns-later_fault c.in-For.name.name (line_view c.in-For.first.value) (lines_of (map line_view c.in-For.rest.items)) (through_seen c.in_ok-through-in-For.through)
    c.loop-k.k (meant c.in_ok-item-in-For.item) e c.loop-k.state c.bind.new.self c.line.new.state at c.in_ok-bind-in-For.ensures begins fails))

pub line-loop-k-preserved : goal.line-loop-k-preserved
line-loop-k-preserved t c =
    let at = subst (λ (x : Through). slice_get (through_seen x) c.loop-k.k ≡ Some (meant c.in_ok-item-in-For.item)) c.loop-k.invariant.1 c.in_ok-item-in-For.ensures in
    let begins = subst (λ (x : code_line.Line). line_means (line_view x) c.bind.new.self ≡ Ok (tt, c.line.new.state)) c.deref.ensures c.in_ok-line-in-For.ensures in
    let ends = subst (λ (xs : List code_line.Line). lines_mean (lines_of (map line_view xs)) c.line.new.state ≡ Ok (tt, c.lines.new.state))
    c.deref-in-loop-k.ensures.value c.in_ok-lines-in-For.ensures in (
      c.loop-k.invariant.0
          ∙ turns-next c.in-For.name.name (line_view c.in-For.first.value) (lines_of (map line_view c.in-For.rest.items)) (through_seen c.in_ok-through-in-For.through)
          c.loop-k.k (meant c.in_ok-item-in-For.item) c.loop-k.state c.bind.new.self c.line.new.state c.lines.new.state at c.in_ok-bind-in-For.ensures begins ends,
      c.loop-k.invariant.1,
    )

pub line-returns-after-loop-k : goal.line-returns-after-loop-k
line-returns-after-loop-k t c =
    c.loop-k.invariant.0
    ∙ turns-end c.in-For.name.name (line_view c.in-For.first.value) (lines_of (map line_view c.in-For.rest.items)) (through_seen c.in_ok-through-in-For.through) c.loop-k.k c.loop-k.state
    (let e = c.count-k-end.ensures in let h = c.loop-k-test.false in omega (arith, e, h))
