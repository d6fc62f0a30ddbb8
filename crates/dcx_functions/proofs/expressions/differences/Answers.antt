-- One difference more is taken of what is left to take.
use Rattle.std.proofs.Common.{◌≡◌, ◌+◌, ◌-◌, suc, sym, ◌∙◌, arith}
use Rattle.std.proofs.lemmas.Result.{err_from_is_err_and}
use Rattle.dcx_script_values.proofs.Acts.{Fails-same, Gives-err}
use Rattle.dcx_functions.specs.Calls.{differences}
use Rattle.dcx_functions.proofs.Differences.{differences-next, differences-fault}
use Rattle.dcx_functions.proofs.expressions.differences.Goals as goal

pub returns-in_err-node : goal.returns-in_err-node
returns-in_err-node c =
    let n = c.args.count - c.loop-done._done in
    let k = c.args.count - (c.loop-done._done + 1) in
    let more : n ≡ suc k = omega arith in
    let e = c.in_err-node.field-0.0 in
    let p = err_from_is_err_and c.from_residual.result c.from_residual.ensures.1 in
    Gives-err (λ i. i.0) c.from_residual.result c.push.new.self (differences c.args.place c.args.count c.args.first.0 c.args.state.now) p.0 e p.1 p.2
    (Fails-same e (differences c.args.place n c.loop-done.node.0 c.loop-done.state) (differences c.args.place c.args.count c.args.first.0 c.args.state.now) (sym c.loop-done.invariant)
    (differences-fault c.args.place n k c.loop-done.node.0 c.loop-done.state more e c.in_err-node.ensures))

pub loop-done-preserved : goal.loop-done-preserved
loop-done-preserved c =
    let n = c.args.count - c.loop-done._done in
    let k = c.args.count - (c.loop-done._done + 1) in
    let more : n ≡ suc k = omega arith in
    sym (differences-next c.args.place n k c.loop-done.node.0 c.loop-done.state more c.in_ok-node.node.0 c.push.new.self c.in_ok-node.ensures) ∙ c.loop-done.invariant
