-- Each node more is passed.
use Rattle.std.proofs.Common.{◌≡◌, None, ◌∙◌, ◌-◌, ap, arith, length, subst}
use Rattle.std.proofs.lemmas.Result.{err_from_is_err_and}
use Rattle.dcx_tree.specs.Values.{array_at}
use Rattle.dcx_cert_collect.specs.Starts.{start_of}
use Rattle.dcx_cert_collect.specs.Pass.{HasFractions, Kept, kept_of, pass_down, IsOrMemory}
use Rattle.dcx_cert_collect.proofs.Passing.{pass_next, pass_stops, kept_same, all_passed, one_more}
use Rattle.dcx_cert_collect.proofs.pass.collect.Goals as goal

pub pass_one-requires-clause-below : goal.pass_one-requires-clause-below
pass_one-requires-clause-below g c =
    let nodes = c.args.given.now.tree.now in
    c.loop-k.invariant.0 ∙ ap (start_of nodes) (omega (arith, c.nodes-count.ensures.count, c.loop-k-test.true))

pub loop-k-preserved : goal.loop-k-preserved
loop-k-preserved g c =
    let nodes = c.args.given.now.tree.now in
    let n = length nodes in
    let k = c.loop-k.k in
    let m = c.nodes-count.result - 1 - k in
    let start : Kept = record { below = c.args.table.items; reached = c.new.result.items; total = c.zero.result } in (
      c.in_ok-pass_one.ensures.below ∙ ap (start_of nodes) (omega (arith, c.nodes-count.ensures.count, c.loop-k-test.true)),
      pass_next nodes c.args.given.now.values.now (g.W.CallWeights.weights c.args.weights.now) n k m start (kept_of c.loop-k.state) (kept_of c.pass_one.new.state)
          (omega (arith, c.nodes-count.ensures.count, c.loop-k-test.true)) c.loop-k.invariant.1 c.in_ok-pass_one.ensures.ok,
      one_more (λ i. array_at c.args.given.now.values.now i ≡ None → HasFractions nodes i (g.W.CallWeights.weights c.args.weights.now i)) n k m
          (omega (arith, c.nodes-count.ensures.count, c.loop-k-test.true))
          c.in_ok-pass_one.ensures.fractions c.loop-k.invariant.2,
    )

pub returns-in_err-pass_one-clause-stop : goal.returns-in_err-pass_one-clause-stop
returns-in_err-pass_one-clause-stop g c =
    let r = err_from_is_err_and c.from_residual.result c.from_residual.ensures.1 in
    let nodes = c.args.given.now.tree.now in
    let values = c.args.given.now.values.now in
    let weights = g.W.CallWeights.weights c.args.weights.now in
    let n = length nodes in
    let k = c.loop-k.k in
    let m = c.nodes-count.result - 1 - k in
    let start : Kept = record { below = c.args.table.items; reached = c.new.result.items; total = c.zero.result } in
    rw (r.1, r.2) (subst (λ s. IsOrMemory (pass_down nodes values weights n s) c.in_err-pass_one.field-0.0)
    (kept_same c.args.table.items c.new.result.items c.zero.result c.new.ensures.items c.zero.ensures)
    (pass_stops nodes values weights n k m start (kept_of c.loop-k.state) c.in_err-pass_one.field-0.0
    (omega (arith, c.nodes-count.ensures.count, c.loop-k-test.true)) c.loop-k.invariant.1 c.in_err-pass_one.ensures.stop))

pub returns-clause-ok : goal.returns-clause-ok
returns-clause-ok g c =
    let nodes = c.args.given.now.tree.now in
    let values = c.args.given.now.values.now in
    let weights = g.W.CallWeights.weights c.args.weights.now in
    let n = length nodes in
    let start : Kept = record { below = c.args.table.items; reached = c.new.result.items; total = c.zero.result } in
    all_passed nodes values weights n (n - c.loop-k.k) c.args.table.items start (kept_of c.loop-k.state) c.from_vec.result (omega (arith, c.nodes-count.ensures.count, c.loop-k-test.false))
    (kept_same c.args.table.items c.new.result.items c.zero.result c.new.ensures.items c.zero.ensures) c.loop-k.invariant.0 c.loop-k.invariant.1 c.from_vec.ensures

pub returns-clause-fractions : goal.returns-clause-fractions
returns-clause-fractions g c = λ i b. c.loop-k.invariant.2 i (omega (arith, c.nodes-count.ensures.count, c.loop-k-test.false)) b
