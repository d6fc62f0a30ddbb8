-- A reached node is formed from the values of its arguments, and the first that isn't formed stops.
use Rattle.std.proofs.Common.{◌≡◌, ◌+◌, true, false, IsSome, get_or, refl, sym, subst, ◌∙◌, arith, rules, true≢false}
use Rattle.std.proofs.lemmas.Option.{none-some, same_Some}
use Rattle.std.proofs.lemmas.Result.{err_from_is_err_and}
use Rattle.dcx_tree.specs.Values.{AreValues, IsValueOf}
use Rattle.dcx_tree.proofs.Forming.{HasFormed, formed_none, formed_more, args_there, first_stop}
use Rattle.dcx_tree.proofs.value.form_earlier.Goals as goal
use Rattle.dcx_tree.proofs.value.form_earlier.Goals.{then-reached-i+in_ok-node_value, else-reached-i}

pub loop-i-init : goal.loop-i-init
loop-i-init c =
    subst (HasFormed c.args.tree.now c.args.setting.now c.args.point.now c.args.node.0 0) (sym c.new-arrays.ensures.items)
    (formed_none c.args.tree.now c.requires.nodes c.args.setting.now c.args.point.now c.args.node.0)

pub node_value-requires-clause-given : goal.node_value-requires-clause-given
node_value-requires-clause-given c =
    let marked : get_or c.args.reached.now c.loop-i.i false ≡ true = search rules in
    λ n at. c.requires.given c.loop-i.i n ((c.requires.marked c.loop-i.i).0 marked) at

pub node_value-requires-clause-args : goal.node_value-requires-clause-args
node_value-requires-clause-args c =
    let marked : get_or c.args.reached.now c.loop-i.i false ≡ true = search rules in
    args_there c.args.tree.now c.requires.nodes c.args.setting.now c.args.point.now c.args.node.0 c.deref.result.now c.loop-i.i ((c.requires.marked c.loop-i.i).0 marked)
    (rw c.deref.ensures.value c.loop-i.invariant.some)

pub node_value-requires-clause-values : goal.node_value-requires-clause-values
node_value-requires-clause-values c = subst (AreValues c.args.tree.now c.args.setting.now c.args.point.now) (sym c.deref.ensures.value) c.loop-i.invariant.values

pub returns-in_err-node_value-clause-stop : goal.returns-in_err-node_value-clause-stop
returns-in_err-node_value-clause-stop c =
    let r = err_from_is_err_and c.from_residual.result c.from_residual.ensures.1 in
    let marked : get_or c.args.reached.now c.loop-i.i false ≡ true = search rules in
    rw (r.1, r.2)
    (first_stop c.args.tree.now c.requires.nodes c.args.setting.now c.args.point.now c.args.node.0 c.loop-i.arrays.items c.loop-i.i _ (omega (arith, c.requires.there, c.loop-i-test.true))
    ((c.requires.marked c.loop-i.i).0 marked) c.loop-i.invariant.some c.loop-i.invariant.values c.in_err-node_value.ensures.stop)

pub loop-i-preserved : goal.loop-i-preserved
loop-i-preserved c =
    let more = formed_more c.args.tree.now c.requires.nodes c.args.setting.now c.args.point.now c.args.node.0 c.loop-i.i c.loop-i.arrays.items in
    elim c.if-reached-i.branch [
      | then-reached-i+in_ok-node_value w ↦
          subst (HasFormed c.args.tree.now c.args.setting.now c.args.point.now c.args.node.0 (c.loop-i.i + 1)) (sym c.in-Ok.ensures.items)
          (more c.if-reached-i.array c.loop-i.invariant (λ r. subst IsSome (sym w.array-is) refl)
          (λ v e. subst (IsValueOf c.args.tree.now c.args.setting.now c.args.point.now c.loop-i.i) (same_Some w.in_ok-node_value.field-0 v (sym w.array-is ∙ e)) w.in_ok-node_value.ensures.ok))
      | else-reached-i w ↦
          subst (HasFormed c.args.tree.now c.args.setting.now c.args.point.now c.args.node.0 (c.loop-i.i + 1)) (sym c.in-Ok.ensures.items)
          (more c.if-reached-i.array c.loop-i.invariant (λ r. absurd (true≢false (sym ((c.requires.marked c.loop-i.i).1 r) ∙ w.if-reached-i.false)))
          (λ v e. absurd (none-some v (sym w.array-is ∙ e))))
    ]

pub returns-clause-some : goal.returns-clause-some
returns-clause-some c = λ k b r. c.loop-i.invariant.some k (omega (arith, b, c.loop-i-test.false)) r

pub returns-clause-values : goal.returns-clause-values
returns-clause-values c = c.loop-i.invariant.values
