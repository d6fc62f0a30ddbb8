-- A reached node is formed from what is known of its arguments, and the first that isn't formed stops.
use Rattle.std.proofs.Common.{◌+◌, ◌<◌, ◌∙◌, length, List, All, Option, sym, ap, subst, arith, true≢false}
use Rattle.std.proofs.lemmas.Result.{err_from_is_err_and}
use Rattle.dcx_atom.specs.declared.array.Array.{Array}
use Rattle.dcx_arena.specs.Nodes.{positions}
use Rattle.dcx_tree.proofs.Marks.{mark_at}
use Rattle.dcx_cert_rays.specs.Steepness.{IsKnown}
use Rattle.dcx_cert_rays.proofs.Tables.{known_below}
use Rattle.dcx_cert_rays.proofs.Below.{IsBelow, below_none, below_args, below_more, below_stop, below_all, below_roots}
use Rattle.dcx_cert_rays.proofs.table.form_below.Goals as goal
use Rattle.dcx_cert_rays.proofs.table.form_below.Goals.{then-index+in_ok-form_one, else-index}

pub returns-then-are_known-clause-checked : goal.returns-then-are_known-clause-checked
returns-then-are_known-clause-checked c =
    let a = c.args.along.now in
    known_below a.problem.now a.setting.now a.ray.now c.args.arrays.now.items c.requires.kept (positions c.args.roots.now)
    (subst (λ (xs : List (Option Array)). All (IsKnown a.problem.now xs) (positions c.args.roots.now)) c.deref.ensures.value (c.are_known.ensures c.if-are_known.true))

pub loop-i-init : goal.loop-i-init
loop-i-init c =
    let a = c.args.along.now in
    below_none a.problem.now a.setting.now a.ray.now (positions c.args.roots.now) c.args.arrays.now.items c.requires.kept

pub form_one-requires-clause-known : goal.form_one-requires-clause-known
form_one-requires-clause-known c =
    let a = c.args.along.now in
    let marks = c.in_ok-reached.reached.items in
    let within : c.loop-i.i < length marks = omega (arith, c.in_ok-reached.ensures.count, c.loop-i-test.true, c.nodes-i-end.ensures.count) in
    let marked = mark_at marks c.loop-i.i c.index.result.now within c.index.ensures ∙ c.if-index.true in
    below_args a.problem.now a.setting.now a.ray.now (positions c.args.roots.now) c.loop-i.i c.loop-i.arrays.items c.loop-i.invariant ((c.in_ok-reached.ensures.marked c.loop-i.i).0 marked)

pub returns-in_err-form_one-clause-checked : goal.returns-in_err-form_one-clause-checked
returns-in_err-form_one-clause-checked c =
    let a = c.args.along.now in
    let marks = c.in_ok-reached.reached.items in
    let within : c.loop-i.i < length marks = omega (arith, c.in_ok-reached.ensures.count, c.loop-i-test.true, c.nodes-i-end.ensures.count) in
    let below : c.loop-i.i < length a.problem.now.tree = omega (arith, c.loop-i-test.true, c.nodes-i-end.ensures.count) in
    let marked = mark_at marks c.loop-i.i c.index.result.now within c.index.ensures ∙ c.if-index.true in
    let r = err_from_is_err_and c.from_residual-in_err-form_one.result c.from_residual-in_err-form_one.ensures.1 in
    rw (r.1, r.2)
    (below_stop a.problem.now a.setting.now a.ray.now (positions c.args.roots.now) c.loop-i.i c.loop-i.arrays.items c.in_err-form_one.field-0.0 c.loop-i.invariant below
    ((c.in_ok-reached.ensures.marked c.loop-i.i).0 marked) c.in_err-form_one.ensures.stop)

pub loop-i-preserved : goal.loop-i-preserved
loop-i-preserved c =
    let a = c.args.along.now in
    let p = a.problem.now in
    let roots = positions c.args.roots.now in
    let marks = c.in_ok-reached.reached.items in
    let within : c.loop-i.i < length marks = omega (arith, c.in_ok-reached.ensures.count, c.loop-i-test.true, c.nodes-i-end.ensures.count) in
    elim c.if-index.branch [
      | then-index+in_ok-form_one w ↦
          subst (λ (xs : List (Option Array)). IsBelow p a.setting.now a.ray.now roots (c.loop-i.i + 1) xs) (ap (λ v. v.items) (sym w.arrays-is))
          (below_more p a.setting.now a.ray.now roots c.loop-i.i c.loop-i.arrays.items w.form_one.new.arrays.items c.loop-i.invariant w.in_ok-form_one.ensures.kept w.in_ok-form_one.ensures.stays
          (λ r. w.in_ok-form_one.ensures.known))
      | else-index w ↦
          subst (λ (xs : List (Option Array)). IsBelow p a.setting.now a.ray.now roots (c.loop-i.i + 1) xs) (ap (λ v. v.items) (sym w.arrays-is))
          (below_more p a.setting.now a.ray.now roots c.loop-i.i c.loop-i.arrays.items c.loop-i.arrays.items c.loop-i.invariant c.loop-i.invariant.kept (λ k h. h)
          (λ r. absurd (true≢false (sym ((c.in_ok-reached.ensures.marked c.loop-i.i).1 r) ∙ mark_at marks c.loop-i.i c.index.result.now within c.index.ensures ∙ w.if-index.false))))
    ]

pub returns-clause-known : goal.returns-clause-known
returns-clause-known c =
    let a = c.args.along.now in
    below_roots a.problem.now a.setting.now a.ray.now (positions c.args.roots.now) c.loop-i.i c.loop-i.arrays.items
    (omega (arith, c.loop-i-test.false, c.nodes-i-end.ensures.count)) c.requires.roots c.loop-i.invariant

pub returns-clause-checked : goal.returns-clause-checked
returns-clause-checked c =
    let a = c.args.along.now in
    below_all a.problem.now a.setting.now a.ray.now (positions c.args.roots.now) c.loop-i.i c.loop-i.arrays.items (omega (arith, c.loop-i-test.false, c.nodes-i-end.ensures.count)) c.loop-i.invariant
