-- The next constraint has its multipliers.
use Rattle.std.proofs.Common.{ℕ, ◌∙◌, ◌+◌, ◌<◌, arith, ap, ap₂, sym, length, Some, slice_get}
use Rattle.std.proofs.lemmas.Option.{slice_get-get_or}
use Rattle.std.proofs.lemmas.Result.{err_from_is_err_and}
use Rattle.dcx_cert_collect.specs.Multipliers.{constraint_shares}
use Rattle.dcx_cert_collect.proofs.Sharing.{entry-next, joined-within-some}
use Rattle.dcx_cert_collect.proofs.multipliers.add_constraints.Goals as goal

pub add_constraint-requires-clause-left : goal.add_constraint-requires-clause-left
add_constraint-requires-clause-left c =
    (c.requires.constraints.left c.loop-k.k c.index-constraints-k.result
    (slice_get-get_or c.args.constraints.now c.loop-k.k c.index-constraints-k.result c.loop-k-test.true ∙ ap Some (sym c.index-constraints-k.is))).there

pub add_constraint-requires-clause-right : goal.add_constraint-requires-clause-right
add_constraint-requires-clause-right c =
    (c.requires.constraints.right c.loop-k.k c.index-constraints-k.result
    (slice_get-get_or c.args.constraints.now c.loop-k.k c.index-constraints-k.result c.loop-k-test.true ∙ ap Some (sym c.index-constraints-k.is))).there

pub loop-k-preserved : goal.loop-k-preserved
loop-k-preserved c =
    let nodes = c.args.tree.now in
    let k = c.loop-k.k in
    let f = λ (k : ℕ). constraint_shares nodes (slice_get c.args.constraints.now k) (slice_get c.args.duals.now k) in
    let b : k < length c.args.duals.now = omega (arith, c.loop-k-test.true, c.requires.count) in
    let at = slice_get-get_or c.args.constraints.now k c.index-constraints-k.result c.loop-k-test.true ∙ ap Some (sym c.index-constraints-k.is) in
    let given = slice_get-get_or c.args.duals.now k c.index-duals-k.result b ∙ ap Some (sym c.index-duals-k.is) in
    entry-next c.args.table.now.items c.loop-k.table.items f k (constraint_shares nodes (Some c.index-constraints-k.result) (Some c.index-duals-k.result))
    (ap₂ (constraint_shares nodes) (sym at) (sym given)) c.loop-k.invariant ∙ c.in_ok-add_constraint.ensures.ok

pub returns-in_err-add_constraint-clause-passes : goal.returns-in_err-add_constraint-clause-passes
returns-in_err-add_constraint-clause-passes c =
    let r = err_from_is_err_and c.from_residual.result c.from_residual.ensures.1 in
    let nodes = c.args.tree.now in
    let k = c.loop-k.k in
    let f = λ (k : ℕ). constraint_shares nodes (slice_get c.args.constraints.now k) (slice_get c.args.duals.now k) in
    let b : k < length c.args.duals.now = omega (arith, c.loop-k-test.true, c.requires.count) in
    let at = slice_get-get_or c.args.constraints.now k c.index-constraints-k.result c.loop-k-test.true ∙ ap Some (sym c.index-constraints-k.is) in
    let given = slice_get-get_or c.args.duals.now k c.index-duals-k.result b ∙ ap Some (sym c.index-duals-k.is) in
    rw (r.1, r.2) (joined-within-some c.args.table.now.items f (k + 1) (length c.args.constraints.now) c.in_err-add_constraint.field-0.0 (omega (arith, c.loop-k-test.true))
    (entry-next c.args.table.now.items c.loop-k.table.items f k (constraint_shares nodes (Some c.index-constraints-k.result) (Some c.index-duals-k.result))
    (ap₂ (constraint_shares nodes) (sym at) (sym given)) c.loop-k.invariant ∙ c.in_err-add_constraint.ensures.passes))
