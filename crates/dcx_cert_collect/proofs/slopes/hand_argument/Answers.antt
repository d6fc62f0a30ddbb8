-- The next entry gets its slope.
use Rattle.std.proofs.Common.{◌∙◌, ◌+◌, arith, length, Ok}
use Rattle.std.proofs.lemmas.Result.{err_from_is_err_and}
use Rattle.dcx_atom.specs.Formed.{zero_frac}
use Rattle.dcx_arena.specs.Nodes.{positions}
use Rattle.dcx_cert_collect.specs.Shares.{frac_in}
use Rattle.dcx_cert_collect.specs.Calls.{share_to}
use Rattle.dcx_cert_collect.proofs.Sharing.{within_list, below-within-some}
use Rattle.dcx_cert_collect.proofs.Arguments.{slope_next}
use Rattle.dcx_cert_collect.proofs.slopes.hand_argument.Goals as goal

pub loop-e-preserved : goal.loop-e-preserved
loop-e-preserved c =
    slope_next c.args.places.now.tree.now c.args.places.now.args.now c.args.argument (frac_in c.args.slopes.now) c.args.table.now.items c.loop-e.table.items c.loop-e.e
    c.place.result c.index-slopes-e.result c.place.ensures (within_list c.args.slopes.now c.loop-e.e zero_frac _ c.loop-e-test.true c.index-slopes-e.is) c.loop-e.invariant
    ∙ c.in_ok-add_share.ensures.ok

pub returns-in_err-add_share-clause-passes : goal.returns-in_err-add_share-clause-passes
returns-in_err-add_share-clause-passes c =
    let r = err_from_is_err_and c.from_residual.result c.from_residual.ensures.1 in
    rw (r.1, r.2) (below-within-some c.args.table.now.items (λ e. share_to c.args.places.now.tree.now (positions c.args.places.now.args.now) c.args.argument e (Ok (frac_in c.args.slopes.now e)))
    (c.loop-e.e + 1)
    (length c.args.slopes.now) c.in_err-add_share.field-0.0 (omega (arith, c.loop-e-test.true))
    (slope_next c.args.places.now.tree.now c.args.places.now.args.now c.args.argument (frac_in c.args.slopes.now) c.args.table.now.items c.loop-e.table.items c.loop-e.e
    c.place.result c.index-slopes-e.result c.place.ensures (within_list c.args.slopes.now c.loop-e.e zero_frac _ c.loop-e-test.true c.index-slopes-e.is) c.loop-e.invariant
    ∙ c.in_err-add_share.ensures.passes))
