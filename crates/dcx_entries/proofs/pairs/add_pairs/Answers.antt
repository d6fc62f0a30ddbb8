-- The sum has the pairs passed: one more is added, or it is the first that stops.
use Rattle.std.proofs.Common.{Err, get_or, arith}
use Rattle.std.proofs.lemmas.Result.{err_from_is_err_and}
use Rattle.dcx_unknowns.proofs.Products.{own_item}
use Rattle.dcx_linear.specs.Stops.{OnPass-weaker}
use Rattle.dcx_entries.specs.Sums.{adds_pair, adds_each}
use Rattle.dcx_entries.specs.Standing.{args_of}
use Rattle.dcx_entries.proofs.Folds.{goes, stops, ends}
use Rattle.dcx_entries.proofs.pairs.add_pairs.Goals as goal

pub returns-in_err-add_pair : goal.returns-in_err-add_pair
returns-in_err-add_pair g c =
    let t = g.C.Coef in
    let p = err_from_is_err_and c.from_residual.result c.from_residual.ensures.1 in
    let x = get_or c.args.pairs.now c.pairs.pair-index (record { left = 0; right = 0 }) in
    rw (p.1, p.2)
    (OnPass-weaker _ (λ passes. adds_pair t.number_of t.sum_gives t.change_gives c.args.scaling (args_of t.of_number c.args.args.now) x c.pairs.sum (Err passes))
    (λ passes. adds_each (adds_pair t.number_of t.sum_gives t.change_gives c.args.scaling (args_of t.of_number c.args.args.now)) c.args.pairs.now c.args.sum.now (Err passes))
    (λ passes h. stops (adds_pair t.number_of t.sum_gives t.change_gives c.args.scaling (args_of t.of_number c.args.args.now)) c.args.sum.now c.args.pairs.now c.pairs.pair-index x (omega arith)
    (own_item c.args.pairs.now c.pairs.pair-index (record { left = 0; right = 0 }) (omega arith)) c.pairs.sum passes h c.pairs.invariant)
    c.in_err-add_pair.ensures)

pub pairs-preserved : goal.pairs-preserved
pairs-preserved g c =
    let t = g.C.Coef in
    let x = get_or c.args.pairs.now c.pairs.pair-index (record { left = 0; right = 0 }) in
    goes (adds_pair t.number_of t.sum_gives t.change_gives c.args.scaling (args_of t.of_number c.args.args.now)) c.args.sum.now c.args.pairs.now c.pairs.pair-index x (omega arith)
    (own_item c.args.pairs.now c.pairs.pair-index (record { left = 0; right = 0 }) (omega arith)) c.pairs.sum c.add_pair.new.sum c.in_ok-add_pair.ensures c.pairs.invariant

pub returns : goal.returns
returns g c =
    let t = g.C.Coef in
    ends (adds_pair t.number_of t.sum_gives t.change_gives c.args.scaling (args_of t.of_number c.args.args.now)) c.args.sum.now c.args.pairs.now c.pairs.pair-index c.pairs.sum
    (omega arith) c.pairs.invariant
