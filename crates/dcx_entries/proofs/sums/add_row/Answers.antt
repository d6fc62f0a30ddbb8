-- The sum has the terms of the row that are passed: one more is added, or it is the first that stops.
use Rattle.std.proofs.Common.{Err, map, sym, subst, arith}
use Rattle.std.proofs.lemmas.Result.{err_from_is_err_and}
use Rattle.dcx_linear.specs.Stops.{OnPass-weaker}
use Rattle.dcx_linear.specs.Parts.{adds_parts}
use Rattle.dcx_atom.specs.Graph.{row_term}
use Rattle.dcx_entries.specs.Parts.{row_part}
use Rattle.dcx_entries.specs.Standing.{args_of, IsOperand}
use Rattle.dcx_entries.specs.Sums.{adds}
use Rattle.dcx_entries.proofs.Folds.{made_goes, made_stops, made_ends}
use Rattle.dcx_entries.proofs.sums.add_row.Goals as goal

pub add_operand-requires : goal.add_operand-requires
add_operand-requires g c =
    subst (λ x. IsOperand c.args.first x.operand) (sym c.term-item.is) (c.requires c.terms.term-index c.term-item.result (omega arith))

pub returns-in_err-add_operand : goal.returns-in_err-add_operand
returns-in_err-add_operand g c =
    let t = g.C.Coef in
    let p = err_from_is_err_and c.from_residual.result c.from_residual.ensures.1 in
    rw (p.1, p.2)
    (OnPass-weaker _ (λ passes. adds t.number_of t.sum_gives t.change_gives (row_part t.of_number (args_of t.of_number c.args.args.now) c.args.first (row_term c.term-item.result)) c.terms.sum
    (Err passes)) (λ passes. adds_parts t.number_of t.sum_gives t.change_gives
    (map (row_part t.of_number (args_of t.of_number c.args.args.now) c.args.first) (map row_term c.args.terms.now)) c.args.sum.now (Err passes))
    (λ passes h. made_stops t.number_of t.sum_gives t.change_gives row_term
    (row_part t.of_number (args_of t.of_number c.args.args.now) c.args.first) c.args.sum.now c.args.terms.now c.terms.term-index c.term-item.result
    (omega arith) c.term-item.is c.terms.sum passes h c.terms.invariant)
    c.in_err-add_operand.ensures)

pub terms-preserved : goal.terms-preserved
terms-preserved g c =
    let t = g.C.Coef in
    made_goes t.number_of t.sum_gives t.change_gives row_term (row_part t.of_number (args_of t.of_number c.args.args.now) c.args.first) c.args.sum.now c.args.terms.now c.terms.term-index
    c.term-item.result (omega arith) c.term-item.is c.terms.sum c.add_operand.new.sum c.in_ok-add_operand.ensures c.terms.invariant

pub returns : goal.returns
returns g c =
    let t = g.C.Coef in
    made_ends t.number_of t.sum_gives t.change_gives row_term (row_part t.of_number (args_of t.of_number c.args.args.now) c.args.first) c.args.sum.now c.args.terms.now c.terms.term-index
    c.terms.sum (omega arith) c.terms.invariant
