-- One more row has its weight, or the first one passes.
use Rattle.std.proofs.Common.{◌∙◌, sym, map, arith}
use Rattle.std.specs.List.{zip}
use Rattle.dcx_cert_sections.specs.Outlines.{rows_shown}
use Rattle.dcx_lp_answer.proofs.Passing.{passes_next}
use Rattle.dcx_cert_build.specs.Weights.{row_weight}
use Rattle.dcx_cert_build.proofs.Formed.{RowOf, row_there, weights_more, weights_all}
use Rattle.dcx_cert_build.proofs.forming.row_weights.Goals as goal

pub returns-in-Err-clause-stops : goal.returns-in-Err-clause-stops
returns-in-Err-clause-stops c =
    let from = c.args.reduced.now.program.origins in
    let notes = c.args.answer.now.rows in
    let there = row_there from notes c.as_slice-note-items.result.now c.rows.row c.origin.result c.note-item.result c.origin.ensures c.rows-test.true c.note-item.is c.as_slice-note-items.ensures in
    passes_next (λ (r : RowOf). row_weight (map rows_shown c.args.atoms.now) c.args.answer.now.status r.0 r.1) (zip from notes) c.rows.weights.items c.rows.row (c.origin.result, c.note-item.result)
    there.0 there.1 c.rows.invariant 0 c.rows.row c.in-Err.passes (sym c.row_weight.ensures ∙ c.in-Err.is) (omega arith)

pub rows-preserved : goal.rows-preserved
rows-preserved c =
    let from = c.args.reduced.now.program.origins in
    let notes = c.args.answer.now.rows in
    let there = row_there from notes c.as_slice-note-items.result.now c.rows.row c.origin.result c.note-item.result c.origin.ensures c.rows-test.true c.note-item.is c.as_slice-note-items.ensures in
    weights_more (λ (r : RowOf). row_weight (map rows_shown c.args.atoms.now) c.args.answer.now.status r.0 r.1) (zip from notes) c.rows.weights.items c.push.new.self.items c.rows.row
    (c.origin.result, c.note-item.result)
    there.0 there.1 c.rows.invariant c.in-Ok.weight (sym c.row_weight.ensures ∙ c.in-Ok.is) c.in_ok-push-in-Ok.ensures.items

pub returns-clause-made : goal.returns-clause-made
returns-clause-made c =
    weights_all (λ (r : RowOf). row_weight (map rows_shown c.args.atoms.now) c.args.answer.now.status r.0 r.1) c.args.reduced.now.program.origins c.args.answer.now.rows
    c.as_slice-note-items.result.now c.rows.weights.items c.rows.row
    c.as_slice-note-items.ensures c.rows-test.false c.rows.invariant
