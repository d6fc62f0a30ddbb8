-- The right side times -1 is formed and then added to the left one, and the first of the two that stops is the stop.
use Rattle.std.proofs.Common.{Ok, Err, inl, subst}
use Rattle.std.proofs.lemmas.Result.{err_from_is_err_and}
use Rattle.dcx_linear.specs.declared.change.Change.TheVariants.{Scale}
use Rattle.dcx_linear.specs.Forms.{sum_gives_linear, change_gives_linear}
use Rattle.dcx_linear.specs.Stops.{OnPass-weaker}
use Rattle.dcx_linear.specs.Parts.{adds_part}
use Rattle.dcx_linear.proofs.Answered.{Gives-weaker}
use Rattle.dcx_entries.specs.Standing.{all_forms, found_form}
use Rattle.dcx_graph.specs.Program.{minus_one, form_at}
use Rattle.dcx_graph.proofs.Sides.{scaled, then_added}
use Rattle.dcx_graph.proofs.side.difference.Goals as goal

pub returns-in_err-negated : goal.returns-in_err-negated
returns-in_err-negated g c =
    let t = g.C.Coef in
    let forms = all_forms t.of_number c.args.standing.now in
    let left = form_at t.of_number forms c.args.left.0 c.args.entry in
    let right = form_at t.of_number forms c.args.right.0 c.args.entry in
    let found = found_form t.of_number c.node_entry-subtracted.result in
    let p = err_from_is_err_and c.from_residual.result c.from_residual.ensures.1 in
    rw (p.1, p.2)
    (OnPass-weaker _ (λ passes. change_gives_linear t.number_of t.change_gives (Scale c.minus_one.result) found (Err passes))
    (λ passes. adds_part t.number_of t.sum_gives t.change_gives left (Scale minus_one) right (Err passes))
    (λ passes h. inl (scaled t.number_of t.sum_gives t.change_gives c.minus_one.result found right (Err passes) c.minus_one.ensures c.node_entry-subtracted.ensures h))
    c.in_err-negated.ensures)

pub returns : goal.returns
returns g c =
    let t = g.C.Coef in
    let forms = all_forms t.of_number c.args.standing.now in
    let left = form_at t.of_number forms c.args.left.0 c.args.entry in
    let right = form_at t.of_number forms c.args.right.0 c.args.entry in
    let found = found_form t.of_number c.node_entry-subtracted.result in
    let negated = c.in_ok-negated.negated in
    let change = scaled t.number_of t.sum_gives t.change_gives c.minus_one.result found right (Ok negated) c.minus_one.ensures c.node_entry-subtracted.ensures c.in_ok-negated.ensures in
    Gives-weaker c.added_to_entry.result (sum_gives_linear t.number_of t.sum_gives (found_form t.of_number c.node_entry.result) negated)
    (adds_part t.number_of t.sum_gives t.change_gives left (Scale minus_one) right)
    (λ q h. then_added t.number_of t.sum_gives t.change_gives left right negated q change (subst (λ f. sum_gives_linear t.number_of t.sum_gives f negated q) c.node_entry.ensures h))
    c.added_to_entry.ensures
