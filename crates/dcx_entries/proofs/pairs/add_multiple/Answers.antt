-- The product is formed and then added, and the first of the two that stops is the stop.
use Rattle.std.proofs.Common.{Ok, Err, inl, inr, subst}
use Rattle.std.proofs.lemmas.Result.{err_from_is_err_and}
use Rattle.dcx_linear.specs.Forms.{sum_gives_linear}
use Rattle.dcx_linear.specs.Stops.{OnPass-weaker}
use Rattle.dcx_linear.specs.Multiples.{multiple_gives}
use Rattle.dcx_linear.proofs.Answered.{GivesBy-weaker}
use Rattle.dcx_entries.specs.Sums.{adds_multiple}
use Rattle.dcx_entries.specs.Standing.{args_of}
use Rattle.dcx_entries.proofs.pairs.add_multiple.Goals as goal

pub returns-in_err-part : goal.returns-in_err-part
returns-in_err-part g c =
    let t = g.C.Coef in
    let p = err_from_is_err_and c.from_residual-in_err-part.result c.from_residual-in_err-part.ensures.1 in
    rw (p.1, p.2)
    (OnPass-weaker _ (λ passes. multiple_gives t.number_of t.change_gives c.in_ok-coefficient.coefficient (args_of t.of_number c.args.args.now c.args.scaled.0 c.args.scaled.1) (Err passes))
    (λ passes. adds_multiple t.number_of t.sum_gives t.change_gives (args_of t.of_number c.args.args.now c.args.scaler.0 c.args.scaler.1).constant
    (args_of t.of_number c.args.args.now c.args.scaled.0 c.args.scaled.1) c.args.sum.now (Err passes))
    (λ passes h. inl (subst (λ k. multiple_gives t.number_of t.change_gives k (args_of t.of_number c.args.args.now c.args.scaled.0 c.args.scaled.1) (Err passes)) c.in_ok-coefficient.ensures h))
    c.in_err-part.ensures)

pub returns : goal.returns
returns g c =
    let t = g.C.Coef in
    let product = subst (λ k. multiple_gives t.number_of t.change_gives k (args_of t.of_number c.args.args.now c.args.scaled.0 c.args.scaled.1) (Ok c.in_ok-part.part)) c.in_ok-coefficient.ensures
    (c.in_ok-part.ensures {u = tt}) in
    GivesBy-weaker c.add.result (λ _. c.add.new.self) (λ _. c.add.new.self) (sum_gives_linear t.number_of t.sum_gives c.args.sum.now c.in_ok-part.part)
    (adds_multiple t.number_of t.sum_gives t.change_gives (args_of t.of_number c.args.args.now c.args.scaler.0 c.args.scaler.1).constant
    (args_of t.of_number c.args.args.now c.args.scaled.0 c.args.scaled.1) c.args.sum.now)
    (λ _ h. (c.in_ok-part.part, product, h)) (λ passes h. inr (c.in_ok-part.part, product, h)) c.add.ensures
