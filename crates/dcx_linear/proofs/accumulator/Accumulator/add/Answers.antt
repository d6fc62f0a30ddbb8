-- The constant is added and then the terms, slot by slot: so the form is added, or its first operation passes.
use Rattle.std.proofs.Common.{Ok, Err, subst}
use Rattle.std.proofs.lemmas.Result.{err_from_is_err_and}
use Rattle.dcx_linear.specs.FormTerms.{unknown_of, has_zero_coefficient, sum_gives_unknown}
use Rattle.dcx_linear.specs.Forms.{sum_gives_linear}
use Rattle.dcx_linear.specs.Slots.{listed_from, accumulated}
use Rattle.dcx_linear.specs.Stops.{OnPass, OnPass-weaker}
use Rattle.dcx_linear.specs.Terms.{SumsTerms}
use Rattle.dcx_linear.proofs.Answered.{GivesBy-weaker}
use Rattle.dcx_linear.proofs.SlotSums.{constant_passes, form_added, term_of_form_passes}
use Rattle.dcx_linear.proofs.accumulator.Accumulator.add.Goals as goal

pub returns-in_err-self-inside : goal.returns-in_err-self-inside
returns-in_err-self-inside g c =
    let p = err_from_is_err_and c.from_residual.result c.from_residual.ensures.1 in
    let t = g.C.Coef in
    let inside = c.self.inside in
    rw (p.1, p.2)
    (OnPass-weaker _ (λ passes. t.sum_gives inside.constant c.args.form.constant (Err passes)) (λ passes. sum_gives_linear t.number_of t.sum_gives c.args.self.now c.args.form (Err passes))
    (λ passes h. constant_passes t.number_of t.sum_gives c.args.self.now c.args.form inside.constant inside.slots.items c.self.view_is c.into_vec-terms.ensures.sparse passes h)
    (subst (λ x. OnPass c.in_err-self-inside.field-0.0 (λ passes. t.sum_gives x c.args.form.constant (Err passes))) c.replace-before.ensures.value (c.in_err-self-inside.ensures {u = tt})))

pub returns : goal.returns
returns g c =
    let t = g.C.Coef in
    let inside = c.self.inside in
    let sum = c.in_ok-self-inside.field-0 in
    let ds = c.add_terms.new.slots.items in
    let summed = subst (λ x. t.sum_gives x c.args.form.constant (Ok sum)) c.replace-before.ensures.value (c.in_ok-self-inside.ensures {u = tt}) in
    let start = listed_from t.number_of 0 inside.slots.items in
    GivesBy-weaker c.add_terms.result (λ _. listed_from t.number_of 0 ds) (λ _. accumulated t.number_of sum ds) (SumsTerms unknown_of (has_zero_coefficient t.number_of)
    (sum_gives_unknown t.sum_gives) start c.into_vec-terms.result.items)
    (sum_gives_linear t.number_of t.sum_gives c.args.self.now c.args.form)
    (λ _ h. form_added t.number_of t.sum_gives c.args.self.now c.args.form inside.constant inside.slots.items c.self.view_is c.into_vec-terms.ensures.sparse sum summed
    c.into_vec-terms.result.items c.into_vec-terms.ensures.items ds h)
    (λ passes h. term_of_form_passes t.number_of t.sum_gives c.args.self.now c.args.form inside.constant inside.slots.items c.self.view_is c.into_vec-terms.ensures.sparse sum
    summed c.into_vec-terms.result.items c.into_vec-terms.ensures.items passes h)
    c.add_terms.ensures.sum
