-- The variables before the one whose entry fails pass.
use Rattle.std.proofs.Common.{◌≡◌, List, length, Some, refl, ap, ◌∙◌, subst, arith, below_more}
use Rattle.std.specs.List.{slice_get}
use Rattle.std.proofs.lemmas.Option.{slice_get_read}
use Rattle.std.proofs.lemmas.Result.{err_from_is_err_and}
use Rattle.dcx_call.specs.declared.attribute.Variable.{Variable}
use Rattle.dcx_tree.proofs.Few.{few_variables}
use Rattle.dcx_cert_sections.proofs.Turns.{each_fails}
use Rattle.dcx_cert_bound.specs.Variables.{variable_check}
use Rattle.dcx_cert_bound.proofs.Stepping.{variable_passes, variable_fails}
use Rattle.dcx_cert_bound.proofs.variables.check_variables.Goals as goal

pub overflow_cast-k : goal.overflow_cast-k
overflow_cast-k c =
    let few = few_variables c.args.problem.now in
    let same = ap length c.as_slice-variable-items.ensures in
    let below = c.loop-k-test.true in
    omega (arith, few, same, below)

pub returns-in_err-check_entries : goal.returns-in_err-check_entries
returns-in_err-check_entries c =
    let r = err_from_is_err_and c.from_residual-in_err-check_entries.result c.from_residual-in_err-check_entries.ensures.1 in
    let p = c.args.problem.now in
    let reached = c.args.reached.now in
    let xs = c.as_slice-variable-items.result.now in
    let k = c.loop-k.k in
    let x = c.variable-item.result in
    let same = ap length c.as_slice-variable-items.ensures in
    let below = c.loop-k-test.true in
    let at : slice_get p.variables k ≡ Some x =
    subst (λ (vs : List Variable). slice_get vs k ≡ Some x) c.as_slice-variable-items.ensures (slice_get_read xs (length xs) k x refl below c.variable-item.is) in
    rw (r.1, r.2)
    (each_fails (length p.variables) (λ m. variable_check p.tree reached m (slice_get p.variables m)) k _ (omega (arith, below, same)) c.loop-k.invariant
    (variable_fails p reached k x c.coefficients_of-coefficients.result.now at (c.coefficients_of-coefficients.ensures ∙ c.in_ok-places.ensures x.name) _ c.in_err-check_entries.ensures))

pub loop-k-preserved : goal.loop-k-preserved
loop-k-preserved c =
    let p = c.args.problem.now in
    let reached = c.args.reached.now in
    let xs = c.as_slice-variable-items.result.now in
    let k = c.loop-k.k in
    let x = c.variable-item.result in
    let at : slice_get p.variables k ≡ Some x =
    subst (λ (vs : List Variable). slice_get vs k ≡ Some x) c.as_slice-variable-items.ensures (slice_get_read xs (length xs) k x refl c.loop-k-test.true c.variable-item.is) in
    below_more (λ m. (variable_check p.tree reached m (slice_get p.variables m)).passes) k c.loop-k.invariant
    (variable_passes p reached k x c.coefficients_of-coefficients.result.now at (c.coefficients_of-coefficients.ensures ∙ c.in_ok-places.ensures x.name) c.in_ok-check_entries.ensures)
