-- The next entry is handed on.
use Rattle.std.proofs.Common.{ℕ, ◌∙◌, ◌+◌, ◌<◌, arith, ap₂, List, [], length, map, get_or}
use Rattle.std.proofs.lemmas.Result.{err_from_is_err_and}
use Rattle.dcx_frac.specs.declared.fraction.Frac.{Frac}
use Rattle.dcx_atom.specs.declared.terms.Triple.{Triple}
use Rattle.dcx_atom.specs.Formed.{zero_frac}
use Rattle.dcx_atom.specs.Linear.{linear_term}
use Rattle.dcx_arena.specs.Nodes.{positions}
use Rattle.dcx_cert_collect.specs.Shares.{frac_in}
use Rattle.dcx_cert_collect.specs.Calls.{term_share}
use Rattle.dcx_cert_collect.proofs.Sharing.{within_list, entry-next, joined-within-some}
use Rattle.dcx_cert_collect.proofs.linear.hand_linear.Goals as goal

pub loop-j-preserved : goal.loop-j-preserved
loop-j-preserved c =
    let shares = λ (x : Frac) (ts : List Triple). map (term_share c.args.places.now.tree.now (positions c.args.places.now.args.now) x) (map linear_term ts) in
    let f = λ (j : ℕ). shares (frac_in c.args.coefficients.now j) (get_or c.args.terms.now j []) in
    let b : c.loop-j.j < length c.args.terms.now = omega (arith, c.loop-j-test.true, c.requires.terms) in
    entry-next c.args.table.now.items c.loop-j.table.items f c.loop-j.j (shares c.index-coefficients-j.result c.as_slice.result.now)
    (ap₂ shares (within_list c.args.coefficients.now c.loop-j.j zero_frac _ c.loop-j-test.true c.index-coefficients-j.is)
    (c.as_slice.ensures ∙ within_list c.args.terms.now c.loop-j.j [] _ b c.index-terms-j.is))
    c.loop-j.invariant ∙ c.in_ok-hand_terms.ensures.ok

pub returns-in_err-hand_terms-clause-passes : goal.returns-in_err-hand_terms-clause-passes
returns-in_err-hand_terms-clause-passes c =
    let r = err_from_is_err_and c.from_residual.result c.from_residual.ensures.1 in
    let shares = λ (x : Frac) (ts : List Triple). map (term_share c.args.places.now.tree.now (positions c.args.places.now.args.now) x) (map linear_term ts) in
    let f = λ (j : ℕ). shares (frac_in c.args.coefficients.now j) (get_or c.args.terms.now j []) in
    let b : c.loop-j.j < length c.args.terms.now = omega (arith, c.loop-j-test.true, c.requires.terms) in
    rw (r.1, r.2) (joined-within-some c.args.table.now.items f (c.loop-j.j + 1) (length c.args.coefficients.now) c.in_err-hand_terms.field-0.0 (omega (arith, c.loop-j-test.true))
    (entry-next c.args.table.now.items c.loop-j.table.items f c.loop-j.j (shares c.index-coefficients-j.result c.as_slice.result.now)
    (ap₂ shares (within_list c.args.coefficients.now c.loop-j.j zero_frac _ c.loop-j-test.true c.index-coefficients-j.is)
    (c.as_slice.ensures ∙ within_list c.args.terms.now c.loop-j.j [] _ b c.index-terms-j.is))
    c.loop-j.invariant ∙ c.in_err-hand_terms.ensures.passes))
