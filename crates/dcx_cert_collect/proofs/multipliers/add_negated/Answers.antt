-- The next entry gets its number, negated.
use Rattle.std.proofs.Common.{ℕ, ◌∙◌, ◌+◌, arith, ap, sym, Some, Ok}
use Rattle.std.proofs.lemmas.Result.{err_from_is_err_and}
use Rattle.dcx_math.specs.Rational.{neg_ℚ}
use Rattle.dcx_frac.specs.declared.fraction.Frac.{Frac}
use Rattle.dcx_frac.specs.Frac.{value}
use Rattle.dcx_shape.specs.Shape.{sides_of}
use Rattle.dcx_shape.specs.Sides.{entries_of}
use Rattle.dcx_atom.specs.Formed.{frac_at}
use Rattle.dcx_atom.proofs.FormedSums.{frac_at-value}
use Rattle.dcx_cert_collect.specs.Shares.{frac_in, share_of}
use Rattle.dcx_cert_collect.specs.Starts.{place_of}
use Rattle.dcx_cert_collect.proofs.Sharing.{below-within-some}
use Rattle.dcx_cert_collect.proofs.Arguments.{number_next}
use Rattle.dcx_cert_collect.proofs.multipliers.add_negated.Goals as goal

pub loop-e-preserved : goal.loop-e-preserved
loop-e-preserved c =
    let number = λ (e : ℕ). frac_at (neg_ℚ (value (frac_in c.args.array.now.entries e))) in
    number_next c.args.tree.now c.args.node.0 number c.args.table.now.items c.loop-e.table.items c.loop-e.e c.place_of.result c.neg-number.result c.place_of.ensures
    (sym (frac_at-value c.neg-number.result) ∙ ap frac_at (c.neg-number.ensures ∙ ap (λ (x : Frac). neg_ℚ (value x)) c.entry_of.ensures))
    c.loop-e.invariant ∙ c.in_ok-add_share.ensures.ok

pub returns-in_err-add_share-clause-passes : goal.returns-in_err-add_share-clause-passes
returns-in_err-add_share-clause-passes c =
    let r = err_from_is_err_and c.from_residual.result c.from_residual.ensures.1 in
    let number = λ (e : ℕ). frac_at (neg_ℚ (value (frac_in c.args.array.now.entries e))) in
    rw (r.1, r.2) (below-within-some c.args.table.now.items (λ e. share_of (place_of c.args.tree.now (Some c.args.node.0) e) (Ok (number e))) (c.loop-e.e + 1)
    (entries_of (sides_of c.args.array.now.shape))
    c.in_err-add_share.field-0.0 (omega (arith, c.loop-e-test.true, c.size-e-end.ensures.value))
    (number_next c.args.tree.now c.args.node.0 number c.args.table.now.items c.loop-e.table.items c.loop-e.e c.place_of.result c.neg-number.result c.place_of.ensures
    (sym (frac_at-value c.neg-number.result) ∙ ap frac_at (c.neg-number.ensures ∙ ap (λ (x : Frac). neg_ℚ (value x)) c.entry_of.ensures))
    c.loop-e.invariant ∙ c.in_err-add_share.ensures.passes))
