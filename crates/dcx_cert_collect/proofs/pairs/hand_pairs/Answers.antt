-- The next entry is handed on.
use Rattle.std.proofs.Common.{ℕ, ◌∙◌, ◌+◌, ◌<◌, arith, ap₂, List, [], length, map, get_or}
use Rattle.std.proofs.lemmas.Result.{err_from_is_err_and}
use Rattle.dcx_frac.specs.declared.fraction.Frac.{Frac}
use Rattle.dcx_affine.specs.declared.pairing.Pair.{Pair}
use Rattle.dcx_atom.specs.Formed.{zero_frac}
use Rattle.dcx_arena.specs.Nodes.{positions}
use Rattle.dcx_cert_collect.specs.Shares.{frac_in}
use Rattle.dcx_cert_collect.specs.Calls.{pair_share}
use Rattle.dcx_cert_collect.proofs.Sharing.{within_list, entry-next, joined-within-some}
use Rattle.dcx_cert_collect.proofs.pairs.hand_pairs.Goals as goal

pub loop-j-preserved : goal.loop-j-preserved
loop-j-preserved c =
    let shares = λ (x : Frac) (ts : List Pair). map (pair_share c.args.places.now.tree.now (positions c.args.places.now.args.now) c.args.scaling c.args.numbers.now x) ts in
    let f = λ (j : ℕ). shares (frac_in c.args.coefficients.now j) (get_or c.args.pairs.now j []) in
    let b : c.loop-j.j < length c.args.pairs.now = omega (arith, c.loop-j-test.true, c.requires.pairs) in
    entry-next c.args.table.now.items c.loop-j.table.items f c.loop-j.j (shares c.index-coefficients-j.result c.as_slice.result.now)
    (ap₂ shares (within_list c.args.coefficients.now c.loop-j.j zero_frac _ c.loop-j-test.true c.index-coefficients-j.is)
    (c.as_slice.ensures ∙ within_list c.args.pairs.now c.loop-j.j [] _ b c.index-pairs-j.is))
    c.loop-j.invariant ∙ c.in_ok-hand_entry.ensures.ok

pub returns-in_err-hand_entry-clause-passes : goal.returns-in_err-hand_entry-clause-passes
returns-in_err-hand_entry-clause-passes c =
    let r = err_from_is_err_and c.from_residual.result c.from_residual.ensures.1 in
    let shares = λ (x : Frac) (ts : List Pair). map (pair_share c.args.places.now.tree.now (positions c.args.places.now.args.now) c.args.scaling c.args.numbers.now x) ts in
    let f = λ (j : ℕ). shares (frac_in c.args.coefficients.now j) (get_or c.args.pairs.now j []) in
    let b : c.loop-j.j < length c.args.pairs.now = omega (arith, c.loop-j-test.true, c.requires.pairs) in
    rw (r.1, r.2) (joined-within-some c.args.table.now.items f (c.loop-j.j + 1) (length c.args.coefficients.now) c.in_err-hand_entry.field-0.0 (omega (arith, c.loop-j-test.true))
    (entry-next c.args.table.now.items c.loop-j.table.items f c.loop-j.j (shares c.index-coefficients-j.result c.as_slice.result.now)
    (ap₂ shares (within_list c.args.coefficients.now c.loop-j.j zero_frac _ c.loop-j-test.true c.index-coefficients-j.is)
    (c.as_slice.ensures ∙ within_list c.args.pairs.now c.loop-j.j [] _ b c.index-pairs-j.is))
    c.loop-j.invariant ∙ c.in_err-hand_entry.ensures.passes))
