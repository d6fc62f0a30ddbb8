-- One more has its sign, or is the first that hasn't.
use Rattle.std.proofs.Common.{arith, below_more}
use Rattle.std.specs.Option.{option_copied}
use Rattle.std.proofs.lemmas.Result.{err_from_is_err_and}
use Rattle.dcx_shape.specs.Shape.{sides_of}
use Rattle.dcx_shape.specs.Sides.{entries_of}
use Rattle.dcx_cert_sections.proofs.Turns.{each_fails}
use Rattle.dcx_cert_check.specs.Numbers.{number_if}
use Rattle.dcx_cert_check.specs.SingleChecks.{multiplier_signed}
use Rattle.dcx_cert_check.proofs.Steps.{all_passed}
use Rattle.dcx_cert_check.proofs.Demands.{same_multiplier_passes, same_multiplier_fails}
use Rattle.dcx_cert_check.proofs.duals.check_multipliers.Goals as goal

pub entries-preserved : goal.entries-preserved
entries-preserved c =
    let kind = c.args.constraint.now.kind in
    below_more (λ j. (multiplier_signed kind c.args.number j (number_if (option_copied c.args.multipliers) j)).passes) c.entries.entry c.entries.invariant
    (same_multiplier_passes kind c.args.number c.entries.entry _ _ c.number_in.ensures c.in_ok-check_multiplier.ensures)

pub returns-in_err-check_multiplier : goal.returns-in_err-check_multiplier
returns-in_err-check_multiplier c =
    let r = err_from_is_err_and c.from_residual.result c.from_residual.ensures.1 in
    let kind = c.args.constraint.now.kind in
    let size = c.size-entry-end.ensures.value in
    let below = c.entries-test.true in
    rw (r.1, r.2)
    (each_fails (entries_of (sides_of c.args.constraint.now.shape))
    (λ j. multiplier_signed kind c.args.number j (number_if (option_copied c.args.multipliers) j)) c.entries.entry _ (omega (arith, below, size)) c.entries.invariant
    (same_multiplier_fails kind c.args.number c.entries.entry _ _ _ c.number_in.ensures c.in_err-check_multiplier.ensures))

pub returns : goal.returns
returns c =
    let size = c.size-entry-end.ensures.value in
    let past = c.entries-test.false in
    all_passed (λ j. multiplier_signed c.args.constraint.now.kind c.args.number j (number_if (option_copied c.args.multipliers) j))
    (entries_of (sides_of c.args.constraint.now.shape)) c.entries.entry (omega (arith, size, past)) c.entries.invariant
