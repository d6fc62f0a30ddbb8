-- One more is the same, or is the first that isn't.
use Rattle.std.proofs.Common.{arith, below_more}
use Rattle.std.specs.Option.{option_copied}
use Rattle.std.proofs.lemmas.Result.{err_from_is_err_and}
use Rattle.dcx_shape.specs.Shape.{sides_of}
use Rattle.dcx_shape.specs.Sides.{entries_of}
use Rattle.dcx_cert_sections.proofs.Turns.{each_fails}
use Rattle.dcx_cert_check.specs.Numbers.{number_if}
use Rattle.dcx_cert_check.specs.SingleChecks.{entry_is}
use Rattle.dcx_cert_check.proofs.Steps.{all_passed}
use Rattle.dcx_cert_check.proofs.Demands.{same_entry_passes, same_entry_fails}
use Rattle.dcx_cert_check.proofs.parameters.check_entries.Goals as goal

pub entries-preserved : goal.entries-preserved
entries-preserved c =
    below_more (λ j. (entry_is c.args.number j (number_if (option_copied c.args.told) j) (number_if (option_copied c.args.setting) j)).passes) c.entries.entry c.entries.invariant
    (same_entry_passes c.args.number c.entries.entry _ _ _ _ c.number_in.ensures c.number_in-in-entries.ensures c.in_ok-check_entry.ensures)

pub returns-in_err-check_entry : goal.returns-in_err-check_entry
returns-in_err-check_entry c =
    let r = err_from_is_err_and c.from_residual.result c.from_residual.ensures.1 in
    let size = c.size-entry-end.ensures.value in
    let below = c.entries-test.true in
    rw (r.1, r.2)
    (each_fails (entries_of (sides_of c.args.shape))
    (λ j. entry_is c.args.number j (number_if (option_copied c.args.told) j) (number_if (option_copied c.args.setting) j)) c.entries.entry _ (omega (arith, below, size)) c.entries.invariant
    (same_entry_fails c.args.number c.entries.entry _ _ _ _ _ c.number_in.ensures c.number_in-in-entries.ensures c.in_err-check_entry.ensures))

pub returns : goal.returns
returns c =
    let size = c.size-entry-end.ensures.value in
    let past = c.entries-test.false in
    all_passed (λ j. entry_is c.args.number j (number_if (option_copied c.args.told) j) (number_if (option_copied c.args.setting) j)) (entries_of (sides_of c.args.shape)) c.entries.entry
    (omega (arith, size, past)) c.entries.invariant
