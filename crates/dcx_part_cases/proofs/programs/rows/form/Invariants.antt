-- The form so far names no unknown from the count on.
use Rattle.std.proofs.Common.{◌≤◌}
use Rattle.dcx_linear.specs.Widths.{form_width}
use Rattle.dcx_part_cases.proofs.programs.rows.form.Given as goal

abbrev pub invariant-loop-unknown : goal.invariant-loop-unknown
invariant-loop-unknown l = form_width l.form ≤ l.count
