-- The sum so far names no other unknowns.
use Rattle.std.proofs.Common.{◌≤◌}
use Rattle.dcx_linear.specs.Widths.{form_width}
use Rattle.dcx_tableau_cases.proofs.given.form.Given as goal

abbrev pub invariant-words : goal.invariant-words
invariant-words l = form_width l.total ≤ l.count
