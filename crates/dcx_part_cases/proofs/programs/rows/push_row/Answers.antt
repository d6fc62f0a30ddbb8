-- One more row reaches to no other unknowns.
use Rattle.std.proofs.Common.{◌≤◌, sym, subst}
use Rattle.dcx_linear.specs.Widths.{rows_width}
use Rattle.dcx_part_cases.proofs.Widths.{more_narrow}
use Rattle.dcx_part_cases.proofs.programs.rows.push_row.Goals as goal

pub returns : goal.returns
returns c = subst (λ rs. rows_width rs ≤ c.args.count) (sym c.in_ok-push.ensures.items) (more_narrow c.args.count c.args.rows.now.items c.in_ok-row.field-0 c.requires c.in_ok-row.ensures)
