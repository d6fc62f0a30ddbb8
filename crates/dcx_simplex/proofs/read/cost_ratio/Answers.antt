-- The row and its basic column are those of the status.
use Rattle.std.proofs.Common.{ap, ◌∙◌}
use Rattle.dcx_math.specs.Rational.{whole, ◌/ℚ◌}
use Rattle.dcx_tab.specs.Table.{entry_at}
use Rattle.dcx_simplex.specs.Basis.{lead_at}
use Rattle.dcx_simplex.proofs.read.cost_ratio.Goals as goal

pub returns : goal.returns
returns g c =
    let t = g.T.Tableau.table c.args.tableau.now in
    c.ratio.ensures ∙ ap (λ k. whole (entry_at t k c.args.column) /ℚ whole (lead_at t k)) c.cost_row-cost.ensures
