-- The entries are read at the row, and the second is at its basic column.
use Rattle.std.proofs.Common.{ap, ap₂, ◌∙◌, sym, to_z-of_z, SFits}
use Rattle.std.specs.Int.{w128}
use Rattle.dcx_math.specs.Rational.{whole, ◌/ℚ◌}
use Rattle.dcx_tab.specs.Table.{entry_at}
use Rattle.dcx_simplex.proofs.read.ratio.Goals as goal

pub returns : goal.returns
returns g c =
    let t = g.T.Tableau.table c.args.tableau.now in
    let f1 : SFits w128 c.entry.result = record { sfits = c.entry.type_inv } in
    let f2 : SFits w128 c.entry-2.result = record { sfits = c.entry-2.type_inv } in
    let q = simp to_z-of_z at c.quotient.ensures in
    q ∙ ap₂ (λ a b. whole a /ℚ whole b) c.entry.ensures.value (c.entry-2.ensures.value ∙ ap (entry_at t c.args.row) (sym c.requires.lead))
