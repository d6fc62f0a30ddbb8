-- The next row comes behind those so far.
use Rattle.std.proofs.Common.{rules, ◌<◌, ◌++◌, ◌∷◌, [], map, length, take, pos, arith, ap, ap₂, sym, ◌∙◌, to_z-of_z, SFits}
use Rattle.std.specs.Int.{w128}
use Rattle.std.proofs.lemmas.List.{get_or-map, length-map}
use Rattle.dcx_tab.specs.Program.{tableau_row}
use Rattle.dcx_tab.specs.Cells.{joined}
use Rattle.dcx_tab.proofs.Joined.{joined-more}
use Rattle.dcx_tab.proofs.build.push_rows.Goals as goal

pub rows-preserved : goal.rows-preserved
rows-preserved c =
    let rows = c.args.rows.now in
    let i = c.rows.row-index in
    let h : i < length rows = omega arith in
    let r = c.row-item.result in
    let f : SFits w128 r.right = search rules in
    let e = ap tableau_row c.row-item.is ∙ sym (get_or-map tableau_row rows i r [] h) in
    (simp to_z-of_z at c.in_ok-push_row.ensures)
    ∙ ap₂ (λ cells entries. cells ++ (entries ++ pos 0 ∷ pos 0 ∷ r.right ∷ [])) c.rows.invariant c.as_slice.ensures
    ∙ ap (λ row. (c.args.cells.now.items ++ joined (take i (map tableau_row rows))) ++ row) e
    ∙ sym (joined-more c.args.cells.now.items (map tableau_row rows) i (omega (arith, length-map rows tableau_row)))
