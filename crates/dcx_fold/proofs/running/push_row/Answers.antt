-- The row is added behind the others.
use Rattle.std.proofs.Common.{◌∙◌, ap, map, [], ◌∷◌, ◌++◌}
use Rattle.std.proofs.lemmas.List.{map-append}
use Rattle.dcx_math.specs.Rational.{ℚ}
use Rattle.dcx_atom.specs.declared.flags.Bend.TheVariants.{Convex}
use Rattle.dcx_atom.specs.Bounding.{bound_row}
use Rattle.dcx_atom.specs.Graph.{PlacedRow, placed_row}
use Rattle.dcx_fold.proofs.running.push_row.Goals as goal

pub returns : goal.returns
returns c =
    let rows = c.args.rows.now.items in
    let j = c.args.entry in
    let placed : ℚ → PlacedRow = λ x. record { entry = j; row = bound_row Convex j (record { operand = c.args.operand; coefficient = x }) } in
    ap (map placed_row) c.in_ok-push.ensures.items ∙ map-append placed_row rows (c.in_ok-bounding_row.field-0 ∷ [])
    ∙ ap (λ (x : PlacedRow). map placed_row rows ++ x ∷ []) (c.in_ok-bounding_row.ensures ∙ ap placed c.one.ensures)
