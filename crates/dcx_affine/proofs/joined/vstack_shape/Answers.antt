-- The sides of arrays one below the other.
use Rattle.std.proofs.Common.{◌∙◌, sym, ap, if◌then◌else◌, None}
use Rattle.dcx_shape.specs.declared.shape.Sides.TheVariants.{Matrix}
use Rattle.dcx_atom.specs.Arrays.{sides_list}
use Rattle.dcx_affine.specs.declared.slots.Line.TheVariants.{Row}
use Rattle.dcx_affine.specs.Places.{limited}
use Rattle.dcx_affine.specs.Joined.{all_lines}
use Rattle.dcx_affine.proofs.Stacks.{made, vstack_by}
use Rattle.dcx_affine.proofs.joined.vstack_shape.Goals as goal

pub returns-then-have_columns : goal.returns-then-have_columns
returns-then-have_columns c =
    let args = c.args.args.now in
    let cols = c.cols-cols.result in
    let total = all_lines Row (sides_list args) in
    let by = vstack_by args c.in_ok-first.field-0.now cols c.have_columns.result c.in_ok-first.ensures.value c.cols-cols.ensures c.have_columns.ensures in
    made c.matrix.result (Matrix c.in_ok-total.total cols) c.matrix.ensures.exists c.matrix.ensures.sides ∙ ap (λ n. limited (Matrix n cols)) c.in_ok-total.ensures.sum
    ∙ sym (by ∙ ap (λ b. if b then limited (Matrix total cols) else None) c.if-have_columns.true)

pub returns-else-have_columns : goal.returns-else-have_columns
returns-else-have_columns c =
    let args = c.args.args.now in
    let cols = c.cols-cols.result in
    let by = vstack_by args c.in_ok-first.field-0.now cols c.have_columns.result c.in_ok-first.ensures.value c.cols-cols.ensures c.have_columns.ensures in
    sym (by ∙ ap (λ b. if b then limited (Matrix (all_lines Row (sides_list args)) cols) else None) c.if-have_columns.false)
