-- The sides of arrays side by side.
use Rattle.std.proofs.Common.{◌∙◌, sym, ap, if◌then◌else◌, None}
use Rattle.dcx_shape.specs.declared.shape.Sides.TheVariants.{Vector, Matrix}
use Rattle.dcx_atom.specs.Arrays.{sides_list}
use Rattle.dcx_affine.specs.declared.slots.Line.TheVariants.{Column}
use Rattle.dcx_affine.specs.Places.{limited}
use Rattle.dcx_affine.specs.Joined.{all_lines, has_rows}
use Rattle.std.specs.List.{list_all}
use Rattle.dcx_shape.specs.Shape.{sides_of}
use Rattle.dcx_affine.proofs.Stacks.{made, hstack_by}
use Rattle.dcx_affine.proofs.joined.hstack_shape.Goals as goal
use Rattle.std.proofs.Common.{refl}

pub returns-then-are_flat : goal.returns-then-are_flat
returns-then-are_flat c =
    let args = c.args.args.now in
    let rows = c.rows-rows.result in
    let total = all_lines Column (sides_list args) in
    let same = list_all (λ s. has_rows rows (sides_of s)) args in
    let by = hstack_by args c.in_ok-first.field-0.now rows c.are_flat.result same c.in_ok-first.ensures.value c.rows-rows.ensures c.are_flat.ensures refl in
    made c.vector.result (Vector c.in_ok-total.total) c.vector.ensures.exists c.vector.ensures.sides ∙ ap (λ n. limited (Vector n)) c.in_ok-total.ensures.sum
    ∙ sym (by ∙ ap (λ b. if b then limited (Vector total) else (if same then limited (Matrix rows total) else None)) c.if-are_flat.true)

pub returns-then-have_rows : goal.returns-then-have_rows
returns-then-have_rows c =
    let args = c.args.args.now in
    let rows = c.rows-rows.result in
    let total = all_lines Column (sides_list args) in
    let same = c.have_rows.result in
    let by = hstack_by args c.in_ok-first.field-0.now rows c.are_flat.result same c.in_ok-first.ensures.value c.rows-rows.ensures c.are_flat.ensures c.have_rows.ensures in
    made c.matrix.result (Matrix rows c.in_ok-total.total) c.matrix.ensures.exists c.matrix.ensures.sides ∙ ap (λ n. limited (Matrix rows n)) c.in_ok-total.ensures.sum
    ∙ sym (by ∙ ap (λ b. if b then limited (Vector total) else (if same then limited (Matrix rows total) else None)) c.if-are_flat.false
    ∙ ap (λ b. if b then limited (Matrix rows total) else None) c.if-have_rows.true)

pub returns-else-have_rows : goal.returns-else-have_rows
returns-else-have_rows c =
    let args = c.args.args.now in
    let rows = c.rows-rows.result in
    let total = all_lines Column (sides_list args) in
    let same = c.have_rows.result in
    let by = hstack_by args c.in_ok-first.field-0.now rows c.are_flat.result same c.in_ok-first.ensures.value c.rows-rows.ensures c.are_flat.ensures c.have_rows.ensures in
    sym (by ∙ ap (λ b. if b then limited (Vector total) else (if same then limited (Matrix rows total) else None)) c.if-are_flat.false
    ∙ ap (λ b. if b then limited (Matrix rows total) else None) c.if-have_rows.false)
