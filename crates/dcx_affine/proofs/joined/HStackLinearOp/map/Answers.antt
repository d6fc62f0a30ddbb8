-- Arrays side by side have columns, and not too many.
use Rattle.std.proofs.Common.{◌≡◌, ap, ◌∙◌, length, arith}
use Rattle.dcx_atom.specs.Arrays.{sides_list}
use Rattle.dcx_affine.specs.declared.slots.Line.TheVariants.{Column}
use Rattle.dcx_affine.specs.Joined.{all_lines}
use Rattle.dcx_affine.proofs.Lines.{length-lined_up}
use Rattle.dcx_affine.proofs.Stacks.{hstack_few}
use Rattle.dcx_affine.proofs.joined.HStackLinearOp.map.Goals as goal

pub hstack_terms-requires-clause-some : goal.hstack_terms-requires-clause-some
hstack_terms-requires-clause-some c =
    let s = sides_list c.args.args.now in
    let count : length c.deref.result.now ≡ all_lines Column s = ap length (c.deref.ensures.value ∙ c.in_ok-columns.ensures) ∙ length-lined_up Column 0 s in
    let h = (hstack_few s c.requires).0 in
    omega (arith, count, h)

pub hstack_terms-requires-clause-few : goal.hstack_terms-requires-clause-few
hstack_terms-requires-clause-few c =
    let s = sides_list c.args.args.now in
    let count : length c.deref.result.now ≡ all_lines Column s = ap length (c.deref.ensures.value ∙ c.in_ok-columns.ensures) ∙ length-lined_up Column 0 s in
    let h = (hstack_few s c.requires).1 in
    omega (arith, count, h)
