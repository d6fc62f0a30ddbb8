-- Arrays one below the other have the rows of all.
use Rattle.std.proofs.Common.{◌≡◌, ◌*◌, ◌≤◌, ap, ap₂, ◌∙◌, length, subst, sym, map, Some}
use Rattle.std.specs.Prelude.{IfOk}
use Rattle.dcx_shape.specs.declared.shape.Sides.TheVariants.{Matrix}
use Rattle.dcx_shape.specs.Sides.{cols_of}
use Rattle.dcx_atom.specs.Arrays.{sides_list, sides_at, list_below}
use Rattle.dcx_atom.specs.Linear.{linear_term}
use Rattle.dcx_affine.specs.declared.slots.Line.TheVariants.{Row}
use Rattle.dcx_affine.specs.Joined.{all_lines, vstack_meaning}
use Rattle.dcx_affine.proofs.Lines.{length-lined_up}
use Rattle.dcx_affine.proofs.Stacks.{vstack_is, vstack_terms_are, first_sides}
use Rattle.dcx_affine.proofs.joined.VStackLinearOp.map.Goals as goal

pub vstack_terms-requires-clause-size : goal.vstack_terms-requires-clause-size
vstack_terms-requires-clause-size c =
    let s = sides_list c.args.args.now in
    let count : length c.deref.result.now ≡ all_lines Row s = ap length (c.deref.ensures.value ∙ c.in_ok-rows.ensures) ∙ length-lined_up Row 0 s in
    let cols : c.cols.result ≡ cols_of (sides_at s 0) = c.cols.ensures ∙ ap cols_of (first_sides c.args.args.now c.index-args-0.result c.requires c.index-args-0.is) in
    subst (λ n. n ≤ 20000) (sym (ap₂ ◌*◌ count cols)) (vstack_is s c.requires).1.most

pub returns : goal.returns
returns c =
    let s = sides_list c.args.args.now in
    let count : length c.deref.result.now ≡ all_lines Row s = ap length (c.deref.ensures.value ∙ c.in_ok-rows.ensures) ∙ length-lined_up Row 0 s in
    let cols : c.cols.result ≡ cols_of (sides_at s 0) = c.cols.ensures ∙ ap cols_of (first_sides c.args.args.now c.index-args-0.result c.requires c.index-args-0.is) in
    vstack_terms_are s (length c.deref.result.now) c.vstack_terms.result ((vstack_is s c.requires).0 ∙ ap (λ n. Some (Matrix n (cols_of (sides_at s 0)))) (sym count))
    (subst (λ n. IfOk c.vstack_terms.result (λ t. map (map linear_term) t ≡ list_below (length c.deref.result.now * n) (vstack_meaning.terms s))) cols c.vstack_terms.ensures)
