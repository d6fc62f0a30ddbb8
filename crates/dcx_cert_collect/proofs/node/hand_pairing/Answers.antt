-- What a product or a quotient hands on by its pairs, which are those of its two shapes.
use Rattle.std.proofs.Common.{◌≡◌, ◌∙◌, ◌<◌, sym, ap, ap₂, length, arith, is_some, get_or, subst, IsSome}
use Rattle.dcx_shape.specs.Shape.{sides_of}
use Rattle.dcx_shape.specs.Sides.{entries_of}
use Rattle.dcx_atom.specs.Arrays.{sides_list, sides_at}
use Rattle.dcx_affine.specs.Pairing.{paired_sides}
use Rattle.dcx_arena.specs.Nodes.{positions}
use Rattle.dcx_arena.proofs.Positions.{position_at}
use Rattle.dcx_tree.specs.Values.{array_at}
use Rattle.dcx_cert_collect.specs.Calls.{scaling_of, scaling_numbers}
use Rattle.dcx_cert_collect.proofs.Arguments.{shape_sides}
use Rattle.dcx_cert_collect.proofs.Handing.{two_shapes, paired_of, some_of, pairs_listed, pairs_count, pairing_told, told_ok, told_stop}
use Rattle.dcx_cert_collect.proofs.node.hand_pairing.Goals as goal

pub pairs-requires : goal.pairs-requires
pairs-requires c =
    let shapes = c.args.shapes.now in
    let ss = sides_list shapes in
    let p = c.args.pairing in
    let two = two_shapes p shapes (λ s. length c.args.coefficients.now ≡ entries_of s) c.requires.shape in
    let zero_in : 0 < length shapes = omega (arith, two) in
    let one_in : 1 < length shapes = omega (arith, two) in
    subst (λ (a : _). IsSome (paired_sides p a (sides_of c.index-shapes-1.result))) (shape_sides shapes 0 c.index-shapes-0.result zero_in c.index-shapes-0.is)
    (subst (λ (b : _). IsSome (paired_sides p (sides_at ss 0) b)) (shape_sides shapes 1 c.index-shapes-1.result one_in c.index-shapes-1.is)
    (some_of (paired_sides p (sides_at ss 0) (sides_at ss 1)) (λ s. length c.args.coefficients.now ≡ entries_of s)
    (paired_of p ss (λ s. length c.args.coefficients.now ≡ entries_of s) c.requires.shape)))

pub hand_pairs-requires-clause-pairs : goal.hand_pairs-requires-clause-pairs
hand_pairs-requires-clause-pairs c =
    let shapes = c.args.shapes.now in
    let ss = sides_list shapes in
    let p = c.args.pairing in
    let cs = c.args.coefficients.now in
    let two = two_shapes p shapes (λ s. length cs ≡ entries_of s) c.requires.shape in
    let zero_in : 0 < length shapes = omega (arith, two) in
    let one_in : 1 < length shapes = omega (arith, two) in
    pairs_count p ss cs c.in-Ok.pairs c.as_slice.result.now c.as_slice.ensures
    (pairs_listed p ss (sides_of c.index-shapes-0.result) (sides_of c.index-shapes-1.result) cs c.in-Ok.pairs (sym (shape_sides shapes 0 c.index-shapes-0.result zero_in c.index-shapes-0.is))
    (sym (shape_sides shapes 1 c.index-shapes-1.result one_in c.index-shapes-1.is)) c.requires.shape c.in-Ok.ensures)

pub returns-in-Ok-clause-ok : goal.returns-in-Ok-clause-ok
returns-in-Ok-clause-ok c =
    let shapes = c.args.shapes.now in
    let ss = sides_list shapes in
    let p = c.args.pairing in
    let cs = c.args.coefficients.now in
    let ids = c.args.places.now.args.now in
    let values = c.args.values.now in
    let left = array_at values (get_or (positions ids) 0 0) in
    let right = array_at values (get_or (positions ids) 1 0) in
    let first = ap (array_at values) (position_at ids 0) in
    let second = ap (array_at values) (position_at ids 1) in
    let two = two_shapes p shapes (λ s. length cs ≡ entries_of s) c.requires.shape in
    let zero_in : 0 < length shapes = omega (arith, two) in
    let one_in : 1 < length shapes = omega (arith, two) in
    told_ok c.hand_pairs.result c.args.table.now.items _ _ _
    (pairing_told c.args.places.now.tree.now (positions ids) p ss cs left right c.scaling_of-scaling.result c.scaling_numbers-numbers.result.now c.in-Ok.pairs c.as_slice.result.now c.as_slice.ensures
    (pairs_listed p ss (sides_of c.index-shapes-0.result) (sides_of c.index-shapes-1.result) cs c.in-Ok.pairs (sym (shape_sides shapes 0 c.index-shapes-0.result zero_in c.index-shapes-0.is))
    (sym (shape_sides shapes 1 c.index-shapes-1.result one_in c.index-shapes-1.is)) c.requires.shape c.in-Ok.ensures)
    (c.scaling_of-scaling.ensures ∙ ap (scaling_of p) (c.is_known.ensures ∙ ap is_some (sym first)))
    (c.scaling_numbers-numbers.ensures ∙ ap₂ (scaling_numbers c.scaling_of-scaling.result) (sym first) (sym second)))
    c.hand_pairs.ensures.ok c.or_passes.result c.or_passes.ensures

pub returns-in-Ok-clause-stop : goal.returns-in-Ok-clause-stop
returns-in-Ok-clause-stop c =
    let shapes = c.args.shapes.now in
    let ss = sides_list shapes in
    let p = c.args.pairing in
    let cs = c.args.coefficients.now in
    let ids = c.args.places.now.args.now in
    let values = c.args.values.now in
    let left = array_at values (get_or (positions ids) 0 0) in
    let right = array_at values (get_or (positions ids) 1 0) in
    let first = ap (array_at values) (position_at ids 0) in
    let second = ap (array_at values) (position_at ids 1) in
    let two = two_shapes p shapes (λ s. length cs ≡ entries_of s) c.requires.shape in
    let zero_in : 0 < length shapes = omega (arith, two) in
    let one_in : 1 < length shapes = omega (arith, two) in
    told_stop c.hand_pairs.result c.args.table.now.items _ _
    (pairing_told c.args.places.now.tree.now (positions ids) p ss cs left right c.scaling_of-scaling.result c.scaling_numbers-numbers.result.now c.in-Ok.pairs c.as_slice.result.now c.as_slice.ensures
    (pairs_listed p ss (sides_of c.index-shapes-0.result) (sides_of c.index-shapes-1.result) cs c.in-Ok.pairs (sym (shape_sides shapes 0 c.index-shapes-0.result zero_in c.index-shapes-0.is))
    (sym (shape_sides shapes 1 c.index-shapes-1.result one_in c.index-shapes-1.is)) c.requires.shape c.in-Ok.ensures)
    (c.scaling_of-scaling.ensures ∙ ap (scaling_of p) (c.is_known.ensures ∙ ap is_some (sym first)))
    (c.scaling_numbers-numbers.ensures ∙ ap₂ (scaling_numbers c.scaling_of-scaling.result) (sym first) (sym second)))
    c.hand_pairs.ensures.passes c.or_passes.result c.or_passes.ensures
