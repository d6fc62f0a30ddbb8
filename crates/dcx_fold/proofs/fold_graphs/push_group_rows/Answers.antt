-- The rows of a group are those of its members, each at its place in the argument.
use Rattle.std.proofs.Common.{◌≡◌, ℕ, ◌++◌, ap, ◌∙◌, arith, map, rules}
use Rattle.std.proofs.lemmas.Result.{err_from_is_err_and}
use Rattle.dcx_shape.specs.Shape.{sides_of}
use Rattle.dcx_atom.specs.declared.axis.Stride.{Stride}
use Rattle.dcx_atom.specs.Axis.{stride_entry}
use Rattle.dcx_atom.specs.Graph.{placed_row}
use Rattle.dcx_atom.specs.Rows.{Row}
use Rattle.dcx_fold.specs.Folds.{unknown_of, rows_of_member}
use Rattle.dcx_fold.proofs.FoldGraphs.{group_folded, small_number, small_place, one_more_member, all_of_group}
use Rattle.dcx_fold.proofs.fold_graphs.push_group_rows.Goals as goal

pub stride-stride-requires : goal.stride-stride-requires
stride-stride-requires c = group_folded c.args.folding.axis (sides_of c.args.from) c.args.entry c.requires

pub unknown-unknown-requires : goal.unknown-unknown-requires
unknown-unknown-requires c =
    small_number c.args.folding.axis (sides_of c.args.from) c.args.entry c.loop-i.i c.folded_count-count.result c.args.from.few c.folded_count-count.ensures.count c.requires c.loop-i-test.true

pub overflow_mul-place : goal.overflow_mul-place
overflow_mul-place c =
    let h = small_place c.args.folding.axis (sides_of c.args.from) c.args.entry c.loop-i.i c.folded_count-count.result c.stride-stride.result c.args.from.few
    c.stride-stride.ensures c.folded_count-count.ensures.count c.requires c.loop-i-test.true in
    omega (arith, h)

pub overflow_add-place : goal.overflow_add-place
overflow_add-place c =
    let h = small_place c.args.folding.axis (sides_of c.args.from) c.args.entry c.loop-i.i c.folded_count-count.result c.stride-stride.result c.args.from.few
    c.stride-stride.ensures c.folded_count-count.ensures.count c.requires c.loop-i-test.true in
    omega (arith, h)

pub loop-i-preserved : goal.loop-i-preserved
loop-i-preserved c =
    let k = c.args.entry in
    let fold = c.args.folding.fold in
    let count = c.folded_count-count.result in
    let stride = c.stride-stride.result in
    one_more_member (λ (row : Row). record { entry = k; row = row }) (λ (i : ℕ). rows_of_member fold (unknown_of fold count k i) (stride_entry stride i))
    (map placed_row c.loop-i.rows.items) (map placed_row c.args.rows.now.items) (map placed_row c.push_member_rows.new.rows.items) c.loop-i.i c.loop-i.invariant
    (c.in_ok-push_member_rows.ensures ∙ ap (λ u. map placed_row c.loop-i.rows.items
    ++ map (λ (row : Row). record { entry = k; row = row }) (rows_of_member fold u (stride_entry stride c.loop-i.i))) c.unknown-unknown.ensures)

pub returns : goal.returns
returns c =
    let k = c.args.entry in
    let fold = c.args.folding.fold in
    let end : c.loop-i.i ≡ c.folded_count-count.result = omega (arith, c.loop-i-test.false, c.loop-i.auto.i-end) in
    all_of_group (λ (row : Row). record { entry = k; row = row }) (λ (n i : ℕ) (st : Stride). rows_of_member fold (unknown_of fold n k i) (stride_entry st i))
    (map placed_row c.args.rows.now.items) (map placed_row c.loop-i.rows.items) c.args.folding.axis (sides_of c.args.from) k c.loop-i.i c.folded_count-count.result c.stride-stride.result
    c.stride-stride.ensures c.folded_count-count.ensures.count end c.loop-i.invariant

pub loop-i-init : goal.loop-i-init
loop-i-init c = search rules

pub loop-i-smaller : goal.loop-i-smaller
loop-i-smaller c = search rules

pub returns-in_err-push_member_rows : goal.returns-in_err-push_member_rows
returns-in_err-push_member_rows c = let p = err_from_is_err_and c.from_residual.result c.from_residual.ensures.1 in rw p.1 tt
