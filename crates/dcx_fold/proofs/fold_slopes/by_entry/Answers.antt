-- The next slope is that of the next entry.
use Rattle.std.proofs.Common.{◌<◌, ◌+◌, ◌*◌, ◌∙◌, ap, arith, length, map, subst, sym, rules, ◌≡◌}
use Rattle.std.proofs.lemmas.Result.{err_from_is_err_and}
use Rattle.dcx_frac.specs.Frac.{value}
use Rattle.dcx_shape.specs.Shape.{sides_of}
use Rattle.dcx_shape.specs.Sides.{entries_of}
use Rattle.dcx_atom.specs.Arrays.{list_below, number_at}
use Rattle.dcx_atom.specs.Axis.{folded_count}
use Rattle.dcx_atom.proofs.Lists.{number_is, list_below-push}
use Rattle.dcx_fold.specs.Groups.{group_of, member_of}
use Rattle.dcx_fold.proofs.FoldSlopes.{spot_within}
use Rattle.dcx_fold.proofs.fold_slopes.by_entry.Goals as goal

pub bounds-slopes-spot : goal.bounds-slopes-spot
bounds-slopes-spot c =
    let s = sides_of c.args.from in
    let e = c.loop-e.e in
    let b : e < entries_of s = omega (arith, c.size-e-end.ensures.value, c.loop-e-test.true) in
    subst (λ k. k < length c.args.slopes.now) (sym c.spot.ensures) (spot_within c.args.axis s e (length c.args.slopes.now) b c.requires)

pub loop-e-preserved : goal.loop-e-preserved
loop-e-preserved c =
    let axis = c.args.axis in
    let s = sides_of c.args.from in
    let e = c.loop-e.e in
    let x = c.index-slopes-spot.result in
    let xs = c.args.slopes.now in
    let b : e < entries_of s = omega (arith, c.size-e-end.ensures.value, c.loop-e-test.true) in
    let l : c.spot.result < length xs = subst (λ k. k < length xs) (sym c.spot.ensures) (spot_within axis s e (length xs) b c.requires) in
    ap (map value) c.in_ok-push.ensures.items
    ∙ list_below-push e (λ e. number_at xs (group_of axis s e * folded_count axis s + member_of axis s e)) value c.loop-e.ordered.items x c.loop-e.invariant
    (number_is xs c.spot.result x l c.index-slopes-spot.is ∙ ap (number_at xs) c.spot.ensures)

pub loop-e-init : goal.loop-e-init
loop-e-init c = search rules

pub loop-e-smaller : goal.loop-e-smaller
loop-e-smaller c = search rules

pub returns-in_err-push : goal.returns-in_err-push
returns-in_err-push c = let p = err_from_is_err_and c.from_residual.result c.from_residual.ensures.1 in rw p.1 tt

pub returns : goal.returns
returns c =
    let axis = c.args.axis in
    let s = sides_of c.args.from in
    let end : c.loop-e.e ≡ entries_of s = omega (arith, c.loop-e-test.false, c.loop-e.auto.e-end, c.size-e-end.ensures.value) in
    ap (map value) c.from_vec.ensures ∙ c.loop-e.invariant
    ∙ ap (λ n. list_below n (λ e. number_at c.args.slopes.now (group_of axis s e * folded_count axis s + member_of axis s e))) end
