-- The next part is that of the stride's next entry.
use Rattle.std.proofs.Common.{◌∙◌, ap, map, arith, rules, ◌≡◌}
use Rattle.std.proofs.lemmas.Result.{err_from_is_err_and}
use Rattle.dcx_frac.specs.Frac.{value}
use Rattle.dcx_atom.specs.Axis.{stride_entry}
use Rattle.dcx_atom.specs.Arrays.{list_below, number_at}
use Rattle.dcx_atom.proofs.Lists.{number_is, list_below-push}
use Rattle.dcx_fold.specs.Folds.{part}
use Rattle.dcx_fold.proofs.fold_values.parts_of.Goals as goal

pub loop-i-preserved : goal.loop-i-preserved
loop-i-preserved c =
    let i = c.loop-i.i in
    let stride = c.args.stride in
    let xs = c.args.numbers.now in
    ap (map value) c.in_ok-push.ensures.items
    ∙ list_below-push i (λ i. part c.args.fold (number_at xs (stride_entry stride i))) value c.loop-i.parts.items c.part_of.result c.loop-i.invariant
    (c.part_of.ensures ∙ ap (part c.args.fold) (number_is xs (stride_entry stride i) c.index-numbers-place.result (c.requires i c.loop-i-test.true) c.index-numbers-place.is))

pub loop-i-init : goal.loop-i-init
loop-i-init c = search rules

pub loop-i-smaller : goal.loop-i-smaller
loop-i-smaller c = search rules

pub returns-in_err-push : goal.returns-in_err-push
returns-in_err-push c = let p = err_from_is_err_and c.from_residual.result c.from_residual.ensures.1 in rw p.1 tt

pub returns : goal.returns
returns c =
    let end : c.loop-i.i ≡ c.args.stride.count = omega (arith, c.loop-i-test.false, c.loop-i.auto.i-end) in
    c.loop-i.invariant ∙ ap (λ n. list_below n (λ i. part c.args.fold (number_at c.args.numbers.now (stride_entry c.args.stride i)))) end
