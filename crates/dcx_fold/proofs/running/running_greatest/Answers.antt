-- The next number is compared with the greatest so far.
use Rattle.std.proofs.Common.{◌≡◌, ◌+◌, ◌∙◌, sym, ap, map, take, length, arith, rules}
use Rattle.std.proofs.lemmas.Result.{err_from_is_err_and}
use Rattle.dcx_math.specs.Rational.{rat_max}
use Rattle.dcx_frac.specs.Frac.{value}
use Rattle.dcx_atom.specs.declared.flags.Bend.TheVariants.{Convex}
use Rattle.dcx_atom.specs.Arrays.{list_below, number_at}
use Rattle.dcx_atom.specs.Farthest.{extreme_from}
use Rattle.dcx_atom.proofs.Lists.{one_farther, list_below-push}
use Rattle.dcx_fold.specs.Running.{greatest_so_far}
use Rattle.dcx_fold.proofs.RunningSteps.{so_far}
use Rattle.dcx_fold.proofs.running.running_greatest.Goals as goal

pub loop-number-preserved : goal.loop-number-preserved
loop-number-preserved c =
    let xs = c.args.numbers.now in
    let i = c.loop-number.number-index in
    let x = c.index-numbers-0.result in
    let far : value c.greater-far.result ≡ extreme_from Convex (value x) (map value (take (i + 1) xs)) =
    c.greater-far.ensures ∙ ap (λ z. rat_max z (value c.number-item.result)) c.loop-number.invariant.far
    ∙ sym (one_farther Convex (value x) value xs i c.number-item.result c.loop-number-test.true c.number-item.is) in
    record {
      far = far;
      list = ap (map value) c.in_ok-push.ensures.items
          ∙ list_below-push i (greatest_so_far (number_at xs)) value c.loop-number.list.items c.greater-far.result c.loop-number.invariant.list
          (far ∙ so_far xs x i c.loop-number-test.true c.index-numbers-0.is);
    }

pub loop-number-init : goal.loop-number-init
loop-number-init c = search rules

pub loop-number-smaller : goal.loop-number-smaller
loop-number-smaller c = search rules

pub returns-in_err-push : goal.returns-in_err-push
returns-in_err-push c = let p = err_from_is_err_and c.from_residual.result c.from_residual.ensures.1 in rw p.1 tt

pub returns : goal.returns
returns c =
    let end : c.loop-number.number-index ≡ length c.args.numbers.now = omega (arith, c.loop-number-test.false, c.loop-number.auto.number-index-end) in
    ap (map value) c.from_vec.ensures ∙ c.loop-number.invariant.list ∙ ap (λ n. list_below n (greatest_so_far (number_at c.args.numbers.now))) end
