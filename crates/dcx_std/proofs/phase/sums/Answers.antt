-- One more column has its sum, or its sum is the first that passes.
use Rattle.std.proofs.Common.{[], ◌∷◌, ◌++◌, ◌+◌, ◌-◌, map, sym, ap, ◌∙◌, arith, to_z-of_z}
use Rattle.std.specs.List.{range_with_len}
use Rattle.std.specs.Int.{w128}
use Rattle.std.proofs.lemmas.Int.{fits_signed_from_abs}
use Rattle.std.proofs.lemmas.Result.{err_from_is_err_and}
use Rattle.dcx_linear.proofs.Formed.{after}
use Rattle.dcx_std.specs.WholeRows.{numerators}
use Rattle.dcx_std.specs.IntegerRows.{column_sum}
use Rattle.dcx_std.proofs.Numerators.{numerators_more, numerators_stop, range_next}
use Rattle.dcx_std.proofs.phase.sums.Goals as goal

pub returns-in_err-sum : goal.returns-in_err-sum
returns-in_err-sum c =
    let p = err_from_is_err_and c.from_residual-in_err-sum.result c.from_residual-in_err-sum.ensures.1 in
    let i = c.columns.column in
    let n = c.args.plain in
    let f = column_sum n c.args.rows.now in
    rw (p.1, p.2) (sym (numerators_stop f (range_with_len i (n - i)) (range_with_len (i + 1) (n - (i + 1))) i c.columns.sums.items _ (range_next i n (omega arith))
    (sym c.sum_at.ensures ∙ c.in_err-sum.was)) ∙ c.columns.invariant)

pub columns-preserved : goal.columns-preserved
columns-preserved c =
    let i = c.columns.column in
    let n = c.args.plain in
    let f = column_sum n c.args.rows.now in
    let rest = range_with_len (i + 1) (n - (i + 1)) in
    let fits = fits_signed_from_abs w128 c.numerator.result c.numerator.ensures.small in
    let pushed = simp to_z-of_z at c.in_ok-push.ensures.items in
    let next = numerators_more f (range_with_len i (n - i)) rest i c.columns.sums.items c.in_ok-sum.sum (range_next i n (omega arith)) (sym c.sum_at.ensures ∙ c.in_ok-sum.was) in
    ap (λ zs. after zs (numerators (map f rest))) (pushed ∙ ap (λ z. c.columns.sums.items ++ z ∷ []) c.numerator.ensures.value) ∙ sym next ∙ c.columns.invariant
