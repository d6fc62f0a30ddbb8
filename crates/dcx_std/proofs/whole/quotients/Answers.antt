-- One more number is divided.
use Rattle.std.proofs.Common.{[], ◌∷◌, ◌++◌, map, sym, ap, ap₂, ◌∙◌, unsigned_abs, pos, arith, rules, SFits, slice_index_or, to_z-of_z}
use Rattle.std.specs.Int.{w128}
use Rattle.std.proofs.lemmas.List.{map_more, take_all}
use Rattle.std.proofs.lemmas.Result.{err_from_is_err_and}
use Rattle.dcx_math.specs.Divisors.{divided}
use Rattle.dcx_std.proofs.whole.quotients.Goals as goal

pub numbers-init : goal.numbers-init
numbers-init c = search rules

pub numbers-smaller : goal.numbers-smaller
numbers-smaller c = search rules

pub numbers-preserved : goal.numbers-preserved
numbers-preserved c =
    let xs = c.args.numbers.now in
    let i = c.numbers.number-index in
    let f = divided (unsigned_abs c.args.by) in
    let by = c.ranges.by in
    let here : SFits w128 (slice_index_or xs i (pos 0)) = search rules in
    let fits : SFits w128 c.quotient.result = search rules in
    let pushed = simp to_z-of_z at c.in_ok-push.ensures.items in
    let last = simp to_z-of_z at c.quotient.ensures in
    let before = simp to_z-of_z at c.numbers.invariant in
    simp to_z-of_z (pushed ∙ ap₂ (λ qs q. qs ++ q ∷ []) before last ∙ sym (map_more f xs i (pos 0) (omega arith)))

pub returns : goal.returns
returns c =
    let by = c.ranges.by in
    let done = simp to_z-of_z at c.numbers.invariant in
    done ∙ ap (map (divided (unsigned_abs c.args.by))) (take_all c.numbers.number-index c.args.numbers.now (omega arith))

pub returns-in_err-push : goal.returns-in_err-push
returns-in_err-push c = let p = err_from_is_err_and c.from_residual-in_err-push.result c.from_residual-in_err-push.ensures.1 in rw p.1 tt

pub quotient-requires : goal.quotient-requires
quotient-requires c = search rules
