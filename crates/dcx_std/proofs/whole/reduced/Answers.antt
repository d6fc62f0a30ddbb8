-- Numbers divided by 1 are the same.
use Rattle.std.proofs.Common.{rules, ◌≡◌, List, [], ◌∷◌, map, ℤ, pos, unsigned_abs, refl, sym, ap, ap₂, ◌∙◌, subst, to_z, to_z-of_z, SFits}
use Rattle.std.specs.Int.{w128}
use Rattle.dcx_math.specs.Divisors.{divided}
use Rattle.dcx_math.proofs.Divisors.{divided-one}
use Rattle.dcx_std.proofs.whole.reduced.Goals as goal

all_same : (zs : List ℤ) → zs ≡ map (divided 1) zs
all_same [] = refl
all_same (z ∷ zs) = ap₂ ◌∷◌ (sym (divided-one z)) (all_same zs)

pub returns-then-by-eq1 : goal.returns-then-by-eq1
returns-then-by-eq1 c =
    let f : SFits w128 c.args.by = c.ranges.by in
    let e : c.args.by ≡ pos 1 = sym (to_z-of_z f) ∙ ap (to_z w128) c.if-by-eq1.true in
    all_same c.args.numbers.items ∙ ap (λ z. map (divided (unsigned_abs z)) c.args.numbers.items) (sym e)
