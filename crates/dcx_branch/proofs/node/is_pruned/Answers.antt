-- A value that is the best one or above it isn't below it.
use Rattle.std.proofs.Common.{inl, inr, sym, subst, option_map}
use Rattle.dcx_math.specs.Rational.{◌≤ℚ◌}
use Rattle.dcx_math.proofs.Orders.{≤ℚ-from_≡, <ℚ-≤ℚ}
use Rattle.dcx_frac.specs.Frac.{value}
use Rattle.dcx_branch.specs.Run.{IsPruned}
use Rattle.dcx_branch.proofs.node.is_pruned.Goals as goal

pub returns-in-Equal : goal.returns-in-Equal
returns-in-Equal c =
    let low : value c.in-Some.best ≤ℚ value c.args.number.now = elim c.in-Equal.is [ inl e ↦ ≤ℚ-from_≡ (sym (c.cmp_exact.ensures.equal.0 e)) | inr e ↦ <ℚ-≤ℚ (c.cmp_exact.ensures.greater.0 e) ] in
    subst (λ o. IsPruned (option_map value o) (value c.args.number.now)) (sym c.in-Some.is) low
