-- The larger of two numbers by their comparison.
use Rattle.std.proofs.Common.{◌≡◌, sym, ap, ◌∙◌, pos, true, false}
use Rattle.dcx_math.specs.Rational.{whole, rat_le}
use Rattle.dcx_math.proofs.Ratios.{IsTrue-rat_le}
use Rattle.dcx_math.proofs.Orders.{≤ℚ_flip}
use Rattle.dcx_math.proofs.Bounds.{rat_max-left, rat_max-right}
use Rattle.dcx_frac.specs.Frac.{value}
use Rattle.dcx_unit_tests.proofs.laws.part_above.Goals as goal

pub returns-then-is_at_most : goal.returns-then-is_at_most
returns-then-is_at_most c =
    let x = value c.args.x in
    c.zero-then-is_at_most.ensures
    ∙ sym (rat_max-right ((IsTrue-rat_le x (whole (pos 0))).0 (ap (rat_le x) (sym c.zero.ensures) ∙ sym c.is_at_most.ensures ∙ c.if-is_at_most.true)))

pub returns-else-is_at_most : goal.returns-else-is_at_most
returns-else-is_at_most c =
    let x = value c.args.x in
    let no : rat_le x (whole (pos 0)) ≡ false = ap (rat_le x) (sym c.zero.ensures) ∙ sym c.is_at_most.ensures ∙ c.if-is_at_most.false in
    sym (rat_max-left (≤ℚ_flip x (whole (pos 0)) (λ h. let yes : rat_le x (whole (pos 0)) ≡ true = (IsTrue-rat_le x (whole (pos 0))).1 h in cc)))
