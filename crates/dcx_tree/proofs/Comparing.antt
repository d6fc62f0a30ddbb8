-- Two numbers stand to each other as asked where their difference is at most 0, or is 0.
use Rattle.std.proofs.Common.{◌≡◌, Bool, true, false, MatchBool, sym, subst, ◌∙◌, pos}
use Rattle.std.proofs.lemmas.Bool.{false≢true}
use Rattle.dcx_math.specs.Rational.{ℚ, whole, rat_le, rat_eq, ◌-ℚ◌, ◌≤ℚ◌}
use Rattle.dcx_math.proofs.Orders.{≡-from_difference, ≤ℚ-from_difference, -ℚ_self, -ℚ-nonpositive}
use Rattle.dcx_math.proofs.Ratios.{IsTrue-rat_le, IsTrue-rat_eq}
use Rattle.dcx_convex.specs.Problems.{Holds, AtMost, Equal}

pub at_most : (x y : ℚ) (b : Bool) → b ≡ rat_le x y → MatchBool b (Holds AtMost (x -ℚ y)) (¬ Holds AtMost (x -ℚ y))
at_most x y true e = -ℚ-nonpositive x y ((IsTrue-rat_le x y).0 (sym e))
at_most x y false e = λ h. false≢true (e ∙ (IsTrue-rat_le x y).1 (≤ℚ-from_difference x y h))

pub equal : (x y : ℚ) (b : Bool) → b ≡ rat_eq x y → MatchBool b (Holds Equal (x -ℚ y)) (¬ Holds Equal (x -ℚ y))
equal x y true e = let same : x ≡ y = (IsTrue-rat_eq x y).0 (sym e) in subst (λ z. x -ℚ z ≡ whole (pos 0)) same (-ℚ_self x)
equal x y false e = λ h. false≢true (e ∙ (IsTrue-rat_eq x y).1 (≡-from_difference h))
