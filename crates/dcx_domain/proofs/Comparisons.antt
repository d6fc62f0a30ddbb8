-- What the answer of a test tells.
use Rattle.std.proofs.Common.{◌≡◌, ◌≢◌, Bool, true, false, MatchBool, IsTrue, ◌↔◌, refl, sym, ◌∙◌, T, true≢false}
use Rattle.dcx_math.specs.Rational.{ℚ, rat_le, rat_eq, ◌≤ℚ◌, ◌<ℚ◌}
use Rattle.dcx_math.proofs.Orders.{<ℚ-from_not}
use Rattle.dcx_math.proofs.Ratios.{IsTrue-rat_eq}

-- what follows where a fact holds, and what where it doesn't
pub told : (b : Bool) {P K L : Type 0} → IsTrue b ↔ P → (P → K) → (¬ P → L) → MatchBool b K L
told true h keeps leaves = keeps (h.0 refl)
told false h keeps leaves = leaves (λ p. true≢false (sym (h.1 p)))

-- a comparison is exact
pub at_most : (b : Bool) (x y : ℚ) → b ≡ rat_le x y → MatchBool b (x ≤ℚ y) (y <ℚ x)
at_most true x y e = record { le = rw (← e) tt }
at_most false x y e = <ℚ-from_not y x (λ h. by (rat_le x y) (sym e) h.le)
  where
    by : (t : Bool) → t ≡ false → T t → ⊥
    by true f h = true≢false f
    by false f h = h

-- a test of equality is exact
pub equal : (b : Bool) {K L : Type 0} (x y : ℚ) → b ≡ rat_eq x y → (x ≡ y → K) → (x ≢ y → L) → MatchBool b K L
equal b x y e keeps leaves = told b ((λ t. (IsTrue-rat_eq x y).0 (sym e ∙ t)), (λ s. e ∙ (IsTrue-rat_eq x y).1 s)) keeps leaves
