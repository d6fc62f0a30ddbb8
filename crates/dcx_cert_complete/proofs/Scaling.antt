-- What is bounded from below at all unknowns of their kinds is at least 0 there.
use Rattle.std.proofs.Common.{◌≡◌, ℕ, suc, List, [], ◌∷◌, inl, inr, refl, ap, ap₂, ◌∙◌, pos}
use Rattle.std.specs.Prelude.{◌⊎◌}
use mathlib.Core.Logic.{∥∥₁_elim}
use Rattle.dcx_math.specs.Rational.{ℚ, whole, neg_ℚ, ◌+ℚ◌, ◌-ℚ◌, ◌*ℚ◌, ◌≤ℚ◌, ◌<ℚ◌}
use Rattle.dcx_math.specs.Sums.{IsNonnegative}
use Rattle.dcx_math.proofs.Ring.{ring, reads}
use Rattle.dcx_math.proofs.Orders.{≤ℚ_trans, ≤ℚ-from_≡, ≤ℚ-or-<ℚ, <ℚ-not, linear, linear_lt}
use Rattle.dcx_math.proofs.Products.{falls_below, zero-<ℚ-one, *ℚ-nonnegative}
use Rattle.dcx_math.proofs.Sums.{rat_sum_below-same, rat_sum_below-*ℚ}
use Rattle.dcx_shape.specs.declared.shape.Sides.{Sides}
use Rattle.dcx_atom.specs.declared.graph.AuxKind.{AuxKind}
use Rattle.dcx_atom.specs.declared.graph.Operand.{Operand}
use Rattle.dcx_atom.specs.declared.graph.Operand.TheVariants.{Argument, Aux}
use Rattle.dcx_atom.specs.Rows.{Filling, Row, Form, operand_at, row_at, form_at, KindsHold, weighted}
use Rattle.dcx_atom.specs.Meaning.{Meaning, Coefficients, Weights}
use Rattle.dcx_atom.specs.Duality.{no_entries, balance, LetNothingLower}

-- k times each unknown
abbrev pub times_filling : ℚ → Filling → Filling
times_filling k t i = k *ℚ t i

nothing_times : (k : ℚ) → whole (pos 0) ≡ k *ℚ whole (pos 0)
nothing_times k = ring (k ∷ []) (search reads depth 30) tt

term_times : (k c x r : ℚ) → c *ℚ (k *ℚ x) +ℚ k *ℚ r ≡ k *ℚ (c *ℚ x +ℚ r)
term_times k c x r = ring (k ∷ c ∷ x ∷ r ∷ []) (search reads depth 30) tt

form_times : (k : ℚ) (form : Form) (t : Filling) → form_at form (times_filling k t) ≡ k *ℚ form_at form t
form_times k [] t = nothing_times k
form_times k (x ∷ form) t = ap (λ r. x.coefficient *ℚ (k *ℚ t x.aux) +ℚ r) (form_times k form t) ∙ term_times k x.coefficient (t x.aux) (form_at form t)

operand_times : (k : ℚ) (x : Operand) (t : Filling) → operand_at x no_entries (times_filling k t) ≡ k *ℚ operand_at x no_entries t
operand_times k (Argument i e) t = nothing_times k
operand_times k (Aux u) t = refl

row_times : (k : ℚ) (row : Row) (t : Filling) → row_at row no_entries (times_filling k t) ≡ k *ℚ row_at row no_entries t
row_times k [] t = nothing_times k
row_times k (x ∷ row) t =
    ap₂ (λ o r. x.coefficient *ℚ o +ℚ r) (operand_times k x.operand t) (row_times k row t) ∙ term_times k x.coefficient (operand_at x.operand no_entries t) (row_at row no_entries t)

rows_times : (k : ℚ) (rows : List Row) (w : ℕ → ℚ) (t : Filling) → weighted rows w no_entries (times_filling k t) ≡ k *ℚ weighted rows w no_entries t
rows_times k [] w t = nothing_times k
rows_times k (row ∷ rows) w t =
    ap₂ (λ x y. w 0 *ℚ x +ℚ y) (row_times k row t) (rows_times k rows (λ r. w (suc r)) t) ∙ term_times k (w 0) (row_at row no_entries t) (weighted rows (λ r. w (suc r)) no_entries t)

-- the sum grows with the unknowns
pub balance_times : (m : Meaning) (args : List Sides) (size : ℕ) (c : Coefficients) (w : Weights) (k : ℚ) (t : Filling) → balance m args size c w (times_filling k t) ≡ k *ℚ balance m args size c w t
balance_times m args size c w k t =
    rat_sum_below-same size _ _ (λ j b.
    ap₂ (λ x y. c j *ℚ x +ℚ y) (form_times k (m.result args j) t) (rows_times k (m.rows args j) (w j) t)
    ∙ term_times k (c j) (form_at (m.result args j) t) (weighted (m.rows args j) (w j) no_entries t))
    ∙ rat_sum_below-*ℚ size k (λ j. c j *ℚ form_at (m.result args j) t +ℚ weighted (m.rows args j) (w j) no_entries t)

-- ---- multiples that are bounded from below
below_zero : (b k x : ℚ) → b ≤ℚ k *ℚ x → whole (pos 0) -ℚ k *ℚ neg_ℚ x ≤ℚ b -ℚ whole (pos 1) → whole (pos 1) ≤ℚ whole (pos 0)
below_zero b k x h g = linear (b ∷ k ∷ x ∷ []) (≤ℚ_trans h (turn k x b g)) (search reads depth 30) tt
  where
    turn : (k x b : ℚ) → whole (pos 0) -ℚ k *ℚ neg_ℚ x ≤ℚ b -ℚ whole (pos 1) → k *ℚ x ≤ℚ b -ℚ whole (pos 1)
    turn k x b g = linear (k ∷ x ∷ b ∷ []) g (search reads depth 30) tt

pub bounded_multiples : (b x : ℚ) → ((k : ℚ) → IsNonnegative k → b ≤ℚ k *ℚ x) → IsNonnegative x
bounded_multiples b x h = by (≤ℚ-or-<ℚ (whole (pos 0)) x)
  where
    by : (whole (pos 0) ≤ℚ x) ⊎ (x <ℚ whole (pos 0)) → IsNonnegative x
    by (inl n) = n
    by (inr n) =
        let none : IsProp ⊥ = hlevel in
        absurd (∥∥₁_elim (falls_below (whole (pos 0)) (b -ℚ whole (pos 1)) (neg_ℚ x) (linear_lt (x ∷ []) n (search reads depth 30) tt)) none
        (λ q. <ℚ-not zero-<ℚ-one (below_zero b q.0 x (h q.0 q.1.0) q.1.1)))

kinds_times : (kinds : List AuxKind) (k : ℚ) (t : Filling) → IsNonnegative k → KindsHold kinds t → KindsHold kinds (times_filling k t)
kinds_times kinds k t n h i e = *ℚ-nonnegative n (h i e)

-- weights that bound the sum from below let nothing lower it
pub nothing_lowers : (m : Meaning) (args : List Sides) (size : ℕ) (c : Coefficients) (w : Weights) (b : ℚ) → ((t : Filling) → KindsHold (m.kinds args) t → b ≤ℚ balance m args size c w t) →
    LetNothingLower m args size c w
nothing_lowers m args size c w b h t kinds =
    bounded_multiples b (balance m args size c w t) (λ k n. ≤ℚ_trans (h (times_filling k t) (kinds_times (m.kinds args) k t n kinds)) (≤ℚ-from_≡ (balance_times m args size c w k t)))
