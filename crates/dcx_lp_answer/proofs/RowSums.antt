-- Rows as sums over columns.
use Rattle.std.proofs.Common.{◌≡◌, ℕ, zero, suc, ◌≤◌, List, [], ◌∷◌, length, arith, refl, ap, ◌∙◌}
use Rattle.std.proofs.lemmas.List.{length-map}
use Rattle.dcx_math.specs.Rational.{ℚ, whole, ◌*ℚ◌}
use Rattle.dcx_math.specs.Sums.{rat_dot, rat_at, rat_sum_below}
use Rattle.dcx_math.proofs.Points.{wholes}
use Rattle.dcx_math.proofs.Sums.{rat_sum_below-same}
use Rattle.dcx_math.proofs.Vectors.{rat_dot-rat_sum_below}
use Rattle.dcx_tab.specs.Rows.{Row, entry}

-- a whole number of a row is its entry
rat_at-wholes : (row : Row) (j : ℕ) → rat_at (wholes row) j ≡ whole (entry row j)
rat_at-wholes [] j = refl
rat_at-wholes (a ∷ row) zero = refl
rat_at-wholes (a ∷ row) (suc j) = rat_at-wholes row j

-- a row at numbers, as a sum over at least its columns
pub dot_sum : (row : Row) (xs : List ℚ) (n : ℕ) → length row ≤ n → rat_dot (wholes row) xs ≡ rat_sum_below n (λ j. whole (entry row j) *ℚ rat_at xs j)
dot_sum row xs n h =
    rat_dot-rat_sum_below (wholes row) xs n (omega (arith, h, length-map row whole))
    ∙ rat_sum_below-same n _ _ (λ j l. ap (λ u. u *ℚ rat_at xs j) (rat_at-wholes row j))
