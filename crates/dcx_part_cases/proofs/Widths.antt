-- Rows that reach to so many unknowns at most.
use Rattle.std.proofs.Common.{ℕ, ◌≤◌, List, [], ◌∷◌, ◌++◌, arith}
use Rattle.dcx_linear.specs.declared.row.Row.{Row}
use Rattle.dcx_linear.specs.Widths.{form_width, rows_width}

-- one more row
pub more_narrow : {C : Type 0} (n : ℕ) (rs : List (Row C)) (r : Row C) → rows_width rs ≤ n → form_width r.form ≤ n → rows_width (rs ++ r ∷ []) ≤ n
more_narrow n [] r h w = omega (arith, w)
more_narrow n (q ∷ rs) r h w = let t = more_narrow n rs r (omega (arith, h)) w in omega (arith, h, t)
