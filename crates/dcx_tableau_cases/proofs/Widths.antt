-- How many unknowns rows reach to.
use Rattle.std.proofs.Common.{ℕ, ◌≤◌, List, [], ◌∷◌, ◌++◌, arith}
use Rattle.dcx_frac.specs.declared.fraction.Frac.{Frac}
use Rattle.dcx_linear.specs.declared.row.Row.{Row}
use Rattle.dcx_linear.specs.Widths.{form_width, rows_width}

-- one row more
pub rows_narrow : (n : ℕ) (rs : List (Row Frac)) (r : Row Frac) → rows_width rs ≤ n → form_width r.form ≤ n → rows_width (rs ++ r ∷ []) ≤ n
rows_narrow n [] r h w = omega (arith, w)
rows_narrow n (s ∷ ss) r h w =
    let rest : rows_width (ss ++ r ∷ []) ≤ n = rows_narrow n ss r (omega (arith, h)) w in
    omega (arith, h, rest)
