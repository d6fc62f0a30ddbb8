-- A sum of fractions of 128 bits that is formed is the exact one.
use Rattle.std.proofs.Common.{◌≡◌, List, [], ◌∷◌, map, All, refl, ap, ap₂, ◌∙◌, Result, Ok, Err, IfOk}
use Rattle.std.proofs.lemmas.List.Elements.{All-head, All-tail}
use Rattle.dcx_math.specs.Rational.{ℚ, ◌+ℚ◌}
use Rattle.dcx_math.specs.Sums.{rat_sum}
use Rattle.dcx_math.proofs.Orders.{+ℚ_idl}
use Rattle.dcx_frac.specs.declared.fraction.Frac.{Frac}
use Rattle.dcx_frac.specs.declared.fraction.Passes.{Passes}
use Rattle.dcx_frac.specs.Fits.{IsRepresentable}
use Rattle.dcx_frac.specs.Frac.{value}
use Rattle.dcx_atom.specs.Formed.{zero_frac, frac_at, sum_in_order}
use Rattle.dcx_atom.proofs.FormedSums.{value-zero_frac, value-sum_from}
use Rattle.dcx_atom.proofs.Fractions.{value-frac_at}

same_numbers : (xs : List ℚ) → All IsRepresentable xs → map value (map frac_at xs) ≡ xs
same_numbers [] h = refl
same_numbers (x ∷ xs) h = ap₂ ◌∷◌ (value-frac_at x (All-head IsRepresentable x xs h)) (same_numbers xs (All-tail IsRepresentable x xs h))

-- a sum that is formed is the exact sum
pub sum_exact : (xs : List ℚ) → All IsRepresentable xs → IfOk (sum_in_order xs) (λ x. value x ≡ rat_sum xs)
sum_exact xs h = by (sum_in_order xs) (value-sum_from zero_frac (map frac_at xs))
  where
    by : (r : Result Frac Passes) → IfOk r (λ x. value x ≡ value zero_frac +ℚ rat_sum (map value (map frac_at xs))) → IfOk r (λ x. value x ≡ rat_sum xs)
    by (Ok x) e = e ∙ ap₂ ◌+ℚ◌ value-zero_frac (ap rat_sum (same_numbers xs h)) ∙ +ℚ_idl (rat_sum xs)
    by (Err passes) e = e
