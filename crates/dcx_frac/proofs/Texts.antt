-- The lengths of texts, and what stands behind them.
use Rattle.std.proofs.Common.{◌≡◌, ◌≤◌, ◌<◌, ◌+◌, ◌-◌, ℕ, List, drop, ℤ, pos, negsuc, ◌<ℤ◌, length, arith, sym, ap, ◌∙◌}
use Rattle.std.proofs.lemmas.Int.{ints}
use Rattle.std.proofs.lemmas.Fmt.{length-decimal-le_wide}
use Rattle.std.proofs.lemmas.List.{drop-drop, drop-set-lt}
use Rattle.std.proofs.Math.ListN.{set}
use Rattle.std.specs.Fmt.{signed_decimal}
use Rattle.dcx_frac.specs.Fits.{Fits}

-- a positive number that fits has at most 39 digits
pub length-positive : (d : ℤ) → pos 0 <ℤ d → Fits d → length (signed_decimal d) ≤ 39
length-positive (pos n) p h = length-decimal-le_wide 39 n (omega arith) (omega arith) (omega arith)
length-positive (negsuc n) p h = absurd (omega (arith, ints))

-- lists that agree from m on agree from each later place, whatever is written at m
pub rest-behind : (m n v : ℕ) (xs ys zs : List ℕ) → m < n → drop m ys ≡ drop m xs → drop n zs ≡ drop n (set ys m v) → drop n zs ≡ drop n xs
rest-behind m n v xs ys zs h e k =
    let j : m + (n - m) ≡ n = omega arith in
    let from : (l : List ℕ) → drop n l ≡ drop (n - m) (drop m l) = λ l. ap (λ i. drop i l) (sym j) ∙ sym (drop-drop (n - m) m l) in
    k ∙ drop-set-lt n ys m v h ∙ from ys ∙ ap (drop (n - m)) e ∙ sym (from xs)
