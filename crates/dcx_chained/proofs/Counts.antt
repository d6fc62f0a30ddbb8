-- How many numbers of a list aren't 0.
use Rattle.std.proofs.Common.{◌≡◌, ◌≢◌, ℕ, zero, suc, ◌+◌, ◌<◌, List, [], ◌∷◌, ℤ, pos, negsuc, refl, ap, arith}
use Rattle.dcx_links.specs.Matrix.{listed}
use Rattle.dcx_links.proofs.Listed.{listed_same}

abbrev pub one_if_some : ℤ → ℕ
one_if_some (pos zero) = 0
one_if_some (pos (suc n)) = 1
one_if_some (negsuc n) = 1

abbrev pub some_count : List ℤ → ℕ
some_count [] = 0
some_count (z ∷ zs) = one_if_some z + some_count zs

one_if_some-some : (z : ℤ) → z ≢ pos 0 → one_if_some z ≡ 1
one_if_some-some (pos zero) d = absurd (d refl)
one_if_some-some (pos (suc n)) d = omega arith
one_if_some-some (negsuc n) d = omega arith

-- a number less, where one of them becomes 0 and the others stay
pub some_count-less : (n : ℕ) (f g : ℕ → ℤ) (i : ℕ) → i < n → f i ≢ pos 0 → g i ≡ pos 0 → ((k : ℕ) → k < n → k ≢ i → g k ≡ f k) → some_count (listed n g) < some_count (listed n f)
some_count-less zero f g i lt some none same = absurd (omega arith)
some_count-less (suc n) f g zero lt some none same =
    let a = one_if_some-some (f 0) some in
    let b : one_if_some (g 0) ≡ 0 = ap one_if_some none in
    let c = ap some_count (listed_same n (λ k. g (suc k)) (λ k. f (suc k)) (λ k k_in. same (suc k) (omega arith) (λ e. absurd (omega arith)))) in
    omega (arith, a, b, c)
some_count-less (suc n) f g (suc i) lt some none same =
    let a = ap one_if_some (same 0 (omega arith) (λ e. absurd (omega arith))) in
    let b = some_count-less n (λ k. f (suc k)) (λ k. g (suc k)) i (omega arith) some none (λ k k_in d. same (suc k) (omega arith) (λ e. d (omega arith))) in
    omega (arith, a, b)
