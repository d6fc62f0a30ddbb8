-- A list that is as long as there are places and has each of them is a permutation of the places.
use Rattle.std.proofs.Common.{◌≡◌, ℕ, zero, suc, ◌+◌, ◌<◌, List, [], ◌∷◌, ◌++◌, length, sym, ◌∙◌, ap, arith, zero-add}
use Rattle.std.specs.List.{All, Contains, remove, range_with_len}
use Rattle.std.specs.List.Sorted.{IsPermutation}
use Rattle.std.proofs.lemmas.List.{nil_from_length}
use Rattle.std.proofs.lemmas.List.FromFn.{length-range_with_len, get_or-range_with_len}
use Rattle.std.proofs.lemmas.List.Sorted.{IsPermutation-refl, IsPermutation-sym, IsPermutation-trans, IsPermutation-cons, IsPermutation-remove}
use Rattle.std.proofs.lemmas.List.Sorted.{IsPermutation-to_front, Contains-permutation, All-permutation, length_permutation}
use Rattle.dcx_shape.specs.Places.{places_below}

range-more : (a n : ℕ) → range_with_len a (suc n) ≡ range_with_len a n ++ (a + n) ∷ []
range-more a zero = ap (λ x. x ∷ []) (omega arith)
range-more a (suc n) = ap (λ xs. a ∷ xs) (range-more (a + 1) n ∙ ap (λ x. range_with_len (a + 1) n ++ x ∷ []) (omega arith))

-- what a list has that isn't its head stands in its rest
contains_rest : (n p : ℕ) (xs : List ℕ) → p < n → Contains (n ∷ xs) p → Contains xs p
contains_rest n p xs h (zero, below, same) = absurd (omega arith)
contains_rest n p xs h (suc k, below, same) = (k, omega arith, same)

pub permutation_from_each : (n : ℕ) (xs : List ℕ) → length xs ≡ n → ((p : ℕ) → p < n → Contains xs p) → IsPermutation (places_below n) xs
permutation_from_each zero xs e each = rw (nil_from_length xs e) (IsPermutation-refl [])
permutation_from_each (suc n) xs e each =
    let last : Contains xs n = each n (omega arith) in
    let rest : List ℕ = remove xs last.0 in
    let moved : IsPermutation xs (n ∷ rest) = IsPermutation-remove xs last.0 n last.1 (sym last.2) in
    let shorter : length rest ≡ n = omega (arith, length_permutation xs (n ∷ rest) moved) in
    let before : IsPermutation (places_below n) rest = permutation_from_each n rest shorter (λ p h. contains_rest n p rest h (Contains-permutation xs (n ∷ rest) p moved (each p (omega arith)))) in
    let front : IsPermutation (places_below n ++ n ∷ []) (n ∷ places_below n) = IsPermutation-to_front (places_below n) n in
    let all : IsPermutation (places_below n ++ n ∷ []) xs =
    IsPermutation-trans _ _ _ front (IsPermutation-trans _ _ _ (IsPermutation-cons n _ _ before) (IsPermutation-sym _ _ moved)) in
    rw (range-more 0 n, zero-add n) all

-- each place of a permutation of the places is below their number
pub within_from_permutation : (n : ℕ) (xs : List ℕ) → IsPermutation (places_below n) xs → All (λ p. p < n) xs
within_from_permutation n xs h = All-permutation (λ p. p < n) (places_below n) xs h
    (λ k d b. let below : k < n = omega (arith, length-range_with_len 0 n) in rw (get_or-range_with_len 0 n k d below) (omega arith))
