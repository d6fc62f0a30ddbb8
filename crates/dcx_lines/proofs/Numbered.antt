-- Lines that are numbered from 1, one after another.
use Rattle.std.proofs.Common.{◌≡◌, ℕ, ◌+◌, ◌<◌, List, [], ◌∷◌, ◌++◌, length, get_or, take, sym, ap, ◌∙◌, arith, length-take}
use Rattle.std.proofs.lemmas.List.{take_more, flat_map_more}
use Rattle.std.specs.List.{flat_map, enumerate_from}

-- one more item has the next number
pub enumerate_from-push : {X : Type 0} (n : ℕ) (xs : List X) (x : X) → enumerate_from n (xs ++ x ∷ []) ≡ enumerate_from n xs ++ (n + length xs, x) ∷ []
enumerate_from-push n [] x = ap (λ k. (k, x) ∷ []) (omega arith)
enumerate_from-push {X} n (y ∷ ys) x =
    ap (λ t. (n, y) ∷ t) (enumerate_from-push (n + 1) ys x ∙ ap (λ k. enumerate_from (n + 1) ys ++ (k, x) ∷ []) (omega arith))

-- one more numbered line, where i lines are there
pub numbered_more : {X : Type 0} (f : ℕ × X → List ℕ) (out : List ℕ) (xs : List X) (i n : ℕ) (x : X) → i < length xs → x ≡ get_or xs i x → n ≡ i + 1
    → (out ++ flat_map f (enumerate_from 1 (take i xs))) ++ f (n, x) ≡ out ++ flat_map f (enumerate_from 1 (take (i + 1) xs))
numbered_more f out xs i n x within here numbered =
    let items : take (i + 1) xs ≡ take i xs ++ x ∷ [] = take_more xs i x within ∙ ap (λ y. take i xs ++ y ∷ []) (sym here) in
    let number : 1 + length (take i xs) ≡ n = omega (arith, length-take i xs) in
    flat_map_more f out (enumerate_from 1 (take i xs)) (n, x)
    ∙ ap (λ t. out ++ flat_map f t) (ap (λ k. enumerate_from 1 (take i xs) ++ (k, x) ∷ []) (sym number) ∙ sym (enumerate_from-push 1 (take i xs) x) ∙ ap (enumerate_from 1) (sym items))
