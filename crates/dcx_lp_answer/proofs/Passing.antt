-- What is formed one after the other, and the first that passes, which stands behind it.
use Rattle.std.proofs.Common.{◌≡◌, ℕ, suc, ◌+◌, ◌<◌, ◌≤◌, List, [], ◌∷◌, ◌++◌, length, map, take, drop, get_or, Some, Ok, Err, sym, ap, ap₂, ◌∙◌, arith}
use Rattle.std.specs.Prelude.{Result}
use Rattle.std.proofs.lemmas.List.{length-map, map-append, map_more, length-take-le, take-append-drop, take_all}
use Rattle.dcx_frac.specs.declared.fraction.Passes.{Passes}
use Rattle.dcx_linear.proofs.Formed.{drop_at}
use Rattle.dcx_lp_answer.specs.Multipliers.{passing_from}

-- behind what is formed stands what passes
passing_here : {B : Type 0} (i : ℕ) (xs : List B) (passes : Passes) (rest : List (Result B Passes)) → passing_from i (map Ok xs ++ Err passes ∷ rest) ≡ Some (i + length xs, passes)
passing_here i [] passes rest = let z : i ≡ i + 0 = omega arith in ap (λ k. Some (k, passes)) z
passing_here i (x ∷ xs) passes rest = let z : suc i + length xs ≡ i + suc (length xs) = omega arith in passing_here (suc i) xs passes rest ∙ ap (λ k. Some (k, passes)) z

-- the first ones are all
pub all_made : {A B : Type 0} (f : A → Result B Passes) (xs : List A) (ys : List B) (i : ℕ) → length xs ≤ i → map Ok ys ≡ map f (take i xs) → map Ok ys ≡ map f xs
all_made f xs ys i l made = made ∙ ap (map f) (take_all i xs l)

module _ {A B : Type 0} (f : A → Result B Passes) (xs : List A) (ys : List B) (i : ℕ) (x : A) (l : i < length xs) (is : x ≡ get_or xs i x) (made : map Ok ys ≡ map f (take i xs)) where
  -- the next one is formed
  pub made_next : (y : B) (zs : List B) → f x ≡ Ok y → zs ≡ ys ++ y ∷ [] → map Ok zs ≡ map f (take (i + 1) xs)
  made_next y zs e more =
      ap (map Ok) more ∙ map-append Ok ys (y ∷ []) ∙ ap₂ (λ a b. a ++ b ∷ []) made (sym e ∙ ap f is) ∙ sym (map_more f xs i x l)

  -- or the next one passes
  pub passes_next : (first row : ℕ) (passes : Passes) → f x ≡ Err passes → row ≡ first + i → passing_from first (map f xs) ≡ Some (row, passes)
  passes_next first row passes e at =
      let whole : map f xs ≡ map Ok ys ++ Err passes ∷ map f (drop (i + 1) xs) =
      ap (map f) (sym (take-append-drop i xs) ∙ ap (λ s. take i xs ++ s) (drop_at xs i x l is)) ∙ map-append f (take i xs) (x ∷ drop (i + 1) xs)
      ∙ ap₂ (λ a b. a ++ b ∷ map f (drop (i + 1) xs)) (sym made) e in
      let count : length ys ≡ i = sym (length-map ys Ok) ∙ ap length made ∙ length-map (take i xs) f ∙ length-take-le i xs (omega (arith, l)) in
      let there : first + length ys ≡ row = omega (arith, count, at) in
      ap (passing_from first) whole ∙ passing_here first ys passes (map f (drop (i + 1) xs)) ∙ ap (λ k. Some (k, passes)) there
