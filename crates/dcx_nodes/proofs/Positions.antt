-- The position of a name among names.
use Rattle.std.proofs.Common.{◌≡◌, ℕ, suc, ◌+◌, ◌<◌, ◌≤◌, arith, Bool, if◌then◌else◌, List, ◌∷◌, length, map, drop, get_or, sym, ap, ◌∙◌}
use Rattle.std.proofs.Math.Seq.{drop-cons}
use Rattle.std.proofs.lemmas.List.{drop_all}
use Rattle.dcx_point.specs.Pairs.{same_name}
use Rattle.dcx_point.proofs.Puts.{same_name-refl, same_name-false}
use Rattle.dcx_tree.specs.Nodes.{number_in}

module _ {A : Type 0} (name_of : A → List ℕ) (xs : List A) (name : List ℕ) where
  -- how many names are passed, when those from place k on are left
  abbrev pub Passed : ℕ → Type 0
  Passed k = number_in (map name_of xs) name ≡ k + number_in (map name_of (drop k xs)) name

  module _ (k : ℕ) (x : A) (lt : k < length xs) (at : x ≡ get_or xs k x) where
    left : drop k xs ≡ x ∷ drop (suc k) xs
    left = drop-cons xs k x lt ∙ ap (λ y. y ∷ drop (suc k) xs) (sym at)

    -- it is found
    pub found : Passed k → name_of x ≡ name → k ≡ number_in (map name_of xs) name
    found passed same =
        let here : number_in (map name_of (drop k xs)) name ≡ 0 =
        ap (λ ys. number_in (map name_of ys) name) left
        ∙ ap (λ (b : Bool). if b then 0 else suc (number_in (map name_of (drop (suc k) xs)) name)) (ap (λ n. same_name n name) same ∙ same_name-refl name) in
        omega (arith, passed, here)

    -- or it is another one
    pub passed_more : Passed k → (name_of x ≡ name → ⊥) → Passed (k + 1)
    passed_more passed other =
        let here : number_in (map name_of (drop k xs)) name ≡ suc (number_in (map name_of (drop (suc k) xs)) name) =
        ap (λ ys. number_in (map name_of ys) name) left
        ∙ ap (λ (b : Bool). if b then 0 else suc (number_in (map name_of (drop (suc k) xs)) name)) (same_name-false (name_of x) name other) in
        let next : suc k ≡ k + 1 = omega arith in
        let there : number_in (map name_of (drop (suc k) xs)) name ≡ number_in (map name_of (drop (k + 1) xs)) name = ap (λ i. number_in (map name_of (drop i xs)) name) next in
        omega (arith, passed, here, there)

  -- none is left
  pub not_found : (k : ℕ) → length xs ≤ k → k ≤ length xs → Passed k → length xs ≡ number_in (map name_of xs) name
  not_found k past within passed =
      let none : number_in (map name_of (drop k xs)) name ≡ 0 = ap (λ ys. number_in (map name_of ys) name) (drop_all k xs past) in
      omega (arith, passed, none, past, within)
