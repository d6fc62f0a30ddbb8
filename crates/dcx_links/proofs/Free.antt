-- Where a place is empty, a cell is free.
use Rattle.std.proofs.Common.{◌≡◌, ◌≢◌, ℕ, zero, suc, ◌+◌, ◌*◌, ◌<◌, ◌≤◌, ◌⊎◌, inl, inr, List, [], ◌∷◌, length, refl, sym, subst, ap, arith, pos}
use Rattle.std.proofs.Math.Nat.{mul-le-mul_right}
use Rattle.dcx_links.specs.declared.store.Cell.{Cell}
use Rattle.dcx_links.specs.Lines.{none, Has}
use Rattle.dcx_links.specs.Cells.{cell_at, IsAt, IsStore, AreFree}
use Rattle.dcx_math.proofs.Pigeons.{pigeons}

-- a place before the first of a later row
place_below : (w a b c : ℕ) → b < w → a < c → a * w + b < c * w
place_below w a b c lt less =
    let z : suc a * w ≤ c * w = mul-le-mul_right w less in
    let e : suc a * w ≡ a * w + w = grind arith in
    omega (arith, z, e)

place_one : (w a b c d : ℕ) → b < w → d < w → a * w + b ≡ c * w + d → (a ≡ c) × (b ≡ d)
place_one w a b c d p q e =
    let cases : (a ≡ c) ⊎ ((a < c) ⊎ (c < a)) = grind arith in
    elim cases [
      | inl h ↦ let f : a * w ≡ c * w = ap (λ n. n * w) h in (h, omega (arith, e, f))
      | inr k ↦ elim k [
        | inl lt ↦ let z = place_below w a b c p lt in absurd (omega (arith, z, e))
        | inr lt ↦ let z = place_below w c d a q lt in absurd (omega (arith, z, e))
      ]
    ]

-- the number of an empty place, and then those of the cells' places
abbrev place_of : List Cell → ℕ → ℕ → ℕ → ℕ → ℕ
place_of cells w r c zero = r * w + c
place_of cells w r c (suc i) = (cell_at cells i).row * w + (cell_at cells i).column

module _ (cells : List Cell) (rh ch : List ℕ) (j : ℕ) (store : IsStore cells rh ch j) (r c : ℕ) (row_in : r < length rh) (column_in : c < length ch)
    (enough : j ≡ none → length rh * length ch ≤ length cells) (empty : (i : ℕ) → ¬ IsAt cells i r c) where
  module _ (full : (i : ℕ) → i < length cells → (cell_at cells i).value ≢ pos 0) where
    here : (i : ℕ) → i < length cells → IsAt cells i (cell_at cells i).row (cell_at cells i).column
    here i lt = record { number = full i lt; in_row = refl; in_column = refl }

    below : (i : ℕ) → i < suc (length cells) → place_of cells (length ch) r c i < length rh * length ch
    below zero lt = place_below (length ch) r c (length rh) column_in row_in
    below (suc i) lt =
        let at = here i (omega arith) in
        place_below (length ch) (cell_at cells i).row (cell_at cells i).column (length rh) (store.column_within i _ _ at) (store.row_within i _ _ at)

    different : (i k : ℕ) → i < k → k < suc (length cells) → place_of cells (length ch) r c i ≢ place_of cells (length ch) r c k
    different i zero lt k_in e = absurd (omega arith)
    different zero (suc k) lt k_in e =
        let at = here k (omega arith) in
        let f = place_one (length ch) r c (cell_at cells k).row (cell_at cells k).column column_in (store.column_within k _ _ at) e in
        empty k (record { number = at.number; in_row = sym f.0; in_column = sym f.1 })
    different (suc i) (suc k) lt k_in e =
        let at = here i (omega arith) in
        let to = here k (omega arith) in
        let f = place_one (length ch) (cell_at cells i).row (cell_at cells i).column (cell_at cells k).row (cell_at cells k).column (store.column_within i _ _ at) (store.column_within k _ _ to) e in
        let same : i ≡ k = store.one_cell i k (cell_at cells k).row (cell_at cells k).column (record { number = at.number; in_row = f.0; in_column = f.1 }) to in
        omega (arith, same)

    not_full : j ≢ none
    not_full led = let z = pigeons (length rh * length ch) (suc (length cells)) (place_of cells (length ch) r c) below different in let y = enough led in omega (arith, z, y)

  pub some_free : (free : List ℕ) × AreFree cells j (j ∷ free) × ((i : ℕ) → i < length cells → (cell_at cells i).value ≡ pos 0 → Has (j ∷ free) i)
  some_free = elim store.order as (λ o. AreFree cells j o → ((i : ℕ) → i < length cells → (cell_at cells i).value ≡ pos 0 → Has o i) → (free : List ℕ) × AreFree cells j (j ∷ free)
      × ((i : ℕ) → i < length cells → (cell_at cells i).value ≡ pos 0 → Has (j ∷ free) i)) [
        | [] ↦ λ f rest. absurd (not_full (λ i lt e. rest i lt e) f)
        | k ∷ ks ↦ λ f rest. let P : ℕ → Type 0 = λ n. AreFree cells j (n ∷ ks) × ((i : ℕ) → i < length cells → (cell_at cells i).value ≡ pos 0 → Has (n ∷ ks) i) in let g : P j = subst
            P (sym f.0) (f, rest) in (ks, g.0, g.1)
      ] store.freed store.rest
