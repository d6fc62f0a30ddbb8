-- The number at a place is that of the cell there.
use Rattle.std.proofs.Common.{◌≡◌, ◌≢◌, ℕ, zero, suc, ◌<◌, ◌≤◌, ◌⊎◌, inl, inr, ◌&&◌, cond, true, false, List, [], ◌∷◌, length, nat_eq, refl, sym, subst, ap, ◌∙◌, arith, pos, negsuc, ℤ}
use Rattle.std.proofs.lemmas.Bool.{cases_eq, eq-eqb, ne_eqb}
use Rattle.std.proofs.lemmas.List.{get_or_past}
use Rattle.dcx_links.specs.declared.store.Cell.{Cell}
use Rattle.dcx_links.specs.Cells.{cell_at, IsAt, is_zero, cell_number, blank}

pub le_or : (a b : ℕ) → (a ≤ b) ⊎ (b < a)
le_or a b = grind arith

pub at_within : (cells : List Cell) (i : ℕ) → (cell_at cells i).value ≢ pos 0 → i < length cells
at_within cells i d = elim (le_or (length cells) i) [
  | inl le ↦ absurd (d (ap (λ (x : Cell). x.value) (get_or_past cells i blank le)))
  | inr lt ↦ lt
]

-- a cell without a number isn't one that has a number
pub other_cell : (cells : List Cell) (j k : ℕ) → (cell_at cells j).value ≢ pos 0 → (cell_at cells k).value ≡ pos 0 → k ≢ j
other_cell cells j k number none e = number (subst (λ n. (cell_at cells n).value ≡ pos 0) e none)

pub zero_or : (v : ℤ) → ((v ≡ pos 0) × (is_zero v ≡ true)) ⊎ ((v ≢ pos 0) × (is_zero v ≡ false))
zero_or (pos zero) = inl (refl, refl)
zero_or (pos (suc n)) = inr ((λ e. cc), refl)
zero_or (negsuc n) = inr ((λ e. cc), refl)

-- whether a cell stands at a place
abbrev pub IsHere : Cell → ℕ → ℕ → Type 0
IsHere x r c = (x.value ≢ pos 0) × (x.row ≡ r) × (x.column ≡ c)

abbrev first_or : Cell → ℕ → ℕ → ℤ → ℤ
first_or x r c rest = cond (is_zero x.value) rest (cond (nat_eq x.row r && nat_eq x.column c) x.value rest)

here_or : (x : Cell) (r c : ℕ) (rest : ℤ) → (IsHere x r c × (first_or x r c rest ≡ x.value)) ⊎ ((¬ IsHere x r c) × (first_or x r c rest ≡ rest))
here_or x r c rest = elim (zero_or x.value) [
  | inl z ↦ inr ((λ h. h.0 z.0), rw z.1 refl)
  | inr z ↦ elim (cases_eq x.row r) [
    | inr d ↦ inr ((λ h. d h.1), rw (z.1, ne_eqb x.row r d) refl)
    | inl e ↦ elim (cases_eq x.column c) [
      | inr d ↦ inr ((λ h. d h.2), rw (z.1, eq-eqb x.row r e, ne_eqb x.column c d) refl)
      | inl f ↦ inl ((z.0, e, f), rw (z.1, eq-eqb x.row r e, eq-eqb x.column c f) refl)
    ]
  ]
]

at_suc : (x : Cell) (xs : List Cell) (i r c : ℕ) → IsAt xs i r c → IsAt (x ∷ xs) (suc i) r c
at_suc x xs i r c h = record { number = h.number; in_row = h.in_row; in_column = h.in_column }

at_pred : (x : Cell) (xs : List Cell) (i r c : ℕ) → IsAt (x ∷ xs) (suc i) r c → IsAt xs i r c
at_pred x xs i r c h = record { number = h.number; in_row = h.in_row; in_column = h.in_column }

at_first : (x : Cell) (xs : List Cell) (r c : ℕ) → IsHere x r c → IsAt (x ∷ xs) zero r c
at_first x xs r c h = record { number = h.0; in_row = h.1; in_column = h.2 }

no_cell : (x : Cell) (xs : List Cell) (r c : ℕ) → ¬ IsHere x r c → ((i : ℕ) → ¬ IsAt xs i r c) → (i : ℕ) → ¬ IsAt (x ∷ xs) i r c
no_cell x xs r c d none zero h = d (h.number, h.in_row, h.in_column)
no_cell x xs r c d none (suc i) h = none i (at_pred x xs i r c h)

-- a place has a cell, or none, and then the number is 0
pub cell_or : (cells : List Cell) (r c : ℕ) → ((i : ℕ) × IsAt cells i r c) ⊎ (((i : ℕ) → ¬ IsAt cells i r c) × (cell_number cells r c ≡ pos 0))
cell_or [] r c = inr ((λ i h. h.number refl), refl)
cell_or (x ∷ xs) r c = elim (here_or x r c (cell_number xs r c)) [
  | inl h ↦ inl (zero, at_first x xs r c h.0)
  | inr n ↦ elim (cell_or xs r c) [
    | inl k ↦ inl (suc k.0, at_suc x xs k.0 r c k.1)
    | inr k ↦ inr ((λ i. no_cell x xs r c n.0 k.0 i), n.1 ∙ k.1)
  ]
]

pub number_is : (cells : List Cell) → ((i j r c : ℕ) → IsAt cells i r c → IsAt cells j r c → i ≡ j) → (i r c : ℕ) → IsAt cells i r c → cell_number cells r c ≡ (cell_at cells i).value
number_is [] one i r c h = absurd (h.number refl)
number_is (x ∷ xs) one zero r c h = elim (here_or x r c (cell_number xs r c)) [
  | inl k ↦ k.1
  | inr n ↦ absurd (n.0 (h.number, h.in_row, h.in_column))
]
number_is (x ∷ xs) one (suc i) r c h = elim (here_or x r c (cell_number xs r c)) [
  | inl k ↦ let e : zero ≡ suc i = one zero (suc i) r c (at_first x xs r c k.0) h in absurd (omega (arith, e))
  | inr n ↦ n.1 ∙ number_is xs (λ a b r' c' p q. let e : suc a ≡ suc b = one (suc a) (suc b) r' c' (at_suc x xs a r' c' p) (at_suc x xs b r' c' q) in omega (arith, e)) i r c (at_pred x xs i r c h)
]

pub number_none : (cells : List Cell) (r c : ℕ) → ((i : ℕ) → ¬ IsAt cells i r c) → cell_number cells r c ≡ pos 0
number_none cells r c none = elim (cell_or cells r c) [
  | inl k ↦ absurd (none k.0 k.1)
  | inr k ↦ k.1
]

-- a number other than 0 has a cell
pub cell_there : (cells : List Cell) (r c : ℕ) → cell_number cells r c ≢ pos 0 → (i : ℕ) × IsAt cells i r c
cell_there cells r c d = elim (cell_or cells r c) [
  | inl k ↦ k
  | inr k ↦ absurd (d k.1)
]

-- at 0 there is none
pub none_there : (cells : List Cell) → ((i j r c : ℕ) → IsAt cells i r c → IsAt cells j r c → i ≡ j) → (r c : ℕ) → cell_number cells r c ≡ pos 0 → (i : ℕ) → ¬ IsAt cells i r c
none_there cells one r c e i at = at.number (sym (number_is cells one i r c at) ∙ e)
