-- A matrix: a number at each place, which is a row and a column.
use Rattle.std.specs.Prelude.{ℕ, zero, suc, List, [], ◌∷◌, ℤ, pos, get_or}

pub record Matrix : Type 0 where
  -- how many rows, and how many columns
  pub height : ℕ
  pub width : ℕ
  pub numbers : List (List ℤ)

-- the number at a place of a line, and 0 past the end
abbrev pub number : List ℤ → ℕ → ℤ
number line k = get_or line k (pos 0)

-- the number at row r and column c
abbrev pub number_at : Matrix → ℕ → ℕ → ℤ
number_at m r c = number (get_or m.numbers r []) c

-- f 0, f 1, .. and f (n - 1)
abbrev pub listed : {A : Type 0} → ℕ → (ℕ → A) → List A
listed zero f = []
listed (suc n) f = f 0 ∷ listed n (λ k. f (suc k))

abbrev pub row_of : Matrix → ℕ → List ℤ
row_of m r = listed m.width (λ c. number_at m r c)

abbrev pub column_of : Matrix → ℕ → List ℤ
column_of m c = listed m.height (λ r. number_at m r c)
