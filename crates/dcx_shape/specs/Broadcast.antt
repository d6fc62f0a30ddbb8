-- Broadcasting: the shape that two arrays share, with their sides aligned from the right.
use Rattle.std.specs.Prelude.{◌≡◌, ℕ, zero, suc, max, ◌⊎◌}
use Rattle.dcx_shape.specs.declared.shape.Sides.{Sides}
use Rattle.dcx_shape.specs.Sides.{rank_of, rows_of, cols_of}

-- side k from the right; one that is missing counts as 1
abbrev pub side_from_right : Sides → ℕ → ℕ
side_from_right sides zero = cols_of sides
side_from_right sides (suc zero) = rows_of sides
side_from_right sides (suc (suc k)) = 1

-- two sides are equal or one of them is 1, and the third is the greater of them
pub record IsJoinedSide (m n joined : ℕ) : Type 0 where
  pub fits : (m ≡ n) ⊎ ((m ≡ 1) ⊎ (n ≡ 1))
  pub greater : joined ≡ max m n

-- a and b broadcast to c: each pair of sides is joined, and the rank is the greater rank
pub record IsBroadcast (a b c : Sides) : Type 0 where
  pub rank : rank_of c ≡ max (rank_of a) (rank_of b)
  pub sides : (k : ℕ) → IsJoinedSide (side_from_right a k) (side_from_right b k) (side_from_right c k)

-- c has so many sides, rows and columns
pub record HasForm (rank rows columns : ℕ) (c : Sides) : Type 0 where
  pub is_rank : rank_of c ≡ rank
  pub is_rows : rows_of c ≡ rows
  pub is_columns : cols_of c ≡ columns
