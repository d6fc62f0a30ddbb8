-- The row and the column of an entry, and the place of its mirror.
use Rattle.std.proofs.Common.{◌≡◌, ℕ, ◌*◌, ◌/◌, ◌%◌, ◌<◌, false, sym, ◌∙◌, subst, arith}
use Rattle.std.proofs.lemmas.Nat.{div-add-mod', div_below, mod_below}
use Rattle.dcx_shape.specs.declared.shape.Sides.{Sides}
use Rattle.dcx_shape.specs.Sides.{rows_of, cols_of, entries_of}
use Rattle.dcx_shape.specs.Places.{HasEntry, row_place}
use Rattle.dcx_shape.proofs.Entries.{entries_are, factor_pos, same_entry}

module _ (s : Sides) (k : ℕ) (lt : k < entries_of s) where
  below : k < rows_of s * cols_of s
  below = omega (arith, lt, entries_are s)

  -- there is a column
  pub wide : 0 < cols_of s
  wide = (factor_pos k (rows_of s) (cols_of s) below).1

  -- the entry at place k
  pub entry_here : HasEntry s (k / cols_of s) (k % cols_of s)
  entry_here = record { row = div_below k (cols_of s) (rows_of s) wide below; column = mod_below k (cols_of s) wide }

  pub place_here : k ≡ row_place s (k / cols_of s) (k % cols_of s)
  place_here = sym (div-add-mod' k (cols_of s))

  -- what holds of its row and column holds of whichever has the place
  pub only_here : (P : ℕ → ℕ → Type 0) → P (k / cols_of s) (k % cols_of s) → (i j : ℕ) → HasEntry s i j → k ≡ row_place s i j → P i j
  only_here P p i j e at =
      let same : (k / cols_of s ≡ i) × (k % cols_of s ≡ j) = same_entry false s (k / cols_of s) (k % cols_of s) i j entry_here e (sym place_here ∙ at) in
      subst (λ r. P r j) same.0 (subst (λ c. P (k / cols_of s) c) same.1 p)
