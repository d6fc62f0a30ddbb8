-- The chains of the lines, as lists.
use Rattle.std.proofs.Common.{ℕ, zero, suc, ◌+◌, ◌<◌, ◌≤◌, inl, inr, List, [], ◌∷◌, length, Some, None, refl, subst, arith}
use Rattle.std.proofs.lemmas.Bool.{cases_eq}
use Rattle.dcx_links.specs.declared.store.Cell.{Cell}
use Rattle.dcx_links.specs.Lines.{Has, IsNext, AreApart, AreLines, IsChain, Rises, IsLine}
use Rattle.dcx_links.specs.Cells.{head_at, InRow, InColumn, IsStore, next_in_row_at, next_in_column_at}
use Rattle.dcx_links.proofs.Stores.{row_apart, column_apart}

module _ (At : ℕ → ℕ → ℕ → Type 0) (apart : AreApart At) (heads next : ℕ → ℕ) (lines : AreLines At heads next) (l : ℕ) where
  -- the chain from b on
  abbrev Chained : ℕ → ℕ → Type 0
  Chained b link = (ks : List ℕ) × IsChain next link ks × Rises At l b ks × ((i q : ℕ) → At i l q → b ≤ q → Has ks i)

  chained : (n b link : ℕ) → ((i q : ℕ) → At i l q → q < b + n) → IsNext At l b link → Chained b link
  chained n b link below (inl (e, h)) = ([], e, tt, λ i q at le. let z = h.before i q at in absurd (omega (arith, z, le)))
  chained zero b link below (inr h) = let z = below link h.position h.here in let y = h.beyond in absurd (omega (arith, z, y))
  chained (suc n) b link below (inr h) =
      let y = h.beyond in
      let (ks, linked, rises, whole) = chained n (h.position + 1) (next link) (λ i q at. let z = below i q at in omega (arith, z, y)) (lines.linked l (Some link) (h.position + 1)
      (h.position, h.here, refl)) in (
        link ∷ ks,
        (refl, linked),
        (h.position, h.here, h.beyond, rises),
        λ i q at le. elim (cases_eq q h.position) [
          | inl e ↦ inl (apart.one_cell i link l h.position (subst (λ x. At i l x) e at) h.here)
          | inr d ↦ let z = h.first i q at le in inr (whole i q at (omega (arith, z, d)))
        ],
      )

  pub line_of : (n : ℕ) → ((i q : ℕ) → At i l q → q < n) → IsLine At heads next l
  line_of n below =
      let (ks, linked, rises, whole) = chained n 0 (heads l) (λ i q at. let z = below i q at in omega (arith, z)) (lines.linked l None 0 refl) in
      record { chain = ks; linked = linked; rises = rises; whole = λ i q at. whole i q at (omega arith) }

module _ (cells : List Cell) (rh ch : List ℕ) (free : ℕ) (store : IsStore cells rh ch free) where
  pub row_line : (r : ℕ) → IsLine (InRow cells) (head_at rh) (next_in_row_at cells) r
  row_line r = line_of (InRow cells) (row_apart cells rh ch free store) (head_at rh) (next_in_row_at cells) store.rows_linked r (length ch) (λ i q at. store.column_within i r q at)

  pub column_line : (c : ℕ) → IsLine (InColumn cells) (head_at ch) (next_in_column_at cells) c
  column_line c = line_of (InColumn cells) (column_apart cells rh ch free store) (head_at ch) (next_in_column_at cells) store.columns_linked c (length rh) (λ i q at. store.row_within i q c at)
