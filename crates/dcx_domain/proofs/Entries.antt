-- Entries keep what is demanded, or leave it.
use Rattle.std.proofs.Common.{◌≡◌, ◌≢◌, inl, inr, ◌⊎◌, ℕ, ◌/◌, ◌%◌, ◌<◌, ◌↔◌, false, refl, sym, ap, ap₂, ◌∙◌, subst, arith, pos}
use native.Mathlib.Decide.{dec_lt}
use Rattle.std.proofs.lemmas.Bool.{cases_eq}
use Rattle.dcx_math.specs.Rational.{ℚ, whole}
use Rattle.dcx_math.proofs.Orders.{≤ℚ_refl, ≤ℚ-or-<ℚ, <ℚ-not, ℚ_discrete}
use Rattle.dcx_shape.specs.declared.shape.Sides.{Sides}
use Rattle.dcx_shape.specs.declared.shape.Sides.TheVariants.{Matrix}
use Rattle.dcx_shape.specs.Shape.{sides_of}
use Rattle.dcx_shape.specs.Sides.{rows_of, cols_of, entries_of}
use Rattle.dcx_shape.specs.Places.{HasEntry, row_place}
use Rattle.dcx_shape.proofs.Entries.{place_below, same_entry}
use Rattle.dcx_atom.specs.Arrays.{entry_at}
use Rattle.dcx_call.specs.declared.attribute.Attribute.{Attribute}
use Rattle.dcx_call.specs.declared.attribute.Attribute.TheVariants.{Free, Nonneg, Nonpos, Symmetric, Diag}
use Rattle.dcx_call.specs.Attributes.{counted, IsWithin}
use Rattle.dcx_domain.specs.Entries.{HasMirrorBelow, IsItsMirror, IsZeroOffDiagonal, KeepsAt, DiffersFromMirror, IsNonzeroOffDiagonal, LeavesAt}
use Rattle.dcx_domain.specs.Laws.{HoldsForEntries}
use Rattle.dcx_shape.proofs.EntryPlaces.{entry_here, place_here, only_here}

module _ (s : Sides) (x : ℕ → ℚ) (k : ℕ) (lt : k < entries_of s) where
  -- ---- an entry and its mirror
  pub mirror_above : k / cols_of s < k % cols_of s → k % cols_of s < rows_of s → IsItsMirror s x k
  mirror_above h g =
      only_here s k lt (λ i j. ¬ HasMirrorBelow s i j → entry_at s x i j ≡ entry_at s x j i)
      (λ n. let e = (entry_here s k lt).column in absurd (n (record { above = h; mirror = record { row = g; column = omega (arith, h, e) } })))

  pub mirror_same : x k ≡ x (row_place s (k % cols_of s) (k / cols_of s)) → IsItsMirror s x k
  mirror_same e = only_here s k lt (λ i j. ¬ HasMirrorBelow s i j → entry_at s x i j ≡ entry_at s x j i) (λ n. ap x (sym (place_here s k lt)) ∙ e)

  pub mirror_differs : ¬ HasMirrorBelow s (k / cols_of s) (k % cols_of s) → x k ≢ x (row_place s (k % cols_of s) (k / cols_of s)) → DiffersFromMirror s x k
  mirror_differs n ne = record {
    row = k / cols_of s;
    column = k % cols_of s;
    entry = entry_here s k lt;
    place = place_here s k lt;
    asked = n;
    differs = λ e. ne (ap x (place_here s k lt) ∙ e);
  }

  -- ---- an entry and the diagonal
  pub diagonal_keeps : k / cols_of s ≡ k % cols_of s → IsZeroOffDiagonal s x k
  diagonal_keeps e = only_here s k lt (λ i j. i ≢ j → entry_at s x i j ≡ whole (pos 0)) (λ n. absurd (n e))

  pub zero_keeps : x k ≡ whole (pos 0) → IsZeroOffDiagonal s x k
  zero_keeps e = only_here s k lt (λ i j. i ≢ j → entry_at s x i j ≡ whole (pos 0)) (λ n. ap x (sym (place_here s k lt)) ∙ e)

  pub nonzero_leaves : k / cols_of s ≢ k % cols_of s → x k ≢ whole (pos 0) → IsNonzeroOffDiagonal s x k
  nonzero_leaves n ne = record {
    row = k / cols_of s;
    column = k % cols_of s;
    entry = entry_here s k lt;
    place = place_here s k lt;
    off = n;
    nonzero = λ e. ne (ap x (place_here s k lt) ∙ e);
  }

-- ---- each entry keeps what is demanded, or leaves it, and not both
mirrors : (s : Sides) (x : ℕ → ℚ) (k : ℕ) → k < entries_of s → IsItsMirror s x k ⊎ DiffersFromMirror s x k
mirrors s x k lt = by (dec_lt (k / cols_of s) (k % cols_of s)) (dec_lt (k % cols_of s) (rows_of s)) (ℚ_discrete (x k) (x (row_place s (k % cols_of s) (k / cols_of s))))
  where
    by : Dec (k / cols_of s < k % cols_of s) → Dec (k % cols_of s < rows_of s) →
        (x k ≡ x (row_place s (k % cols_of s) (k / cols_of s))) ⊎ (x k ≢ x (row_place s (k % cols_of s) (k / cols_of s))) → IsItsMirror s x k ⊎ DiffersFromMirror s x k
    by (yes h) (yes g) d = inl (mirror_above s x k lt h g)
    by a b (inl e) = inl (mirror_same s x k lt e)
    by (no f) b (inr ne) = inr (mirror_differs s x k lt (λ m. f m.above) ne)
    by (yes h) (no f) (inr ne) = inr (mirror_differs s x k lt (λ m. f m.mirror.row) ne)

diagonals : (s : Sides) (x : ℕ → ℚ) (k : ℕ) → k < entries_of s → IsZeroOffDiagonal s x k ⊎ IsNonzeroOffDiagonal s x k
diagonals s x k lt = by (cases_eq (k / cols_of s) (k % cols_of s)) (ℚ_discrete (x k) (whole (pos 0)))
  where
    by : (k / cols_of s ≡ k % cols_of s) ⊎ (k / cols_of s ≢ k % cols_of s) → (x k ≡ whole (pos 0)) ⊎ (x k ≢ whole (pos 0)) → IsZeroOffDiagonal s x k ⊎ IsNonzeroOffDiagonal s x k
    by (inl e) d = inl (diagonal_keeps s x k lt e)
    by (inr n) (inl e) = inl (zero_keeps s x k lt e)
    by (inr n) (inr ne) = inr (nonzero_leaves s x k lt n ne)

either : (a : Attribute) (s : Sides) (x : ℕ → ℚ) (k : ℕ) → k < entries_of s → KeepsAt a s x k ⊎ LeavesAt a s x k
either Free s x k lt = inl tt
either Nonneg s x k lt = ≤ℚ-or-<ℚ (whole (pos 0)) (x k)
either Nonpos s x k lt = ≤ℚ-or-<ℚ (x k) (whole (pos 0))
either Symmetric s x k lt = mirrors s x k lt
either Diag s x k lt = diagonals s x k lt

pub not_both : (a : Attribute) (s : Sides) (x : ℕ → ℚ) (k : ℕ) → KeepsAt a s x k → ¬ LeavesAt a s x k
not_both Free s x k h l = l
not_both Nonneg s x k h l = <ℚ-not l h
not_both Nonpos s x k h l = <ℚ-not l h
not_both Symmetric s x k h l = l.differs (h l.row l.column l.entry l.place l.asked)
not_both Diag s x k h l = l.nonzero (h l.row l.column l.entry l.place l.off)

-- ---- an array is within an attribute where each entry keeps it
pub each_keeps : (a : Attribute) (s : Sides) (x : ℕ → ℚ) → IsWithin a s x → (k : ℕ) → k < entries_of s → KeepsAt a s x k
each_keeps Free s x h k lt = tt
each_keeps Nonneg s x h k lt = h k lt
each_keeps Nonpos s x h k lt = h k lt
each_keeps Symmetric s x h k lt = λ i j e at n. h i j e
each_keeps Diag s x h k lt = λ i j e at n. h i j e n

-- an entry above the diagonal is asked at its mirror
each_mirror : (s : Sides) (x : ℕ → ℚ) → ((k : ℕ) → k < entries_of s → IsItsMirror s x k) → (i j : ℕ) → HasEntry s i j → entry_at s x i j ≡ entry_at s x j i
each_mirror s x h i j e = by (dec_lt i j) (dec_lt j (rows_of s))
  where
    here : ¬ HasMirrorBelow s i j → entry_at s x i j ≡ entry_at s x j i
    here n = h (row_place s i j) (place_below false s i j e) i j e refl n

    by : Dec (i < j) → Dec (j < rows_of s) → entry_at s x i j ≡ entry_at s x j i
    by (yes a) (yes r) =
        let m : HasEntry s j i = let c = e.column in record { row = r; column = omega (arith, a, c) } in
        sym (h (row_place s j i) (place_below false s j i m) j i m refl (λ b. let back = b.above in absurd (omega (arith, a, back))))
    by (yes a) (no f) = here (λ b. f b.mirror.row)
    by (no f) r = here (λ b. f b.above)

pub all_keep : (a : Attribute) (s : Sides) (x : ℕ → ℚ) → ((k : ℕ) → k < entries_of s → KeepsAt a s x k) → IsWithin a s x
all_keep Free s x h = tt
all_keep Nonneg s x h = h
all_keep Nonpos s x h = h
all_keep Symmetric s x h = each_mirror s x h
all_keep Diag s x h = λ i j e n. h (row_place s i j) (place_below false s i j e) i j e refl n

-- of a square the entries below the diagonal are asked
square : (n i j : ℕ) (x : ℕ → ℚ) → i < n → j < n → IsItsMirror (Matrix n n) x (row_place (Matrix n n) i j) ↔ (j < i → entry_at (Matrix n n) x i j ≡ entry_at (Matrix n n) x j i)
square n i j x row column = ((λ h lt. h i j here refl (λ m. let up = m.above in absurd (omega (arith, up, lt)))), back)
  where
    here : HasEntry (Matrix n n) i j
    here = record { row = row; column = column }

    by : (j < i → entry_at (Matrix n n) x i j ≡ entry_at (Matrix n n) x j i) → Dec (i < j) → Dec (j < i) → ¬ HasMirrorBelow (Matrix n n) i j → entry_at (Matrix n n) x i j ≡ entry_at (Matrix n n) x j i
    by g (yes up) d m = absurd (m (record { above = up; mirror = record { row = column; column = row } }))
    by g (no f) (yes down) m = g down
    by g (no f) (no e) m = let same : i ≡ j = omega arith in ap x (ap₂ (row_place (Matrix n n)) same (sym same))

    back : (j < i → entry_at (Matrix n n) x i j ≡ entry_at (Matrix n n) x j i) → IsItsMirror (Matrix n n) x (row_place (Matrix n n) i j)
    back g a b e at =
        let same : (i ≡ a) × (j ≡ b) = same_entry false (Matrix n n) i j a b here e at in
        let P : ℕ → ℕ → Type 0 = λ r c. ¬ HasMirrorBelow (Matrix n n) r c → entry_at (Matrix n n) x r c ≡ entry_at (Matrix n n) x c r in
        subst (λ r. P r b) same.0 (subst (λ c. P i c) same.1 (by g (dec_lt i j) (dec_lt j i)))

pub entries_hold : HoldsForEntries
entries_hold = record {
  each = λ v x. (each_keeps (counted v.whole v.attribute) (sides_of v.shape) x, all_keep (counted v.whole v.attribute) (sides_of v.shape) x);
  either = either;
  not_both = not_both;
  square = square;
}

-- an array with an entry that leaves isn't within
pub leaves_not : (a : Attribute) (s : Sides) (x : ℕ → ℚ) (k : ℕ) → k < entries_of s → LeavesAt a s x k → ¬ IsWithin a s x
leaves_not a s x k lt l h = not_both a s x k (each_keeps a s x h k lt) l

-- zeros are within each attribute
pub zeros_within : (a : Attribute) (s : Sides) (x : ℕ → ℚ) → ((j : ℕ) → x j ≡ whole (pos 0)) → IsWithin a s x
zeros_within Free s x z = tt
zeros_within Nonneg s x z = λ j lt. rw (z j) (≤ℚ_refl (whole (pos 0)))
zeros_within Nonpos s x z = λ j lt. rw (z j) (≤ℚ_refl (whole (pos 0)))
zeros_within Symmetric s x z = λ i j e. z (row_place s i j) ∙ sym (z (row_place s j i))
zeros_within Diag s x z = λ i j e n. z (row_place s i j)
