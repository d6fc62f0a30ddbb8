-- Whose unknown stands for an entry.
use Rattle.std.proofs.Common.{◌≡◌, ◌≢◌, ◌⊎◌, inl, inr, ℕ, ◌+◌, ◌*◌, ◌<◌, Bool, true, false, if◌then◌else◌, List, [], ◌∷◌, ◌++◌, map, get_or}
use Rattle.std.proofs.Common.{Option, Some, None, option_map, refl, sym, ap, ap₂, subst, ◌∙◌, arith, mul_comm, true≢false}
use Rattle.std.specs.Prelude.{nat_le, nat_eq}
use Rattle.std.proofs.lemmas.Bool.{leb-false, le-leb, lt-leb, ne_eqb, cases_order}
use Rattle.std.proofs.lemmas.List.{map_push}
use Rattle.std.proofs.lemmas.List.FromFn.{get_or-map-range_with_len}
use Rattle.std.proofs.lemmas.Nat.{div-mul-add, mod-mul-add, mul-add-lt}
use Rattle.std.proofs.lemmas.Option.{none-some, same_Some}
use Rattle.dcx_shape.specs.declared.shape.Sides.{Sides}
use Rattle.dcx_shape.specs.Sides.{rows_of, cols_of, entries_of}
use Rattle.dcx_shape.specs.Places.{HasEntry, row_place, places_below}
use Rattle.dcx_shape.proofs.Entries.{place_below}
use Rattle.dcx_call.specs.declared.attribute.Attribute.{Attribute}
use Rattle.dcx_call.specs.declared.attribute.Attribute.TheVariants.{Free, Nonneg, Nonpos, Symmetric, Diag}
use Rattle.dcx_shape.proofs.EntryPlaces.{entry_here, place_here}
use Rattle.dcx_unknowns.specs.Own.{row_in, column_in, is_own, mirror_of, source_of, own_before, listed_for}
use Rattle.dcx_unknowns.specs.Unknowns.{unknown_in}
use Rattle.dcx_call.specs.Attributes.{IsSquareFor}
use Rattle.dcx_unknowns.proofs.Places.{places_next, own_more, own_no_more}

-- ---- rows and columns of places
pub row_is : (s : Sides) (i j : ℕ) → HasEntry s i j → row_in s (row_place s i j) ≡ i
row_is s i j h = div-mul-add i (cols_of s) j h.column

pub column_is : (s : Sides) (i j : ℕ) → HasEntry s i j → column_in s (row_place s i j) ≡ j
column_is s i j h = mod-mul-add i (cols_of s) j h.column

-- in a square each entry has a mirror
pub turned : (s : Sides) (i j : ℕ) → rows_of s ≡ cols_of s → HasEntry s i j → HasEntry s j i
turned s i j sq h = let r = h.row in let c = h.column in record { row = omega (arith, sq, c); column = omega (arith, sq, r) }

module _ (s : Sides) (sq : rows_of s ≡ cols_of s) (k : ℕ) (lt : k < entries_of s) where
  -- the entry whose mirror it is
  pub mirror_entry : HasEntry s (column_in s k) (row_in s k)
  mirror_entry = turned s (row_in s k) (column_in s k) sq (entry_here s k lt)

  pub mirror_below : mirror_of s k < entries_of s
  mirror_below = place_below false s (column_in s k) (row_in s k) mirror_entry

  -- the mirror of an entry below the diagonal stands before it
  pub mirror_before : nat_le (row_in s k) (column_in s k) ≡ false → mirror_of s k < k
  mirror_before e =
      let under : column_in s k < row_in s k = leb-false (row_in s k) (column_in s k) e in
      let narrow : row_in s k < cols_of s = mirror_entry.column in
      let less : mirror_of s k < cols_of s * row_in s k = mul-add-lt (column_in s k) (cols_of s) (row_in s k) (row_in s k) under narrow in
      let place : k ≡ row_in s k * cols_of s + column_in s k = place_here s k lt in
      omega (arith, less, place, mul_comm (cols_of s) (row_in s k))

  -- and has an unknown of its own
  pub mirror_own : nat_le (row_in s k) (column_in s k) ≡ false → nat_le (row_in s (mirror_of s k)) (column_in s (mirror_of s k)) ≡ true
  mirror_own e =
      let under : column_in s k < row_in s k = leb-false (row_in s k) (column_in s k) e in
      ap₂ nat_le (row_is s (column_in s k) (row_in s k) mirror_entry) (column_is s (column_in s k) (row_in s k) mirror_entry) ∙ le-leb (column_in s k) (row_in s k) (omega (arith, under))

-- ---- sources
-- an entry that has its own unknown
pub own_source : (a : Attribute) (s : Sides) (k : ℕ) → is_own a s k ≡ true → source_of a s k ≡ Some k
own_source Free s k e = refl
own_source Nonneg s k e = refl
own_source Nonpos s k e = refl
own_source Symmetric s k e = ap (λ b. Some (if b then k else mirror_of s k)) e
own_source Diag s k e = ap (λ b. if b then Some k else None) e

-- entry k is there, and has its own
abbrev pub Owns : Attribute → Sides → ℕ → Type 0
Owns a s k = (k < entries_of s) × (is_own a s k ≡ true)

-- the unknown that stands for an entry is that of an entry with its own
pub source_own : (a : Attribute) (s : Sides) (k j : ℕ) → IsSquareFor a s → k < entries_of s → source_of a s k ≡ Some j → Owns a s j
source_own Free s k j sq lt e = (subst (λ i. i < entries_of s) (same_Some k j e) lt, refl)
source_own Nonneg s k j sq lt e = (subst (λ i. i < entries_of s) (same_Some k j e) lt, refl)
source_own Nonpos s k j sq lt e = (subst (λ i. i < entries_of s) (same_Some k j e) lt, refl)
source_own Symmetric s k j sq lt e = by (nat_le (row_in s k) (column_in s k)) refl e
  where
    by : (b : Bool) → nat_le (row_in s k) (column_in s k) ≡ b → Some (if b then k else mirror_of s k) ≡ Some j → Owns Symmetric s j
    by true t f = subst (Owns Symmetric s) (same_Some k j f) (lt, t)
    by false t f = subst (Owns Symmetric s) (same_Some (mirror_of s k) j f) (mirror_below s sq k lt, mirror_own s sq k lt t)
source_own Diag s k j sq lt e = by (nat_eq (row_in s k) (column_in s k)) refl e
  where
    by : (b : Bool) → nat_eq (row_in s k) (column_in s k) ≡ b → (if b then Some k else None) ≡ Some j → Owns Diag s j
    by true t f = subst (Owns Diag s) (same_Some k j f) (lt, t)
    by false t f = absurd (none-some j f)

-- an entry without its own has one that stands before it, if any
pub source_before : (a : Attribute) (s : Sides) (k j : ℕ) → IsSquareFor a s → k < entries_of s → is_own a s k ≡ false → source_of a s k ≡ Some j → j < k
source_before Free s k j sq lt other e = absurd (true≢false other)
source_before Nonneg s k j sq lt other e = absurd (true≢false other)
source_before Nonpos s k j sq lt other e = absurd (true≢false other)
source_before Symmetric s k j sq lt other e =
    let same : mirror_of s k ≡ j = same_Some (mirror_of s k) j (sym (ap (λ b. Some (if b then k else mirror_of s k)) other) ∙ e) in
    subst (λ i. i < k) same (mirror_before s sq k lt other)
source_before Diag s k j sq lt other e = absurd (none-some j (sym (ap (λ b. if b then Some k else None) other) ∙ e))

-- of a symmetric variable an entry and its mirror have one source
pub source_mirror : (s : Sides) (i j : ℕ) → rows_of s ≡ cols_of s → HasEntry s i j → source_of Symmetric s (row_place s i j) ≡ source_of Symmetric s (row_place s j i)
source_mirror s i j sq h =
    by (cases_order i j)
  where
    here : source_of Symmetric s (row_place s i j) ≡ Some (if nat_le i j then row_place s i j else row_place s j i)
    here = ap₂ (λ r c. Some (if nat_le r c then row_place s i j else row_place s c r)) (row_is s i j h) (column_is s i j h)

    there : source_of Symmetric s (row_place s j i) ≡ Some (if nat_le j i then row_place s j i else row_place s i j)
    there = ap₂ (λ r c. Some (if nat_le r c then row_place s j i else row_place s c r)) (row_is s j i (turned s i j sq h)) (column_is s j i (turned s i j sq h))

    by : (i ≡ j) ⊎ ((i < j) ⊎ (j < i)) → source_of Symmetric s (row_place s i j) ≡ source_of Symmetric s (row_place s j i)
    by (inl e) = ap₂ (λ r c. source_of Symmetric s (row_place s r c)) e (sym e)
    by (inr (inl lt)) =
        here ∙ ap (λ b. Some (if b then row_place s i j else row_place s j i)) (le-leb i j (omega (arith, lt)))
        ∙ sym (there ∙ ap (λ b. Some (if b then row_place s j i else row_place s i j)) (lt-leb j i lt))
    by (inr (inr gt)) =
        here ∙ ap (λ b. Some (if b then row_place s i j else row_place s j i)) (lt-leb i j gt)
        ∙ sym (there ∙ ap (λ b. Some (if b then row_place s j i else row_place s i j)) (le-leb j i (omega (arith, gt))))

-- off the diagonal of a diagonal variable there is none
pub source_off : (s : Sides) (i j : ℕ) → HasEntry s i j → i ≢ j → source_of Diag s (row_place s i j) ≡ None
source_off s i j h ne =
    let same : nat_eq (row_in s (row_place s i j)) (column_in s (row_place s i j)) ≡ false = ap₂ nat_eq (row_is s i j h) (column_is s i j h) ∙ ne_eqb i j ne in
    ap (λ b. if b then Some (row_place s i j) else None) same

-- ---- unknowns that are listed entry by entry
module _ (first : ℕ) (a : Attribute) (s : Sides) (k : ℕ) (xs ys : List (Option ℕ)) (so_far : xs ≡ map (unknown_in first a s) (places_below k)) where
  listed_next : (o : Option ℕ) → ys ≡ xs ++ o ∷ [] → o ≡ unknown_in first a s k → ys ≡ map (unknown_in first a s) (places_below (k + 1))
  listed_next o e h =
      e ∙ ap₂ (λ zs z. zs ++ z ∷ []) so_far h ∙ sym (ap (map (unknown_in first a s)) (places_next k) ∙ map_push (unknown_in first a s) (places_below k) k)

  -- an entry with its own takes the next unknown
  pub own_listed_next : (next : ℕ) → is_own a s k ≡ true → next ≡ first + own_before a s k → ys ≡ xs ++ Some next ∷ [] →
      (ys ≡ map (unknown_in first a s) (places_below (k + 1))) × (next + 1 ≡ first + own_before a s (k + 1))
  own_listed_next next own is e =
      let o : Some next ≡ unknown_in first a s k = ap Some is ∙ sym (ap (option_map (λ i. first + own_before a s i)) (own_source a s k own)) in
      (listed_next (Some next) e o, omega (arith, is, own_more a s k own))

  -- any other the one that is listed for its source
  pub other_listed_next : (next : ℕ) (o : Option ℕ) → IsSquareFor a s → k < entries_of s → is_own a s k ≡ false → next ≡ first + own_before a s k → o ≡ listed_for xs (source_of a s k)
      → ys ≡ xs ++ o ∷ []
      → (ys ≡ map (unknown_in first a s) (places_below (k + 1))) × (next ≡ first + own_before a s (k + 1))
  other_listed_next next o sq lt other is at e = (listed_next o e (at ∙ by (source_of a s k) refl), omega (arith, is, own_no_more a s k other))
    where
      by : (t : Option ℕ) → source_of a s k ≡ t → listed_for xs t ≡ option_map (λ i. first + own_before a s i) t
      by None f = refl
      by (Some j) f =
          let before : j < k = source_before a s k j sq lt other f in
          let own = source_own a s k j sq lt f in
          ap (λ zs. get_or zs j None) so_far ∙ get_or-map-range_with_len (unknown_in first a s) 0 k j j None before (omega arith)
          ∙ ap (option_map (λ i. first + own_before a s i)) (own_source a s j own.1)
