-- The last entry of a variable has its own unknown, the last one of the variable.
use Rattle.std.proofs.Common.{◌≡◌, ℕ, zero, suc, ◌+◌, ◌-◌, ◌*◌, ◌<◌, arith, true, false, ◌==◌, List, [], ◌∷◌, length, map}
use Rattle.std.proofs.Common.{get_or, Option, Some, option_map, refl, sym, ap, ap₂, ◌∙◌, subst, zero-add, ◌++◌}
use Rattle.std.proofs.lemmas.Bool.{eq-eqb, le-leb, false≢true}
use Rattle.std.proofs.lemmas.List.{length-map, get_or-map}
use Rattle.std.proofs.lemmas.List.FromFn.{length-range_with_len, get_or-range_with_len}
use Rattle.dcx_shape.specs.declared.shape.Sides.{Sides}
use Rattle.dcx_shape.specs.Sides.{rows_of, cols_of, entries_of}
use Rattle.dcx_shape.specs.Places.{HasEntry, row_place, places_below}
use Rattle.dcx_shape.proofs.Entries.{entries_are}
use Rattle.dcx_call.specs.declared.attribute.Attribute.{Attribute}
use Rattle.dcx_call.specs.declared.attribute.Attribute.TheVariants.{Free, Nonneg, Nonpos, Symmetric, Diag}
use Rattle.dcx_call.specs.declared.attribute.Variable.{Variable}
use Rattle.dcx_unknowns.specs.Own.{row_in, column_in, is_own, own_count, own_before}
use Rattle.dcx_unknowns.specs.Unknowns.{demanded, sides_in, variable_unknowns, first_unknown, unknown_from, AreFirstsOf}
use Rattle.dcx_call.specs.Attributes.{IsSquareFor, IsSquare, AreSquare}
use Rattle.dcx_unknowns.proofs.Owners.{firsts_counted, first_at}
use Rattle.dcx_unknowns.proofs.Owners.{are_numbered, firsts_next}
use Rattle.dcx_unknowns.proofs.Places.{own_count_is, own_more}
use Rattle.dcx_unknowns.proofs.Sources.{row_is, column_is, own_source}

-- the last entry of a square is on its diagonal
module _ (s : Sides) (square : rows_of s ≡ cols_of s) (t : ℕ) (e : cols_of s ≡ suc t) where
  corner_place : row_place s t t ≡ entries_of s - 1
  corner_place =
      let size : entries_of s ≡ suc t * suc t = entries_are s ∙ ap₂ ◌*◌ (square ∙ e) e in
      let place : t * cols_of s + t ≡ t * suc t + t = ap (λ m. t * m + t) e in
      omega (arith, size, place)

  corner_there : HasEntry s t t
  corner_there = record { row = omega (arith, square, e); column = omega (arith, e) }

  corner_row : row_in s (entries_of s - 1) ≡ t
  corner_row = ap (row_in s) (sym corner_place) ∙ row_is s t t corner_there

  corner_column : column_in s (entries_of s - 1) ≡ t
  corner_column = ap (column_in s) (sym corner_place) ∙ column_is s t t corner_there

on_diagonal : (s : Sides) → rows_of s ≡ cols_of s → 0 < entries_of s → row_in s (entries_of s - 1) ≡ column_in s (entries_of s - 1)
on_diagonal s square some = by (cols_of s) refl
  where
    by : (m : ℕ) → cols_of s ≡ m → row_in s (entries_of s - 1) ≡ column_in s (entries_of s - 1)
    by zero e =
        let none : entries_of s ≡ rows_of s * 0 = entries_are s ∙ ap (λ m. rows_of s * m) e in
        absurd (omega (arith, none, some))
    by (suc t) e = corner_row s square t e ∙ sym (corner_column s square t e)

-- so it has its own unknown
last_own : (a : Attribute) (s : Sides) → IsSquareFor a s → 0 < entries_of s → is_own a s (entries_of s - 1) ≡ true
last_own Free s square some = refl
last_own Nonneg s square some = refl
last_own Nonpos s square some = refl
last_own Symmetric s square some = le-leb (row_in s (entries_of s - 1)) (column_in s (entries_of s - 1)) (let same = on_diagonal s square some in omega (arith, same))
last_own Diag s square some = eq-eqb (row_in s (entries_of s - 1)) (column_in s (entries_of s - 1)) (on_diagonal s square some)

-- which is the last one
module _ (v : Variable) (square : IsSquare v) (first : ℕ) where
  abbrev pub last : ℕ
  last = entries_of (sides_in v) - 1

  own : is_own (demanded v) (sides_in v) last ≡ true
  own = last_own (demanded v) (sides_in v) square v.shape.few.some

  pub last_unknown : unknown_from first v last ≡ Some (first + own_before (demanded v) (sides_in v) last)
  last_unknown = ap (option_map (λ e. first + own_before (demanded v) (sides_in v) e)) (own_source (demanded v) (sides_in v) last own)

  pub all_own : own_count (demanded v) (sides_in v) ≡ own_before (demanded v) (sides_in v) last + 1
  all_own =
      let some = v.shape.few.some in
      let whole : entries_of (sides_in v) ≡ last + 1 = omega (arith, some) in
      own_count_is (demanded v) (sides_in v) ∙ ap (own_before (demanded v) (sides_in v)) whole ∙ own_more (demanded v) (sides_in v) last own

  -- as they are listed
  pub last_listed : (unknowns : List (Option ℕ)) (d : Option ℕ) → unknowns ≡ map (unknown_from first v) (places_below (entries_of (sides_in v))) → get_or unknowns last d ≡ unknown_from first v last
  last_listed unknowns d e =
      let some = v.shape.few.some in
      let lt : last < entries_of (sides_in v) = omega (arith, some) in
      let within : last < length (places_below (entries_of (sides_in v))) = omega (arith, lt, length-range_with_len 0 (entries_of (sides_in v))) in
      ap (λ us. get_or us last d) e ∙ get_or-map (unknown_from first v) (places_below (entries_of (sides_in v))) last 0 d within
      ∙ ap (unknown_from first v) (get_or-range_with_len 0 (entries_of (sides_in v)) last 0 lt ∙ zero-add last)

-- of the last variable it is the last of all
pub last_of_all : (vs : List Variable) (k : ℕ) (v : Variable) → k + 1 ≡ length vs → v ≡ get_or vs k v → first_unknown vs k + own_count (demanded v) (sides_in v) ≡ variable_unknowns vs
last_of_all vs k v e at =
    let lt : k < length vs = omega (arith, e) in
    (firsts_next vs k (first_unknown vs k) v (map (first_unknown vs) (places_below k)) (map (first_unknown vs) (places_below k) ++ first_unknown vs k ∷ []) lt at refl refl refl).1
    ∙ ap (first_unknown vs) e ∙ (are_numbered vs).all

pub nonempty : (n : ℕ) → false ≡ (n == 0) → 0 < n
nonempty zero e = absurd (false≢true e)
nonempty (suc n) e = omega arith

-- the unknown that is read at the end
pub read_last : (v : Variable) (square : IsSquare v) (first : ℕ) (unknowns : List (Option ℕ)) (len : ℕ) (o : Option ℕ) → unknowns ≡ map (unknown_from first v) (places_below (entries_of (sides_in v)))
    → len ≡ length unknowns → o ≡ get_or unknowns (len - 1) o → o ≡ Some (first + own_before (demanded v) (sides_in v) (last v square first))
read_last v square first unknowns len o e many at =
    let size : len ≡ entries_of (sides_in v) = many ∙ ap length e ∙ length-map (places_below (entries_of (sides_in v))) (unknown_from first v) ∙ length-range_with_len 0 (entries_of (sides_in v)) in
    at ∙ ap (λ n. get_or unknowns (n - 1) o) size ∙ last_listed v square first unknowns o e ∙ last_unknown v square first

-- the last variable, as code has it
module _ (vs : List Variable) (some : 0 < length vs) (firsts : List ℕ) (are : AreFirstsOf vs firsts) where
  pub last_there : length vs - 1 < length firsts
  last_there = let counted = firsts_counted vs firsts are in omega (arith, some, counted)

  module _ (v : Variable) (at : v ≡ get_or vs (length vs - 1) v) where
    -- its unknowns are the last ones
    pub last_fits : get_or firsts (length vs - 1) 0 + own_count (demanded v) (sides_in v) ≡ variable_unknowns vs
    last_fits =
        let first_is = first_at vs firsts (length vs - 1) 0 are (omega (arith, some)) in
        let all = last_of_all vs (length vs - 1) v (omega (arith, some)) at in
        omega (arith, first_is, all)

    -- what is read at their end is the last of all
    pub last_read : AreSquare vs → (unknowns : List (Option ℕ)) (len : ℕ) (o : Option ℕ) → unknowns ≡ map (unknown_from (get_or firsts (length vs - 1) 0) v) (places_below (entries_of (sides_in v))) →
        len ≡ length unknowns → o ≡ get_or unknowns (len - 1) o → (u : ℕ) × (o ≡ Some u) × (u + 1 ≡ variable_unknowns vs)
    last_read square unknowns len o e many here =
        let own : IsSquare v = subst IsSquare (sym at) (square (length vs - 1) v (omega (arith, some))) in
        let first = get_or firsts (length vs - 1) 0 in
        let whole = all_own v own first in
        let fits = last_fits in
        (first + own_before (demanded v) (sides_in v) (last v own first), read_last v own first unknowns len o e many here, omega (arith, whole, fits))
