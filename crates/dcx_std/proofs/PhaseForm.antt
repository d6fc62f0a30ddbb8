-- The phase 1 row adds up the rows that start with an artificial.
use Rattle.std.proofs.Common.{◌≡◌, ℕ, ◌+◌, ◌-◌, ◌<◌, ◌≤◌, ◌^◌, Bool, true, false, List, [], ◌∷◌, ◌++◌, map, length, get_or}
use Rattle.std.proofs.Common.{drop, Result, Ok, Err, refl, sym, ap, ap₂, ◌∙◌, subst, ℤ, pos, unsigned_abs, lit<, arith}
use Rattle.std.specs.Prelude.{nat_le, if◌then◌else◌, filter, replicate, ◌+ℤ◌}
use Rattle.std.specs.List.{All, range_with_len}
use Rattle.std.proofs.lemmas.List.{length-map, length-append, length-replicate, get_or_append_left, get_or-append_right, get_or-map, get_or_at}
use Rattle.std.proofs.lemmas.List.FromFn.{length-map-range_with_len, get_or-map-range_with_len}
use Rattle.std.proofs.lemmas.List.Elements.{All-head, All-tail, All-cons, All-nil}
use Rattle.std.proofs.lemmas.Result.{IfOk-at_ok}
use Rattle.dcx_math.specs.Rational.{whole, ◌+ℚ◌}
use Rattle.dcx_math.specs.Sums.{rat_sum}
use Rattle.dcx_math.specs.IntegerSums.{int_sum}
use Rattle.dcx_math.proofs.Orders.{+ℚ_idl}
use Rattle.dcx_math.proofs.Points.{rat_sum-wholes}
use Rattle.dcx_math.proofs.IntegerLaws.{+ℤ_idl}
use Rattle.dcx_frac.specs.declared.fraction.Frac.{Frac}
use Rattle.dcx_frac.specs.declared.fraction.Passes.{Passes}
use Rattle.dcx_frac.specs.Frac.{num_of, value}
use Rattle.dcx_atom.specs.Formed.{zero_frac, frac_at, and_then, sum_from, sum_in_order}
use Rattle.dcx_atom.proofs.FormedSums.{value-zero_frac, value-sum_from}
use Rattle.dcx_frac.specs.Results.{sum_of}
use Rattle.dcx_linear.proofs.Formed.{drop_at}
use Rattle.dcx_tab.specs.declared.rows.IntRow.{IntRow}
use Rattle.dcx_tab.specs.declared.rows.CostRow.{CostRow}
use Rattle.dcx_tab.specs.declared.rows.ColumnKind.{ColumnKind}
use Rattle.dcx_tab.specs.Rows.{entry, AllSmall}
use Rattle.dcx_tab.specs.Program.{IsPhase, plain_count, sum_started, right_of}
use Rattle.dcx_tab.proofs.RowLaws.{zeros_at}
use Rattle.dcx_std.specs.WholeRows.{numerators}
use Rattle.dcx_std.specs.IntegerRows.{starts_artificial, number_at, added_number, column_sum, phase_of, phase_made}
use Rattle.dcx_lp_answer.proofs.Fractions.{value-whole}
use Rattle.dcx_std.proofs.Numerators.{passes_no_value, one_value, formed_numerators, numerators_small, numerators_count, num_of_whole}
use Rattle.dcx_std.proofs.RowForm.{AllSmall-++, small_ends}

-- ---- the sum at a column
-- the numbers of fractions of small whole numbers
values_of : (zs : List ℤ) → All (λ z. unsigned_abs z < 2 ^ 127) zs → map value (map frac_at (map whole zs)) ≡ map whole zs
values_of [] h = refl
values_of (z ∷ zs) h = ap₂ ◌∷◌ (value-whole z (All-head (λ y. unsigned_abs y < 2 ^ 127) z zs h)) (values_of zs (All-tail (λ y. unsigned_abs y < 2 ^ 127) z zs h))

-- a sum of small whole numbers is the whole sum
sum_is_whole : (zs : List ℤ) (x : Frac) → All (λ z. unsigned_abs z < 2 ^ 127) zs → sum_in_order (map whole zs) ≡ Ok x → num_of x ≡ int_sum zs
sum_is_whole zs x h e =
    num_of_whole x (int_sum zs)
    (IfOk-at_ok (λ s. value s ≡ value zero_frac +ℚ rat_sum (map value (map frac_at (map whole zs)))) e (value-sum_from zero_frac (map frac_at (map whole zs)))
    ∙ ap₂ ◌+ℚ◌ value-zero_frac (ap rat_sum (values_of zs h) ∙ rat_sum-wholes zs) ∙ +ℚ_idl (whole (int_sum zs)))

-- a sum over the rows that start with an artificial
started_sum : (plain : ℕ) (f : IntRow → ℤ) (rows : List IntRow) → int_sum (map f (filter (starts_artificial plain) rows)) ≡ sum_started plain f rows
started_sum plain f [] = refl
started_sum plain f (r ∷ rs) = by (nat_le plain r.basic) (started_sum plain f rs)
  where
    by : (b : Bool) → int_sum (map f (filter (starts_artificial plain) rs)) ≡ sum_started plain f rs
        → int_sum (map f (if b then r ∷ filter (starts_artificial plain) rs else filter (starts_artificial plain) rs)) ≡ (if b then f r else pos 0) +ℤ sum_started plain f rs
    by true rest = ap (λ z. f r +ℤ z) rest
    by false rest = rest ∙ sym (+ℤ_idl (sum_started plain f rs))

-- the whole numbers of the started rows are small
started_small : (plain j : ℕ) (rows : List IntRow) → All (λ r. AllSmall (r.entries ++ r.right ∷ [])) rows
    → All (λ z. unsigned_abs z < 2 ^ 127) (map (number_at j) (filter (starts_artificial plain) rows))
started_small plain j [] h = All-nil (λ z. unsigned_abs z < 2 ^ 127)
started_small plain j (r ∷ rs) h = by (nat_le plain r.basic) (started_small plain j rs (All-tail (λ s. AllSmall (s.entries ++ s.right ∷ [])) r rs h))
  where
    by : (b : Bool) → All (λ z. unsigned_abs z < 2 ^ 127) (map (number_at j) (filter (starts_artificial plain) rs))
        → All (λ z. unsigned_abs z < 2 ^ 127) (map (number_at j) (if b then r ∷ filter (starts_artificial plain) rs else filter (starts_artificial plain) rs))
    by true small = All-cons (λ z. unsigned_abs z < 2 ^ 127) (number_at j r) (map (number_at j) (filter (starts_artificial plain) rs))
        (All-head (λ s. AllSmall (s.entries ++ s.right ∷ [])) r rs h j) small
    by false small = small

map_both : {A B C : Type 0} (f : B → C) (g : A → B) (xs : List A) → map (λ x. f (g x)) xs ≡ map f (map g xs)
map_both f g [] = refl
map_both f g (x ∷ xs) = ap (λ ys. f (g x) ∷ ys) (map_both f g xs)

column_sum_is : (plain j : ℕ) (rows : List IntRow) (x : Frac) → All (λ r. AllSmall (r.entries ++ r.right ∷ [])) rows → column_sum plain rows j ≡ Ok x → num_of x ≡ sum_started plain (number_at j) rows
column_sum_is plain j rows x h e =
    let started = filter (starts_artificial plain) rows in
    sum_is_whole (map (number_at j) started) x (started_small plain j rows h) (ap sum_in_order (sym (map_both whole (number_at j) started)) ∙ e) ∙ started_sum plain (number_at j) rows

-- ---- the row
-- what the row is made of
record PhaseParts (plain width : ℕ) (rows : List IntRow) (c : CostRow) : Type 0 where
  pub sums : List ℤ
  pub last : Frac
  pub sums_are : numerators (map (column_sum plain rows) (range_with_len 0 plain)) ≡ Ok sums
  pub last_is : column_sum plain rows width ≡ Ok last
  pub is : c ≡ phase_of plain width sums last

phase_parts : (plain width : ℕ) (rows : List IntRow) (c : CostRow) → phase_made plain width rows ≡ Ok c → PhaseParts plain width rows c
phase_parts plain width rows c e = by (numerators (map (column_sum plain rows) (range_with_len 0 plain))) refl e
  where
    then_last : (zs : List ℤ) → numerators (map (column_sum plain rows) (range_with_len 0 plain)) ≡ Ok zs → (r : Result Frac Passes) → column_sum plain rows width ≡ r
        → and_then r (λ x. Ok (phase_of plain width zs x)) ≡ Ok c → PhaseParts plain width rows c
    then_last zs h (Err passes) d e = absurd (passes_no_value passes c e)
    then_last zs h (Ok x) d e = let q = one_value (Ok (phase_of plain width zs x)) (phase_of plain width zs x) c refl e in record { sums = zs; last = x; sums_are = h; last_is = d; is = sym q }

    by : (r : Result (List ℤ) Passes) → numerators (map (column_sum plain rows) (range_with_len 0 plain)) ≡ r
        → and_then r (λ zs. and_then (column_sum plain rows width) (λ x. Ok (phase_of plain width zs x))) ≡ Ok c → PhaseParts plain width rows c
    by (Err passes) d e = absurd (passes_no_value passes c e)
    by (Ok zs) d e = then_last zs d (column_sum plain rows width) refl e

-- the numerator of one of the formed numbers
numerator_at : (rs : List (Result Frac Passes)) (ys : List Frac) (j : ℕ) → rs ≡ map Ok ys → j < length rs → (y : Frac) × (get_or rs j (Ok zero_frac) ≡ Ok y) × (get_or ys j zero_frac ≡ y)
numerator_at rs ys j e l =
    (get_or ys j zero_frac, ap (λ s. get_or s j (Ok zero_frac)) e ∙ get_or-map Ok ys j zero_frac (Ok zero_frac) (subst (λ n. j < n) (ap length e ∙ length-map {B = Result Frac Passes} ys Ok) l), refl)

zeros_small : (n : ℕ) → AllSmall (replicate n (pos 0))
zeros_small n j = rw (zeros_at n j) (lit< tt)

from_zero : (j : ℕ) → 0 + j ≡ j
from_zero j = omega arith

-- numbers filled up with zeros
filled_count : (zs : List ℤ) (n m : ℕ) → length zs ≡ n → n ≤ m → length (zs ++ replicate (m - n) (pos 0)) ≡ m
filled_count zs n m count h = omega (arith, length-append zs (replicate (m - n) (pos 0)), length-replicate (m - n) (pos 0))

-- a place below a number is below a larger one
below_larger : (j n m : ℕ) → j < n → n ≤ m → j < m
below_larger j n m l h = omega arith

module _ (kinds : List ColumnKind) (rows : List IntRow) (c : CostRow) (below : plain_count kinds ≤ length kinds) (widths : All (λ r. length r.entries ≡ length kinds) rows)
    (small : All (λ r. AllSmall (r.entries ++ r.right ∷ [])) rows) (made : phase_made (plain_count kinds) (length kinds) rows ≡ Ok c) where
  abbrev plain : ℕ
  plain = plain_count kinds

  parts : PhaseParts (plain_count kinds) (length kinds) rows c
  parts = phase_parts (plain_count kinds) (length kinds) rows c made

  sums_count : length parts.sums ≡ plain
  sums_count = numerators_count (map (column_sum (plain_count kinds) rows) (range_with_len 0 (plain_count kinds))) parts.sums parts.sums_are ∙ length-map-range_with_len (column_sum plain rows) 0 plain

  sum_at : (j : ℕ) → j < plain → entry parts.sums j ≡ sum_started plain (number_at j) rows
  sum_at j l =
      let f = formed_numerators (map (column_sum (plain_count kinds) rows) (range_with_len 0 (plain_count kinds))) parts.sums parts.sums_are in
      let e : get_or (map (column_sum plain rows) (range_with_len 0 plain)) j (Ok zero_frac) ≡ column_sum plain rows j =
      get_or-map-range_with_len (column_sum plain rows) 0 plain j j (Ok zero_frac) l (from_zero j) in
      let n = numerator_at _ f.fractions j f.are (subst (λ n. j < n) (sym (length-map-range_with_len (column_sum plain rows) 0 plain)) l) in
      let count : length f.fractions ≡ plain = sym (length-map f.fractions num_of) ∙ sym (ap length f.numerators) ∙ sums_count in
      ap (λ zs. entry zs j) f.numerators ∙ get_or-map num_of f.fractions j zero_frac (pos 0) (subst (λ n. j < n) (sym count) l) ∙ ap num_of n.2 ∙ column_sum_is plain j rows n.0 small (sym e ∙ n.1)

  same_numbers : (j : ℕ) → j < length kinds → sum_started plain (number_at j) rows ≡ sum_started plain (λ r. entry r.entries j) rows
  same_numbers j l = by rows widths
    where
      by : (rs : List IntRow) → All (λ r. length r.entries ≡ length kinds) rs → sum_started plain (number_at j) rs ≡ sum_started plain (λ r. entry r.entries j) rs
      by [] h = refl
      by (r ∷ rs) h =
          let w : length r.entries ≡ length kinds = All-head (λ s. length s.entries ≡ length kinds) r rs h in
          ap₂ ◌+ℤ◌ (ap (λ z. if nat_le plain r.basic then z else pos 0) (get_or_append_left r.entries (r.right ∷ []) (pos 0) j (subst (λ n. j < n) (sym w) l)))
          (by rs (All-tail (λ s. length s.entries ≡ length kinds) r rs h))

  same_rights : sum_started plain (number_at (length kinds)) rows ≡ sum_started plain right_of rows
  same_rights = by rows widths
    where
      by : (rs : List IntRow) → All (λ r. length r.entries ≡ length kinds) rs → sum_started plain (number_at (length kinds)) rs ≡ sum_started plain right_of rs
      by [] h = refl
      by (r ∷ rs) h =
          let w : length r.entries ≡ length kinds = All-head (λ s. length s.entries ≡ length kinds) r rs h in
          ap₂ ◌+ℤ◌ (ap (λ z. if nat_le plain r.basic then z else pos 0) (get_or_at r.entries r.right [] (pos 0) (length kinds) w)) (by rs (All-tail (λ s. length s.entries ≡ length kinds) r rs h))

  entries_are : c.entries ≡ parts.sums ++ replicate (length kinds - plain) (pos 0)
  entries_are = ap (λ (d : CostRow). d.entries) parts.is

  pub phase_form : IsPhase kinds rows c
  phase_form = record {
    width = ap length entries_are ∙ filled_count parts.sums plain (length kinds) sums_count below;
    small =
        AllSmall-++ c.entries (pos 0 ∷ c.lead ∷ c.right ∷ []) (subst AllSmall (sym entries_are)
        (AllSmall-++ parts.sums (replicate (length kinds - plain) (pos 0))
        (numerators_small (map (column_sum (plain_count kinds) rows) (range_with_len 0 (plain_count kinds))) parts.sums parts.sums_are) (zeros_small (length kinds - plain))))
        (small_ends (pos 0) c.lead c.right (lit< tt) (subst (λ z. unsigned_abs z < 2 ^ 127) (sym (ap (λ (d : CostRow). d.lead) parts.is)) (lit< tt))
        (subst (λ z. unsigned_abs z < 2 ^ 127) (sym (ap (λ (d : CostRow). d.right) parts.is)) parts.last.num_fits));
    plain = λ j l. ap (λ zs. entry zs j) entries_are ∙ get_or_append_left parts.sums (replicate (length kinds - plain) (pos 0)) (pos 0) j (subst (λ n. j < n) (sym sums_count) l) ∙ sum_at j l
        ∙ same_numbers j (below_larger j plain (length kinds) l below);
    artificial = λ j l k. ap (λ zs. entry zs j) entries_are ∙ get_or-append_right parts.sums (replicate (length kinds - plain) (pos 0)) plain j (pos 0) sums_count l
        ∙ zeros_at (length kinds - plain) (j - plain);
    lead = ap (λ (d : CostRow). d.lead) parts.is;
    right = ap (λ (d : CostRow). d.right) parts.is ∙ column_sum_is plain (length kinds) rows parts.last small parts.last_is ∙ same_rights;
  }

-- ---- one more row
-- the next row is added, and then those behind it
pub started_next : (plain j : ℕ) (x : Frac) (rows : List IntRow) (i : ℕ) (r : IntRow) → i < length rows → r ≡ get_or rows i r
    → sum_from x (map frac_at (map (λ (s : IntRow). whole (number_at j s)) (filter (starts_artificial plain) (drop i rows))))
    ≡ and_then (added_number plain j x r) (λ z. sum_from z (map frac_at (map (λ (s : IntRow). whole (number_at j s)) (filter (starts_artificial plain) (drop (i + 1) rows)))))
started_next plain j x rows i r l is = ap (λ ds. sum_from x (map frac_at (map (λ (s : IntRow). whole (number_at j s)) (filter (starts_artificial plain) ds)))) (drop_at rows i r l is)
    ∙ by (nat_le plain r.basic)
  where
    by : (b : Bool) → sum_from x
        (map frac_at (map (λ (s : IntRow). whole (number_at j s)) (if b then r ∷ filter (starts_artificial plain) (drop (i + 1) rows) else filter (starts_artificial plain) (drop (i + 1) rows))))
        ≡ and_then (if b then sum_of x (frac_at (whole (number_at j r))) else Ok x)
        (λ z. sum_from z (map frac_at (map (λ (s : IntRow). whole (number_at j s)) (filter (starts_artificial plain) (drop (i + 1) rows)))))
    by true = refl
    by false = refl
