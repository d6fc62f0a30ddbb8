-- The scaled program of rows has the form from which the simplex starts.
use Rattle.std.proofs.Common.{◌≡◌, ℕ, zero, suc, ◌+◌, ◌<◌, ◌≤◌, ◌^◌, Bool, true, false, List, [], ◌∷◌, ◌++◌, map, length, get_or, Some, Ok, refl, sym, ap, ap₂}
use Rattle.std.proofs.Common.{◌∙◌, subst, ℤ, pos, unsigned_abs, lit<, arith, ◌⊎◌, inl, inr}
use Rattle.std.specs.Prelude.{slice_get, sum_by, ◌<ℤ◌, if◌then◌else◌}
use Rattle.std.specs.Option.{option_map}
use Rattle.std.specs.List.{All}
use Rattle.std.proofs.lemmas.Int.{ints}
use Rattle.std.proofs.lemmas.List.{length-map, length-append, get_or-map, get_or_append_left, get_or-append-add, get_or_default, get_or_past}
use Rattle.std.proofs.lemmas.List.FromFn.{length-map-range_with_len}
use Rattle.std.proofs.lemmas.List.Sums.{sum_by-cons}
use Rattle.std.proofs.lemmas.Option.{slice_get-get_or, slice_get-map}
use Rattle.std.proofs.lemmas.Bool.{cases_lt}
use Rattle.std.proofs.lemmas.Result.{IfOk-at_ok}
use native.Mathlib.Nat.{eq-one_of_dvd-one}
use Prim.Native.Nat.{◌∣◌}
use Rattle.dcx_math.specs.Rational.{whole, ◌*ℚ◌, ◌<ℚ◌}
use Rattle.dcx_math.specs.Divisors.{gcd_of, divided}
use Rattle.dcx_math.proofs.Orders.{*ℚ_idr}
use Rattle.dcx_math.proofs.Divisors.{quotient-pos}
use Rattle.dcx_math.proofs.IntegerLaws.{unsigned_abs-neg}
use Rattle.dcx_math.proofs.Primitive.{dvd-gcd_of, IsPrimitive-primitive_part}
use Rattle.dcx_frac.specs.declared.fraction.Frac.{Frac}
use Rattle.dcx_frac.specs.Frac.{num_of, value}
use Rattle.dcx_frac.specs.Results.{product_of}
use Rattle.dcx_frac.proofs.Results.{product_of_is}
use Rattle.dcx_atom.specs.Formed.{zero_frac, frac_at, one_frac}
use Rattle.dcx_atom.proofs.Fractions.{value-one_frac}
use Rattle.dcx_linear.specs.declared.form.Form.{Form}
use Rattle.dcx_linear.specs.declared.row.Row.{Row}
use Rattle.dcx_linear.specs.declared.row.RowKind.TheVariants.{Equal}
use Rattle.dcx_linear.specs.declared.row.UnknownKind.{UnknownKind}
use Rattle.dcx_tab.specs.declared.rows.ColumnKind.{ColumnKind}
use Rattle.dcx_tab.specs.declared.rows.ColumnKind.TheVariants.{Unknown, Slack, Artificial}
use Rattle.dcx_tab.specs.declared.rows.IntRow.{IntRow}
use Rattle.dcx_tab.specs.declared.rows.CostRow.{CostRow}
use Rattle.dcx_tab.specs.Rows.{entry, AllSmall}
use Rattle.dcx_tab.specs.Program.{IsProgram, IsProgramRow, IsObjective, IsTurned, kind_at, plain_count, entries_at, entries_of, first_basic_at, first_basic_of, objective_row}
use Rattle.dcx_tab.proofs.RowLaws.{gcd_of-dvd_entry, gcd_of-pos}
use Rattle.dcx_std.specs.declared.whole.WholeRow.{WholeRow}
use Rattle.dcx_std.specs.declared.start.Start.{Start}
use Rattle.dcx_std.specs.Size.{slacks_for, column_count}
use Rattle.dcx_std.specs.WholeRows.{coefficient_at, coefficients, opposite, cost_numbers, row_numbers, divisor_of, row_made, cost_made}
use Rattle.dcx_std.specs.Columns.{turned, cost_in, all_unknown_columns, slack_columns, artificial_columns, plain_columns_of, columns_of}
use Rattle.dcx_std.specs.IntegerRows.{start_of, IsMadeOf, AreMadeOf, IsCostOf, phase_made}
use Rattle.dcx_lp_answer.proofs.Fractions.{value-whole}
use Rattle.dcx_std.proofs.Numerators.{formed_numerators, num_of_whole}
use Rattle.dcx_std.proofs.WholeRows.{IsFormedBy, formed_by, whole_small, whole_count, whole_kind, factor_positive, multiple_facts, or_one_some}
use Rattle.dcx_std.proofs.ColumnLaws.{has_column, plain_length, ordered_columns, slack_bound, slack_once, artificial_bound, artificial_once, artificial_needed, columns_count}
use Rattle.dcx_std.proofs.RowForm.{row_width, row_small, row_turned, basic_kind, program_row, made_at, made_count, cost_entry_is, cost_width, cost_small, cost_told, cost_turned}
use Rattle.dcx_std.proofs.PhaseForm.{phase_form}

zero_plus : (u : ℕ) → 0 + u ≡ u
zero_plus u = omega arith

-- without the entries of z and w a row stays small
pub short_small : (zs : List ℤ) (z : ℤ) → AllSmall (zs ++ pos 0 ∷ pos 0 ∷ z ∷ []) → AllSmall (zs ++ z ∷ [])
short_small [] z h zero = h 2
short_small [] z h (suc j) = lit< tt
short_small (y ∷ zs) z h zero = h 0
short_small (y ∷ zs) z h (suc j) = short_small zs z (λ i. h (suc i)) j

-- ---- the whole rows of the rows
pub whole_of : (n : ℕ) (rows : List (Row Frac)) (ws : List WholeRow) (i : ℕ) (w : WholeRow) → map (row_made n) rows ≡ map Ok ws → slice_get ws i ≡ Some w
    → (r : Row Frac) × (slice_get rows i ≡ Some r) × (row_made n r ≡ Ok w)
whole_of n [] [] i w e s = cc
whole_of n [] (v ∷ ws) i w e s = cc
whole_of n (r ∷ rows) [] i w e s = cc
whole_of n (r ∷ rows) (v ∷ ws) zero w e s = let d : v ≡ w = cc in let q : row_made n r ≡ Ok v = cc in (r, refl, q ∙ ap Ok d)
whole_of n (r ∷ rows) (v ∷ ws) (suc i) w e s = let q : map (row_made n) rows ≡ map Ok ws = cc in whole_of n rows ws i w q s

pub wholes_count : (n : ℕ) (rows : List (Row Frac)) (ws : List WholeRow) → map (row_made n) rows ≡ map Ok ws → length ws ≡ length rows
wholes_count n rows ws e = sym (length-map ws Ok) ∙ sym (ap length e) ∙ length-map rows (row_made n)

-- the rows keep their kinds, so there are so many slacks
pub starts_slacks : (n : ℕ) (rows : List (Row Frac)) (ws : List WholeRow) → map (row_made n) rows ≡ map Ok ws → sum_by (λ s. slacks_for s.kind) (map (start_of n) ws)
    ≡ sum_by (λ r. slacks_for r.kind) rows
starts_slacks n [] [] e = refl
starts_slacks n [] (w ∷ ws) e = cc
starts_slacks n (r ∷ rows) [] e = cc
starts_slacks n (r ∷ rows) (w ∷ ws) e =
    let q : map (row_made n) rows ≡ map Ok ws = cc in
    let m : row_made n r ≡ Ok w = cc in
    sum_by-cons (λ (s : Start). slacks_for s.kind) (start_of n w) (map (start_of n) ws)
    ∙ ap₂ ◌+◌ (ap slacks_for (whole_kind r.kind r.form (row_numbers n r.form) w (formed_by r.kind r.form (row_numbers n r.form) w m))) (starts_slacks n rows ws q)
    ∙ sym (sum_by-cons (λ (s : Row Frac). slacks_for s.kind) r rows)

-- ---- the numbers of a cost
module _ (n : ℕ) (f : Form Frac) where
  pub coefficients_count : length (coefficients n f) ≡ n
  coefficients_count = length-map-range_with_len (coefficient_at f.terms) 0 n

  pub opposites_count : length (map opposite (coefficients n f)) ≡ n
  opposites_count = length-map (coefficients n f) opposite ∙ coefficients_count

  -- the coefficient of z is the last number
  pub cost_lead : get_or (cost_numbers n f) (suc n) zero_frac ≡ one_frac
  cost_lead = let e : suc n ≡ length (map opposite (coefficients n f)) + 1 = omega (arith, opposites_count) in ap (λ j. get_or (cost_numbers n f) j zero_frac) e
      ∙ get_or-append-add (map opposite (coefficients n f)) (f.constant ∷ one_frac ∷ []) 1 zero_frac

-- ---- the objective row is primitive
module _ (n : ℕ) (kinds : List UnknownKind) (starts : List Start) (f : Form Frac) (w : WholeRow) (c : CostRow) (count : length kinds ≡ n) (made : cost_made n f ≡ Ok w)
    (cost : IsCostOf (columns_of kinds starts) n w c) where
  formed : IsFormedBy Equal f (cost_numbers n f) w
  formed = formed_by Equal f (cost_numbers n f) w made

  numbers_count : length (cost_numbers n f) ≡ n + 2
  numbers_count = omega (arith, length-append (map opposite (coefficients n f)) (f.constant ∷ one_frac ∷ []), opposites_count n f)

  multiple_small : unsigned_abs (pos formed.multiple) < 2 ^ 127
  multiple_small = (multiple_facts Equal f (cost_numbers n f) w formed).small

  -- and becomes the multiple
  product_one : (y : Frac) → product_of (frac_at (whole (pos formed.multiple))) one_frac ≡ Ok y → num_of y ≡ pos formed.multiple
  product_one y e =
      num_of_whole y (pos formed.multiple)
      (IfOk-at_ok (λ z. value z ≡ value (frac_at (whole (pos formed.multiple))) *ℚ value one_frac) e (product_of_is (frac_at (whole (pos formed.multiple))) one_frac).exact
      ∙ ap₂ ◌*ℚ◌ (value-whole (pos formed.multiple) multiple_small) value-one_frac ∙ *ℚ_idr (whole (pos formed.multiple)))

  last_product : entry formed.products (suc n) ≡ pos formed.multiple
  last_product =
      let by = frac_at (whole (pos formed.multiple)) in
      let made = formed_numerators (map (product_of (frac_at (whole (pos formed.multiple)))) (cost_numbers n f)) formed.products formed.products_are in
      let rs = map (product_of by) (cost_numbers n f) in
      let count : length made.fractions ≡ n + 2 = sym (length-map made.fractions Ok) ∙ sym (ap length made.are) ∙ length-map (cost_numbers n f) (product_of by) ∙ numbers_count in
      let y = get_or made.fractions (suc n) zero_frac in
      let here : get_or rs (suc n) (Ok zero_frac) ≡ product_of by one_frac = get_or-map (product_of by) (cost_numbers n f) (suc n) zero_frac (Ok zero_frac)
      (omega (arith, numbers_count)) ∙ ap (product_of by) (cost_lead n f) in
      let there : get_or rs (suc n) (Ok zero_frac) ≡ Ok y = ap (λ s. get_or s (suc n) (Ok zero_frac)) made.are ∙ get_or-map Ok made.fractions (suc n) zero_frac (Ok zero_frac) (omega (arith, count)) in
      ap (λ zs. entry zs (suc n)) made.numerators ∙ get_or-map num_of made.fractions (suc n) zero_frac (pos 0) (omega (arith, count)) ∙ product_one y (sym here ∙ there)

  divisor_some : 0 < gcd_of formed.products
  divisor_some = let p = (multiple_facts Equal f (cost_numbers n f) w formed).positive in gcd_of-pos formed.products (suc n) (rw last_product p)

  is_divisor : divisor_of formed.products ≡ gcd_of formed.products
  is_divisor = or_one_some (gcd_of formed.products) (λ e. absurd (omega (arith, e, divisor_some)))

  numbers_are : w.numbers ≡ map (divided (gcd_of formed.products)) formed.products
  numbers_are = ap (λ (v : WholeRow). v.numbers) formed.is ∙ ap (λ d. map (divided d) formed.products) is_divisor

  numbers_primitive : gcd_of w.numbers ≡ 1
  numbers_primitive = ap gcd_of numbers_are ∙ (IsPrimitive-primitive_part formed.products divisor_some).one

  products_count : length formed.products ≡ n + 2
  products_count = sym (length-map formed.products (divided (gcd_of formed.products))) ∙ sym (ap length numbers_are) ∙ whole_count Equal f (cost_numbers n f) w formed ∙ numbers_count

  lead_is : entry w.numbers (suc n) ≡ divided (gcd_of formed.products) (pos formed.multiple)
  lead_is =
      ap (λ zs. entry zs (suc n)) numbers_are ∙ get_or-map (divided (gcd_of formed.products)) formed.products (suc n) (pos 0) (pos 0) (omega (arith, products_count))
      ∙ ap (divided (gcd_of formed.products)) last_product

  lead_positive : pos 0 <ℤ entry w.numbers (suc n)
  lead_positive =
      let g = gcd_of formed.products in
      let d : g ∣ formed.multiple = subst (λ z. g ∣ unsigned_abs z) last_product (gcd_of-dvd_entry formed.products (suc n)) in
      let p = quotient-pos formed.multiple g (multiple_facts Equal f (cost_numbers n f) w formed).positive d in
      rw lead_is (omega (arith, ints, p))

  -- a common divisor of the row divides each number
  same_size : (b : Bool) (z : ℤ) → unsigned_abs (turned b z) ≡ unsigned_abs z
  same_size true z = unsigned_abs-neg z
  same_size false z = refl

  row_length : length c.entries ≡ length (columns_of kinds starts)
  row_length = cost_width (columns_of kinds starts) n w c cost (whole_small Equal f (cost_numbers n f) w formed)

  divides_number : (d u : ℕ) → ((j : ℕ) → d ∣ unsigned_abs (entry (objective_row c) j)) → u < n → d ∣ unsigned_abs (entry w.numbers u)
  divides_number d u h l =
      let k = has_column 0 kinds u (omega (arith, l, count)) in
      let all = columns_of kinds starts in
      let front : kind_at all k.0 ≡ Unknown u k.1 =
      get_or_append_left (plain_columns_of kinds starts) (artificial_columns starts) (Unknown 0 false) k.0
      (let m = k.2 in omega (arith, m, length-append (all_unknown_columns 0 kinds) (slack_columns starts)))
      ∙ get_or_append_left (all_unknown_columns 0 kinds) (slack_columns starts) (Unknown 0 false) k.0 k.2 ∙ k.3 ∙ ap (λ v. Unknown v k.1) (zero_plus u) in
      let within : k.0 < length all = (let m = k.2 in omega (
        arith,
        m,
        length-append (plain_columns_of kinds starts) (artificial_columns starts),
        length-append
            (all_unknown_columns 0 kinds) (slack_columns starts),
      )) in
      let here : entry (objective_row c) k.0 ≡ turned k.1 (entry w.numbers u) =
      get_or_append_left c.entries (c.lead ∷ pos 0 ∷ c.right ∷ []) (pos 0) k.0 (omega (arith, within, row_length))
      ∙ cost_entry_is all n w c cost (whole_small Equal f (cost_numbers n f) w formed) k.0 within ∙ ap (cost_in w.numbers) front in
      subst (λ m. d ∣ m) (ap unsigned_abs here ∙ same_size k.1 (entry w.numbers u)) (h k.0)

  divides_all : (d : ℕ) → ((j : ℕ) → d ∣ unsigned_abs (entry (objective_row c) j)) → (j : ℕ) → j < n + 2 → d ∣ unsigned_abs (entry w.numbers j)
  divides_all d h j l = by (cases_lt j n)
    where
      tail_at : (k : ℕ) → entry (objective_row c) (length c.entries + k) ≡ entry (c.lead ∷ pos 0 ∷ c.right ∷ []) k
      tail_at k = get_or-append-add c.entries (c.lead ∷ pos 0 ∷ c.right ∷ []) k (pos 0)

      right : d ∣ unsigned_abs (entry w.numbers n)
      right = subst (λ z. d ∣ unsigned_abs z) (tail_at 2 ∙ cost.right) (h (length c.entries + 2))

      lead : d ∣ unsigned_abs (entry w.numbers (suc n))
      lead = subst (λ z. d ∣ unsigned_abs z) (tail_at 0 ∙ cost.lead) (h (length c.entries + 0))

      behind : (j < suc n) ⊎ (suc n ≤ j) → n ≤ j → d ∣ unsigned_abs (entry w.numbers j)
      behind (inl k) m = let e : n ≡ j = omega (arith, k, m) in subst (λ i. d ∣ unsigned_abs (entry w.numbers i)) e right
      behind (inr k) m = let e : suc n ≡ j = omega (arith, k, l) in subst (λ i. d ∣ unsigned_abs (entry w.numbers i)) e lead

      by : (j < n) ⊎ (n ≤ j) → d ∣ unsigned_abs (entry w.numbers j)
      by (inl k) = divides_number d j h k
      by (inr k) = behind (cases_lt j (suc n)) k

  objective_primitive : gcd_of (objective_row c) ≡ 1
  objective_primitive =
      let g = gcd_of (objective_row c) in
      let count : length w.numbers ≡ n + 2 = whole_count Equal f (cost_numbers n f) w formed ∙ numbers_count in
      eq-one_of_dvd-one (subst (λ m. g ∣ m) numbers_primitive (dvd-gcd_of g w.numbers (λ j d l. subst (λ z. g ∣ unsigned_abs z) (get_or_default w.numbers j (pos 0) d l)
      (divides_all g (gcd_of-dvd_entry (objective_row c)) j (omega (arith, l, count))))))

  pub objective_form : IsObjective (columns_of kinds starts) c
  objective_form =
      let small = whole_small Equal f (cost_numbers n f) w formed in
      record {
        width = row_length;
        small = cost_small (columns_of kinds starts) n w c cost small;
        told = cost_told (columns_of kinds starts) n w c cost small;
        lead = subst (λ z. pos 0 <ℤ z) (sym cost.lead) lead_positive;
        primitive = record { one = objective_primitive };
      }

-- a row for places where there is none
no_row : IntRow
no_row = record { entries = []; right = pos 0; basic = 0; factor = zero_frac; negated = false }

-- ---- the program
module _ (n : ℕ) (kinds : List UnknownKind) (rows : List (Row Frac)) (f : Form Frac) (ws : List WholeRow) (w : WholeRow) (ints : List IntRow) (objective phase : CostRow)
    (count : length kinds ≡ n) (are : map (row_made n) rows ≡ map Ok ws) (cost_is : cost_made n f ≡ Ok w)
    (made : AreMadeOf (columns_of kinds (map (start_of n) ws)) n 0 ws ints) (cost : IsCostOf (columns_of kinds (map (start_of n) ws)) n w objective)
    (summed : phase_made (plain_count (columns_of kinds (map (start_of n) ws))) (length (columns_of kinds (map (start_of n) ws))) ints ≡ Ok phase)
    (few_rows : length rows ≤ 600) (few : column_count kinds rows ≤ 2400) where
  abbrev starts : List Start
  starts = map (start_of n) ws

  abbrev all : List ColumnKind
  all = columns_of kinds starts

  -- each row with its whole row
  pub row_facts : (i : ℕ) (r : IntRow) → slice_get ints i ≡ Some r → (v : WholeRow) × (slice_get ws i ≡ Some v) × IsMadeOf all n i v r × AllSmall v.numbers × (whole (pos 0) <ℚ value v.factor)
  row_facts i r e =
      let m = made_at all n 0 ws ints i r made e in
      let s = whole_of n rows ws i m.row are m.here in
      let formed = formed_by s.0.kind s.0.form (row_numbers n s.0.form) m.row s.2 in
      let z : 0 + i ≡ i = omega arith in (
        m.row,
        m.here,
        subst (λ k. IsMadeOf all n k m.row r) z m.made,
        whole_small s.0.kind s.0.form (row_numbers n s.0.form) m.row formed,
        factor_positive s.0.kind s.0.form
            (row_numbers n s.0.form) m.row formed,
      )

  ints_count : length ints ≡ length rows
  ints_count = made_count all n 0 ws ints made ∙ wholes_count n rows ws are

  starts_count : length starts ≡ length ints
  starts_count = length-map ws (start_of n) ∙ sym (made_count all n 0 ws ints made)

  each_row : (i : ℕ) (r : IntRow) → slice_get ints i ≡ Some r → IsProgramRow all i r
  each_row i r e = let h = row_facts i r e in program_row all n i h.0 r h.2 h.3 h.4

  plain_few : plain_count all ≤ 2400
  plain_few = let a = plain_length kinds starts in let b = columns_count kinds starts in let d = starts_slacks n rows ws are in omega (arith, a, b, d, few)

  widths : All (λ r. length r.entries ≡ length all) ints
  widths k d l = let e = slice_get-get_or ints k d l in let h = row_facts k (get_or ints k d) e in row_width all n k h.0 (get_or ints k d) h.2 h.3

  smalls : All (λ r. AllSmall (r.entries ++ r.right ∷ [])) ints
  smalls k d l =
      let e = slice_get-get_or ints k d l in let h = row_facts k (get_or ints k d) e in short_small (get_or ints k d).entries (get_or ints k d).right (row_small all n k h.0 (get_or ints k d) h.2 h.3)

  below : plain_count all ≤ length all
  below = let a = plain_length kinds starts in omega (arith, a, length-append (plain_columns_of kinds starts) (artificial_columns starts))

  starting : (j i : ℕ) → kind_at all j ≡ Artificial i → first_basic_at ints i ≡ j
  starting j i e =
      let b = artificial_bound kinds starts j i e in
      let l : i < length ints = (let s = starts_count in omega (arith, b, s)) in
      let r = get_or ints i no_row in
      let h = row_facts i r (slice_get-get_or ints i no_row l) in
      let s = start_of n h.0 in
      let start_is : slice_get starts i ≡ Some s = slice_get-map (start_of n) ws i ∙ ap (option_map (start_of n)) h.1 in
      let basic = basic_kind all n i h.0 r h.2 h.3 ∙ ap (λ t. if t then Artificial i else Slack i) (artificial_needed kinds starts j i s e start_is) in
      get_or-map first_basic_of ints i no_row 0 l ∙ artificial_once kinds starts r.basic j i basic e

  turned_rows : (i : ℕ) → IsTurned all (entries_at ints i)
  turned_rows i = by (cases_lt i (length ints))
    where
      empty : IsTurned all []
      empty j k u jl kl e d = refl

      by : (i < length ints) ⊎ (length ints ≤ i) → IsTurned all (entries_at ints i)
      by (inl l) = let h = row_facts i (get_or ints i no_row) (slice_get-get_or ints i no_row l) in subst (IsTurned all) (sym (get_or-map entries_of ints i no_row [] l))
          (row_turned all n i h.0 (get_or ints i no_row) h.2 h.3)
      by (inr l) = subst (IsTurned all) (sym (get_or_past (map entries_of ints) i [] (omega (arith, l, length-map ints entries_of)))) empty

  pub program_form : IsProgram ints all objective phase
  program_form = record {
    few_rows = omega (arith, ints_count, few_rows);
    few_columns = plain_few;
    ordered = ordered_columns kinds starts;
    each_row = each_row;
    slack = λ j i e. let b = slack_bound kinds starts j i e in let s = starts_count in omega (arith, b, s);
    one_slack = λ j k i e d. slack_once kinds starts j k i e d;
    artificial = λ j i e. let b = artificial_bound kinds starts j i e in let s = starts_count in omega (arith, b, s);
    starting = starting;
    turned = turned_rows;
    turned_cost = cost_turned all n w objective cost (whole_small Equal f (cost_numbers n f) w (formed_by Equal f (cost_numbers n f) w cost_is));
    cost = objective_form n kinds starts f w objective count cost_is cost;
    sum = phase_form all ints phase below widths smalls summed;
  }
