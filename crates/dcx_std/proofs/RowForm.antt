-- The rows and the objective row of a scaled program have the form from which the simplex starts.
use Rattle.std.proofs.Common.{◌≡◌, ℕ, zero, suc, ◌+◌, ◌<◌, ◌^◌, Bool, true, false, List, [], ◌∷◌, ◌++◌, map, length, Some, refl, sym, ap, ◌∙◌, subst, ℤ, pos, negsuc, unsigned_abs, lit<, arith}
use Rattle.std.specs.Prelude.{not, ◌||◌, ◌&&◌, nat_eq, int_lt, if◌then◌else◌, slice_get, neg_ℤ, ◌≤ℤ◌}
use Rattle.std.proofs.lemmas.Int.{ints}
use Rattle.std.proofs.lemmas.List.{length-map, get_or-map}
use Rattle.std.proofs.lemmas.Option.{slice_get_within, get_or_from_slice_get}
use Rattle.std.proofs.lemmas.Bool.{eq-eqb}
use Rattle.dcx_math.specs.Rational.{whole, ◌<ℚ◌}
use Rattle.dcx_math.proofs.IntegerLaws.{unsigned_abs-neg}
use Rattle.dcx_frac.specs.Frac.{value}
use Rattle.dcx_tab.specs.declared.rows.ColumnKind.{ColumnKind}
use Rattle.dcx_tab.specs.declared.rows.ColumnKind.TheVariants.{Unknown, Slack, Artificial}
use Rattle.dcx_tab.specs.declared.rows.IntRow.{IntRow}
use Rattle.dcx_tab.specs.declared.rows.CostRow.{CostRow}
use Rattle.dcx_tab.specs.Rows.{entry, AllSmall}
use Rattle.dcx_tab.specs.Program.{IsProgramRow, IsTurned, kind_at, told_entry, may_start, unknown_entry, tableau_row}
use Rattle.dcx_std.specs.declared.whole.WholeRow.{WholeRow}
use Rattle.dcx_std.specs.declared.start.Start.{Start}
use Rattle.dcx_std.specs.Columns.{turned, number_in, cost_in, start_column, has_slack, needs_artificial}
use Rattle.dcx_std.specs.IntegerRows.{start_of, IsMadeOf, AreMadeOf, IsCostOf}

-- ---- small numbers
pub AllSmall-++ : (xs ys : List ℤ) → AllSmall xs → AllSmall ys → AllSmall (xs ++ ys)
AllSmall-++ [] ys h k j = k j
AllSmall-++ (x ∷ xs) ys h k zero = h 0
AllSmall-++ (x ∷ xs) ys h k (suc j) = AllSmall-++ xs ys (λ i. h (suc i)) k j

pub AllSmall-cons : (z : ℤ) (zs : List ℤ) → unsigned_abs z < 2 ^ 127 → AllSmall zs → AllSmall (z ∷ zs)
AllSmall-cons z zs h k zero = h
AllSmall-cons z zs h k (suc j) = k j

pub AllSmall-nil : AllSmall []
AllSmall-nil j = lit< tt

pub AllSmall-map : {A : Type 0} (f : A → ℤ) (xs : List A) → ((x : A) → unsigned_abs (f x) < 2 ^ 127) → AllSmall (map f xs)
AllSmall-map f [] h j = lit< tt
AllSmall-map f (x ∷ xs) h zero = h x
AllSmall-map f (x ∷ xs) h (suc j) = AllSmall-map f xs h j

-- z, w and the right side
pub small_ends : (a b c : ℤ) → unsigned_abs a < 2 ^ 127 → unsigned_abs b < 2 ^ 127 → unsigned_abs c < 2 ^ 127 → AllSmall (a ∷ b ∷ c ∷ [])
small_ends a b c h k l = AllSmall-cons a (b ∷ c ∷ []) h (AllSmall-cons b (c ∷ []) k (AllSmall-cons c [] l AllSmall-nil))

pub small_turned : (t : Bool) (z : ℤ) → unsigned_abs z < 2 ^ 127 → unsigned_abs (turned t z) < 2 ^ 127
small_turned true z h = rw (unsigned_abs-neg z) h
small_turned false z h = h

-- ---- what a row has at its columns
small_unit : (a b : Bool) → unsigned_abs (if a then (if b then negsuc 0 else pos 1) else pos 0) < 2 ^ 127
small_unit true true = lit< tt
small_unit true false = lit< tt
small_unit false b = lit< tt

small_one : (a : Bool) → unsigned_abs (if a then pos 1 else pos 0) < 2 ^ 127
small_one true = lit< tt
small_one false = lit< tt

small_number : (i : ℕ) (negated : Bool) (numbers : List ℤ) → AllSmall numbers → (k : ColumnKind) → unsigned_abs (number_in i negated numbers k) < 2 ^ 127
small_number i negated numbers h (Unknown u minus) = small_turned negated (turned minus (entry numbers u)) (small_turned minus (entry numbers u) (h u))
small_number i negated numbers h (Slack r) = small_unit (nat_eq r i) negated
small_number i negated numbers h (Artificial r) = small_one (nat_eq r i)

small_cost : (numbers : List ℤ) → AllSmall numbers → (k : ColumnKind) → unsigned_abs (cost_in numbers k) < 2 ^ 127
small_cost numbers h (Unknown u minus) = small_turned minus (entry numbers u) (h u)
small_cost numbers h (Slack r) = lit< tt
small_cost numbers h (Artificial r) = lit< tt

told_number : (i : ℕ) (negated : Bool) (numbers : List ℤ) (k : ColumnKind) → number_in i negated numbers k ≡ told_entry i negated k (number_in i negated numbers k)
told_number i negated numbers (Unknown u minus) = refl
told_number i negated numbers (Slack r) = refl
told_number i negated numbers (Artificial r) = refl

told_cost : (numbers : List ℤ) (k : ColumnKind) → cost_in numbers k ≡ unknown_entry k (cost_in numbers k)
told_cost numbers (Unknown u minus) = refl
told_cost numbers (Slack r) = refl
told_cost numbers (Artificial r) = refl

turned_neg : (t : Bool) (z : ℤ) → turned t (neg_ℤ z) ≡ neg_ℤ (turned t z)
turned_neg true z = refl
turned_neg false z = refl

-- the number that a row or a cost with such entries has at a column
pub mapped_entry : (f : ColumnKind → ℤ) (columns : List ColumnKind) (entries : List ℤ) (j : ℕ) → entries ≡ map f columns → j < length columns → entry entries j ≡ f (kind_at columns j)
mapped_entry f columns entries j e l = ap (λ zs. entry zs j) e ∙ get_or-map f columns j (Unknown 0 false) (pos 0) l

-- a right side below 0 is turned
not_below : (z : ℤ) → pos 0 ≤ℤ turned (int_lt z (pos 0)) z
not_below z = by (int_lt z (pos 0)) refl
  where
    by : (t : Bool) → int_lt z (pos 0) ≡ t → pos 0 ≤ℤ turned t z
    by true e = omega (arith, ints)
    by false e = omega (arith, ints)

-- a row may start with its column
starts_so : (i : ℕ) (s : Start) → may_start i s.negated (start_column i s) ≡ true
starts_so i s = by (needs_artificial s) refl
  where
    kept : (n k : Bool) → (n || not k) ≡ false → (true && not n) ≡ true
    kept true k e = cc
    kept false k e = refl

    by : (b : Bool) → needs_artificial s ≡ b → may_start i s.negated (if b then Artificial i else Slack i) ≡ true
    by true e = eq-eqb i i refl
    by false e = ap (λ t. t && not s.negated) (eq-eqb i i refl) ∙ kept s.negated (has_slack s) e

module _ (columns : List ColumnKind) (n i : ℕ) (w : WholeRow) (r : IntRow) (made : IsMadeOf columns n i w r) (small : AllSmall w.numbers) where
  abbrev negated : Bool
  negated = (start_of n w).negated

  entry_is : (j : ℕ) → j < length columns → entry r.entries j ≡ number_in i negated w.numbers (kind_at columns j)
  entry_is j l = mapped_entry (number_in i negated w.numbers) columns r.entries j made.entries l

  pub row_small : AllSmall (tableau_row r)
  row_small =
      AllSmall-++ r.entries (pos 0 ∷ pos 0 ∷ r.right ∷ [])
      (subst AllSmall (sym made.entries) (AllSmall-map (number_in i negated w.numbers) columns (small_number i negated w.numbers small)))
      (small_ends (pos 0) (pos 0) r.right (lit< tt) (lit< tt) (subst (λ z. unsigned_abs z < 2 ^ 127) (sym made.right) (small_turned negated (entry w.numbers n) (small n))))

  pub row_width : length r.entries ≡ length columns
  row_width = ap length made.entries ∙ length-map columns (number_in i negated w.numbers)

  pub basic_kind : kind_at columns r.basic ≡ start_column i (start_of n w)
  basic_kind = get_or_from_slice_get columns r.basic (start_column i (start_of n w)) (Unknown 0 false) made.basic

  -- at the two columns of a free unknown a row has a number and its negative
  pub row_turned : IsTurned columns r.entries
  row_turned j k u jl kl e d =
      entry_is k kl ∙ ap (number_in i negated w.numbers) d ∙ turned_neg negated (entry w.numbers u) ∙ ap neg_ℤ (sym (entry_is j jl ∙ ap (number_in i negated w.numbers) e))

  pub program_row : whole (pos 0) <ℚ value w.factor → IsProgramRow columns i r
  program_row positive = record {
    width = row_width;
    small = row_small;
    right = subst (λ z. pos 0 ≤ℤ z) (sym made.right) (not_below (entry w.numbers n));
    told = λ j l. entry_is j l ∙ told_number i negated w.numbers (kind_at columns j)
        ∙ ap (λ b. told_entry i b (kind_at columns j) (number_in i negated w.numbers (kind_at columns j))) (sym made.negated)
        ∙ ap (told_entry i r.negated (kind_at columns j)) (sym (entry_is j l));
    basic = slice_get_within columns r.basic (start_column i (start_of n w)) made.basic;
    starts = ap (may_start i r.negated) basic_kind ∙ ap (λ b. may_start i b (start_column i (start_of n w))) made.negated ∙ starts_so i (start_of n w);
    factor = subst (λ f. whole (pos 0) <ℚ value f) (sym made.factor) positive;
  }

-- ---- rows one after the other
-- there are as many
pub made_count : (columns : List ColumnKind) (n i : ℕ) (ws : List WholeRow) (rs : List IntRow) → AreMadeOf columns n i ws rs → length rs ≡ length ws
made_count columns n i [] [] h = refl
made_count columns n i [] (r ∷ rs) h = absurd h
made_count columns n i (w ∷ ws) [] h = absurd h
made_count columns n i (w ∷ ws) (r ∷ rs) h = ap suc (made_count columns n (suc i) ws rs h.1)

-- the whole row of a row
pub record IsMadeAt (columns : List ColumnKind) (n i k : ℕ) (ws : List WholeRow) (r : IntRow) : Type 0 where
  pub row : WholeRow
  pub here : slice_get ws k ≡ Some row
  pub made : IsMadeOf columns n (i + k) row r

pub made_at : (columns : List ColumnKind) (n i : ℕ) (ws : List WholeRow) (rs : List IntRow) (k : ℕ) (r : IntRow) → AreMadeOf columns n i ws rs → slice_get rs k ≡ Some r → IsMadeAt columns n i k ws r
made_at columns n i [] [] k r h e = cc
made_at columns n i [] (s ∷ rs) k r h e = absurd h
made_at columns n i (w ∷ ws) [] k r h e = absurd h
made_at columns n i (w ∷ ws) (s ∷ rs) zero r h e =
    let d : s ≡ r = cc in let z : i ≡ i + 0 = omega arith in record { row = w; here = refl; made = subst (λ j. IsMadeOf columns n j w r) z (subst (IsMadeOf columns n i w) d h.0) }
made_at columns n i (w ∷ ws) (s ∷ rs) (suc k) r h e =
    let m = made_at columns n (suc i) ws rs k r h.1 e in let z : suc i + k ≡ i + suc k = omega arith in record { row = m.row; here = m.here; made = subst (λ j. IsMadeOf columns n j m.row r) z m.made }

-- one more row
pub made_more : (columns : List ColumnKind) (n i : ℕ) (ws : List WholeRow) (rs : List IntRow) (w : WholeRow) (r : IntRow) → AreMadeOf columns n i ws rs → IsMadeOf columns n (i + length ws) w r
    → AreMadeOf columns n i (ws ++ w ∷ []) (rs ++ r ∷ [])
made_more columns n i [] [] w r h m = let z : i + 0 ≡ i = omega arith in (subst (λ j. IsMadeOf columns n j w r) z m, tt)
made_more columns n i [] (s ∷ rs) w r h m = absurd h
made_more columns n i (v ∷ ws) [] w r h m = absurd h
made_more columns n i (v ∷ ws) (s ∷ rs) w r h m = let z : i + suc (length ws) ≡ suc i + length ws = omega arith in
    (h.0, made_more columns n (suc i) ws rs w r h.1 (subst (λ j. IsMadeOf columns n j w r) z m))

-- ---- the objective row
module _ (columns : List ColumnKind) (n : ℕ) (w : WholeRow) (c : CostRow) (made : IsCostOf columns n w c) (small : AllSmall w.numbers) where
  pub cost_entry_is : (j : ℕ) → j < length columns → entry c.entries j ≡ cost_in w.numbers (kind_at columns j)
  cost_entry_is j l = mapped_entry (cost_in w.numbers) columns c.entries j made.entries l

  pub cost_width : length c.entries ≡ length columns
  cost_width = ap length made.entries ∙ length-map columns (cost_in w.numbers)

  pub cost_small : AllSmall (c.entries ++ c.lead ∷ pos 0 ∷ c.right ∷ [])
  cost_small =
      AllSmall-++ c.entries (c.lead ∷ pos 0 ∷ c.right ∷ []) (subst AllSmall (sym made.entries) (AllSmall-map (cost_in w.numbers) columns (small_cost w.numbers small)))
      (small_ends c.lead (pos 0) c.right (subst (λ z. unsigned_abs z < 2 ^ 127) (sym made.lead) (small (suc n))) (lit< tt) (subst (λ z. unsigned_abs z < 2 ^ 127) (sym made.right) (small n)))

  pub cost_told : (j : ℕ) → j < length columns → entry c.entries j ≡ unknown_entry (kind_at columns j) (entry c.entries j)
  cost_told j l = cost_entry_is j l ∙ told_cost w.numbers (kind_at columns j) ∙ ap (unknown_entry (kind_at columns j)) (sym (cost_entry_is j l))

  pub cost_turned : IsTurned columns c.entries
  cost_turned j k u jl kl e d = cost_entry_is k kl ∙ ap (cost_in w.numbers) d ∙ ap neg_ℤ (sym (cost_entry_is j jl ∙ ap (cost_in w.numbers) e))
