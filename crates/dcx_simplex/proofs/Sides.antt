-- At the last tableau: its rows at rational assignments, and that only one column of a free unknown is basic.
use Rattle.std.proofs.Common.{◌≡◌, ◌≢◌, ℕ, zero, suc, ◌+◌, ◌<◌, ◌≤◌, Bool, true, false, List, [], ◌∷◌, ◌++◌, length, ℤ, pos, ◌+ℤ◌, ◌*ℤ◌, neg_ℤ, arith, refl, sym, ap, ap₂, ◌∙◌, subst, ◌⊎◌, inl, inr}
use Rattle.std.specs.Prelude.{Some, slice_get, nat_le, if◌then◌else◌}
use Rattle.std.proofs.lemmas.Int.{ints}
use Rattle.std.proofs.lemmas.Bool.{cases_lt, cases_eq, ltb-true}
use Rattle.dcx_math.specs.Rational.{ℚ, whole, ◌+ℚ◌}
use Rattle.dcx_math.specs.Sums.{rat_sum_below}
use Rattle.dcx_math.specs.IntegerSums.{int_dot, int_scaled, int_added, int_sum_by}
use Rattle.dcx_math.proofs.IntegerVectors.{int_dot-added_right}
use Rattle.dcx_math.specs.Integers.{*ℤ_idl}
use Rattle.dcx_math.proofs.Orders.{+ℚ_comm, +ℚ_idr}
use Rattle.dcx_math.proofs.Sums.{rat_sum_below-one}
use Rattle.dcx_tab.specs.declared.rows.ColumnKind.{ColumnKind}
use Rattle.dcx_tab.specs.declared.rows.ColumnKind.TheVariants.{Unknown}
use Rattle.dcx_tab.specs.declared.rows.IntRow.{IntRow}
use Rattle.dcx_tab.specs.declared.program.Program.{Program}
use Rattle.dcx_tab.specs.First.{first_tableau}
use Rattle.dcx_tab.specs.Rows.{Row, entry, row_at, basic_at, Solves}
use Rattle.dcx_tab.specs.Table.{Table, entry_at}
use Rattle.dcx_tab.specs.Program.{kind_at, is_plain, plain_count, entries_of}
use Rattle.dcx_tab.proofs.Programs.{has_row, map_at, length_first, at_row, at_objective, at_phase}
use Rattle.dcx_tab.proofs.RowLaws.{unit, int_dot-unit}
use Rattle.dcx_simplex.specs.Basis.{IsBasic}
use Rattle.dcx_simplex.proofs.Starts.{entry_front}
use Rattle.dcx_simplex.proofs.EndFacts.{IsEnded}

-- all terms but two are 0
pub sum_two : (n k l : ℕ) (f : ℕ → ℚ) → k < n → l < n → k ≢ l → ((i : ℕ) → i < n → i ≢ k → i ≢ l → f i ≡ whole (pos 0)) → rat_sum_below n f ≡ f k +ℚ f l
sum_two zero k l f hk hl n h = absurd (omega arith)
sum_two (suc m) k l f hk hl n h = two_by m k l f hk hl n h (λ a b. sum_two m k l f (omega (arith, a, hk)) (omega (arith, b, hl)) n (λ i q r s. h i (omega arith) r s)) (cases_eq m k) (cases_eq m l)
  where
    two_by : (m k l : ℕ) (f : ℕ → ℚ) → k < suc m → l < suc m → k ≢ l → ((i : ℕ) → i < suc m → i ≢ k → i ≢ l → f i ≡ whole (pos 0)) → (m ≢ k → m ≢ l → rat_sum_below m f ≡ f k +ℚ f l)
        → (m ≡ k) ⊎ (m ≢ k) → (m ≡ l) ⊎ (m ≢ l) → rat_sum_below m f +ℚ f m ≡ f k +ℚ f l
    two_by m k l f hk hl n h ih (inl e) d =
        ap₂ ◌+ℚ◌ (rat_sum_below-one m l f (let q : m ≢ l = λ s. n (sym e ∙ s) in omega (arith, q, hl)) (λ i q r. h i (omega arith) (λ s. absurd (omega (arith, s, e, q))) r)) (ap f e)
        ∙ +ℚ_comm (f l) (f k)
    two_by m k l f hk hl n h ih (inr a) (inl e) = ap₂ ◌+ℚ◌ (rat_sum_below-one m k f (omega (arith, a, hk)) (λ i q r. h i (omega arith) r (λ s. absurd (omega (arith, s, e, q))))) (ap f e)
    two_by m k l f hk hl n h ih (inr a) (inr b) = ap₂ ◌+ℚ◌ (ih a b) (h m (omega arith) a b) ∙ +ℚ_idr (f k +ℚ f l)

-- ---- the two columns of a free unknown
sum_negative : (f g : IntRow → ℤ) (rows : List IntRow) → ((l : ℕ) (r : IntRow) → slice_get rows l ≡ Some r → g r ≡ neg_ℤ (f r)) → int_sum_by g rows ≡ neg_ℤ (int_sum_by f rows)
sum_negative f g [] h = refl
sum_negative f g (r ∷ rows) h = let e = h 0 r refl in let ih = sum_negative f g rows (λ l s q. h (suc l) s q) in omega (arith, ints, e, ih)

if_negative : (b : Bool) (x y : ℤ) → y ≡ neg_ℤ x → (if b then y else pos 0) ≡ neg_ℤ (if b then x else pos 0)
if_negative true x y e = e
if_negative false x y e = refl

opposite : (a b : ℤ) → b ≡ neg_ℤ a → a +ℤ b ≡ pos 0
opposite a b e = omega (arith, ints, e)

module _ (p : Program) (j k v : ℕ) (in_j : j < length p.columns) (in_k : k < length p.columns) (plus : kind_at p.columns j ≡ Unknown v false) (minus : kind_at p.columns k ≡ Unknown v true) where
  pub direction : List ℤ
  direction = int_added (int_scaled (pos 1) (unit j)) (int_scaled (pos 1) (unit k))

  pub dot_direction : (row : Row) → int_dot row direction ≡ entry row j +ℤ entry row k
  unfolding direction
  dot_direction row = int_dot-added_right row (int_scaled (pos 1) (unit j)) (int_scaled (pos 1) (unit k))
      ∙ ap₂ ◌+ℤ◌ (int_dot-unit row (pos 1) j ∙ *ℤ_idl (entry row j)) (int_dot-unit row (pos 1) k ∙ *ℤ_idl (entry row k))

  low_by : (c : ℕ) → c < length p.columns → (x : ColumnKind) → kind_at p.columns c ≡ x → is_plain x ≡ true → c < plain_count p.columns
  low_by c h x e t = ltb-true c (plain_count p.columns) (sym (p.form.ordered c h) ∙ ap is_plain e ∙ t)

  fronts : (es : List ℤ) (a b c : ℤ) → length es ≡ length p.columns → entry es k ≡ neg_ℤ (entry es j) → entry (es ++ a ∷ b ∷ c ∷ []) j +ℤ entry (es ++ a ∷ b ∷ c ∷ []) k ≡ pos 0
  fronts es a b c w e = ap₂ ◌+ℤ◌ (entry_front es a b c j (omega (arith, w, in_j))) (entry_front es a b c k (omega (arith, w, in_k))) ∙ opposite (entry es j) (entry es k) e

  row_turned : (i : ℕ) (r : IntRow) → slice_get p.rows i ≡ Some r → entry r.entries k ≡ neg_ℤ (entry r.entries j)
  row_turned i r is = subst (λ es. entry es k ≡ neg_ℤ (entry es j)) (map_at entries_of p.rows i r [] is) (p.form.turned i j k v in_j in_k plus minus)

  phase_turned : entry p.phase.entries k ≡ neg_ℤ (entry p.phase.entries j)
  phase_turned =
      p.form.sum.plain k (low_by k in_k (Unknown v true) minus refl)
      ∙ sum_negative (λ r. if nat_le (plain_count p.columns) r.basic then entry r.entries j else pos 0) (λ r. if nat_le (plain_count p.columns) r.basic then entry r.entries k else pos 0) p.rows
      (λ l r is. if_negative (nat_le (plain_count p.columns) r.basic) _ _ (row_turned l r is))
      ∙ ap neg_ℤ (sym (p.form.sum.plain j (low_by j in_j (Unknown v false) plus refl)))

  direction_by : (i : ℕ) → i < length p.rows + 2 → (i < length p.rows) ⊎ (length p.rows ≤ i) → (i < length p.rows + 1) ⊎ (length p.rows + 1 ≤ i)
      → entry_at (first_tableau p) i j +ℤ entry_at (first_tableau p) i k ≡ pos 0
  direction_by i h (inl a) b =
      let r = has_row p.rows i a in
      subst (λ row. entry row j +ℤ entry row k ≡ pos 0) (sym (at_row p.rows p.columns p.objective p.phase p.form i r.row a r.is))
      (fronts r.row.entries _ _ _ (p.form.each_row i r.row r.is).width (row_turned i r.row r.is))
  direction_by i h (inr a) (inl b) =
      let e : length p.rows ≡ i = omega (arith, a, b) in
      subst (λ q. entry_at (first_tableau p) q j +ℤ entry_at (first_tableau p) q k ≡ pos 0) e
      (subst (λ row. entry row j +ℤ entry row k ≡ pos 0) (sym (at_objective p.rows p.columns p.objective p.phase p.form))
      (fronts p.objective.entries _ _ _ p.form.cost.width (p.form.turned_cost j k v in_j in_k plus minus)))
  direction_by i h (inr a) (inr b) =
      let e : length p.rows + 1 ≡ i = omega (arith, h, b) in
      subst (λ q. entry_at (first_tableau p) q j +ℤ entry_at (first_tableau p) q k ≡ pos 0) e
      (subst (λ row. entry row j +ℤ entry row k ≡ pos 0) (sym (at_phase p.rows p.columns p.objective p.phase p.form)) (fronts p.phase.entries _ _ _ p.form.sum.width phase_turned))

  direction_solves : Solves (first_tableau p).rows direction
  direction_solves i h =
      let e = length_first p.rows p.columns p.objective p.phase p.form in
      dot_direction (row_at (first_tableau p).rows i) ∙ direction_by i (omega (arith, e, h)) (cases_lt i (length p.rows)) (cases_lt i (length p.rows + 1))

  -- in each row of a tableau they are negatives of each other
  pub columns_opposite : (u : Table) → IsEnded (first_tableau p).rows (first_tableau p) u → (i : ℕ) → i < length u.rows → entry_at u i j +ℤ entry_at u i k ≡ pos 0
  columns_opposite u end i h = sym (dot_direction (row_at u.rows i)) ∙ end.tableau.holds direction direction_solves i h

  different_columns : j ≢ k
  different_columns e = let f : Unknown v false ≡ Unknown v true = sym plus ∙ ap (kind_at p.columns) e ∙ minus in cc

  -- so they aren't both basic
  pub not_both : (u : Table) → IsEnded (first_tableau p).rows (first_tableau p) u → IsBasic u j → IsBasic u k → ⊥
  not_both u end a b =
      let size = end.tableau.form.size in
      let ha = a.1 in
      let hb = b.1 in
      let apart : b.0 ≢ a.0 = λ e. different_columns (sym a.2 ∙ ap (basic_at u.basis) (sym e) ∙ b.2) in
      let z = ap (entry_at u a.0) (sym b.2) ∙ (end.tableau.form.basic a.0 (omega (arith, ha))).zeros b.0 (omega (arith, hb, size)) apart in
      let q = (end.tableau.form.basic a.0 (omega (arith, ha))).positive in
      let s = columns_opposite u end a.0 (omega (arith, ha)) in
      let f = ap (entry_at u a.0) a.2 in
      absurd (omega (arith, ints, z, q, s, f))
