-- Solutions of a tableau by their numbers at the columns: the basic solution, and the ray of a column.
use Rattle.std.proofs.Common.{◌≡◌, ◌≢◌, ℕ, zero, suc, ◌+◌, ◌<◌, ◌≤◌, List, [], ◌∷◌, length, ℤ, pos, negsuc, ◌+ℤ◌, ◌*ℤ◌, neg_ℤ, ◌<ℤ◌, ◌≤ℤ◌, arith, refl, sym, ap, ap₂, ◌∙◌, subst, ◌⊎◌, inl, inr}
use Rattle.std.proofs.lemmas.Int.{ints, by_lt_z}
use Rattle.std.proofs.lemmas.Bool.{cases_eq, cases_lt}
use Rattle.dcx_math.specs.Integers.{ring, *ℤ-≤ℤ, *ℤ-nonnegative, *ℤ-positive, *ℤ_idr}
use Rattle.dcx_tab.specs.Rows.{entry}
use Rattle.dcx_math.specs.IntegerSums.{int_scaled, int_added}
use Rattle.dcx_math.proofs.IntegerVectors.{int_dot-added_right}
use Rattle.dcx_tab.proofs.RowLaws.{int_dot-unit, entry-added, entry-scaled, unit, unit_same, unit_other}
use Rattle.dcx_tab.specs.Rows.{Row, Assignment, row_at, basic_at, Solves}
use Rattle.dcx_tab.specs.Table.{Table, entry_at, IsOf}
use Rattle.dcx_tab.proofs.Elimination.{pos_factor}
use Rattle.dcx_tab.proofs.Spread.{spread, int_dot-spread, product, product-pos, others, others-is}
use Rattle.dcx_simplex.specs.Run.{right_at, NoneLeaves, IsEntering}
use Rattle.dcx_simplex.specs.Basis.{IsFeasible, IsIdle, lead_at}
use Rattle.dcx_simplex.specs.Meaning.{IsPoint, IsRay}
use Rattle.dcx_simplex.proofs.Numbers.{zero_times}
use Rattle.dcx_tab.proofs.Pivots.{times_zero}

unit_at : (t m : ℕ) → t ≡ m → entry (unit t) m ≡ pos 1
unit_at t m e = subst (λ x. entry (unit t) x ≡ pos 1) e (unit_same t)

unit_none : (t m : ℕ) → t ≢ m → entry (unit t) m ≡ pos 0
unit_none t m n = unit_other t m (λ e. n (sym e))

-- ---- the number of a column
-- the first column's number, and the others'
entry-spread : (f : ℕ → ℤ) (b : ℕ) (bs : List ℕ) (m : ℕ) → entry (spread f (b ∷ bs)) m ≡ f 0 *ℤ entry (unit b) m +ℤ entry (spread (λ k. f (suc k)) bs) m
entry-spread f b bs m = entry-added (int_scaled (f 0) (unit b)) (spread (λ k. f (suc k)) bs) m ∙ ap (λ z. z +ℤ entry (spread (λ k. f (suc k)) bs) m) (entry-scaled (f 0) (unit b) m)

spread_zero : (f : ℕ → ℤ) (bs : List ℕ) (m : ℕ) → ((k : ℕ) → k < length bs → f k *ℤ entry (unit (basic_at bs k)) m ≡ pos 0) → entry (spread f bs) m ≡ pos 0
spread_zero f [] m h = refl
spread_zero f (b ∷ bs) m h =
    let h0 = h 0 (omega arith) in
    let ih = spread_zero (λ k. f (suc k)) bs m (λ k l. h (suc k) (omega arith)) in
    let e = entry-spread f b bs m in
    omega (arith, ints, h0, ih, e)

spread_high : (f : ℕ → ℤ) (bs : List ℕ) (m : ℕ) → ((k : ℕ) → k < length bs → pos 0 ≤ℤ (f k *ℤ entry (unit (basic_at bs k)) m)) → pos 0 ≤ℤ entry (spread f bs) m
spread_high f [] m h = omega (arith, ints)
spread_high f (b ∷ bs) m h =
    let h0 = h 0 (omega arith) in
    let ih = spread_high (λ k. f (suc k)) bs m (λ k l. h (suc k) (omega arith)) in
    let e = entry-spread f b bs m in
    omega (arith, ints, h0, ih, e)

spread_one : (f : ℕ → ℤ) (bs : List ℕ) (m i : ℕ) → i < length bs → ((k : ℕ) → k < length bs → k ≢ i → f k *ℤ entry (unit (basic_at bs k)) m ≡ pos 0)
    → entry (spread f bs) m ≡ f i *ℤ entry (unit (basic_at bs i)) m
spread_one f [] m i l h = absurd (omega arith)
spread_one f (b ∷ bs) m zero l h =
    let ih = spread_zero (λ k. f (suc k)) bs m (λ k l. h (suc k) (omega arith) (omega arith)) in
    let e = entry-spread f b bs m in
    omega (arith, ints, ih, e)
spread_one f (b ∷ bs) m (suc i) l h =
    let h0 = h 0 (omega arith) (omega arith) in
    let ih = spread_one (λ k. f (suc k)) bs m i (omega arith) (λ k l n. h (suc k) (omega arith) (λ e. n (omega arith))) in
    let e = entry-spread f b bs m in
    omega (arith, ints, h0, ih, e)

holds_by : (a t f p d o s : ℤ) → p *ℤ o ≡ d → a ≡ s *ℤ d → f ≡ neg_ℤ (s *ℤ (t *ℤ o)) → a *ℤ t +ℤ f *ℤ p ≡ pos 0
holds_by a t f p d o s e ea ef = rw (ea, ef, ← e) (simp ring (omega (arith, ints)))

high_term : (f u : ℤ) → pos 0 ≤ℤ f → (u ≡ pos 0) ⊎ (u ≡ pos 1) → pos 0 ≤ℤ (f *ℤ u)
high_term f u h (inl e) = let z = times_zero f u e in omega (arith, ints, z)
high_term f u h (inr e) = let z : f *ℤ u ≡ f = rw e (*ℤ_idr f) in omega (arith, ints, z, h)

unit_or : (t m : ℕ) → (t ≡ m) ⊎ (t ≢ m) → (entry (unit t) m ≡ pos 0) ⊎ (entry (unit t) m ≡ pos 1)
unit_or t m (inl e) = inr (unit_at t m e)
unit_or t m (inr e) = inl (unit_none t m e)

-- what the two constructions share: s is 1 (the ray) or -1 (the basic solution), and j the column
module _ (equations : List Row) (t : Table) (tableau : IsOf equations t) (n : ℕ) (rows : length t.rows ≡ n + 2) (basics : (i : ℕ) → i + 2 < length t.rows → basic_at t.basis i < t.columns)
    (objective : basic_at t.basis n ≡ t.columns) (phase : basic_at t.basis (n + 1) ≡ t.columns + 1) (plain_below : t.plain ≤ t.columns) (s : ℤ) (j : ℕ)
    (high : (k : ℕ) → k + 2 < length t.rows → (s *ℤ entry_at t k j) ≤ℤ pos 0)
    (none : (k : ℕ) → k + 2 < length t.rows → t.plain ≤ basic_at t.basis k → entry_at t k j ≡ pos 0) where
  p : ℕ → ℤ
  p k = entry (row_at t.rows k) (basic_at t.basis k)

  pub d : ℤ
  d = product (λ k. entry (row_at t.rows k) (basic_at t.basis k)) (length t.rows)

  pub o : ℕ → ℤ
  o k = others (λ k. entry (row_at t.rows k) (basic_at t.basis k)) (length t.rows) k

  pub d_pos : pos 0 <ℤ d
  unfolding d
  d_pos = product-pos _ (length t.rows) (λ k h. (tableau.form.basic k h).positive)

  pub o_is : (k : ℕ) → k < length t.rows → entry (row_at t.rows k) (basic_at t.basis k) *ℤ o k ≡ d
  unfolding o d
  o_is k h = others-is _ (length t.rows) k h

  pub o_pos : (k : ℕ) → k < length t.rows → pos 0 <ℤ o k
  o_pos k h = pos_factor (entry (row_at t.rows k) (basic_at t.basis k)) (o k) d (tableau.form.basic k h).positive (o_is k h) d_pos

  f : ℕ → ℤ
  f k = neg_ℤ (s *ℤ (entry_at t k j *ℤ o k))

  pub y : Assignment
  y = int_added (int_scaled (s *ℤ d) (unit j)) (spread (λ k. neg_ℤ (s *ℤ (entry_at t k j *ℤ o k))) t.basis)

  pub y_solves : Solves equations y
  unfolding y
  y_solves = tableau.only _ (λ k h.
      int_dot-added_right (row_at t.rows k) (int_scaled (s *ℤ d) (unit j)) (spread (λ k. neg_ℤ (s *ℤ (entry_at t k j *ℤ o k))) t.basis)
      ∙ ap₂ ◌+ℤ◌ (int_dot-unit (row_at t.rows k) (s *ℤ d) j) (int_dot-spread (row_at t.rows k) (λ k. neg_ℤ (s *ℤ (entry_at t k j *ℤ o k))) t.basis k
      (let e = tableau.form.size in omega (arith, e, h)) (tableau.form.basic k h).zeros)
      ∙ holds_by (s *ℤ d) (entry_at t k j) _ (entry (row_at t.rows k) (basic_at t.basis k)) d (o k) s (o_is k h) refl refl)

  f_high : (k : ℕ) → k + 2 < length t.rows → pos 0 ≤ℤ f k
  unfolding f
  f_high k h =
      let m = *ℤ-≤ℤ (o k) (s *ℤ entry_at t k j) (pos 0) (let q = o_pos k (omega arith) in omega (arith, ints, q)) (high k h) in
      let e : s *ℤ (entry_at t k j *ℤ o k) ≡ o k *ℤ (s *ℤ entry_at t k j) = simp ring in
      omega (arith, ints, m, e)

  f_none : (k : ℕ) → k + 2 < length t.rows → t.plain ≤ basic_at t.basis k → f k ≡ pos 0
  unfolding f
  f_none k h l = let e = times_zero s _ (zero_times (entry_at t k j) (o k) (none k h l)) in omega (arith, ints, e)

  basic_n : (k : ℕ) → k < length t.rows → n ≤ k → (k ≡ n) ⊎ (k ≢ n) → t.columns ≤ basic_at t.basis k
  basic_n k h l (inl e) = let g = ap (basic_at t.basis) e in let q = objective in omega (arith, g, q)
  basic_n k h l (inr m) = let e : k ≡ n + 1 = omega (arith, m) in let g = ap (basic_at t.basis) e in let q = phase in omega (arith, g, q)

  term_high : (m k : ℕ) → m < t.columns → k < length t.rows → (k < n) ⊎ (n ≤ k) → pos 0 ≤ℤ (f k *ℤ entry (unit (basic_at t.basis k)) m)
  term_high m k h l (inl q) = high_term (f k) _ (f_high k (omega arith)) (unit_or (basic_at t.basis k) m (cases_eq (basic_at t.basis k) m))
  term_high m k h l (inr q) =
      let b = basic_n k l q (cases_eq k n) in
      let z = times_zero (f k) (entry (unit (basic_at t.basis k)) m) (unit_none (basic_at t.basis k) m (λ e. absurd (omega (arith, e, b, h)))) in
      omega (arith, ints, z)

  spread_plain : (m : ℕ) → m < t.columns → pos 0 ≤ℤ entry (spread f t.basis) m
  spread_plain m h = spread_high f t.basis m (λ k l. let e = tableau.form.size in term_high m k h (omega (arith, e, l)) (cases_lt k n))

  term_none : (m k : ℕ) → t.plain ≤ m → m < t.columns → k < length t.rows → (k < n) ⊎ (n ≤ k) → (basic_at t.basis k ≡ m) ⊎ (basic_at t.basis k ≢ m) → f k *ℤ entry (unit (basic_at t.basis k)) m ≡ pos 0
  term_none m k g h l q (inr e) = times_zero (f k) _ (unit_none (basic_at t.basis k) m e)
  term_none m k g h l (inl q) (inl e) = zero_times (f k) _ (f_none k (omega arith) (omega (arith, e, g)))
  term_none m k g h l (inr q) (inl e) = let b = basic_n k l q (cases_eq k n) in absurd (omega (arith, e, b, h))

  spread_none : (m : ℕ) → t.plain ≤ m → m < t.columns → entry (spread f t.basis) m ≡ pos 0
  spread_none m g h = spread_zero f t.basis m (λ k l. let e = tableau.form.size in term_none m k g h (omega (arith, e, l)) (cases_lt k n) (cases_eq (basic_at t.basis k) m))

  basic_below : (k : ℕ) → k < length t.rows → (k < n) ⊎ (n ≤ k) → (k ≡ n) ⊎ (k ≢ n) → basic_at t.basis k < t.columns + 2
  basic_below k h (inl q) e = let b = basics k (omega arith) in omega (arith, b)
  basic_below k h (inr q) (inl e) = let g = ap (basic_at t.basis) e in let b = objective in omega (arith, g, b)
  basic_below k h (inr q) (inr m) = let e : k ≡ n + 1 = omega (arith, m) in let g = ap (basic_at t.basis) e in let b = phase in omega (arith, g, b)

  spread_right : entry (spread f t.basis) (t.columns + 2) ≡ pos 0
  spread_right = spread_zero f t.basis (t.columns + 2) (λ k l. let e = tableau.form.size in
      times_zero (f k) _ (unit_none (basic_at t.basis k) (t.columns + 2) (λ q. let b = basic_below k (omega (arith, e, l)) (cases_lt k n) (cases_eq k n) in absurd (omega (arith, q, b)))))

  basic_not_z : (k : ℕ) → k < length t.rows → k ≢ n → (k < n) ⊎ (n ≤ k) → basic_at t.basis k ≢ t.columns
  basic_not_z k h m (inl q) e = let b = basics k (omega arith) in absurd (omega (arith, b, e))
  basic_not_z k h m (inr q) e = let c : k ≡ n + 1 = omega (arith, m) in let g = ap (basic_at t.basis) c in let b = phase in absurd (omega (arith, g, b, e))

  spread_z : entry (spread f t.basis) t.columns ≡ f n
  spread_z =
      let e = tableau.form.size in
      spread_one f t.basis t.columns n (omega (arith, e, rows)) (λ k l m. times_zero (f k) _ (unit_none (basic_at t.basis k) t.columns (basic_not_z k (omega (arith, e, l)) m (cases_lt k n))))
      ∙ ap (λ u. f n *ℤ u) (unit_at (basic_at t.basis n) t.columns objective) ∙ *ℤ_idr (f n)

  plus_none : (a u b c : ℤ) → u ≡ pos 0 → b ≡ c → a *ℤ u +ℤ b ≡ c
  plus_none a u b c e h = let z = times_zero a u e in omega (arith, ints, z, h)

  y_is : (m : ℕ) → entry y m ≡ (s *ℤ d) *ℤ entry (unit j) m +ℤ entry (spread f t.basis) m
  unfolding y f
  y_is m = entry-added (int_scaled (s *ℤ d) (unit j)) (spread (λ k. neg_ℤ (s *ℤ (entry_at t k j *ℤ o k))) t.basis) m
      ∙ ap (λ u. u +ℤ entry (spread (λ k. neg_ℤ (s *ℤ (entry_at t k j *ℤ o k))) t.basis) m) (entry-scaled (s *ℤ d) (unit j) m)

  -- the numbers of the solution: apart from column j, whose own number is s d more
  y_at : (m : ℕ) → m ≢ j → entry y m ≡ entry (spread f t.basis) m
  y_at m h = y_is m ∙ plus_none (s *ℤ d) (entry (unit j) m) _ _ (unit_none j m (λ e. h (sym e))) refl

  y_j : entry y j ≡ s *ℤ d +ℤ entry (spread f t.basis) j
  y_j = y_is j ∙ ap (λ u. (s *ℤ d) *ℤ u +ℤ entry (spread f t.basis) j) (unit_same j) ∙ ap (λ u. u +ℤ entry (spread f t.basis) j) (*ℤ_idr (s *ℤ d))

  pub y_plain : (m : ℕ) → m < t.plain → m ≢ j → pos 0 ≤ℤ entry y m
  y_plain m h q = let e = y_at m q in let b = spread_plain m (omega (arith, h, plain_below)) in omega (arith, ints, e, b)

  pub y_own : j < t.columns → pos 0 ≤ℤ s → pos 0 ≤ℤ entry y j
  y_own h q = let e = y_j in let b = spread_plain j h in let m = *ℤ-nonnegative s d q (let x = d_pos in omega (arith, ints, x)) in omega (arith, ints, e, b, m)

  pub y_artificial : (m : ℕ) → t.plain ≤ m → m < t.columns → m ≢ j → entry y m ≡ pos 0
  y_artificial m g h q = y_at m q ∙ spread_none m g h

  pub y_right : t.columns + 2 ≢ j → entry y (t.columns + 2) ≡ pos 0
  y_right q = y_at (t.columns + 2) q ∙ spread_right

  pub y_right_own : j ≡ t.columns + 2 → entry y (t.columns + 2) ≡ s *ℤ d
  y_right_own e = let a = y_j in let b = spread_right in let c : entry (spread f t.basis) j ≡ pos 0 = ap (entry (spread f t.basis)) e ∙ b in sym (ap (entry y) e) ∙ a ∙ omega (arith, ints, c)

  pub y_z : t.columns ≢ j → entry y t.columns ≡ neg_ℤ (s *ℤ (entry_at t n j *ℤ o n))
  unfolding f
  y_z q = y_at t.columns q ∙ spread_z

-- ---- the basic solution
minus_low : (z : ℤ) → pos 0 ≤ℤ z → (negsuc 0 *ℤ z) ≤ℤ pos 0
minus_low z h = omega (arith, ints)

minus_neg : (d : ℤ) → pos 0 <ℤ d → (negsuc 0 *ℤ d) <ℤ pos 0
minus_neg d h = omega (arith, ints)

value_is : (r l o d yr yz : ℤ) → l *ℤ o ≡ d → yr ≡ negsuc 0 *ℤ d → yz ≡ neg_ℤ (negsuc 0 *ℤ (r *ℤ o)) → r *ℤ neg_ℤ yr ≡ l *ℤ yz
value_is r l o d yr yz e er ez =
    let a : neg_ℤ yr ≡ d = omega (arith, ints, er) in
    let b : yz ≡ r *ℤ o = omega (arith, ints, ez) in
    rw (a, b, ← e) (simp ring)

module _ (equations : List Row) (t : Table) (tableau : IsOf equations t) (n : ℕ) (rows : length t.rows ≡ n + 2) (basics : (i : ℕ) → i + 2 < length t.rows → basic_at t.basis i < t.columns)
    (objective : basic_at t.basis n ≡ t.columns) (phase : basic_at t.basis (n + 1) ≡ t.columns + 1) (plain_below : t.plain ≤ t.columns) where
  module _ (feasible : IsFeasible t) (zeros : (k : ℕ) → k + 2 < length t.rows → t.plain ≤ basic_at t.basis k → right_at t k ≡ pos 0) where
    high : (k : ℕ) → k + 2 < length t.rows → (negsuc 0 *ℤ entry_at t k (t.columns + 2)) ≤ℤ pos 0
    high k h = minus_low (right_at t k) (feasible k h)

    pub basic_solution : (y : Assignment) × Solves equations y × IsPoint t y × (right_at t n *ℤ neg_ℤ (entry y (t.columns + 2)) ≡ lead_at t n *ℤ entry y t.columns)
    basic_solution =
        let own = y_right_own equations t tableau n rows basics objective phase plain_below (negsuc 0) (t.columns + 2) high zeros refl in (
          y equations t tableau n rows basics objective phase plain_below (negsuc 0) (t.columns + 2) high zeros,
          y_solves equations t tableau n rows basics objective phase plain_below (negsuc 0) (t.columns + 2) high zeros,
          record {
            plain = λ m h. y_plain equations t tableau n rows basics objective phase plain_below (negsuc 0) (t.columns + 2) high zeros m h
                (λ e. let q = plain_below in absurd (omega (arith, e, h, q)));
            artificial = λ m g h. y_artificial equations t tableau n rows basics objective phase plain_below (negsuc 0) (t.columns + 2) high zeros m g h (λ e. absurd (omega (arith, e, h)));
            denominator = subst (λ z. z <ℤ pos 0) (sym own) (minus_neg _ (d_pos equations t tableau n rows basics objective phase plain_below (negsuc 0) (t.columns + 2) high zeros));
          },
          value_is (right_at t n) (lead_at t n) _ _ _ _ (o_is equations t tableau n rows basics objective phase plain_below (negsuc 0) (t.columns + 2) high zeros n (omega (arith, rows))) own
              (y_z equations t tableau n rows basics objective phase plain_below (negsuc 0) (t.columns + 2) high zeros (λ e. absurd (omega (arith, e)))),
        )

  -- ---- the ray of a column
  module _ (c : ℕ) (idle : IsIdle t.plain t) (enters : IsEntering n t c) (none : NoneLeaves t.plain t c) where
    up_by : (k : ℕ) → k + 2 < length t.rows → (basic_at t.basis k < t.plain) ⊎ (t.plain ≤ basic_at t.basis k) → (pos 1 *ℤ entry_at t k c) ≤ℤ pos 0
    up_by k h (inl l) = by_lt_z (pos 0) (entry_at t k c) (λ q. absurd (none k (record { row = h; kind = l; positive = q }))) (λ q. omega (arith, ints, q))
    up_by k h (inr l) = let e = idle k h l c enters.column in omega (arith, ints, e)

    up : (k : ℕ) → k + 2 < length t.rows → (pos 1 *ℤ entry_at t k c) ≤ℤ pos 0
    up k h = up_by k h (cases_lt (basic_at t.basis k) t.plain)

    still : (k : ℕ) → k + 2 < length t.rows → t.plain ≤ basic_at t.basis k → entry_at t k c ≡ pos 0
    still k h l = idle k h l c enters.column

    plain_by : (m : ℕ) → m < t.plain → (m ≡ c) ⊎ (m ≢ c) → pos 0 ≤ℤ entry (y equations t tableau n rows basics objective phase plain_below (pos 1) c up still) m
    plain_by m h (inl e) =
        subst (λ i. pos 0 ≤ℤ entry (y equations t tableau n rows basics objective phase plain_below (pos 1) c up still) i) (sym e)
        (y_own equations t tableau n rows basics objective phase plain_below (pos 1) c up still (let q = plain_below in let x = enters.column in omega (arith, q, x)) (omega (arith, ints)))
    plain_by m h (inr e) = y_plain equations t tableau n rows basics objective phase plain_below (pos 1) c up still m h e

    falls_by : (a o z : ℤ) → pos 0 <ℤ a → pos 0 <ℤ o → z ≡ neg_ℤ (pos 1 *ℤ (a *ℤ o)) → z <ℤ pos 0
    falls_by a o z h q e = let m = *ℤ-positive a o h q in omega (arith, ints, e, m)

    pub ray : (y : Assignment) × Solves equations y × IsRay t y
    ray = (
      y equations t tableau n rows basics objective phase plain_below (pos 1) c up still,
      y_solves equations t tableau n rows basics objective phase plain_below (pos 1) c up still,
      record {
        plain = λ m h. plain_by m h (cases_eq m c);
        artificial = λ m g h. y_artificial equations t tableau n rows basics objective phase plain_below (pos 1) c up still m g h (λ e. let x = enters.column in absurd (omega (arith, e, g, x)));
        denominator = y_right equations t tableau n rows basics objective phase plain_below (pos 1) c up still (λ e. let x = enters.column in let q = plain_below in absurd (omega (arith, e, q, x)));
        falls = falls_by (entry_at t n c) _ _ enters.eligible (o_pos equations t tableau n rows basics objective phase plain_below (pos 1) c up still n (omega (arith, rows)))
            (y_z equations t tableau n rows basics objective phase plain_below (pos 1) c up still (λ e. let x = enters.column in let q = plain_below in absurd (omega (arith, e, q, x))));
      },
    )
