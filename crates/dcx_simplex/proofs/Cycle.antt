-- No repetition: a chain of at least one step has different basic columns at its ends.
use Rattle.std.proofs.Common.{◌≡◌, ◌≢◌, ℕ, zero, suc, ◌+◌, ◌-◌, ◌<◌, ◌≤◌, List, length, ℤ, pos, ◌+ℤ◌, ◌*ℤ◌, neg_ℤ, ◌<ℤ◌, ◌≤ℤ◌, arith, refl, sym, ap, ◌∙◌, subst, ◌⊎◌, inl, inr}
use Rattle.std.proofs.lemmas.Int.{ints, by_lt_z}
use Rattle.std.proofs.lemmas.Bool.{cases_eq, cases_lt}
use Rattle.std.proofs.lemmas.List.{get_or-set_same, get_or-set_other}
use Rattle.dcx_math.specs.Integers.{ring, *ℤ_cancel}
use Rattle.dcx_math.specs.IntegerSums.{int_dot, int_scaled}
use Rattle.dcx_tab.specs.Rows.{entry}
use Rattle.dcx_tab.proofs.RowLaws.{int_dot-unit, unit}
use Rattle.dcx_tab.specs.Rows.{Row, Assignment, row_at, basic_at, Solves}
use Rattle.dcx_tab.specs.Table.{Table, entry_at, after_pivot}
use Rattle.dcx_tab.proofs.Lagrange.{identity, d, o, d_pos, o_is}
use Rattle.dcx_simplex.specs.Run.{IsNext, right_at}
use Rattle.dcx_simplex.proofs.Lengths.{length-after}
use Rattle.dcx_simplex.specs.Basis.{IsReady, IsBasic, HasSameColumns, HasSameValue, IsNotAbove, lead_at}
use Rattle.dcx_simplex.proofs.Numbers.{cross_lt}
use Rattle.dcx_simplex.proofs.Moves.{value_strict, zero_after, zero_before}
use Rattle.dcx_simplex.proofs.Chains.{Chain, IsKin, lead_of, not_above_trans}
use Rattle.dcx_simplex.proofs.Clash.{clash, weighted_one}

-- ---- a column is basic or not
among : (basis : List ℕ) (n j : ℕ) → ((i : ℕ) × (i < n) × (basic_at basis i ≡ j)) ⊎ ((i : ℕ) → i < n → basic_at basis i ≢ j)
among basis zero j = inr (λ i h e. absurd (omega arith))
among basis (suc n) j = among_by basis n j (cases_eq (basic_at basis n) j) (among basis n j)
  where
    not_by : (basis : List ℕ) (n j i : ℕ) → basic_at basis n ≢ j → ((k : ℕ) → k < n → basic_at basis k ≢ j) → i < suc n → (i ≡ n) ⊎ (i ≢ n) → basic_at basis i ≢ j
    not_by basis n j i a f h (inl e) g = a (ap (basic_at basis) (sym e) ∙ g)
    not_by basis n j i a f h (inr e) g = f i (omega (arith, e)) g

    among_by : (basis : List ℕ) (n j : ℕ) → (basic_at basis n ≡ j) ⊎ (basic_at basis n ≢ j) → ((i : ℕ) × (i < n) × (basic_at basis i ≡ j)) ⊎ ((i : ℕ) → i < n → basic_at basis i ≢ j)
        → ((i : ℕ) × (i < suc n) × (basic_at basis i ≡ j)) ⊎ ((i : ℕ) → i < suc n → basic_at basis i ≢ j)
    among_by basis n j (inl e) f = inl (n, omega arith, e)
    among_by basis n j (inr e) (inl f) = inl (f.0, (let h = f.1 in omega arith), f.2)
    among_by basis n j (inr e) (inr f) = inr (λ i h. not_by basis n j i e f h (cases_eq i n))

basic_from : (t : Table) (j : ℕ) → ((i : ℕ) × (i < length t.rows - 2) × (basic_at t.basis i ≡ j)) ⊎ ((i : ℕ) → i < length t.rows - 2 → basic_at t.basis i ≢ j) → IsBasic t j ⊎ ¬ (IsBasic t j)
basic_from t j (inl f) = inl (f.0, (let h = f.1 in omega arith), f.2)
basic_from t j (inr f) = inr (λ b. f b.0 (let h = b.1 in omega arith) b.2)

pub is_basic : (t : Table) (j : ℕ) → IsBasic t j ⊎ ¬ (IsBasic t j)
is_basic t j = basic_from t j (among t.basis (length t.rows - 2) j)

-- ---- one step
module _ (cost bound : ℕ) (t : Table) (r c : ℕ) (next : IsNext cost bound t r c) (size : length t.rows ≡ length t.basis) where
  in_r : r + 2 < length t.rows
  in_r = next.leaves.may.row

  gained_by : (j i : ℕ) → i + 2 < length t.rows → basic_at (after_pivot r c t).basis i ≡ j → ¬ (IsBasic t j) → (i ≡ r) ⊎ (i ≢ r) → c ≡ j
  gained_by j i h e n (inl m) = sym (get_or-set_same t.basis r c 0 (let q = in_r in omega (arith, size))) ∙ ap (basic_at (after_pivot r c t).basis) (sym m) ∙ e
  gained_by j i h e n (inr m) = absurd (n (i, h, sym (get_or-set_other t.basis r i c 0 m) ∙ e))

  -- a column that becomes basic enters
  pub gained : (j : ℕ) → ¬ (IsBasic t j) → IsBasic (after_pivot r c t) j → c ≡ j
  gained j n b = gained_by j b.0 (let h = b.1 in omega (arith, length-after r c t)) b.2 n (cases_eq b.0 r)

  lost_by : (j i : ℕ) → i + 2 < length t.rows → basic_at t.basis i ≡ j → ¬ (IsBasic (after_pivot r c t) j) → (i ≡ r) ⊎ (i ≢ r) → basic_at t.basis r ≡ j
  lost_by j i h e n (inl m) = ap (basic_at t.basis) (sym m) ∙ e
  lost_by j i h e n (inr m) = absurd (n (i, omega (arith, length-after r c t), get_or-set_other t.basis r i c 0 m ∙ e))

  -- a column that ceases to be basic leaves
  pub lost : (j : ℕ) → IsBasic t j → ¬ (IsBasic (after_pivot r c t) j) → basic_at t.basis r ≡ j
  lost j b n = lost_by j b.0 b.1 b.2 n (cases_eq b.0 r)

  pub now_basic : IsBasic (after_pivot r c t) c
  now_basic = (r, (let q = in_r in omega (arith, length-after r c t)), get_or-set_same t.basis r c 0 (let q = in_r in omega (arith, size)))

-- a column that enters isn't basic
pub not_basic : (equations : List Row) (cost bound : ℕ) (t : Table) → IsReady equations cost bound t → (r c : ℕ) → IsNext cost bound t r c → ¬ (IsBasic t c)
not_basic equations cost bound t ready r c next b =
    let h = b.1 in
    let z = (ready.tableau.form.basic cost ready.cost_row).zeros b.0 (omega (arith, ready.tableau.form.size, h)) (λ e. let p = ready.cost_last in absurd (omega (arith, h, e))) in
    let p = next.enters.eligible in
    let f : entry_at t cost c ≡ pos 0 = ap (entry_at t cost) (sym b.2) ∙ z in
    absurd (omega (arith, ints, p, f))

-- ---- the value at tableaus with the same basic columns
one_left : (d v s w n lead right lead' right' o : ℤ) → pos 0 <ℤ d → d *ℤ v +ℤ n ≡ pos 0 → v ≡ pos 1 *ℤ right' → n ≡ neg_ℤ (w *ℤ o) *ℤ lead' → w ≡ pos 1 *ℤ right → lead *ℤ o ≡ d
    → right' *ℤ lead ≡ right *ℤ lead'
one_left d v s w n lead right lead' right' o hd e hv hn hw ho =
    let a : v ≡ right' = omega (arith, ints, hv) in
    let b : w ≡ right = omega (arith, ints, hw) in
    let c : d *ℤ right' +ℤ neg_ℤ (right *ℤ o) *ℤ lead' ≡ pos 0 =
    subst (λ x. d *ℤ x +ℤ neg_ℤ (right *ℤ o) *ℤ lead' ≡ pos 0) a (subst (λ x. d *ℤ v +ℤ neg_ℤ (x *ℤ o) *ℤ lead' ≡ pos 0) b (subst (λ x. d *ℤ v +ℤ x ≡ pos 0) hn e)) in
    let g = ap (λ x. lead *ℤ x) c in
    let k = ap (λ x. x *ℤ (right *ℤ lead')) ho in
    let f : d *ℤ (right' *ℤ lead) ≡ d *ℤ (right *ℤ lead') = simp ring (omega (arith, ints, simp ring at g, g, simp ring at k, k)) in
    *ℤ_cancel d (right' *ℤ lead) (right *ℤ lead') hd f

module _ (equations : List Row) (cost bound : ℕ) (t u : Table) (ready : IsReady equations cost bound t) (ready' : IsReady equations cost bound u) (kin : IsKin t u) (same : HasSameColumns t u) where
  held : (x : Assignment) → Solves t.rows x → int_dot (row_at u.rows cost) x ≡ pos 0
  held x h = ready'.tableau.holds x (ready.tableau.only x h) cost ready'.cost_row

  others_by : (k : ℕ) → k < length t.rows → k ≢ cost → (k + 2 < length t.rows) ⊎ (length t.rows ≤ k + 2) → entry (row_at u.rows cost) (basic_at t.basis k) ≡ pos 0
  others_by k h n (inl l) =
      let b = (same (basic_at t.basis k)).0 (k, l, refl) in
      let g = b.1 in
      let z = (ready'.tableau.form.basic cost ready'.cost_row).zeros b.0 (omega (arith, ready'.tableau.form.size, g)) (λ e. let p = ready'.cost_last in absurd (omega (arith, g, e))) in
      ap (entry_at u cost) (sym b.2) ∙ z
  others_by k h n (inr l) = ap (entry_at u cost) (sym (kin.last k h l)) ∙ (ready'.tableau.form.basic cost ready'.cost_row).zeros k (let e = kin.rows in omega (arith, ready'.tableau.form.size)) n

  pub value_of_columns : HasSameValue cost u t
  value_of_columns =
      let f = t.columns + 3 in
      let j = t.columns + 2 in
      let row = row_at u.rows cost in
      let size = ready.tableau.form.size in
      let i = identity (t.columns + 3) t.basis t.rows ready.tableau.form row held (int_scaled (pos 1) (unit j)) in
      let one = weighted_one (λ k. neg_ℤ (int_dot (row_at t.rows k) (int_scaled (pos 1) (unit j)) *ℤ o (t.columns + 3) t.basis t.rows ready.tableau.form row held k)) t.basis row cost
      (omega (arith, size, ready.cost_row))
      (λ k h n. others_by k (omega (arith, size)) n (cases_lt (k + 2) (length t.rows))) in
      let lead_same : entry row (basic_at t.basis cost) ≡ lead_at u cost = ap (entry row) (sym (kin.last cost ready.cost_row ready.cost_last)) in
      let e = one_left _ _ (pos 0) _ _ (lead_at t cost) (right_at t cost) (entry row (basic_at t.basis cost)) (entry row j) _ (d_pos (t.columns + 3) t.basis t.rows ready.tableau.form row held) i
      (int_dot-unit row (pos 1) j) one
      (int_dot-unit (row_at t.rows cost) (pos 1) j) (o_is (t.columns + 3) t.basis t.rows ready.tableau.form row held cost ready.cost_row) in
      ap (λ q. entry row (q + 2) *ℤ lead_at t cost) kin.columns ∙ e ∙ ap (λ q. right_at t cost *ℤ q) lead_same

-- ---- the greatest column that enters
greatest_other : (f : ℕ → ℕ) (n i l : ℕ) → ((l : ℕ) → l < suc n → f l ≤ f i) → f (suc n) ≤ f i → l < suc (suc n) → (l ≡ suc n) ⊎ (l ≢ suc n) → f l ≤ f i
greatest_other f n i l h m k (inl e) = subst (λ x. f x ≤ f i) (sym e) m
greatest_other f n i l h m k (inr e) = h l (omega (arith, e))

greatest_by : (f : ℕ → ℕ) (n : ℕ) (g : (i : ℕ) × (i < suc n) × ((l : ℕ) → l < suc n → f l ≤ f i)) → (f (suc n) ≤ f g.0) ⊎ (f g.0 < f (suc n))
    → (i : ℕ) × (i < suc (suc n)) × ((l : ℕ) → l < suc (suc n) → f l ≤ f i)
greatest_by f n g (inl h) = (g.0, (let x = g.1 in omega arith), λ l k. greatest_other f n g.0 l g.2 h k (cases_eq l (suc n)))
greatest_by f n g (inr h) = (suc n, omega arith, λ l k. greatest_other f n (suc n) l (λ m lm. let y = g.2 m lm in omega (arith, y, h)) (omega arith) k (cases_eq l (suc n)))

turn_round : {a b : ℕ} → (a < b) ⊎ (b ≤ a) → (b ≤ a) ⊎ (a < b)
turn_round (inl h) = inr h
turn_round (inr h) = inl h

greatest : (f : ℕ → ℕ) (n : ℕ) → (i : ℕ) × (i < suc n) × ((l : ℕ) → l < suc n → f l ≤ f i)
greatest f zero = (0, omega arith, λ l h. let e : l ≡ 0 = omega arith in subst (λ x. f x ≤ f 0) (sym e) (omega arith))
greatest f (suc n) = let g = greatest f n in greatest_by f n g (turn_round (cases_lt (f g.0) (f (suc n))))

-- ---- where column j is basic, the right side is 0
abbrev pub IsZeroAt : Table → ℕ → Type 0
IsZeroAt t j = (k : ℕ) → k + 2 < length t.rows → basic_at t.basis k ≡ j → right_at t k ≡ pos 0

module _ (equations : List Row) (cost bound : ℕ) (t : Table) (ready : IsReady equations cost bound t) (r c : ℕ) (next : IsNext cost bound t r c) (zero_r : right_at t r ≡ pos 0) where
  forth_by : (j k : ℕ) → IsZeroAt t j → k + 2 < length t.rows → basic_at (after_pivot r c t).basis k ≡ j → (k ≡ r) ⊎ (k ≢ r) → right_at (after_pivot r c t) k ≡ pos 0
  forth_by j k z h e (inl m) = zero_after equations cost bound t ready r c next k (omega arith) zero_r (ap (right_at t) m ∙ zero_r)
  forth_by j k z h e (inr m) = zero_after equations cost bound t ready r c next k (omega arith) zero_r (z k h (sym (get_or-set_other t.basis r k c 0 m) ∙ e))

  pub forth : (j : ℕ) → IsZeroAt t j → IsZeroAt (after_pivot r c t) j
  forth j z k h e = forth_by j k z (omega (arith, length-after r c t)) e (cases_eq k r)

  back_by : (j k : ℕ) → IsZeroAt (after_pivot r c t) j → k + 2 < length t.rows → basic_at t.basis k ≡ j → (k ≡ r) ⊎ (k ≢ r) → right_at t k ≡ pos 0
  back_by j k z h e (inl m) = ap (right_at t) m ∙ zero_r
  back_by j k z h e (inr m) = zero_before equations cost bound t ready r c next k (omega arith) zero_r (z k (omega (arith, length-after r c t)) (get_or-set_other t.basis r k c 0 m ∙ e))

  pub back : (j : ℕ) → IsZeroAt (after_pivot r c t) j → IsZeroAt t j
  back j z k h e = back_by j k z h e (cases_eq k r)

-- ---- a cycle
no_rise : (a b c d : ℤ) → a *ℤ b ≡ c *ℤ d → (c *ℤ d) ≤ℤ (a *ℤ b)
no_rise a b c d e = omega (arith, ints, e)

module _ (equations : List Row) (cost bound : ℕ) (t u : Table) (n : ℕ) (ch : Chain equations cost bound t u (suc n)) (same : HasSameColumns t u) where
  size : (i : ℕ) → i ≤ suc n → length (ch.tables i).rows ≡ length (ch.tables i).basis
  size i h = (ch.ready i h).tableau.form.size

  ends_same : HasSameColumns (ch.tables (suc n)) (ch.tables 0)
  ends_same = subst (λ w. HasSameColumns w (ch.tables 0)) (sym ch.start) (subst (HasSameColumns t) (sym ch.final) same)

  ends_kin : IsKin (ch.tables (suc n)) (ch.tables 0)
  ends_kin = subst (λ w. IsKin w (ch.tables 0)) (sym ch.start) (ch.kin 0 (omega arith))

  ends_value : HasSameValue cost (ch.tables 0) (ch.tables (suc n))
  ends_value = value_of_columns equations cost bound (ch.tables (suc n)) (ch.tables 0) (ch.ready (suc n) (omega arith)) (ch.ready 0 (omega arith)) ends_kin ends_same

  returns : IsNotAbove cost (ch.tables (suc n)) (ch.tables 0)
  returns = no_rise (right_at (ch.tables 0) cost) (lead_at (ch.tables (suc n)) cost) (right_at (ch.tables (suc n)) cost) (lead_at (ch.tables 0) cost) ends_value

  -- each pivot of the cycle has right side 0
  strict_none : (i : ℕ) → i < suc n → pos 0 <ℤ right_at (ch.tables (suc i)) (ch.row i) → ⊥
  strict_none i h p =
      let a = ch.ready 0 (omega arith) in
      let b = ch.ready i (omega arith) in
      let c = ch.ready (suc i) (omega arith) in
      let z = ch.ready (suc n) (omega arith) in
      let s = subst (λ w. (right_at w cost *ℤ lead_at (ch.tables (suc i)) cost) <ℤ (right_at (ch.tables (suc i)) cost *ℤ lead_at w cost)) (sym (ch.after i h))
      (value_strict equations cost bound (ch.tables (suc i)) c (ch.row i) (ch.column i) (ch.next i h) p) in
      cross_lt (right_at (ch.tables 0) cost) (lead_at (ch.tables 0) cost) (right_at (ch.tables i) cost) (lead_at (ch.tables i) cost) (right_at (ch.tables (suc i)) cost)
      (lead_at (ch.tables (suc i)) cost)
      (lead_of equations cost bound (ch.tables 0) a) (lead_of equations cost bound (ch.tables i) b) (lead_of equations cost bound (ch.tables (suc i)) c)
      (ch.falls 0 i (omega arith) (omega arith)) s
      (not_above_trans equations cost bound (ch.tables (suc i)) (ch.tables (suc n)) (ch.tables 0) c z a (ch.falls (suc i) (suc n) (omega arith) (omega arith)) returns)

  pub still : (i : ℕ) → i < suc n → right_at (ch.tables (suc i)) (ch.row i) ≡ pos 0
  still i h =
      let f = (ch.ready (suc i) (omega arith)).feasible (ch.row i) (ch.next i h).leaves.may.row in
      by_lt_z (pos 0) (right_at (ch.tables (suc i)) (ch.row i)) (λ p. absurd (strict_none i h p)) (λ l. omega (arith, ints, f, l))

  -- a column that isn't basic at one tableau is 0 at each
  to_end : (j i : ℕ) → i ≤ suc n → IsZeroAt (ch.tables i) j → IsZeroAt (ch.tables 0) j
  to_end j zero h z = z
  to_end j (suc i) h z = to_end j i (omega arith) (subst (λ w. IsZeroAt w j) (sym (ch.after i (omega arith)))
      (forth equations cost bound (ch.tables (suc i)) (ch.ready (suc i) h) (ch.row i) (ch.column i) (ch.next i (omega arith)) (still i (omega arith)) j z))

  from_end : (j i : ℕ) → i ≤ suc n → IsZeroAt (ch.tables 0) j → IsZeroAt (ch.tables i) j
  from_end j zero h z = z
  from_end j (suc i) h z = back equations cost bound (ch.tables (suc i)) (ch.ready (suc i) h) (ch.row i) (ch.column i) (ch.next i (omega arith)) (still i (omega arith)) j
      (subst (λ w. IsZeroAt w j) (ch.after i (omega arith)) (from_end j i (omega arith) z))

  abbrev pub Leaves : ℕ → Type 0
  Leaves j = (l : ℕ) × (l < suc n) × (basic_at (ch.tables (suc l)).basis (ch.row l) ≡ j)

  abbrev pub Enters : ℕ → Type 0
  Enters j = (l : ℕ) × (l < suc n) × (ch.column l ≡ j)

  lost_step : (j b : ℕ) → b < suc n → IsBasic (ch.tables (suc b)) j → ¬ (IsBasic (ch.tables b) j) → Leaves j
  lost_step j b h x y = (b, h, lost cost bound (ch.tables (suc b)) (ch.row b) (ch.column b) (ch.next b h) (size (suc b) h) j x (subst (λ w. ¬ (IsBasic w j)) (ch.after b h) y))

  gained_step : (j b : ℕ) → b < suc n → ¬ (IsBasic (ch.tables (suc b)) j) → IsBasic (ch.tables b) j → Enters j
  gained_step j b h x y = (b, h, gained cost bound (ch.tables (suc b)) (ch.row b) (ch.column b) (ch.next b h) (size (suc b) h) j x (subst (λ w. IsBasic w j) (ch.after b h) y))

  -- with the induction's hypothesis at b
  lost_by_cases : (j a b : ℕ) → a ≤ suc b → suc b ≤ suc n → IsBasic (ch.tables (suc b)) j → ¬ (IsBasic (ch.tables a) j) → (a ≤ b → IsBasic (ch.tables b) j → Leaves j) → (a ≡ suc b) ⊎ (a ≢ suc b)
      → IsBasic (ch.tables b) j ⊎ ¬ (IsBasic (ch.tables b) j) → Leaves j
  lost_by_cases j a b h l x y ih (inl e) d = absurd (y (subst (λ i. IsBasic (ch.tables i) j) (sym e) x))
  lost_by_cases j a b h l x y ih (inr e) (inl d) = ih (omega (arith, e)) d
  lost_by_cases j a b h l x y ih (inr e) (inr d) = lost_step j b (omega arith) x d

  lost_between : (j a b : ℕ) → a ≤ b → b ≤ suc n → IsBasic (ch.tables b) j → ¬ (IsBasic (ch.tables a) j) → Leaves j
  lost_between j a zero h l x y = let e : zero ≡ a = omega arith in absurd (y (subst (λ i. IsBasic (ch.tables i) j) e x))
  lost_between j a (suc b) h l x y = lost_by_cases j a b h l x y (λ k d. lost_between j a b k (omega arith) d y) (cases_eq a (suc b)) (is_basic (ch.tables b) j)

  gained_by_cases : (j a b : ℕ) → a ≤ suc b → suc b ≤ suc n → ¬ (IsBasic (ch.tables (suc b)) j) → IsBasic (ch.tables a) j → (a ≤ b → ¬ (IsBasic (ch.tables b) j) → Enters j)
      → (a ≡ suc b) ⊎ (a ≢ suc b) → IsBasic (ch.tables b) j ⊎ ¬ (IsBasic (ch.tables b) j) → Enters j
  gained_by_cases j a b h l x y ih (inl e) d = absurd (x (subst (λ i. IsBasic (ch.tables i) j) e y))
  gained_by_cases j a b h l x y ih (inr e) (inl d) = gained_step j b (omega arith) x d
  gained_by_cases j a b h l x y ih (inr e) (inr d) = ih (omega (arith, e)) d

  gained_between : (j a b : ℕ) → a ≤ b → b ≤ suc n → ¬ (IsBasic (ch.tables b) j) → IsBasic (ch.tables a) j → Enters j
  gained_between j a zero h l x y = let e : a ≡ zero = omega arith in absurd (x (subst (λ i. IsBasic (ch.tables i) j) e y))
  gained_between j a (suc b) h l x y = gained_by_cases j a b h l x y (λ k d. gained_between j a b k (omega arith) d y) (cases_eq a (suc b)) (is_basic (ch.tables b) j)

  -- a column that enters leaves
  leaves_by : (e : ℕ) → e < suc n → IsBasic (ch.tables 0) (ch.column e) ⊎ ¬ (IsBasic (ch.tables 0) (ch.column e)) → Leaves (ch.column e)
  leaves_by e h (inl b) =
      lost_between (ch.column e) (suc e) (suc n) (omega arith) (omega arith) ((ends_same (ch.column e)).1 b)
      (not_basic equations cost bound (ch.tables (suc e)) (ch.ready (suc e) h) (ch.row e) (ch.column e) (ch.next e h))
  leaves_by e h (inr b) =
      lost_between (ch.column e) 0 e (omega arith) (omega arith) (subst (λ w. IsBasic w (ch.column e)) (sym (ch.after e h))
      (now_basic cost bound (ch.tables (suc e)) (ch.row e) (ch.column e) (ch.next e h) (size (suc e) h))) b

  -- a column that is basic at one tableau and not at another enters
  enters_by : (j a b : ℕ) → a ≤ suc n → b ≤ suc n → IsBasic (ch.tables a) j → ¬ (IsBasic (ch.tables b) j) → (a < b) ⊎ (b ≤ a) → IsBasic (ch.tables 0) j ⊎ ¬ (IsBasic (ch.tables 0) j) → Enters j
  enters_by j a b ha hb x y (inl l) d = gained_between j a b (omega arith) hb y x
  enters_by j a b ha hb x y (inr l) (inl d) = gained_between j 0 b (omega arith) hb y d
  enters_by j a b ha hb x y (inr l) (inr d) = gained_between j a (suc n) ha (omega arith) (λ z. d ((ends_same j).0 z)) x

  -- step e, where the greatest column enters, and step l, where it leaves
  module _ (e : ℕ) (in_e : e < suc n) (most : (i : ℕ) → i < suc n → ch.column i ≤ ch.column e) (l : ℕ) (in_l : l < suc n) (leaves : basic_at (ch.tables (suc l)).basis (ch.row l) ≡ ch.column e) where
    low : (j : ℕ) → Enters j → j ≤ ch.column e
    low j f = let h = most f.0 f.1 in let g = f.2 in omega (arith, h, g)

    other : (k : ℕ) → k + 2 < length (ch.tables (suc l)).rows → (j : ℕ) → basic_at (ch.tables (suc l)).basis k ≡ j → IsBasic (ch.tables (suc e)) j ⊎ ¬ (IsBasic (ch.tables (suc e)) j)
        → IsBasic (ch.tables (suc e)) j ⊎ ((j ≤ ch.column e) × (right_at (ch.tables (suc l)) k ≡ pos 0))
    other k h j f (inl b) = inl b
    other k h j f (inr b) = inr (
      low j (enters_by j (suc l) (suc e) (omega arith) (omega arith) (k, h, f) b (cases_lt (suc l) (suc e)) (is_basic (ch.tables 0) j)),
      from_end j (suc l) (omega arith) (to_end j (suc e) (omega arith) (λ i g m. absurd (b (i, g, m)))) k h f,
    )

    s_below : ch.column l < ch.column e
    s_below =
        let h = most l in_l in
        let f : ch.column l ≢ ch.column e =
        λ m. not_basic equations cost bound (ch.tables (suc l)) (ch.ready (suc l) in_l) (ch.row l) (ch.column l) (ch.next l in_l) (ch.row l, (ch.next l in_l).leaves.may.row, leaves ∙ sym m) in
        omega (arith, h, f)

    pub none : ⊥
    none =
        let k = ch.kin (suc l) in_l in
        let k' = ch.kin (suc e) in_e in
        clash equations cost bound (ch.tables (suc l)) (ch.tables (suc e)) (ch.ready (suc l) in_l) (ch.ready (suc e) in_e) (ch.row l) (ch.column l) (ch.column e) (ch.next l in_l)
        (ch.next e in_e).enters leaves
        (k'.rows ∙ sym k.rows)
        (λ i h m. let a = k.rows in k'.last i (omega (arith, h, a)) (omega (arith, m, a)) ∙ sym (k.last i (omega (arith, h, a)) (omega (arith, m, a))))
        s_below (still l in_l)
        (λ i h. other i h (basic_at (ch.tables (suc l)).basis i) refl (is_basic (ch.tables (suc e)) (basic_at (ch.tables (suc l)).basis i)))

  pub no_cycle : ⊥
  no_cycle =
      let g = greatest ch.column n in
      let v = leaves_by g.0 g.1 (is_basic (ch.tables 0) (ch.column g.0)) in
      none g.0 g.1 g.2 v.0 v.1 v.2
