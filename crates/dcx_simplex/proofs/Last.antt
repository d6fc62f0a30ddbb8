-- At the last tableau: what rows are at the numbers of its columns, and at their changes.
use Rattle.std.proofs.Common.{◌≡◌, ◌≢◌, ℕ, ◌+◌, ◌<◌, ◌≤◌, List, [], ◌∷◌, length, ℤ, pos, negsuc, ◌<ℤ◌, ◌≤ℤ◌, arith, refl, sym, ap, ap₂, ◌∙◌, subst, ◌⊎◌, inl, inr}
use Rattle.std.proofs.lemmas.Bool.{cases_lt, cases_eq}
use Rattle.std.proofs.lemmas.List.{get_or_past}
use Rattle.dcx_math.specs.Rational.{ℚ, whole, ◌+ℚ◌, ◌*ℚ◌, ◌/ℚ◌, neg_ℚ, inverse, ◌≤ℚ◌}
use Rattle.dcx_math.specs.Sums.{rat_dot, rat_at, rat_sum_below}
use Rattle.dcx_math.proofs.Points.{wholes}
use Rattle.dcx_math.proofs.Ring.{ring, reads, /ℚ-is}
use Rattle.dcx_math.proofs.Orders.{zero-*ℚ, *ℚ_comm, *ℚ_idr, ≤ℚ-from_≡, whole-≤ℤ, neg_ℚ-nonnegative, neg_ℚ-zero}
use Rattle.dcx_math.proofs.Products.{/ℚ-*ℚ, /ℚ-≤ℚ, ≤ℚ-/ℚ, whole-<ℤ}
use Rattle.dcx_math.proofs.Sums.{rat_sum_below-one, rat_sum_below-same, rat_sum_below-zero, rat_sum_below-monotone, rat_at-get_or}
use Rattle.dcx_tab.specs.Rows.{Row, entry, row_at, basic_at}
use Rattle.dcx_tab.specs.Table.{Table, entry_at}
use Rattle.dcx_tab.proofs.RationalRows.{SolvesRational, full, dot_full}
use Rattle.dcx_lp_answer.proofs.RowSums.{dot_sum}
use Rattle.dcx_simplex.specs.Run.{right_at}
use Rattle.dcx_simplex.specs.Whole.{objective_row, phase_row}
use Rattle.dcx_simplex.specs.Basis.{IsBasic, lead_at}
use Rattle.dcx_simplex.specs.Readable.{IsReadable}
use Rattle.dcx_simplex.specs.Reading.{IsColumnNumber, IsColumnChange, cost_at}
use Rattle.dcx_simplex.specs.Start.{IsStart}
use Rattle.dcx_simplex.proofs.Bounds.{plain_row, z_row, w_row, lead_some_of, zero_right, cancelled}
use Rattle.dcx_simplex.proofs.Cycle.{is_basic}
use Rattle.dcx_simplex.proofs.EndFacts.{IsEnded, readable}
use Rattle.dcx_simplex.proofs.Sides.{sum_two}

-- ---- rows as sums over columns
pub rat_at-past : (xs : List ℚ) (j : ℕ) → length xs ≤ j → rat_at xs j ≡ whole (pos 0)
rat_at-past xs j h = sym (rat_at-get_or xs j) ∙ get_or_past xs j (whole (pos 0)) h

zero_left : (a x : ℚ) → a ≡ whole (pos 0) → a *ℚ x ≡ whole (pos 0)
zero_left a x e = rw e (zero-*ℚ x)

-- only one column counts
pub dot_one : (row : Row) (xs : List ℚ) (b : ℕ) → b < length row → ((j : ℕ) → j < length row → j ≢ b → (entry row j ≡ pos 0) ⊎ (rat_at xs j ≡ whole (pos 0)))
    → rat_dot (wholes row) xs ≡ whole (entry row b) *ℚ rat_at xs b
dot_one row xs b h z = dot_sum row xs (length row) (omega arith) ∙ rat_sum_below-one (length row) b _ h (λ j l n. by j (z j l n))
  where
    by : (j : ℕ) → (entry row j ≡ pos 0) ⊎ (rat_at xs j ≡ whole (pos 0)) → whole (entry row j) *ℚ rat_at xs j ≡ whole (pos 0)
    by j (inl e) = zero_left _ _ (ap whole e)
    by j (inr e) = zero_right _ _ e

-- none does
pub dot_none : (row : Row) (xs : List ℚ) → ((j : ℕ) → j < length row → (entry row j ≡ pos 0) ⊎ (rat_at xs j ≡ whole (pos 0))) → rat_dot (wholes row) xs ≡ whole (pos 0)
dot_none row xs z = dot_sum row xs (length row) (omega arith) ∙ rat_sum_below-same (length row) _ (λ _. whole (pos 0)) (λ j l. by j (z j l)) ∙ rat_sum_below-zero (length row)
  where
    by : (j : ℕ) → (entry row j ≡ pos 0) ⊎ (rat_at xs j ≡ whole (pos 0)) → whole (entry row j) *ℚ rat_at xs j ≡ whole (pos 0)
    by j (inl e) = zero_left _ _ (ap whole e)
    by j (inr e) = zero_right _ _ e

-- two do
pub dot_two : (row : Row) (xs : List ℚ) (b c : ℕ) → b < length row → c < length row → b ≢ c → ((j : ℕ) → j < length row → j ≢ b → j ≢ c → (entry row j ≡ pos 0) ⊎ (rat_at xs j ≡ whole (pos 0)))
    → rat_dot (wholes row) xs ≡ whole (entry row b) *ℚ rat_at xs b +ℚ whole (entry row c) *ℚ rat_at xs c
dot_two row xs b c h k a z = dot_sum row xs (length row) (omega arith) ∙ sum_two (length row) b c _ h k a (λ j l n m. by j (z j l n m))
  where
    by : (j : ℕ) → (entry row j ≡ pos 0) ⊎ (rat_at xs j ≡ whole (pos 0)) → whole (entry row j) *ℚ rat_at xs j ≡ whole (pos 0)
    by j (inl e) = zero_left _ _ (ap whole e)
    by j (inr e) = zero_right _ _ e

-- a row of costs at most 0, at numbers at least 0
pub dot_low : (row : Row) (xs : List ℚ) → ((j : ℕ) → j < length row → (whole (entry row j) *ℚ rat_at xs j) ≤ℚ whole (pos 0)) → rat_dot (wholes row) xs ≤ℚ whole (pos 0)
dot_low row xs h =
    subst (λ u. u ≤ℚ whole (pos 0)) (sym (dot_sum row xs (length row) (omega arith)))
    (subst (λ u. rat_sum_below (length row) (λ j. whole (entry row j) *ℚ rat_at xs j) ≤ℚ u) (rat_sum_below-zero (length row)) (rat_sum_below-monotone (length row) _ (λ _. whole (pos 0)) h))

-- ---- quotients by a lead
pub quotient_low : (a l : ℤ) → a ≤ℤ pos 0 → pos 0 <ℤ l → (whole a /ℚ whole l) ≤ℚ whole (pos 0)
quotient_low a l h q = /ℚ-≤ℚ (whole-<ℤ (pos 0) l q) (subst (λ u. whole a ≤ℚ u) (sym (zero-*ℚ (whole l))) (whole-≤ℤ a (pos 0) h))

pub quotient_high : (a l : ℤ) → pos 0 ≤ℤ a → pos 0 <ℤ l → whole (pos 0) ≤ℚ (whole a /ℚ whole l)
quotient_high a l h q = ≤ℚ-/ℚ (whole-<ℤ (pos 0) l q) (subst (λ u. u ≤ℚ whole a) (sym (zero-*ℚ (whole l))) (whole-≤ℤ (pos 0) a h))

pub quotient_zero : (a l : ℤ) → a ≡ pos 0 → whole a /ℚ whole l ≡ whole (pos 0)
quotient_zero a l e = ap (λ z. whole z /ℚ whole l) e ∙ zero_over (whole l)
  where
    zero_over : (x : ℚ) → whole (pos 0) /ℚ x ≡ whole (pos 0)
    zero_over x = /ℚ-is (whole (pos 0)) x ∙ zero-*ℚ (inverse x)

pub back : (a l : ℤ) → pos 0 <ℤ l → whole l *ℚ (whole a /ℚ whole l) ≡ whole a
back a l h = *ℚ_comm (whole l) (whole a /ℚ whole l) ∙ /ℚ-*ℚ (whole a) (whole l) (lead_some_of l h)

cost_cancelled : (d l r : ℚ) → d ≡ whole (pos 0) → l *ℚ (r /ℚ l) ≡ r → (d +ℚ l *ℚ (r /ℚ l)) +ℚ r *ℚ whole (negsuc 0) ≡ whole (pos 0)
cost_cancelled d l r e f = ap₂ (λ a b. (a +ℚ b) +ℚ r *ℚ whole (negsuc 0)) e f ∙ ring (r ∷ []) (search reads depth 30) tt

pair_cancels : (a l r : ℚ) → l *ℚ (a /ℚ l) ≡ a → r ≡ whole (pos 1) → l *ℚ neg_ℚ (a /ℚ l) +ℚ a *ℚ r ≡ whole (pos 0)
pair_cancels a l r e f = ap (λ x. l *ℚ neg_ℚ (a /ℚ l) +ℚ a *ℚ x) f ∙ ring (l ∷ a /ℚ l ∷ a ∷ []) (search reads depth 30) tt ∙ ap (λ x. neg_ℚ x +ℚ a) e ∙ ring (a ∷ []) (search reads depth 30) tt

no_right : (d r : ℚ) → d ≡ whole (pos 0) → d +ℚ r *ℚ whole (pos 0) ≡ whole (pos 0)
no_right d r e = ap (λ x. x +ℚ r *ℚ whole (pos 0)) e ∙ ring (r ∷ []) (search reads depth 30) tt

cost_turned : (d a l r : ℚ) → d ≡ a → l *ℚ (a /ℚ l) ≡ a → (d +ℚ l *ℚ neg_ℚ (a /ℚ l)) +ℚ r *ℚ whole (pos 0) ≡ whole (pos 0)
cost_turned d a l r e f = ap (λ x. (x +ℚ l *ℚ neg_ℚ (a /ℚ l)) +ℚ r *ℚ whole (pos 0)) e ∙ ring (a ∷ l ∷ a /ℚ l ∷ r ∷ []) (search reads depth 30) tt ∙ ap (λ x. a +ℚ neg_ℚ x) f
    ∙ ring (a ∷ []) (search reads depth 30) tt

-- ---- the rows of the last tableau at full assignments
module _ (equations : List Row) (t : Table) (start : IsStart equations t) (u : Table) (end : IsEnded equations t u) where
  size : length u.rows ≡ length u.basis
  size = end.tableau.form.size

  enough : 2 ≤ length u.rows
  enough = let e = start.enough in let r = end.kin.rows in omega (arith, e, r)

  is_readable : IsReadable u
  is_readable = readable equations t start u end

  zero_at : (i k : ℕ) → i < length u.rows → k < length u.rows → k ≢ i → entry_at u i (basic_at u.basis k) ≡ pos 0
  zero_at i k h l n = (end.tableau.form.basic i h).zeros k (let e = size in omega (arith, e, l)) n

  z_zero : (i : ℕ) → i < length u.rows → objective_row u ≢ i → entry_at u i u.columns ≡ pos 0
  z_zero i h n = ap (entry_at u i) (sym is_readable.objective) ∙ zero_at i (objective_row u) h (let e = enough in omega (arith, e)) n

  w_zero : (i : ℕ) → i < length u.rows → phase_row u ≢ i → entry_at u i (u.columns + 1) ≡ pos 0
  w_zero i h n = ap (entry_at u i) (sym is_readable.phase) ∙ zero_at i (phase_row u) h (let e = enough in omega (arith, e)) n

  module _ (xs : List ℚ) (z w v : ℚ) (count : length xs ≡ u.columns) where
    pub at_row_of : (i : ℕ) → i + 2 < length u.rows → rat_dot (wholes (row_at u.rows i)) (full xs z w v) ≡ rat_dot (wholes (row_at u.rows i)) xs +ℚ whole (right_at u i) *ℚ v
    at_row_of i h =
        dot_full (row_at u.rows i) xs z w v u.columns count
        ∙ plain_row _ _ z _ w _ v (ap whole (z_zero i (omega (arith, h)) (λ e. absurd (omega (arith, e, h))))) (ap whole (w_zero i (omega (arith, h)) (λ e. absurd (omega (arith, e, h)))))

    pub at_cost_of : rat_dot (wholes (row_at u.rows (objective_row u))) (full xs z w v)
        ≡ (rat_dot (wholes (row_at u.rows (objective_row u))) xs +ℚ whole (lead_at u (objective_row u)) *ℚ z) +ℚ whole (right_at u (objective_row u)) *ℚ v
    at_cost_of =
        let e = enough in
        dot_full (row_at u.rows (objective_row u)) xs z w v u.columns count
        ∙ z_row _ _ z _ w _ v (ap whole (w_zero (objective_row u) (omega (arith, e)) (λ q. absurd (omega (arith, e, q)))))
        ∙ ap (λ j. (rat_dot (wholes (row_at u.rows (objective_row u))) xs +ℚ whole (entry_at u (objective_row u) j) *ℚ z) +ℚ whole (right_at u (objective_row u)) *ℚ v) (sym is_readable.objective)

    pub at_phase_of : rat_dot (wholes (row_at u.rows (phase_row u))) (full xs z w v)
        ≡ (rat_dot (wholes (row_at u.rows (phase_row u))) xs +ℚ whole (lead_at u (phase_row u)) *ℚ w) +ℚ whole (right_at u (phase_row u)) *ℚ v
    at_phase_of =
        let e = enough in
        dot_full (row_at u.rows (phase_row u)) xs z w v u.columns count
        ∙ w_row _ _ z _ w _ v (ap whole (z_zero (phase_row u) (omega (arith, e)) (λ q. absurd (omega (arith, e, q)))))
        ∙ ap (λ j. (rat_dot (wholes (row_at u.rows (phase_row u))) xs +ℚ whole (entry_at u (phase_row u) j) *ℚ w) +ℚ whole (right_at u (phase_row u)) *ℚ v) (sym is_readable.phase)

    last_by : ((i : ℕ) → i + 2 < length u.rows → rat_dot (wholes (row_at u.rows i)) xs +ℚ whole (right_at u i) *ℚ v ≡ whole (pos 0))
        → (rat_dot (wholes (row_at u.rows (objective_row u))) xs +ℚ whole (lead_at u (objective_row u)) *ℚ z) +ℚ whole (right_at u (objective_row u)) *ℚ v ≡ whole (pos 0)
        → (rat_dot (wholes (row_at u.rows (phase_row u))) xs +ℚ whole (lead_at u (phase_row u)) *ℚ w) +ℚ whole (right_at u (phase_row u)) *ℚ v ≡ whole (pos 0)
        → (i : ℕ) → i < length u.rows → (i + 2 < length u.rows) ⊎ (length u.rows ≤ i + 2) → (i ≡ phase_row u) ⊎ (i ≢ phase_row u) → rat_dot (wholes (row_at u.rows i)) (full xs z w v) ≡ whole (pos 0)
    last_by f g h i l (inl a) b = at_row_of i a ∙ f i a
    last_by f g h i l (inr a) (inl e) = ap (λ k. rat_dot (wholes (row_at u.rows k)) (full xs z w v)) e ∙ at_phase_of ∙ h
    last_by f g h i l (inr a) (inr n) = let e : i ≡ objective_row u = omega (arith, l, a, n) in ap (λ k. rat_dot (wholes (row_at u.rows k)) (full xs z w v)) e ∙ at_cost_of ∙ g

    pub solves_last : ((i : ℕ) → i + 2 < length u.rows → rat_dot (wholes (row_at u.rows i)) xs +ℚ whole (right_at u i) *ℚ v ≡ whole (pos 0))
        → (rat_dot (wholes (row_at u.rows (objective_row u))) xs +ℚ whole (lead_at u (objective_row u)) *ℚ z) +ℚ whole (right_at u (objective_row u)) *ℚ v ≡ whole (pos 0)
        → (rat_dot (wholes (row_at u.rows (phase_row u))) xs +ℚ whole (lead_at u (phase_row u)) *ℚ w) +ℚ whole (right_at u (phase_row u)) *ℚ v ≡ whole (pos 0)
        → SolvesRational u.rows (full xs z w v)
    solves_last f g h i l = last_by f g h i l (cases_lt (i + 2) (length u.rows)) (cases_eq i (phase_row u))

  width_at : (i : ℕ) → i < length u.rows → length (row_at u.rows i) ≡ u.columns + 3
  width_at i h = end.tableau.form.widths i h

  basic_zero : (k j : ℕ) → k < length u.rows → length u.rows ≤ k + 2 → IsBasic u j → entry_at u k j ≡ pos 0
  basic_zero k j h l b = let g = b.1 in ap (entry_at u k) (sym b.2) ∙ zero_at k b.0 h (omega (arith, g)) (λ e. absurd (omega (arith, e, g, l)))

  other_zero : (i j : ℕ) → i + 2 < length u.rows → j ≢ basic_at u.basis i → IsBasic u j → entry_at u i j ≡ pos 0
  other_zero i j h n b = let g = b.1 in ap (entry_at u i) (sym b.2) ∙ zero_at i b.0 (omega (arith, h)) (omega (arith, g)) (λ e. n (sym b.2 ∙ ap (basic_at u.basis) e))

  -- ---- the numbers of the columns
  module _ (xs : List ℚ) (count : length xs ≡ u.columns) (columns : (j : ℕ) → j < u.columns → IsColumnNumber u j (rat_at xs j)) where
    number_or : (j : ℕ) → (j < u.columns) ⊎ (u.columns ≤ j) → IsBasic u j ⊎ ¬ (IsBasic u j) → IsBasic u j ⊎ (rat_at xs j ≡ whole (pos 0))
    number_or j c (inl b) = inl b
    number_or j (inl l) (inr n) = inr ((columns j l).other n)
    number_or j (inr l) (inr n) = inr (rat_at-past xs j (omega (arith, count, l)))

    zero_by : (i j : ℕ) → i + 2 < length u.rows → j ≢ basic_at u.basis i → IsBasic u j ⊎ (rat_at xs j ≡ whole (pos 0)) → (entry_at u i j ≡ pos 0) ⊎ (rat_at xs j ≡ whole (pos 0))
    zero_by i j h n (inl b) = inl (other_zero i j h n b)
    zero_by i j h n (inr e) = inr e

    cost_by : (k j : ℕ) → k < length u.rows → length u.rows ≤ k + 2 → IsBasic u j ⊎ (rat_at xs j ≡ whole (pos 0)) → (entry_at u k j ≡ pos 0) ⊎ (rat_at xs j ≡ whole (pos 0))
    cost_by k j h l (inl b) = inl (basic_zero k j h l b)
    cost_by k j h l (inr e) = inr e

    dot_numbers : (i : ℕ) → i + 2 < length u.rows → rat_dot (wholes (row_at u.rows i)) xs ≡ whole (right_at u i)
    dot_numbers i h =
        let b = basic_at u.basis i in
        let l = end.basics i h in
        dot_one (row_at u.rows i) xs b (let w = width_at i (omega (arith, h)) in omega (arith, w, l)) (λ j q n. zero_by i j h n (number_or j (cases_lt j u.columns) (is_basic u j)))
        ∙ ap (λ x. whole (entry_at u i b) *ℚ x) ((columns b l).basic i h refl) ∙ back (right_at u i) (entry_at u i b) (is_readable.positive i h)

    dot_costs : (k : ℕ) → k < length u.rows → length u.rows ≤ k + 2 → rat_dot (wholes (row_at u.rows k)) xs ≡ whole (pos 0)
    dot_costs k h l = dot_none (row_at u.rows k) xs (λ j q. cost_by k j h l (number_or j (cases_lt j u.columns) (is_basic u j)))

    pub numbers_solve : SolvesRational u.rows (full xs (cost_at u (objective_row u)) (cost_at u (phase_row u)) (whole (negsuc 0)))
    numbers_solve =
        let e = enough in
        solves_last xs (cost_at u (objective_row u)) (cost_at u (phase_row u)) (whole (negsuc 0)) count
        (λ i h. ap (λ d. d +ℚ whole (right_at u i) *ℚ whole (negsuc 0)) (dot_numbers i h) ∙ cancelled (whole (right_at u i)))
        (cost_cancelled _ _ _ (dot_costs (objective_row u) (omega (arith, e)) (omega (arith, e))) (back (right_at u (objective_row u)) (lead_at u (objective_row u)) is_readable.lead))
        (cost_cancelled _ _ _ (dot_costs (phase_row u) (omega (arith, e)) (omega (arith, e))) (back (right_at u (phase_row u)) (lead_at u (phase_row u)) is_readable.phase_lead))

    high_by : (j : ℕ) → j < u.columns → IsBasic u j ⊎ ¬ (IsBasic u j) → whole (pos 0) ≤ℚ rat_at xs j
    high_by j h (inl b) =
        let g = b.1 in
        subst (λ x. whole (pos 0) ≤ℚ x) (sym ((columns j h).basic b.0 g b.2))
        (subst (λ k. whole (pos 0) ≤ℚ (whole (right_at u b.0) /ℚ whole (entry_at u b.0 k))) b.2
        (quotient_high (right_at u b.0) (entry_at u b.0 (basic_at u.basis b.0)) (end.feasible b.0 g) (is_readable.positive b.0 g)))
    high_by j h (inr n) = ≤ℚ-from_≡ (sym ((columns j h).other n))

    pub numbers_high : (j : ℕ) → j < u.columns → whole (pos 0) ≤ℚ rat_at xs j
    numbers_high j h = high_by j h (is_basic u j)

    none_by : (j : ℕ) → j < u.columns → IsBasic u j ⊎ ¬ (IsBasic u j) → ((k : ℕ) → k + 2 < length u.rows → basic_at u.basis k ≡ j → right_at u k ≡ pos 0) → rat_at xs j ≡ whole (pos 0)
    none_by j h (inl b) z = (columns j h).basic b.0 b.1 b.2 ∙ quotient_zero (right_at u b.0) (entry_at u b.0 j) (z b.0 b.1 b.2)
    none_by j h (inr n) z = (columns j h).other n

    pub numbers_none : (j : ℕ) → j < u.columns → ((k : ℕ) → k + 2 < length u.rows → basic_at u.basis k ≡ j → right_at u k ≡ pos 0) → rat_at xs j ≡ whole (pos 0)
    numbers_none j h z = none_by j h (is_basic u j) z

  -- ---- the changes of the columns where column c enters
  module _ (c : ℕ) (in_c : c < u.columns) (enters : ¬ (IsBasic u c)) (rs : List ℚ) (count : length rs ≡ u.columns) (columns : (j : ℕ) → j < u.columns → IsColumnChange u c j (rat_at rs j)) where
    change_or : (j : ℕ) → j ≢ c → (j < u.columns) ⊎ (u.columns ≤ j) → IsBasic u j ⊎ ¬ (IsBasic u j) → IsBasic u j ⊎ (rat_at rs j ≡ whole (pos 0))
    change_or j m d (inl b) = inl b
    change_or j m (inl l) (inr n) = inr ((columns j l).other n m)
    change_or j m (inr l) (inr n) = inr (rat_at-past rs j (omega (arith, count, l)))

    change_zero_by : (i j : ℕ) → i + 2 < length u.rows → j ≢ basic_at u.basis i → IsBasic u j ⊎ (rat_at rs j ≡ whole (pos 0)) → (entry_at u i j ≡ pos 0) ⊎ (rat_at rs j ≡ whole (pos 0))
    change_zero_by i j h n (inl b) = inl (other_zero i j h n b)
    change_zero_by i j h n (inr e) = inr e

    change_cost_by : (k j : ℕ) → k < length u.rows → length u.rows ≤ k + 2 → IsBasic u j ⊎ (rat_at rs j ≡ whole (pos 0)) → (entry_at u k j ≡ pos 0) ⊎ (rat_at rs j ≡ whole (pos 0))
    change_cost_by k j h l (inl b) = inl (basic_zero k j h l b)
    change_cost_by k j h l (inr e) = inr e

    dot_changes : (i : ℕ) → i + 2 < length u.rows → rat_dot (wholes (row_at u.rows i)) rs ≡ whole (pos 0)
    dot_changes i h =
        let b = basic_at u.basis i in
        let l = end.basics i h in
        let w = width_at i (omega (arith, h)) in
        dot_two (row_at u.rows i) rs b c (omega (arith, w, l)) (omega (arith, w, in_c)) (λ e. enters (i, h, e))
        (λ j q n m. change_zero_by i j h n (change_or j m (cases_lt j u.columns) (is_basic u j)))
        ∙ ap (λ x. whole (entry_at u i b) *ℚ x +ℚ whole (entry_at u i c) *ℚ rat_at rs c) ((columns b l).basic i h refl)
        ∙ pair_cancels (whole (entry_at u i c)) (whole (entry_at u i b)) (rat_at rs c) (back (entry_at u i c) (entry_at u i b) (is_readable.positive i h)) ((columns c in_c).own refl)

    dot_cost_changes : (k : ℕ) → k < length u.rows → length u.rows ≤ k + 2 → rat_dot (wholes (row_at u.rows k)) rs ≡ whole (entry_at u k c)
    dot_cost_changes k h l =
        let w = width_at k h in
        dot_one (row_at u.rows k) rs c (omega (arith, w, in_c)) (λ j q m. change_cost_by k j h l (change_or j m (cases_lt j u.columns) (is_basic u j)))
        ∙ ap (λ x. whole (entry_at u k c) *ℚ x) ((columns c in_c).own refl) ∙ *ℚ_idr (whole (entry_at u k c))

    pub changes_solve : SolvesRational u.rows (full rs (neg_ℚ (whole (entry_at u (objective_row u) c) /ℚ whole (lead_at u (objective_row u))))
        (neg_ℚ (whole (entry_at u (phase_row u) c) /ℚ whole (lead_at u (phase_row u)))) (whole (pos 0)))
    changes_solve =
        let e = enough in
        solves_last rs _ _ (whole (pos 0)) count
        (λ i h. no_right _ (whole (right_at u i)) (dot_changes i h))
        (cost_turned _ _ _ _ (dot_cost_changes (objective_row u) (omega (arith, e)) (omega (arith, e))) (back (entry_at u (objective_row u) c) (lead_at u (objective_row u)) is_readable.lead))
        (cost_turned _ _ _ _ (dot_cost_changes (phase_row u) (omega (arith, e)) (omega (arith, e))) (back (entry_at u (phase_row u) c) (lead_at u (phase_row u)) is_readable.phase_lead))

    changes_high_by : (low : (i : ℕ) → i + 2 < length u.rows → entry_at u i c ≤ℤ pos 0) (j : ℕ) → j < u.columns → (j ≡ c) ⊎ (j ≢ c) → IsBasic u j ⊎ ¬ (IsBasic u j) → whole (pos 0) ≤ℚ rat_at rs j
    changes_high_by low j h (inl e) d = subst (λ x. whole (pos 0) ≤ℚ x) (sym ((columns j h).own e)) (whole-≤ℤ (pos 0) (pos 1) (record { le = tt }))
    changes_high_by low j h (inr m) (inl b) =
        let g = b.1 in
        subst (λ x. whole (pos 0) ≤ℚ x) (sym ((columns j h).basic b.0 g b.2))
        (subst (λ k. whole (pos 0) ≤ℚ neg_ℚ (whole (entry_at u b.0 c) /ℚ whole (entry_at u b.0 k))) b.2
        (neg_ℚ-nonnegative _ (quotient_low (entry_at u b.0 c) (entry_at u b.0 (basic_at u.basis b.0)) (low b.0 g) (is_readable.positive b.0 g))))
    changes_high_by low j h (inr m) (inr n) = ≤ℚ-from_≡ (sym ((columns j h).other n m))

    -- no basic column falls where no row may leave
    pub changes_high : ((i : ℕ) → i + 2 < length u.rows → entry_at u i c ≤ℤ pos 0) → (j : ℕ) → j < u.columns → whole (pos 0) ≤ℚ rat_at rs j
    changes_high low j h = changes_high_by low j h (cases_eq j c) (is_basic u j)

    changes_none_by : (j : ℕ) → j < u.columns → j ≢ c → IsBasic u j ⊎ ¬ (IsBasic u j) → ((k : ℕ) → k + 2 < length u.rows → basic_at u.basis k ≡ j → entry_at u k c ≡ pos 0)
        → rat_at rs j ≡ whole (pos 0)
    changes_none_by j h m (inl b) z = (columns j h).basic b.0 b.1 b.2 ∙ ap neg_ℚ (quotient_zero (entry_at u b.0 c) (entry_at u b.0 j) (z b.0 b.1 b.2)) ∙ neg_ℚ-zero
    changes_none_by j h m (inr n) z = (columns j h).other n m

    pub changes_none : (j : ℕ) → j < u.columns → j ≢ c → ((k : ℕ) → k + 2 < length u.rows → basic_at u.basis k ≡ j → entry_at u k c ≡ pos 0) → rat_at rs j ≡ whole (pos 0)
    changes_none j h m z = changes_none_by j h m (is_basic u j) z
