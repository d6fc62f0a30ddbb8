-- The multipliers times the rows, by what the rows are short of their right sides.
use Rattle.std.proofs.Common.{◌≡◌, ◌≢◌, ℕ, ◌<◌, Bool, true, false, not, List, [], ◌∷◌, length, map, get_or, ℤ, pos, negsuc, refl, sym, ap, ap₂, ◌∙◌, subst, ◌⊎◌, inl, inr}
use Rattle.std.specs.Prelude.{◌&&◌, if◌then◌else◌}
use Rattle.dcx_math.specs.Rational.{ℚ, whole, ◌+ℚ◌, ◌-ℚ◌, ◌*ℚ◌, ◌/ℚ◌, neg_ℚ, ◌<ℚ◌}
use Rattle.dcx_math.specs.Sums.{rat_at, rat_sum_below}
use Rattle.dcx_math.proofs.Ring.{ring, reads}
use Rattle.dcx_math.proofs.Orders.{<ℚ-≢}
use Rattle.dcx_math.proofs.Products.{/ℚ-*ℚ}
use Rattle.dcx_math.proofs.Sums.{rat_sum_below-same, rat_sum_below-+ℚ, rat_at-get_or}
use Rattle.dcx_tab.specs.declared.rows.ColumnKind.TheVariants.{Slack, Artificial}
use Rattle.dcx_tab.specs.declared.program.Program.{Program}
use Rattle.dcx_tab.specs.Rows.{Row, entry}
use Rattle.dcx_tab.specs.Program.{kind_at, entries_at, right_side_at, is_negated_at, is_negated}
use Rattle.dcx_tab.proofs.Programs.{has_row, map_at}
use Rattle.dcx_lp_answer.specs.declared.answer.LpAnswer.{LpAnswer}
use Rattle.dcx_lp_answer.specs.declared.answer.LpStatus.{LpStatus}
use Rattle.dcx_lp_answer.specs.declared.answer.LpStatus.TheVariants as status
use Rattle.dcx_lp_answer.specs.Notes.{reduced_cost_of, factor_of, was_negated, row_factor}
use Rattle.dcx_lp_answer.specs.Right.{IsAssignment, is_inequality, turned_if, offset, row_at_columns, form_at, multiplier_at, combined_rows}
use Rattle.dcx_simplex.proofs.Slacks.{Own, sign_slack, sign_artificial}
use Rattle.dcx_simplex.proofs.OwnColumns.{own_column, own_column_is}
use Rattle.dcx_simplex.proofs.Bounds.{short}

-- a factor cancels
cancel : (a b f : ℚ) → f ≢ whole (pos 0) → (a *ℚ f) *ℚ (b /ℚ f) ≡ a *ℚ b
cancel a b f n = ring (a ∷ f ∷ b /ℚ f ∷ []) (search reads depth 30) tt ∙ ap (λ u. a *ℚ u) (/ℚ-*ℚ b f n)

-- ---- one row: q is its own column's rate, e its sum and b its right side
product_by : (negated inequality : Bool) (q off e b f : ℚ) (s : ℤ) → f ≢ whole (pos 0) → (inequality ≡ true → s ≡ (if negated then negsuc 0 else pos 1)) → (inequality ≡ true → off ≡ whole (pos 0))
    → (inequality ≡ false → s ≡ pos 1)
    → turned_if (not inequality && negated) ((neg_ℚ q -ℚ off) *ℚ f) *ℚ (turned_if negated (e -ℚ b) /ℚ f) ≡ (whole s *ℚ (b -ℚ e)) *ℚ q +ℚ (whole s *ℚ (b -ℚ e)) *ℚ off
product_by true true q off e b f s n hs ho ha = cancel (neg_ℚ q -ℚ off) (neg_ℚ (e -ℚ b)) f n ∙ rw (hs refl, ho refl) (ring (q ∷ e ∷ b ∷ []) (search reads depth 30) tt)
product_by false true q off e b f s n hs ho ha = cancel (neg_ℚ q -ℚ off) (e -ℚ b) f n ∙ rw (hs refl, ho refl) (ring (q ∷ e ∷ b ∷ []) (search reads depth 30) tt)
product_by false false q off e b f s n hs ho ha = cancel (neg_ℚ q -ℚ off) (e -ℚ b) f n ∙ rw (ha refl) (ring (q ∷ off ∷ e ∷ b ∷ []) (search reads depth 30) tt)
product_by true false q off e b f s n hs ho ha =
    ring ((neg_ℚ q -ℚ off) *ℚ f ∷ neg_ℚ (e -ℚ b) /ℚ f ∷ []) (search reads depth 30) tt
    ∙ ap neg_ℚ (cancel (neg_ℚ q -ℚ off) (neg_ℚ (e -ℚ b)) f n) ∙ rw (ha refl) (ring (q ∷ off ∷ e ∷ b ∷ []) (search reads depth 30) tt)

offset_none : (s : LpStatus) (inequality : Bool) → inequality ≡ true → offset s inequality ≡ whole (pos 0)
offset_none status.Optimal b h = refl
offset_none status.Infeasible true h = refl
offset_none status.Infeasible false h = cc
offset_none status.Unbounded b h = refl

-- the notes that an answer keeps of the rows
pub record HasNotes (p : Program) (a : LpAnswer) (row : Row) (lead : ℤ) (own : ℕ → ℕ) : Type 0 where
  pub reduced : (i : ℕ) → i < length p.rows → rat_at (map reduced_cost_of a.rows) i ≡ neg_ℚ (whole (entry row (own i)) /ℚ whole lead)
  pub factors : map factor_of a.rows ≡ map row_factor p.rows
  pub negated : map was_negated a.rows ≡ map is_negated p.rows

module _ (p : Program) where
  pub factor_positive : (i : ℕ) → i < length p.rows → whole (pos 0) <ℚ rat_at (map row_factor p.rows) i
  factor_positive i h =
      let r = has_row p.rows i h in
      let e : rat_at (map row_factor p.rows) i ≡ row_factor r.row = sym (rat_at-get_or (map row_factor p.rows) i) ∙ map_at row_factor p.rows i r.row (whole (pos 0)) r.is in
      subst (λ u. whole (pos 0) <ℚ u) (sym e) (p.form.each_row i r.row r.is).factor

  factor_some : (i : ℕ) → i < length p.rows → rat_at (map row_factor p.rows) i ≢ whole (pos 0)
  factor_some i h e = <ℚ-≢ (factor_positive i h) (sym e)

  module _ (ys : List ℚ) (assigned : IsAssignment p ys) (a : LpAnswer) (row : Row) (lead : ℤ) (notes : HasNotes p a row lead (own_column p)) where
    sign_of : (i : ℕ) → i < length p.rows → is_inequality p.columns i ≡ true → (o : Own p.columns i)
        → ((kind_at p.columns o.column ≡ Slack i) × (is_inequality p.columns i ≡ true)) ⊎ ((kind_at p.columns o.column ≡ Artificial i) × (is_inequality p.columns i ≡ false))
        → entry (entries_at p.rows i) o.column ≡ (if is_negated_at p.rows i then negsuc 0 else pos 1)
    sign_of i h t o (inl k) = sign_slack p i h o k.0
    sign_of i h t o (inr k) = let e = sym t ∙ k.1 in cc

    one_of : (i : ℕ) → i < length p.rows → is_inequality p.columns i ≡ false → (o : Own p.columns i)
        → ((kind_at p.columns o.column ≡ Slack i) × (is_inequality p.columns i ≡ true)) ⊎ ((kind_at p.columns o.column ≡ Artificial i) × (is_inequality p.columns i ≡ false))
        → entry (entries_at p.rows i) o.column ≡ pos 1
    one_of i h t o (inl k) = let e = sym t ∙ k.1 in cc
    one_of i h t o (inr k) = sign_artificial p i h o k.0

    product_is : (i : ℕ) → i < length p.rows
        → multiplier_at p.columns a i *ℚ form_at p i ys ≡ short p ys assigned i *ℚ (whole (entry row (own_column p i)) /ℚ whole lead)
        +ℚ short p ys assigned i *ℚ offset a.status (is_inequality p.columns i)
    unfolding short
    product_is i h =
        let o = own_column_is p i h in
        let inequality = is_inequality p.columns i in
        let q = whole (entry row (own_column p i)) /ℚ whole lead in
        let off = offset a.status inequality in
        let f = rat_at (map row_factor p.rows) i in
        let negated = ap (λ (bs : List Bool). get_or bs i false) notes.negated in
        let factors = ap (λ xs. rat_at xs i) notes.factors in
        ap (λ m. m *ℚ form_at p i ys)
        (ap (λ b. turned_if (not inequality && b) ((rat_at (map reduced_cost_of a.rows) i -ℚ off) *ℚ rat_at (map factor_of a.rows) i)) negated
        ∙ ap₂ (λ r g. turned_if (not inequality && is_negated_at p.rows i) ((r -ℚ off) *ℚ g)) (notes.reduced i h) factors)
        ∙ product_by (is_negated_at p.rows i) inequality q off (row_at_columns p i ys) (whole (right_side_at p.rows i)) f (entry (entries_at p.rows i) (own_column p i)) (factor_some i h)
        (λ t. ap (entry (entries_at p.rows i)) o.1 ∙ sign_of i h t o.0 o.0.kind)
        (λ t. offset_none a.status inequality t)
        (λ t. ap (entry (entries_at p.rows i)) o.1 ∙ one_of i h t o.0 o.0.kind)

    -- the rows together
    pub combined_is : combined_rows p a ys ≡ rat_sum_below (length p.rows) (λ k. short p ys assigned k *ℚ (whole (entry row (own_column p k)) /ℚ whole lead))
        +ℚ rat_sum_below (length p.rows) (λ k. short p ys assigned k *ℚ offset a.status (is_inequality p.columns k))
    combined_is = rat_sum_below-same (length p.rows) _ _ product_is ∙ rat_sum_below-+ℚ (length p.rows) _ _
