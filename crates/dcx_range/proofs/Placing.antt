-- Numbers put at columns of a program, one for each row, and what its rows are there.
use Rattle.std.proofs.Common.{◌≡◌, ◌≢◌, ℕ, ◌<◌, Bool, true, List, [], length, arith, refl, sym, ap, ap₂, ◌∙◌, ℤ, pos, negsuc}
use Rattle.std.proofs.lemmas.List.{length-map}
use Rattle.dcx_math.specs.Rational.{ℚ, whole, ◌+ℚ◌, ◌*ℚ◌}
use Rattle.dcx_math.specs.Sums.{rat_dot, rat_added, rat_scaled, rat_sum_below}
use Rattle.dcx_math.proofs.Orders.{+ℚ_idl, zero-*ℚ, *ℚ_idr}
use Rattle.dcx_math.proofs.Points.{wholes}
use Rattle.dcx_math.proofs.Sums.{rat_sum_below-same, rat_sum_below-zero, rat_sum_below-one}
use Rattle.dcx_math.proofs.Vectors.{rat_dot-added_right, rat_dot-scaled_right, length-rat_scaled}
use Rattle.dcx_tab.specs.declared.program.Program.{Program}
use Rattle.dcx_tab.specs.declared.rows.ColumnKind.{ColumnKind}
use Rattle.dcx_tab.specs.declared.rows.ColumnKind.TheVariants.{Unknown, Slack, Artificial}
use Rattle.dcx_tab.specs.Rows.{Row, entry}
use Rattle.dcx_tab.specs.Program.{kind_at, may_start, unknown_entry, entries_at, entries_of, first_basic_at, first_basic_of}
use Rattle.dcx_tab.proofs.Programs.{has_row, map_at}
use Rattle.dcx_tab.proofs.RationalRows.{placed, dot_placed, length_placed, length_added}
use Rattle.dcx_simplex.proofs.Starts.{start_low, starts_at, row_start_own, row_start_other}
use Rattle.dcx_simplex.proofs.Bounds.{zero_right}

pub no_sum : (n : ℕ) (f : ℕ → ℚ) → ((k : ℕ) → k < n → f k ≡ whole (pos 0)) → rat_sum_below n f ≡ whole (pos 0)
no_sum n f h = rat_sum_below-same n f (λ _. whole (pos 0)) h ∙ rat_sum_below-zero n

module _ (q : Program) where
  -- no number at any column
  unfoldable pub base : List ℚ
  base = rat_scaled (whole (pos 0)) (wholes q.objective.entries)

  base_length : length base ≡ length q.columns
  unfolding base
  base_length = length-rat_scaled (whole (pos 0)) (wholes q.objective.entries) ∙ length-map q.objective.entries whole ∙ q.form.cost.width

  -- f k at the column own k, for each row k
  unfoldable pub put : (ℕ → ℚ) → (ℕ → ℕ) → List ℚ
  put f own = rat_added base (placed f own (length q.rows))

  pub put_length : (f : ℕ → ℚ) (own : ℕ → ℕ) → ((k : ℕ) → k < length q.rows → own k < length q.columns) → length (put f own) ≡ length q.columns
  unfolding put
  put_length f own h =
      let l = length_placed f own (length q.rows) (length q.columns) h in
      let b = base_length in
      length_added base (placed f own (length q.rows)) (omega (arith, l, b)) ∙ base_length

  pub dot_put : (row : Row) (f : ℕ → ℚ) (own : ℕ → ℕ) → rat_dot (wholes row) (put f own) ≡ rat_sum_below (length q.rows) (λ k. f k *ℚ whole (entry row (own k)))
  unfolding put base
  dot_put row f own =
      rat_dot-added_right (wholes row) base (placed f own (length q.rows))
      ∙ ap₂ ◌+ℚ◌ (rat_dot-scaled_right (whole (pos 0)) (wholes row) (wholes q.objective.entries) ∙ zero-*ℚ _) (dot_placed row f own (length q.rows)) ∙ +ℚ_idl _

  -- what is put at one place of columns less what is put at another
  unfoldable pub less : (ℕ → ℚ) → (ℕ → ℕ) → (ℕ → ℚ) → (ℕ → ℕ) → List ℚ
  less f own g other = rat_added (put f own) (rat_scaled (whole (negsuc 0)) (put g other))

  pub less_length : (f : ℕ → ℚ) (own : ℕ → ℕ) (g : ℕ → ℚ) (other : ℕ → ℕ) → ((k : ℕ) → k < length q.rows → own k < length q.columns) → ((k : ℕ) → k < length q.rows → other k < length q.columns)
      → length (less f own g other) ≡ length q.columns
  unfolding less
  less_length f own g other h k =
      let a = put_length f own h in
      let b = put_length g other k in
      let c = length-rat_scaled (whole (negsuc 0)) (put g other) in
      length_added (put f own) (rat_scaled (whole (negsuc 0)) (put g other)) (omega (arith, a, b, c)) ∙ a

  pub dot_less : (row : Row) (f : ℕ → ℚ) (own : ℕ → ℕ) (g : ℕ → ℚ) (other : ℕ → ℕ)
      → rat_dot (wholes row) (less f own g other) ≡ rat_sum_below (length q.rows) (λ k. f k *ℚ whole (entry row (own k)))
      +ℚ whole (negsuc 0) *ℚ rat_sum_below (length q.rows) (λ k. g k *ℚ whole (entry row (other k)))
  unfolding less
  dot_less row f own g other =
      rat_dot-added_right (wholes row) (put f own) (rat_scaled (whole (negsuc 0)) (put g other))
      ∙ ap₂ ◌+ℚ◌ (dot_put row f own) (rat_dot-scaled_right (whole (negsuc 0)) (wholes row) (put g other) ∙ ap (λ z. whole (negsuc 0) *ℚ z) (dot_put row g other))

  -- ---- the first basic columns
  abbrev pub first : ℕ → ℕ
  first k = first_basic_at q.rows k

  pub first_low : (k : ℕ) → k < length q.rows → first k < length q.columns
  first_low k h = start_low q.rows q.columns q.objective q.phase q.form k h

  pub first_one : (i : ℕ) → i < length q.rows → entry (entries_at q.rows i) (first i) ≡ pos 1
  first_one i h =
      let r = has_row q.rows i h in
      ap₂ entry (map_at entries_of q.rows i r.row [] r.is) (map_at first_basic_of q.rows i r.row 0 r.is)
      ∙ row_start_own q.rows q.columns q.objective q.phase q.form i r.row r.is

  pub first_other : (i k : ℕ) → i < length q.rows → k < length q.rows → k ≢ i → entry (entries_at q.rows i) (first k) ≡ pos 0
  first_other i k h l n =
      let r = has_row q.rows i h in
      ap (λ es. entry es (first k)) (map_at entries_of q.rows i r.row [] r.is)
      ∙ row_start_other q.rows q.columns q.objective q.phase q.form i r.row r.is k l (λ e. n (sym e))

  cost_by : (i : ℕ) (negated : Bool) (k : ColumnKind) (z : ℤ) → may_start i negated k ≡ true → unknown_entry k z ≡ pos 0
  cost_by i negated (Unknown u n) z e = cc
  cost_by i negated (Slack r) z e = refl
  cost_by i negated (Artificial r) z e = refl

  pub first_cost : (k : ℕ) → k < length q.rows → entry q.objective.entries (first k) ≡ pos 0
  first_cost k h =
      let s = starts_at q.rows q.columns q.objective q.phase q.form k h in
      q.form.cost.told (first k) (first_low k h) ∙ cost_by k s.0 (kind_at q.columns (first k)) (entry q.objective.entries (first k)) s.1

  -- a row's sum over what is put at the first basic columns
  pub at_first : (i : ℕ) (f : ℕ → ℚ) → i < length q.rows → rat_sum_below (length q.rows) (λ k. f k *ℚ whole (entry (entries_at q.rows i) (first k))) ≡ f i
  at_first i f h =
      rat_sum_below-one (length q.rows) i (λ k. f k *ℚ whole (entry (entries_at q.rows i) (first k))) h (λ k l n. zero_right (f k) _ (ap whole (first_other i k h l n)))
      ∙ ap (λ z. f i *ℚ whole z) (first_one i h) ∙ *ℚ_idr (f i)
