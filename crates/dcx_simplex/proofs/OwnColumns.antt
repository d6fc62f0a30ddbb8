-- The column that each row of a program has to itself: its slack's or its artificial's.
use Rattle.std.proofs.Common.{◌≡◌, ◌≢◌, ℕ, ◌<◌, ◌≤◌, Bool, true, false, length, ℤ, pos, negsuc, ◌*ℤ◌, arith, refl, sym, ap, ◌∙◌, subst, ◌⊎◌, inl, inr}
use Rattle.std.specs.Prelude.{if◌then◌else◌}
use Rattle.std.proofs.lemmas.Bool.{cases_lt}
use Rattle.dcx_tab.specs.declared.rows.ColumnKind.TheVariants.{Slack, Artificial}
use Rattle.dcx_tab.specs.declared.program.Program.{Program}
use Rattle.dcx_tab.specs.Rows.{entry}
use Rattle.dcx_tab.specs.Program.{kind_at, entries_at, is_negated_at}
use Rattle.dcx_lp_answer.specs.Right.{is_inequality}
use Rattle.dcx_simplex.proofs.Slacks.{Own, own_of, own_other, own_cost, sign_slack, sign_artificial}
use Rattle.dcx_simplex.proofs.Owns.{own_low}

square : (s : ℤ) → (s ≡ pos 1) ⊎ (s ≡ negsuc 0) → s *ℤ s ≡ pos 1
square s (inl e) = rw e refl
square s (inr e) = rw e refl

one_or : (b : Bool) (s : ℤ) → s ≡ (if b then negsuc 0 else pos 1) → (s ≡ pos 1) ⊎ (s ≡ negsuc 0)
one_or true s e = inr e
one_or false s e = inl e

module _ (p : Program) where
  column_by : (i : ℕ) → (i < length p.rows) ⊎ (length p.rows ≤ i) → ℕ
  column_by i (inl h) = (own_of p i h).column
  column_by i (inr h) = 0

  pub own_column : ℕ → ℕ
  own_column i = column_by i (cases_lt i (length p.rows))

  own_column_by : (i : ℕ) → i < length p.rows → (c : (i < length p.rows) ⊎ (length p.rows ≤ i)) → (o : Own p.columns i) × (column_by i c ≡ o.column)
  unfolding column_by
  own_column_by i h (inl l) = (own_of p i l, refl)
  own_column_by i h (inr l) = absurd (omega arith)

  pub own_column_is : (i : ℕ) → i < length p.rows → (o : Own p.columns i) × (own_column i ≡ o.column)
  unfolding own_column
  own_column_is i h = own_column_by i h (cases_lt i (length p.rows))

  pub own_column_low : (i : ℕ) → i < length p.rows → own_column i < length p.columns
  own_column_low i h = let o = own_column_is i h in let l = own_low p.columns i o.0.column o.0.own in let e = o.1 in omega (arith, l, e)

  sign_by : (i : ℕ) → i < length p.rows → (o : Own p.columns i) → ((kind_at p.columns o.column ≡ Slack i) × (is_inequality p.columns i ≡ true))
      ⊎ ((kind_at p.columns o.column ≡ Artificial i) × (is_inequality p.columns i ≡ false))
      → (entry (entries_at p.rows i) o.column ≡ pos 1) ⊎ (entry (entries_at p.rows i) o.column ≡ negsuc 0)
  sign_by i h o (inl k) = one_or (is_negated_at p.rows i) (entry (entries_at p.rows i) o.column) (sign_slack p i h o k.0)
  sign_by i h o (inr k) = inl (sign_artificial p i h o k.0)

  -- it is 1 or -1 there
  pub sign_square : (i : ℕ) → i < length p.rows → entry (entries_at p.rows i) (own_column i) *ℤ entry (entries_at p.rows i) (own_column i) ≡ pos 1
  sign_square i h = let o = own_column_is i h in subst (λ j. entry (entries_at p.rows i) j *ℤ entry (entries_at p.rows i) j ≡ pos 1) (sym o.1) (square _ (sign_by i h o.0 o.0.kind))

  -- and 0 in each other row, and in the objective
  pub other_zero : (i k : ℕ) → i < length p.rows → k < length p.rows → k ≢ i → entry (entries_at p.rows i) (own_column k) ≡ pos 0
  other_zero i k h l n = let o = own_column_is k l in ap (entry (entries_at p.rows i)) o.1 ∙ own_other p k i h o.0 (λ e. n (sym e))

  pub own_cost_zero : (k : ℕ) → k < length p.rows → entry p.objective.entries (own_column k) ≡ pos 0
  own_cost_zero k l = let o = own_column_is k l in ap (entry p.objective.entries) o.1 ∙ own_cost p k o.0
