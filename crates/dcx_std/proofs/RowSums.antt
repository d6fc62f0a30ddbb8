-- A row of a scaled program at numbers of its columns: its factor times the form at the unknowns, with its slack and
-- its artificial.
use Rattle.std.proofs.Common.{◌≡◌, ℕ, ◌<◌, Bool, true, false, List, [], ◌∷◌, length, None, refl, sym, ap, ap₂, ◌∙◌, subst, arith, ℤ, pos, negsuc}
use Rattle.std.specs.Prelude.{nat_eq, if◌then◌else◌}
use Rattle.std.specs.List.{All}
use Rattle.std.proofs.lemmas.Bool.{ne_eqb}
use Rattle.std.proofs.Common.{eq-eqb}
use Rattle.std.proofs.lemmas.List.Elements.{All-head, All-tail}
use native.Mathlib.Decide.{ℕ_discrete}
use Rattle.dcx_math.specs.Rational.{ℚ, whole, ◌+ℚ◌, ◌*ℚ◌, neg_ℚ}
use Rattle.dcx_math.specs.Sums.{rat_at, rat_dot, rat_sum_by, rat_sum_below}
use Rattle.dcx_math.proofs.Orders.{+ℚ_idl, +ℚ_idr, *ℚ-zero, zero-*ℚ, whole-neg_ℤ}
use Rattle.dcx_math.proofs.Ring.{ring, reads}
use Rattle.dcx_math.proofs.Sums.{rat_sum_below-zero, rat_sum_below-same, rat_sum_below-+ℚ, rat_sum_below-*ℚ, rat_sum_below-one, rat_sum_below-exchange}
use Rattle.dcx_math.proofs.Points.{wholes}
use Rattle.dcx_math.specs.Rising.{IsRising}
use Rattle.dcx_frac.specs.declared.fraction.Frac.{Frac}
use Rattle.dcx_frac.specs.Frac.{value}
use Rattle.dcx_atom.specs.Formed.{zero_frac}
use Rattle.dcx_atom.proofs.FormedSums.{value-zero_frac}
use Rattle.dcx_linear.specs.declared.form.FormTerm.{FormTerm}
use Rattle.dcx_linear.specs.Terms.{term_at}
use Rattle.dcx_linear.specs.TermLaws.{term_at-here, term_at-later, term_at-below}
use Rattle.dcx_linear.specs.FormTerms.{Unknowns, unknown_of}
use Rattle.dcx_tab.specs.declared.rows.ColumnKind.{ColumnKind}
use Rattle.dcx_tab.specs.declared.rows.ColumnKind.TheVariants.{Unknown, Slack, Artificial}
use Rattle.dcx_tab.specs.Rows.{entry}
use Rattle.dcx_tab.specs.Program.{kind_at, told_entry, unknown_entry}
use Rattle.dcx_lp_answer.specs.Right.{turned_if}
use Rattle.dcx_lp_answer.proofs.RowSums.{dot_sum}
use Rattle.dcx_std.specs.WholeRows.{coefficient_or_zero, coefficient_at}
use Rattle.dcx_std.specs.Solutions.{column_part, unknowns_at}

abbrev zeroq : ℚ
zeroq = whole (pos 0)

-- ---- a form as a sum over all unknowns
module _ (x : Unknowns) where
  part_of : (ts : List (FormTerm Frac)) → ℕ → ℚ
  part_of ts u = value (coefficient_at ts u) *ℚ x u

  first_part : FormTerm Frac → ℕ → ℚ
  first_part t u = if nat_eq t.unknown u then value t.coefficient *ℚ x u else zeroq

  split_part : (t : FormTerm Frac) (ts : List (FormTerm Frac)) (u : ℕ) → All (λ s. unknown_of t < unknown_of s) ts → part_of (t ∷ ts) u ≡ first_part t u +ℚ part_of ts u
  unfolding part_of first_part
  split_part t ts u h = by (ℕ_discrete t.unknown u)
    where
      by : Dec (t.unknown ≡ u) → part_of (t ∷ ts) u ≡ first_part t u +ℚ part_of ts u
      by (yes e) =
          let none : coefficient_at ts u ≡ zero_frac = ap coefficient_or_zero (subst (λ k. term_at unknown_of ts k ≡ None) e (term_at-below unknown_of ts t.unknown h)) in
          ap (λ c. value (coefficient_or_zero c) *ℚ x u) (term_at-here unknown_of t ts u e)
          ∙ sym (ap₂ ◌+ℚ◌ (ap (λ b. if b then value t.coefficient *ℚ x u else zeroq) (eq-eqb t.unknown u e)) (ap (λ c. value c *ℚ x u) none ∙ ap (λ q. q *ℚ x u) value-zero_frac ∙ zero-*ℚ (x u))
          ∙ +ℚ_idr (value t.coefficient *ℚ x u))
      by (no d) =
          ap (λ c. value (coefficient_or_zero c) *ℚ x u) (term_at-later unknown_of t ts u d)
          ∙ sym (ap (λ b. (if b then value t.coefficient *ℚ x u else zeroq) +ℚ part_of ts u) (ne_eqb t.unknown u d) ∙ +ℚ_idl (part_of ts u))

  first_sum : (n : ℕ) (t : FormTerm Frac) → t.unknown < n → rat_sum_below n (first_part t) ≡ value t.coefficient *ℚ x t.unknown
  unfolding first_part
  first_sum n t l =
      rat_sum_below-one n t.unknown (first_part t) l (λ i k d. ap (λ b. if b then value t.coefficient *ℚ x i else zeroq) (ne_eqb t.unknown i (λ e. d (sym e))))
      ∙ ap (λ b. if b then value t.coefficient *ℚ x t.unknown else zeroq) (eq-eqb t.unknown t.unknown refl)

  none_sum : (n : ℕ) → rat_sum_below n (part_of []) ≡ zeroq
  unfolding part_of
  none_sum n = rat_sum_below-same n (part_of []) (λ u. zeroq) (λ u l. ap (λ q. q *ℚ x u) value-zero_frac ∙ zero-*ℚ (x u)) ∙ rat_sum_below-zero n

  sparse_by : (ts : List (FormTerm Frac)) (n : ℕ) → IsRising unknown_of ts → All (λ t. t.unknown < n) ts → rat_sum_by (λ t. value t.coefficient *ℚ x t.unknown) ts ≡ rat_sum_below n (part_of ts)
  sparse_by [] n rising below = sym (none_sum n)
  sparse_by (t ∷ ts) n rising below =
      ap₂ ◌+ℚ◌ (sym (first_sum n t (All-head (λ s. s.unknown < n) t ts below))) (sparse_by ts n rising.1 (All-tail (λ s. s.unknown < n) t ts below))
      ∙ sym (rat_sum_below-+ℚ n (first_part t) (part_of ts)) ∙ rat_sum_below-same n (λ u. first_part t u +ℚ part_of ts u) (part_of (t ∷ ts)) (λ u l. sym (split_part t ts u rising.0))

  -- the sum over the terms is that over all unknowns
  pub sparse_sum : (ts : List (FormTerm Frac)) (n : ℕ) → IsRising unknown_of ts → All (λ t. t.unknown < n) ts
      → rat_sum_by (λ t. value t.coefficient *ℚ x t.unknown) ts ≡ rat_sum_below n (λ u. value (coefficient_at ts u) *ℚ x u)
  unfolding part_of
  sparse_sum ts n rising below = sparse_by ts n rising below

-- ---- slacks and artificials
abbrev pub slack_part : ℕ → ColumnKind → ℚ → ℚ
slack_part i (Unknown u minus) z = whole (pos 0)
slack_part i (Slack r) z = if nat_eq r i then z else whole (pos 0)
slack_part i (Artificial r) z = whole (pos 0)

abbrev pub artificial_part : ℕ → ColumnKind → ℚ → ℚ
artificial_part i (Unknown u minus) z = whole (pos 0)
artificial_part i (Slack r) z = whole (pos 0)
artificial_part i (Artificial r) z = if nat_eq r i then z else whole (pos 0)

-- the number of the slack of row i, and that of its artificial
abbrev pub slack_at : List ColumnKind → List ℚ → ℕ → ℚ
slack_at columns zs i = rat_sum_below (length columns) (λ j. slack_part i (kind_at columns j) (rat_at zs j))

abbrev pub artificial_at : List ColumnKind → List ℚ → ℕ → ℚ
artificial_at columns zs i = rat_sum_below (length columns) (λ j. artificial_part i (kind_at columns j) (rat_at zs j))

-- 1, or -1
abbrev pub sign : Bool → ℚ
sign true = neg_ℚ (whole (pos 1))
sign false = whole (pos 1)

pub turned_is : (t : Bool) (q : ℚ) → turned_if t q ≡ sign t *ℚ q
turned_is true q = ring (q ∷ []) (search reads depth 30) tt
turned_is false q = ring (q ∷ []) (search reads depth 30) tt

-- ---- a column of a row, in numbers
minus_minus : (f d z : ℚ) → neg_ℚ (f *ℚ neg_ℚ d) *ℚ z ≡ neg_ℚ (whole (pos 1)) *ℚ (f *ℚ (d *ℚ neg_ℚ z) +ℚ whole (pos 0)) +ℚ whole (pos 0)
minus_minus f d z = ring (f ∷ d ∷ z ∷ []) (search reads depth 30) tt

minus_plus : (f d z : ℚ) → neg_ℚ (f *ℚ d) *ℚ z ≡ neg_ℚ (whole (pos 1)) *ℚ (f *ℚ (d *ℚ z) +ℚ whole (pos 0)) +ℚ whole (pos 0)
minus_plus f d z = ring (f ∷ d ∷ z ∷ []) (search reads depth 30) tt

plus_minus : (f d z : ℚ) → (f *ℚ neg_ℚ d) *ℚ z ≡ whole (pos 1) *ℚ (f *ℚ (d *ℚ neg_ℚ z) +ℚ whole (pos 0)) +ℚ whole (pos 0)
plus_minus f d z = ring (f ∷ d ∷ z ∷ []) (search reads depth 30) tt

plus_plus : (f d z : ℚ) → (f *ℚ d) *ℚ z ≡ whole (pos 1) *ℚ (f *ℚ (d *ℚ z) +ℚ whole (pos 0)) +ℚ whole (pos 0)
plus_plus f d z = ring (f ∷ d ∷ z ∷ []) (search reads depth 30) tt

minus_own : (f z : ℚ) → neg_ℚ (whole (pos 1)) *ℚ z ≡ neg_ℚ (whole (pos 1)) *ℚ (f *ℚ whole (pos 0) +ℚ z) +ℚ whole (pos 0)
minus_own f z = ring (f ∷ z ∷ []) (search reads depth 30) tt

plus_own : (f z : ℚ) → whole (pos 1) *ℚ z ≡ whole (pos 1) *ℚ (f *ℚ whole (pos 0) +ℚ z) +ℚ whole (pos 0)
plus_own f z = ring (f ∷ z ∷ []) (search reads depth 30) tt

minus_other : (f z : ℚ) → whole (pos 0) *ℚ z ≡ neg_ℚ (whole (pos 1)) *ℚ (f *ℚ whole (pos 0) +ℚ whole (pos 0)) +ℚ whole (pos 0)
minus_other f z = ring (f ∷ z ∷ []) (search reads depth 30) tt

plus_other : (f z : ℚ) → whole (pos 0) *ℚ z ≡ whole (pos 1) *ℚ (f *ℚ whole (pos 0) +ℚ whole (pos 0)) +ℚ whole (pos 0)
plus_other f z = ring (f ∷ z ∷ []) (search reads depth 30) tt

minus_artificial : (f z : ℚ) → whole (pos 1) *ℚ z ≡ neg_ℚ (whole (pos 1)) *ℚ (f *ℚ whole (pos 0) +ℚ whole (pos 0)) +ℚ z
minus_artificial f z = ring (f ∷ z ∷ []) (search reads depth 30) tt

plus_artificial : (f z : ℚ) → whole (pos 1) *ℚ z ≡ whole (pos 1) *ℚ (f *ℚ whole (pos 0) +ℚ whole (pos 0)) +ℚ z
plus_artificial f z = ring (f ∷ z ∷ []) (search reads depth 30) tt

-- ---- a column of a cost, in numbers
cost_minus : (f d z : ℚ) → neg_ℚ (f *ℚ neg_ℚ d) *ℚ z ≡ neg_ℚ f *ℚ (d *ℚ neg_ℚ z)
cost_minus f d z = ring (f ∷ d ∷ z ∷ []) (search reads depth 30) tt

cost_plus : (f d z : ℚ) → neg_ℚ (f *ℚ d) *ℚ z ≡ neg_ℚ f *ℚ (d *ℚ z)
cost_plus f d z = ring (f ∷ d ∷ z ∷ []) (search reads depth 30) tt

cost_none : (f z : ℚ) → whole (pos 0) *ℚ z ≡ neg_ℚ f *ℚ whole (pos 0)
cost_none f z = ring (f ∷ z ∷ []) (search reads depth 30) tt

-- ---- one column
module _ (n : ℕ) (c : ℕ → ℚ) where
  -- what a column adds to the sum over the unknowns
  unknown_sum : ColumnKind → ℚ → ℚ
  unknown_sum k z = rat_sum_below n (λ u. c u *ℚ column_part u k z)

  at_unknown : (v : ℕ) (minus : Bool) (z : ℚ) → v < n → unknown_sum (Unknown v minus) z ≡ c v *ℚ turned_if minus z
  unfolding unknown_sum
  at_unknown v minus z l =
      rat_sum_below-one n v (λ u. c u *ℚ column_part u (Unknown v minus) z) l (λ i k d. ap (λ b. c i *ℚ (if b then turned_if minus z else zeroq)) (ne_eqb v i (λ e. d (sym e))) ∙ *ℚ-zero (c i))
      ∙ ap (λ b. c v *ℚ (if b then turned_if minus z else zeroq)) (eq-eqb v v refl)

  at_none : (k : ColumnKind) (z : ℚ) → ((u : ℕ) → column_part u k z ≡ zeroq) → unknown_sum k z ≡ zeroq
  unfolding unknown_sum
  at_none k z h = rat_sum_below-same n (λ u. c u *ℚ column_part u k z) (λ u. zeroq) (λ u l. ap (λ q. c u *ℚ q) (h u) ∙ *ℚ-zero (c u)) ∙ rat_sum_below-zero n

  -- the entry of a row times the number of the column
  abbrev shown : ℕ → Bool → ℚ → ColumnKind → ℚ → ℚ
  shown i t f k z = sign t *ℚ (f *ℚ unknown_sum k z +ℚ slack_part i k z) +ℚ artificial_part i k z

  by_unknown : (t minus : Bool) (f d z : ℚ) → turned_if t (f *ℚ turned_if minus d) *ℚ z ≡ sign t *ℚ (f *ℚ (d *ℚ turned_if minus z) +ℚ zeroq) +ℚ zeroq
  by_unknown true true f d z = minus_minus f d z
  by_unknown true false f d z = minus_plus f d z
  by_unknown false true f d z = plus_minus f d z
  by_unknown false false f d z = plus_plus f d z

  by_slack : (t own : Bool) (f z : ℚ) → whole (if own then (if t then negsuc 0 else pos 1) else pos 0) *ℚ z ≡ sign t *ℚ (f *ℚ zeroq +ℚ (if own then z else zeroq)) +ℚ zeroq
  by_slack true true f z = ap (λ q. q *ℚ z) (whole-neg_ℤ (pos 1)) ∙ minus_own f z
  by_slack false true f z = plus_own f z
  by_slack true false f z = minus_other f z
  by_slack false false f z = plus_other f z

  by_artificial : (t own : Bool) (f z : ℚ) → whole (if own then pos 1 else pos 0) *ℚ z ≡ sign t *ℚ (f *ℚ zeroq +ℚ zeroq) +ℚ (if own then z else zeroq)
  by_artificial true true f z = minus_artificial f z
  by_artificial false true f z = plus_artificial f z
  by_artificial true false f z = minus_other f z
  by_artificial false false f z = plus_other f z

  -- of a row
  one_column : (i : ℕ) (t : Bool) (f : ℚ) (k : ColumnKind) (e : ℤ) (z : ℚ) → e ≡ told_entry i t k e
      → ((u : ℕ) (minus : Bool) → k ≡ Unknown u minus → (u < n) × (whole e ≡ turned_if t (f *ℚ turned_if minus (c u)))) → whole e *ℚ z ≡ shown i t f k z
  one_column i t f (Unknown u minus) e z told unknown =
      let h = unknown u minus refl in
      ap (λ q. q *ℚ z) h.1 ∙ by_unknown t minus f (c u) z ∙ ap (λ q. sign t *ℚ (f *ℚ q +ℚ zeroq) +ℚ zeroq) (sym (at_unknown u minus z h.0))
  one_column i t f (Slack r) e z told unknown =
      ap (λ y. whole y *ℚ z) told ∙ by_slack t (nat_eq r i) f z ∙ ap (λ q. sign t *ℚ (f *ℚ q +ℚ slack_part i (Slack r) z) +ℚ zeroq) (sym (at_none (Slack r) z (λ u. refl)))
  one_column i t f (Artificial r) e z told unknown =
      ap (λ y. whole y *ℚ z) told ∙ by_artificial t (nat_eq r i) f z ∙ ap (λ q. sign t *ℚ (f *ℚ q +ℚ zeroq) +ℚ artificial_part i (Artificial r) z) (sym (at_none (Artificial r) z (λ u. refl)))

  by_cost : (minus : Bool) (f d z : ℚ) → neg_ℚ (f *ℚ turned_if minus d) *ℚ z ≡ neg_ℚ f *ℚ (d *ℚ turned_if minus z)
  by_cost true f d z = cost_minus f d z
  by_cost false f d z = cost_plus f d z

  -- of a cost
  one_cost : (f : ℚ) (k : ColumnKind) (e : ℤ) (z : ℚ) → e ≡ unknown_entry k e → ((u : ℕ) (minus : Bool) → k ≡ Unknown u minus → (u < n) × (whole e ≡ neg_ℚ (f *ℚ turned_if minus (c u))))
      → whole e *ℚ z ≡ neg_ℚ f *ℚ unknown_sum k z
  one_cost f (Unknown u minus) e z told unknown = let h = unknown u minus refl in ap (λ q. q *ℚ z) h.1 ∙ by_cost minus f (c u) z ∙ ap (λ q. neg_ℚ f *ℚ q) (sym (at_unknown u minus z h.0))
  one_cost f (Slack r) e z told unknown = ap (λ y. whole y *ℚ z) told ∙ cost_none f z ∙ ap (λ q. neg_ℚ f *ℚ q) (sym (at_none (Slack r) z (λ u. refl)))
  one_cost f (Artificial r) e z told unknown = ap (λ y. whole y *ℚ z) told ∙ cost_none f z ∙ ap (λ q. neg_ℚ f *ℚ q) (sym (at_none (Artificial r) z (λ u. refl)))

  -- ---- all columns
  module _ (columns : List ColumnKind) (zs : List ℚ) where
    all_unknowns : rat_sum_below (length columns) (λ j. unknown_sum (kind_at columns j) (rat_at zs j)) ≡ rat_sum_below n (λ u. c u *ℚ unknowns_at columns zs u)
    unfolding unknown_sum
    all_unknowns =
        rat_sum_below-exchange (length columns) n (λ j u. c u *ℚ column_part u (kind_at columns j) (rat_at zs j))
        ∙ rat_sum_below-same n _ (λ u. c u *ℚ unknowns_at columns zs u) (λ u l. rat_sum_below-*ℚ (length columns) (c u) (λ j. column_part u (kind_at columns j) (rat_at zs j)))

    -- a row at the columns
    pub row_sum : (i : ℕ) (t : Bool) (f : ℚ) (entries : List ℤ) → length entries ≡ length columns
        → ((j : ℕ) → j < length columns → entry entries j ≡ told_entry i t (kind_at columns j) (entry entries j))
        → ((j u : ℕ) (minus : Bool) → j < length columns → kind_at columns j ≡ Unknown u minus → (u < n) × (whole (entry entries j) ≡ turned_if t (f *ℚ turned_if minus (c u))))
        → rat_dot (wholes entries) zs ≡ sign t *ℚ (f *ℚ rat_sum_below n (λ u. c u *ℚ unknowns_at columns zs u) +ℚ slack_at columns zs i) +ℚ artificial_at columns zs i
    row_sum i t f entries width told unknown =
        let m = length columns in
        let U = λ (j : ℕ). unknown_sum (kind_at columns j) (rat_at zs j) in
        let S = λ (j : ℕ). slack_part i (kind_at columns j) (rat_at zs j) in
        let A = λ (j : ℕ). artificial_part i (kind_at columns j) (rat_at zs j) in
        dot_sum entries zs m (omega (arith, width))
        ∙ rat_sum_below-same m _ (λ j. sign t *ℚ (f *ℚ U j +ℚ S j) +ℚ A j) (λ j l. one_column i t f (kind_at columns j) (entry entries j) (rat_at zs j) (told j l) (λ u minus e. unknown j u minus l e))
        ∙ rat_sum_below-+ℚ m (λ j. sign t *ℚ (f *ℚ U j +ℚ S j)) A
        ∙ ap (λ q. q +ℚ rat_sum_below m A)
        (rat_sum_below-*ℚ m (sign t) (λ j. f *ℚ U j +ℚ S j)
        ∙ ap (λ q. sign t *ℚ q) (rat_sum_below-+ℚ m (λ j. f *ℚ U j) S ∙ ap (λ q. q +ℚ rat_sum_below m S) (rat_sum_below-*ℚ m f U ∙ ap (λ q. f *ℚ q) all_unknowns)))

    -- a cost at the columns
    pub cost_sum : (f : ℚ) (entries : List ℤ) → length entries ≡ length columns → ((j : ℕ) → j < length columns → entry entries j ≡ unknown_entry (kind_at columns j) (entry entries j))
        → ((j u : ℕ) (minus : Bool) → j < length columns → kind_at columns j ≡ Unknown u minus → (u < n) × (whole (entry entries j) ≡ neg_ℚ (f *ℚ turned_if minus (c u))))
        → rat_dot (wholes entries) zs ≡ neg_ℚ f *ℚ rat_sum_below n (λ u. c u *ℚ unknowns_at columns zs u)
    cost_sum f entries width told unknown =
        let m = length columns in
        let U = λ (j : ℕ). unknown_sum (kind_at columns j) (rat_at zs j) in
        dot_sum entries zs m (omega (arith, width))
        ∙ rat_sum_below-same m _ (λ j. neg_ℚ f *ℚ U j) (λ j l. one_cost f (kind_at columns j) (entry entries j) (rat_at zs j) (told j l) (λ u minus e. unknown j u minus l e))
        ∙ rat_sum_below-*ℚ m (neg_ℚ f) U ∙ ap (λ q. neg_ℚ f *ℚ q) all_unknowns
