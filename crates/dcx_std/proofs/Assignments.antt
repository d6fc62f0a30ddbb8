-- Unknowns of their kinds as numbers of the columns, and columns along a ray.
use Rattle.std.proofs.Common.{◌≡◌, ◌≢◌, ℕ, zero, suc, ◌+◌, ◌<◌, Bool, true, false, List, [], ◌∷◌, length, map, Some, refl, sym, ap, ap₂, ◌∙◌, subst, arith, pos, ◌⊎◌, inl, inr}
use Rattle.std.specs.Prelude.{slice_get, nat_eq, if◌then◌else◌}
use Rattle.std.proofs.lemmas.Bool.{ne_eqb}
use Rattle.std.proofs.Common.{eq-eqb}
use Rattle.std.proofs.lemmas.List.{get_or-map}
use Rattle.dcx_math.specs.Rational.{ℚ, whole, ◌+ℚ◌, ◌*ℚ◌, neg_ℚ, rat_max, ◌≤ℚ◌}
use Rattle.dcx_math.specs.Sums.{rat_at, rat_sum_by, rat_sum_below, rat_scaled, along}
use Rattle.dcx_math.proofs.Orders.{+ℚ_idl, +ℚ_idr, ≤ℚ_refl, ≤ℚ_antisym, neg_ℚ-neg_ℚ, zero_shifted, neg_ℚ-nonnegative, neg_ℚ-nonpositive}
use Rattle.dcx_math.proofs.Bounds.{rat_max-cases, ≤ℚ-rat_max_left}
use Rattle.dcx_math.proofs.Ring.{ring, reads}
use Rattle.dcx_math.proofs.Sums.{rat_sum_below-first, rat_sum_below-same, rat_sum_below-+ℚ, rat_sum_below-*ℚ, rat_sum_by-++, rat_at-get_or}
use Rattle.dcx_math.proofs.Vectors.{rat_at-rat_added, rat_at-rat_scaled}
use Rattle.dcx_linear.specs.declared.row.UnknownKind.{UnknownKind}
use Rattle.dcx_linear.specs.declared.row.UnknownKind.TheVariants.{Free, Nonneg, Nonpos}
use Rattle.dcx_linear.specs.FormTerms.{Unknowns}
use Rattle.dcx_linear.specs.Rows.{IsOfKind}
use Rattle.dcx_tab.specs.declared.rows.ColumnKind.{ColumnKind}
use Rattle.dcx_tab.specs.declared.rows.ColumnKind.TheVariants.{Unknown, Slack, Artificial}
use Rattle.dcx_tab.specs.Program.{kind_at}
use Rattle.dcx_std.specs.declared.start.Start.{Start}
use Rattle.dcx_std.specs.Columns.{unknown_columns, all_unknown_columns, marked_from, has_slack, needs_artificial, slack_columns, artificial_columns, plain_columns_of, columns_of}
use Rattle.dcx_lp_answer.specs.Right.{turned_if}
use Rattle.dcx_std.specs.Solutions.{column_part, unknowns_at}

-- the number of a column where the unknowns and the slacks have these numbers, and the artificials are 0
abbrev pub column_value : (ℕ → ℚ) → Unknowns → ColumnKind → ℚ
column_value slacks y (Unknown u true) = rat_max (whole (pos 0)) (neg_ℚ (y u))
column_value slacks y (Unknown u false) = rat_max (whole (pos 0)) (y u)
column_value slacks y (Slack r) = slacks r
column_value slacks y (Artificial r) = whole (pos 0)

abbrev pub assignment : List ColumnKind → (ℕ → ℚ) → Unknowns → List ℚ
assignment columns slacks y = map (column_value slacks y) columns

pub assigned_at : (columns : List ColumnKind) (slacks : ℕ → ℚ) (y : Unknowns) (j : ℕ) → j < length columns → rat_at (assignment columns slacks y) j ≡ column_value slacks y (kind_at columns j)
assigned_at columns slacks y j l = sym (rat_at-get_or (map (column_value slacks y) columns) j) ∙ get_or-map (column_value slacks y) columns j (Unknown 0 false) (whole (pos 0)) l

pub value_nonnegative : (slacks : ℕ → ℚ) (y : Unknowns) (k : ColumnKind) → ((r : ℕ) → k ≡ Slack r → whole (pos 0) ≤ℚ slacks r) → whole (pos 0) ≤ℚ column_value slacks y k
value_nonnegative slacks y (Unknown u true) h = ≤ℚ-rat_max_left (whole (pos 0)) (neg_ℚ (y u))
value_nonnegative slacks y (Unknown u false) h = ≤ℚ-rat_max_left (whole (pos 0)) (y u)
value_nonnegative slacks y (Slack r) h = h r refl
value_nonnegative slacks y (Artificial r) h = ≤ℚ_refl (whole (pos 0))

-- a sum over the places of a list is one over its items
sum_over : (h : ColumnKind → ℚ) (ks : List ColumnKind) → rat_sum_below (length ks) (λ j. h (kind_at ks j)) ≡ rat_sum_by h ks
sum_over h [] = refl
sum_over h (k ∷ ks) = rat_sum_below-first (length ks) (λ j. h (kind_at (k ∷ ks) j)) ∙ ap (λ q. h k +ℚ q) (sum_over h ks)

-- ---- one number in two parts
positive_part : (z : ℚ) → whole (pos 0) ≤ℚ z → rat_max (whole (pos 0)) z ≡ z
positive_part z h = by (rat_max-cases (whole (pos 0)) z)
  where
    by : ((rat_max (whole (pos 0)) z ≡ z) × (whole (pos 0) ≤ℚ z)) ⊎ ((rat_max (whole (pos 0)) z ≡ whole (pos 0)) × (z ≤ℚ whole (pos 0))) → rat_max (whole (pos 0)) z ≡ z
    by (inl e) = e.0
    by (inr e) = e.0 ∙ ≤ℚ_antisym h e.1

no_part : (z : ℚ) → z ≤ℚ whole (pos 0) → rat_max (whole (pos 0)) z ≡ whole (pos 0)
no_part z h = by (rat_max-cases (whole (pos 0)) z)
  where
    by : ((rat_max (whole (pos 0)) z ≡ z) × (whole (pos 0) ≤ℚ z)) ⊎ ((rat_max (whole (pos 0)) z ≡ whole (pos 0)) × (z ≤ℚ whole (pos 0))) → rat_max (whole (pos 0)) z ≡ whole (pos 0)
    by (inl e) = e.0 ∙ ≤ℚ_antisym h e.1
    by (inr e) = e.0

two_parts : (z : ℚ) → rat_max (whole (pos 0)) z +ℚ (neg_ℚ (rat_max (whole (pos 0)) (neg_ℚ z)) +ℚ whole (pos 0)) ≡ z
two_parts z = by (rat_max-cases (whole (pos 0)) z)
  where
    by : ((rat_max (whole (pos 0)) z ≡ z) × (whole (pos 0) ≤ℚ z)) ⊎ ((rat_max (whole (pos 0)) z ≡ whole (pos 0)) × (z ≤ℚ whole (pos 0)))
        → rat_max (whole (pos 0)) z +ℚ (neg_ℚ (rat_max (whole (pos 0)) (neg_ℚ z)) +ℚ whole (pos 0)) ≡ z
    by (inl e) = ap₂ (λ a b. a +ℚ (neg_ℚ b +ℚ whole (pos 0))) e.0 (no_part (neg_ℚ z) (neg_ℚ-nonpositive z e.1)) ∙ ring (z ∷ []) (search reads depth 30) tt
    by (inr e) = ap₂ (λ a b. a +ℚ (neg_ℚ b +ℚ whole (pos 0))) e.0 (positive_part (neg_ℚ z) (neg_ℚ-nonnegative z e.1)) ∙ ring (z ∷ []) (search reads depth 30) tt

minus_part : (z : ℚ) → z ≤ℚ whole (pos 0) → neg_ℚ (rat_max (whole (pos 0)) (neg_ℚ z)) +ℚ whole (pos 0) ≡ z
minus_part z h = +ℚ_idr (neg_ℚ (rat_max (whole (pos 0)) (neg_ℚ z))) ∙ ap neg_ℚ (positive_part (neg_ℚ z) (neg_ℚ-nonnegative z h)) ∙ neg_ℚ-neg_ℚ z

-- ---- the unknowns of an assignment
module _ (slacks : ℕ → ℚ) (y : Unknowns) (u : ℕ) where
  -- what a column adds to unknown u
  added : ColumnKind → ℚ
  added k = column_part u k (column_value slacks y k)

  other : (v : ℕ) (minus : Bool) → v ≢ u → added (Unknown v minus) ≡ whole (pos 0)
  unfolding added
  other v true d = ap (λ b. if b then neg_ℚ (column_value slacks y (Unknown v true)) else whole (pos 0)) (ne_eqb v u d)
  other v false d = ap (λ b. if b then column_value slacks y (Unknown v false) else whole (pos 0)) (ne_eqb v u d)

  own : (minus : Bool) → added (Unknown u minus) ≡ turned_if minus (column_value slacks y (Unknown u minus))
  unfolding added
  own true = ap (λ b. if b then neg_ℚ (column_value slacks y (Unknown u true)) else whole (pos 0)) (eq-eqb u u refl)
  own false = ap (λ b. if b then column_value slacks y (Unknown u false) else whole (pos 0)) (eq-eqb u u refl)

  -- the columns of the unknown itself
  own_sum : (kind : UnknownKind) → IsOfKind kind (y u) → rat_sum_by added (unknown_columns u kind) ≡ y u
  own_sum Free h = ap₂ (λ a b. a +ℚ (b +ℚ whole (pos 0))) (own false) (own true) ∙ two_parts (y u)
  own_sum Nonneg h = ap (λ a. a +ℚ whole (pos 0)) (own false ∙ positive_part (y u) h) ∙ +ℚ_idr (y u)
  own_sum Nonpos h = ap (λ a. a +ℚ whole (pos 0)) (own true) ∙ minus_part (y u) h

  other_sum : (v : ℕ) (kind : UnknownKind) → v ≢ u → rat_sum_by added (unknown_columns v kind) ≡ whole (pos 0)
  other_sum v Free d = ap₂ (λ a b. a +ℚ (b +ℚ whole (pos 0))) (other v false d) (other v true d) ∙ +ℚ_idl (whole (pos 0) +ℚ whole (pos 0)) ∙ +ℚ_idl (whole (pos 0))
  other_sum v Nonneg d = ap (λ a. a +ℚ whole (pos 0)) (other v false d) ∙ +ℚ_idr (whole (pos 0))
  other_sum v Nonpos d = ap (λ a. a +ℚ whole (pos 0)) (other v true d) ∙ +ℚ_idr (whole (pos 0))

  -- unknowns with larger numbers add nothing
  later_sum : (a : ℕ) (kinds : List UnknownKind) → u < a → rat_sum_by added (all_unknown_columns a kinds) ≡ whole (pos 0)
  later_sum a [] h = refl
  later_sum a (kind ∷ kinds) h =
      rat_sum_by-++ added (unknown_columns a kind) (all_unknown_columns (suc a) kinds) ∙ ap₂ ◌+ℚ◌ (other_sum a kind (λ e. absurd (omega (arith, h, e)))) (later_sum (suc a) kinds (omega (arith, h)))
      ∙ +ℚ_idr (whole (pos 0))

  all_sum : (a : ℕ) (kinds : List UnknownKind) (i : ℕ) (kind : UnknownKind) → a + i ≡ u → slice_get kinds i ≡ Some kind → IsOfKind kind (y u) → rat_sum_by added (all_unknown_columns a kinds) ≡ y u
  all_sum a [] i kind e s h = cc
  all_sum a (k ∷ kinds) zero kind e s h =
      let d : k ≡ kind = cc in
      let f : u ≡ a = omega (arith, e) in
      rat_sum_by-++ added (unknown_columns a k) (all_unknown_columns (suc a) kinds)
      ∙ ap₂ ◌+ℚ◌ (subst (λ v. rat_sum_by added (unknown_columns v k) ≡ y u) f (own_sum k (subst (λ t. IsOfKind t (y u)) (sym d) h))) (later_sum (suc a) kinds (omega (arith, f))) ∙ +ℚ_idr (y u)
  all_sum a (k ∷ kinds) (suc i) kind e s h =
      rat_sum_by-++ added (unknown_columns a k) (all_unknown_columns (suc a) kinds)
      ∙ ap₂ ◌+ℚ◌ (other_sum a k (λ f. absurd (omega (arith, e, f)))) (all_sum (suc a) kinds i kind (omega (arith, e)) s h) ∙ +ℚ_idl (y u)

  marked_sum : (column : ℕ → ColumnKind) → ((i : ℕ) → added (column i) ≡ whole (pos 0)) → (i : ℕ) (bs : List Bool) → rat_sum_by added (marked_from column i bs) ≡ whole (pos 0)
  marked_sum column h i [] = refl
  marked_sum column h i (true ∷ bs) = ap₂ ◌+ℚ◌ (h i) (marked_sum column h (suc i) bs) ∙ +ℚ_idr (whole (pos 0))
  marked_sum column h i (false ∷ bs) = marked_sum column h (suc i) bs

  slacks_sum : (starts : List Start) → rat_sum_by added (slack_columns starts) ≡ whole (pos 0)
  unfolding added
  slacks_sum starts = marked_sum Slack (λ i. refl) 0 (map has_slack starts)

  artificials_sum : (starts : List Start) → rat_sum_by added (artificial_columns starts) ≡ whole (pos 0)
  unfolding added
  artificials_sum starts = marked_sum Artificial (λ i. refl) 0 (map needs_artificial starts)

  -- the unknowns of the assignment are those that it is made of
  pub assigned_unknown : (kinds : List UnknownKind) (starts : List Start) (kind : UnknownKind) → slice_get kinds u ≡ Some kind → IsOfKind kind (y u)
      → unknowns_at (columns_of kinds starts) (assignment (columns_of kinds starts) slacks y) u ≡ y u
  unfolding added
  assigned_unknown kinds starts kind s h =
      let columns = columns_of kinds starts in
      let e : 0 + u ≡ u = omega arith in
      rat_sum_below-same (length columns) _ (λ j. added (kind_at columns j)) (λ j l. ap (column_part u (kind_at columns j)) (assigned_at columns slacks y j l))
      ∙ sum_over added columns ∙ rat_sum_by-++ added (plain_columns_of kinds starts) (artificial_columns starts)
      ∙ ap₂ ◌+ℚ◌ (rat_sum_by-++ added (all_unknown_columns 0 kinds) (slack_columns starts) ∙ ap₂ ◌+ℚ◌ (all_sum 0 kinds u kind e s h) (slacks_sum starts) ∙ +ℚ_idr (y u)) (artificials_sum starts)
      ∙ +ℚ_idr (y u)

-- ---- along a ray
turned_along : (a k b : ℚ) → neg_ℚ (a +ℚ k *ℚ b) ≡ neg_ℚ a +ℚ k *ℚ neg_ℚ b
turned_along a k b = ring (a ∷ k ∷ b ∷ []) (search reads depth 30) tt

-- what a column adds along a ray
part_along : (u : ℕ) (c : ColumnKind) (a k b : ℚ) → column_part u c (a +ℚ k *ℚ b) ≡ column_part u c a +ℚ k *ℚ column_part u c b
part_along u (Unknown v minus) a k b = by (nat_eq v u) minus
  where
    by : (t m : Bool) → (if t then turned_if m (a +ℚ k *ℚ b) else whole (pos 0)) ≡ (if t then turned_if m a else whole (pos 0)) +ℚ k *ℚ (if t then turned_if m b else whole (pos 0))
    by true true = turned_along a k b
    by true false = refl
    by false m = zero_shifted k
part_along u (Slack r) a k b = zero_shifted k
part_along u (Artificial r) a k b = zero_shifted k

-- the unknowns along a ray of columns
pub unknowns-along : (columns : List ColumnKind) (xs : List ℚ) (k : ℚ) (ds : List ℚ) (u : ℕ) → unknowns_at columns (along xs k ds) u ≡ unknowns_at columns xs u +ℚ k *ℚ unknowns_at columns ds u
unknowns-along columns xs k ds u =
    rat_sum_below-same (length columns) _ (λ j. column_part u (kind_at columns j) (rat_at xs j) +ℚ k *ℚ column_part u (kind_at columns j) (rat_at ds j))
    (λ j l. ap (column_part u (kind_at columns j)) (rat_at-rat_added xs (rat_scaled k ds) j ∙ ap (λ q. rat_at xs j +ℚ q) (rat_at-rat_scaled k ds j))
    ∙ part_along u (kind_at columns j) (rat_at xs j) k (rat_at ds j))
    ∙ rat_sum_below-+ℚ (length columns) (λ j. column_part u (kind_at columns j) (rat_at xs j)) (λ j. k *ℚ column_part u (kind_at columns j) (rat_at ds j))
    ∙ ap (λ q. unknowns_at columns xs u +ℚ q) (rat_sum_below-*ℚ (length columns) k (λ j. column_part u (kind_at columns j) (rat_at ds j)))
