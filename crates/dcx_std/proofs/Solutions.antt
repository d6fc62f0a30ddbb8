-- Columns that solve the scaled program of rows stand for unknowns that solve the rows, at the same cost.
use Rattle.std.proofs.Common.{◌≡◌, ℕ, ◌<◌, ◌≤◌, Bool, true, false, List, [], ◌∷◌, length, map, get_or, Some, refl, sym, ap, ap₂, ◌∙◌, subst, arith, pos}
use Rattle.std.specs.Prelude.{slice_get, nat_eq, nat_lt, if◌then◌else◌}
use Rattle.std.specs.Option.{option_map}
use Rattle.std.proofs.lemmas.Bool.Decides.{nat_tests}
use Rattle.std.proofs.lemmas.Option.{slice_get_within, slice_get-map, get_or_from_slice_get}
use Rattle.dcx_math.specs.Rational.{ℚ, whole, ◌+ℚ◌, ◌-ℚ◌, ◌*ℚ◌, ◌/ℚ◌, neg_ℚ, ◌≤ℚ◌, ◌<ℚ◌}
use Rattle.dcx_math.specs.Sums.{rat_at, rat_dot, rat_sum_below}
use Rattle.dcx_math.proofs.Lists.{element_at}
use Rattle.dcx_math.proofs.Orders.{+ℚ_idr, *ℚ-zero, ≤ℚ_refl, ≤ℚ-from_≡, +ℚ-≤ℚ, <ℚ-≢, linear, linear_eq, neg_ℚ-≤ℚ, neg_ℚ-zero}
use Rattle.dcx_math.proofs.Products.{*ℚ-≤ℚ_cancel, *ℚ_cancel, /ℚ-unique, whole-<ℤ}
use Rattle.dcx_math.proofs.Points.{wholes}
use Rattle.dcx_math.proofs.Ring.{ring, reads}
use Rattle.dcx_math.proofs.Sums.{rat_sum_below-zero, rat_sum_below-same, rat_sum_below-nonnegative, rat_sum_below-monotone, rat_at-get_or}
use Rattle.dcx_math.proofs.Lists.{mapped}
use Rattle.dcx_frac.specs.declared.fraction.Frac.{Frac}
use Rattle.dcx_frac.specs.Frac.{value}
use Rattle.dcx_linear.specs.declared.form.Form.{Form}
use Rattle.dcx_linear.specs.declared.row.Row.{Row}
use Rattle.dcx_linear.specs.declared.row.RowKind.{RowKind}
use Rattle.dcx_linear.specs.declared.row.RowKind.TheVariants.{AtMost, Equal}
use Rattle.dcx_linear.specs.declared.row.UnknownKind.{UnknownKind}
use Rattle.dcx_linear.specs.declared.row.UnknownKind.TheVariants.{Free, Nonneg, Nonpos}
use Rattle.dcx_linear.specs.FormTerms.{Unknowns}
use Rattle.dcx_linear.specs.Rows as linear_rows
use Rattle.dcx_linear.specs.Rows.{RowAt, StandsTo, IsOfKind, AreOfKinds}
use Rattle.dcx_linear.specs.Widths.{form_width}
use Rattle.dcx_linear.proofs.Widths.{width_bounds}
use Rattle.dcx_tab.specs.declared.rows.ColumnKind.{ColumnKind}
use Rattle.dcx_tab.specs.declared.rows.ColumnKind.TheVariants.{Unknown, Slack, Artificial}
use Rattle.dcx_tab.specs.declared.rows.IntRow.{IntRow}
use Rattle.dcx_tab.specs.declared.program.Program.{Program}
use Rattle.dcx_tab.specs.Program.{IsProgramRow, kind_at, is_plain, plain_count, entries_of, right_side_at, right_of, is_negated}
use Rattle.dcx_lp_answer.specs.Notes.{row_factor}
use Rattle.dcx_lp_answer.specs.Right.{turned_if, is_inequality, row_at_columns, cost_at_columns, form_at, IsSolution}
use Rattle.dcx_lp_answer.specs.Multipliers.{is_at_most}
use Rattle.dcx_std.specs.declared.start.Start.{Start}
use Rattle.dcx_std.specs.WholeRows.{coefficient_at, IsSparseForm}
use Rattle.dcx_std.specs.GivenRows.{GivenRows}
use Rattle.dcx_std.specs.ScaledProgram.{IsScaledRow, IsScaledProgram}
use Rattle.dcx_std.specs.Solutions.{form_number, row_at, linear_program, column_part, unknowns_at, HasKinds}
use Rattle.dcx_std.proofs.ColumnKinds.{Allows, unknown_below, unknown_allowed, slack_wanted, slack_found, is_inequality_there}
use Rattle.dcx_std.proofs.Making.{row_narrow}
use Rattle.dcx_std.proofs.RowSums.{sparse_sum, slack_part, artificial_part, slack_at, artificial_at, sign, turned_is, row_sum, cost_sum}

-- ---- lists
-- the item of a mapped list
pub mapped_at : {A B : Type 0} (f : A → B) (xs : List A) (i : ℕ) (x : A) (d : B) → slice_get xs i ≡ Some x → get_or (map f xs) i d ≡ f x
mapped_at f xs i x d e = get_or_from_slice_get (map f xs) i (f x) d (slice_get-map f xs i ∙ ap (option_map f) e)

-- ---- numbers
sign_square : (t : Bool) (a b : ℚ) → sign t *ℚ a ≡ sign t *ℚ b → a ≡ b
sign_square true a b e = linear_eq (a ∷ b ∷ []) (sym e) (search reads depth 30) tt
sign_square false a b e = linear_eq (a ∷ b ∷ []) e (search reads depth 30) tt

-- where a positive multiple of e and a slack are 0 together, e is at most 0
excess_low : (f e s : ℚ) → whole (pos 0) <ℚ f → whole (pos 0) ≤ℚ s → f *ℚ e +ℚ s ≡ whole (pos 0) → e ≤ℚ whole (pos 0)
excess_low f e s p h g = *ℚ-≤ℚ_cancel p (linear (f ∷ e ∷ s ∷ []) (+ℚ-≤ℚ h (≤ℚ-from_≡ g)) (search reads depth 30) tt)

-- where a positive multiple of e is 0, e is 0
excess_none : (f e s : ℚ) → whole (pos 0) <ℚ f → s ≡ whole (pos 0) → f *ℚ e +ℚ s ≡ whole (pos 0) → e ≡ whole (pos 0)
excess_none f e s p h g =
    *ℚ_cancel f (λ z. <ℚ-≢ p (sym z)) (sym (+ℚ_idr (f *ℚ e)) ∙ ap (λ q. f *ℚ e +ℚ q) (sym h) ∙ g ∙ sym (*ℚ-zero f))

-- a row that solves: its factor times its form, with this constant, and its slack, are 0
solved : (t : Bool) (f l c s a d : ℚ) → d ≡ sign t *ℚ (f *ℚ l +ℚ s) +ℚ a → a ≡ whole (pos 0) → d ≡ turned_if t (f *ℚ neg_ℚ c) → f *ℚ (c +ℚ l) +ℚ s ≡ whole (pos 0)
solved t f l c s a d sum none right =
    let e : sign t *ℚ (f *ℚ l +ℚ s) ≡ sign t *ℚ (f *ℚ neg_ℚ c) = sym (+ℚ_idr _) ∙ ap (λ q. sign t *ℚ (f *ℚ l +ℚ s) +ℚ q) (sym none) ∙ sym sum ∙ right ∙ turned_is t (f *ℚ neg_ℚ c) in
    let g : f *ℚ l +ℚ s ≡ f *ℚ neg_ℚ c = sign_square t _ _ e in
    linear_eq (f ∷ l ∷ c ∷ s ∷ []) g (search reads depth 30) tt

swapped : (a c l : ℚ) → (a +ℚ l) +ℚ c ≡ (a +ℚ c) +ℚ l
swapped a c l = ring (a ∷ c ∷ l ∷ []) (search reads depth 30) tt

turned_product : (f l c : ℚ) → (c +ℚ l) *ℚ f ≡ neg_ℚ ((neg_ℚ (whole (pos 1)) *ℚ (f *ℚ l +ℚ whole (pos 0)) +ℚ whole (pos 0)) -ℚ neg_ℚ (whole (pos 1)) *ℚ (f *ℚ neg_ℚ c))
turned_product f l c = ring (f ∷ l ∷ c ∷ []) (search reads depth 30) tt

plain_product : (f l c : ℚ) → (c +ℚ l) *ℚ f ≡ (whole (pos 1) *ℚ (f *ℚ l +ℚ whole (pos 0)) +ℚ whole (pos 0)) -ℚ whole (pos 1) *ℚ (f *ℚ neg_ℚ c)
plain_product f l c = ring (f ∷ l ∷ c ∷ []) (search reads depth 30) tt

-- a row without its slack and its artificial, over its factor, is its form
unscaled : (t : Bool) (f l c s a r d : ℚ) → whole (pos 0) <ℚ f → d ≡ sign t *ℚ (f *ℚ l +ℚ s) +ℚ a → a ≡ whole (pos 0) → s ≡ whole (pos 0) → r ≡ turned_if t (f *ℚ neg_ℚ c)
    → turned_if t (d -ℚ r) /ℚ f ≡ c +ℚ l
unscaled t f l c s a r d positive sum none slack right =
    /ℚ-unique (turned_if t (d -ℚ r)) f (c +ℚ l) (λ z. <ℚ-≢ positive (sym z))
    (product t ∙ ap (turned_if t) (sym (ap₂ ◌-ℚ◌ (sum ∙ ap₂ (λ p q. sign t *ℚ (f *ℚ l +ℚ p) +ℚ q) slack none) (right ∙ turned_is t (f *ℚ neg_ℚ c)))))
  where
    product : (b : Bool) → (c +ℚ l) *ℚ f ≡ turned_if b ((sign b *ℚ (f *ℚ l +ℚ whole (pos 0)) +ℚ whole (pos 0)) -ℚ sign b *ℚ (f *ℚ neg_ℚ c))
    product true = turned_product f l c
    product false = plain_product f l c

-- the cost that a row of costs gives
cost_over : (f l c r d : ℚ) → whole (pos 0) <ℚ f → d ≡ neg_ℚ f *ℚ l → r ≡ f *ℚ c → (r -ℚ d) /ℚ f ≡ c +ℚ l
cost_over f l c r d positive sum right = /ℚ-unique (r -ℚ d) f (c +ℚ l) (λ z. <ℚ-≢ positive (sym z)) (cost_product f l c ∙ sym (ap₂ ◌-ℚ◌ right sum))
  where
    cost_product : (f l c : ℚ) → (c +ℚ l) *ℚ f ≡ f *ℚ c -ℚ neg_ℚ f *ℚ l
    cost_product f l c = ring (f ∷ l ∷ c ∷ []) (search reads depth 30) tt

-- ---- of rows and their program
module _ (rows : GivenRows) (q : Program) (known : HasKinds rows) (s : IsScaledProgram rows q) where
  abbrev n : ℕ
  n = length rows.kinds

  -- what is known of row i
  pub record RowFacts (i : ℕ) : Type 0 where
    pub row : Row Frac
    pub row_is : slice_get rows.rows i ≡ Some row
    pub ints : IntRow
    pub ints_is : slice_get q.rows i ≡ Some ints
    pub start : Start
    pub start_is : slice_get s.starts i ≡ Some start
    pub kind : start.kind ≡ row.kind
    pub scaled : IsScaledRow q.columns row ints
    pub form : IsProgramRow q.columns i ints

  abbrev pub facts_of : (i : ℕ) (row : Row Frac) → slice_get rows.rows i ≡ Some row → RowFacts i
  facts_of i row e =
      let l = slice_get_within rows.rows i row e in
      let r = element_at q.rows i (let c = s.count in omega (arith, l, c)) in
      let k = mapped (λ (t : Start). t.kind) s.starts i row.kind (ap (λ ks. slice_get ks i) s.kinds ∙ slice_get-map (λ (t : Row Frac). t.kind) rows.rows i
      ∙ ap (option_map (λ (t : Row Frac). t.kind)) e) in
      record { row = row; row_is = e; ints = r.0; ints_is = r.1; start = k.0; start_is = k.1; kind = k.2; scaled = s.each_row i row r.0 e r.1; form = q.form.each_row i r.0 r.1 }

  below_of : (j u : ℕ) (minus : Bool) → j < length q.columns → kind_at q.columns j ≡ Unknown u minus → u < n
  below_of j u minus l e = unknown_below rows.kinds s.starts j u minus (subst (λ ks. j < length ks) s.columns l) (sym (ap (λ ks. kind_at ks j) s.columns) ∙ e)

  -- the sum over the unknowns
  abbrev pub linear_sum : Form Frac → Unknowns → ℚ
  linear_sum f x = rat_sum_below n (λ u. value (coefficient_at f.terms u) *ℚ x u)

  pub form_is : (f : Form Frac) (x : Unknowns) → IsSparseForm f → form_width f ≤ n → form_number f x ≡ value f.constant +ℚ linear_sum f x
  form_is f x h w = ap (λ y. value f.constant +ℚ y) (sparse_sum x f.terms n h.rising (width_bounds f.terms n w))

  -- a form sees only its unknowns
  pub form_same : (f : Form Frac) (x y : Unknowns) → IsSparseForm f → form_width f ≤ n → ((u : ℕ) → u < n → x u ≡ y u) → form_number f x ≡ form_number f y
  form_same f x y h w e = form_is f x h w ∙ ap (λ z. value f.constant +ℚ z) (rat_sum_below-same n _ _ (λ u l. ap (λ z. value (coefficient_at f.terms u) *ℚ z) (e u l))) ∙ sym (form_is f y h w)

  pub narrow : (i : ℕ) (h : RowFacts i) → form_width h.row.form ≤ n
  narrow i h = row_narrow rows.rows n i h.row known.rows_known h.row_is

  -- row i at the columns
  pub row_value : (i : ℕ) (h : RowFacts i) (zs : List ℚ)
      → row_at_columns q i zs ≡ sign h.ints.negated *ℚ (value h.ints.factor *ℚ linear_sum h.row.form (unknowns_at q.columns zs) +ℚ slack_at q.columns zs i) +ℚ artificial_at q.columns zs i
  row_value i h zs =
      ap (λ es. rat_dot (wholes es) zs) (mapped_at entries_of q.rows i h.ints [] h.ints_is)
      ∙ row_sum n (λ u. value (coefficient_at h.row.form.terms u)) q.columns zs i h.ints.negated (value h.ints.factor) h.ints.entries h.form.width h.form.told
      (λ j u minus l e. (below_of j u minus l e, h.scaled.unknown j u minus l e))

  -- ---- artificials and slacks
  behind : (j i : ℕ) → j < length q.columns → kind_at q.columns j ≡ Artificial i → plain_count q.columns ≤ j
  behind j i l e =
      let t : is_plain (kind_at q.columns j) ≡ nat_lt j (plain_count q.columns) = q.form.ordered j l in
      let f : nat_lt j (plain_count q.columns) ≡ false = sym t ∙ ap is_plain e in
      grind (arith, nat_tests)

  pub artificial_none : (zs : List ℚ) (i : ℕ) → ((j k : ℕ) → j < length q.columns → kind_at q.columns j ≡ Artificial k → rat_at zs j ≡ whole (pos 0)) → artificial_at q.columns zs i ≡ whole (pos 0)
  artificial_none zs i h = rat_sum_below-same (length q.columns) _ (λ j. whole (pos 0)) (λ j l. by j l (kind_at q.columns j) refl) ∙ rat_sum_below-zero (length q.columns)
    where
      either : (b : Bool) (z : ℚ) → z ≡ whole (pos 0) → (if b then z else whole (pos 0)) ≡ whole (pos 0)
      either true z e = e
      either false z e = refl

      by : (j : ℕ) → j < length q.columns → (k : ColumnKind) → kind_at q.columns j ≡ k → artificial_part i k (rat_at zs j) ≡ whole (pos 0)
      by j l (Unknown u minus) e = refl
      by j l (Slack r) e = refl
      by j l (Artificial r) e = either (nat_eq r i) (rat_at zs j) (h j r l e)

  pub slack_none : (zs : List ℚ) (i : ℕ) → ((j : ℕ) → j < length q.columns → kind_at q.columns j ≡ Slack i → rat_at zs j ≡ whole (pos 0)) → slack_at q.columns zs i ≡ whole (pos 0)
  slack_none zs i h = rat_sum_below-same (length q.columns) _ (λ j. whole (pos 0)) (λ j l. by j l (kind_at q.columns j) refl) ∙ rat_sum_below-zero (length q.columns)
    where
      same : (r : ℕ) (b : Bool) (z : ℚ) → nat_eq r i ≡ b → (r ≡ i → z ≡ whole (pos 0)) → (if b then z else whole (pos 0)) ≡ whole (pos 0)
      same r true z e f = f (grind (arith, nat_tests))
      same r false z e f = refl

      by : (j : ℕ) → j < length q.columns → (k : ColumnKind) → kind_at q.columns j ≡ k → slack_part i k (rat_at zs j) ≡ whole (pos 0)
      by j l (Unknown u minus) e = refl
      by j l (Slack r) e = same r (nat_eq r i) (rat_at zs j) refl (λ d. h j l (e ∙ ap Slack d))
      by j l (Artificial r) e = refl

  slack_nonnegative : (zs : List ℚ) (i : ℕ) → ((j : ℕ) → j < length q.columns → whole (pos 0) ≤ℚ rat_at zs j) → whole (pos 0) ≤ℚ slack_at q.columns zs i
  slack_nonnegative zs i h = rat_sum_below-nonnegative (length q.columns) (λ j. slack_part i (kind_at q.columns j) (rat_at zs j)) (λ j l. by (kind_at q.columns j) (rat_at zs j) (h j l))
    where
      either : (b : Bool) (z : ℚ) → whole (pos 0) ≤ℚ z → whole (pos 0) ≤ℚ (if b then z else whole (pos 0))
      either true z k = k
      either false z k = ≤ℚ_refl (whole (pos 0))

      by : (k : ColumnKind) (z : ℚ) → whole (pos 0) ≤ℚ z → whole (pos 0) ≤ℚ slack_part i k z
      by (Unknown u minus) z k = ≤ℚ_refl (whole (pos 0))
      by (Slack r) z k = either (nat_eq r i) z k
      by (Artificial r) z k = ≤ℚ_refl (whole (pos 0))

  -- an equality has no slack
  pub no_slack : (i : ℕ) (h : RowFacts i) → h.row.kind ≡ Equal → (j : ℕ) → kind_at q.columns j ≡ Slack i → ⊥
  no_slack i h e j k =
      let w = slack_wanted rows.kinds s.starts j i h.start (sym (ap (λ ks. kind_at ks j) s.columns) ∙ k) h.start_is in
      let f : is_at_most Equal ≡ true = ap is_at_most (sym (h.kind ∙ e)) ∙ w in cc

  -- an inequality has one
  pub slack_there : (i : ℕ) (h : RowFacts i) → h.row.kind ≡ AtMost → (j : ℕ) × (j < length q.columns) × (kind_at q.columns j ≡ Slack i)
  slack_there i h e =
      let p = slack_found rows.kinds s.starts i h.start h.start_is (ap is_at_most (h.kind ∙ e)) in
      (p.0, subst (λ ks. p.0 < length ks) (sym s.columns) p.1, ap (λ ks. kind_at ks p.0) s.columns ∙ p.2)

  -- its columns show that
  pub inequality_there : (i : ℕ) (h : RowFacts i) → h.row.kind ≡ AtMost → is_inequality q.columns i ≡ true
  inequality_there i h e = ap (λ ks. is_inequality ks i) s.columns ∙ is_inequality_there rows.kinds s.starts i h.start h.start_is (ap is_at_most (h.kind ∙ e))

  -- behind the plain columns stand artificials
  pub plain_below_artificial : (j : ℕ) → plain_count q.columns ≤ j → j < length q.columns → (i : ℕ) × (kind_at q.columns j ≡ Artificial i)
  plain_below_artificial j h l = by (kind_at q.columns j) refl
    where
      test : (k : ColumnKind) → kind_at q.columns j ≡ k → is_plain k ≡ nat_lt j (plain_count q.columns)
      test k e = ap is_plain (sym e) ∙ q.form.ordered j l

      above : nat_lt j (plain_count q.columns) ≡ false
      above = grind (arith, nat_tests)

      by : (k : ColumnKind) → kind_at q.columns j ≡ k → (i : ℕ) × (kind_at q.columns j ≡ Artificial i)
      by (Unknown u minus) e = let f : true ≡ false = test (Unknown u minus) e ∙ above in cc
      by (Slack r) e = let f : true ≡ false = test (Slack r) e ∙ above in cc
      by (Artificial r) e = (r, e)

  -- ---- solutions
  -- a row whose constant moves by c holds at the unknowns of columns at least 0 that give it its right side, where artificials are 0
  pub moved_holds : (zs : List ℚ) → ((j : ℕ) → j < length q.columns → whole (pos 0) ≤ℚ rat_at zs j) → ((j : ℕ) → plain_count q.columns ≤ j → j < length q.columns → rat_at zs j ≡ whole (pos 0)) →
      (i : ℕ) (h : RowFacts i) (c : ℚ) → row_at_columns q i zs ≡ turned_if h.ints.negated (value h.ints.factor *ℚ neg_ℚ (value h.row.form.constant +ℚ c)) →
      StandsTo h.row.kind (form_number h.row.form (unknowns_at q.columns zs) +ℚ c)
  moved_holds zs low none i h c right =
      let x = unknowns_at q.columns zs in
      let artificials = artificial_none zs i (λ j k m e. none j (behind j k m e) m) in
      let left = solved h.ints.negated (value h.ints.factor) (linear_sum h.row.form x) (value h.row.form.constant +ℚ c) (slack_at q.columns zs i) (artificial_at q.columns zs i)
      (row_at_columns q i zs) (row_value i h zs) artificials right in
      by h.row.kind refl left
    where
      number : form_number h.row.form (unknowns_at q.columns zs) +ℚ c ≡ (value h.row.form.constant +ℚ c) +ℚ linear_sum h.row.form (unknowns_at q.columns zs)
      number = ap (λ y. y +ℚ c) (form_is h.row.form (unknowns_at q.columns zs) h.scaled.sparse (narrow i h)) ∙ swapped (value h.row.form.constant) c (linear_sum h.row.form (unknowns_at q.columns zs))

      by : (k : RowKind) → h.row.kind ≡ k → value h.ints.factor *ℚ ((value h.row.form.constant +ℚ c) +ℚ linear_sum h.row.form (unknowns_at q.columns zs)) +ℚ slack_at q.columns zs i ≡ whole (pos 0)
          → StandsTo k (form_number h.row.form (unknowns_at q.columns zs) +ℚ c)
      by AtMost e g = subst (λ y. y ≤ℚ whole (pos 0)) (sym number) (excess_low (value h.ints.factor) _ (slack_at q.columns zs i) h.form.factor (slack_nonnegative zs i low) g)
      by Equal e g = number ∙ excess_none (value h.ints.factor) _ (slack_at q.columns zs i) h.form.factor (slack_none zs i (λ j l k. absurd (no_slack i h e j k))) g

  -- a row that the columns solve holds at the unknowns
  row_holds : (i : ℕ) (h : RowFacts i) (zs : List ℚ) → IsSolution q zs → StandsTo h.row.kind (form_number h.row.form (unknowns_at q.columns zs))
  row_holds i h zs solution =
      let right : whole (right_side_at q.rows i) ≡ turned_if h.ints.negated (value h.ints.factor *ℚ neg_ℚ (value h.row.form.constant)) =
      ap whole (mapped_at right_of q.rows i h.ints (pos 0) h.ints_is) ∙ h.scaled.right in
      subst (StandsTo h.row.kind) (+ℚ_idr (form_number h.row.form (unknowns_at q.columns zs)))
      (moved_holds zs solution.nonnegative solution.artificial i h (whole (pos 0))
      (solution.rows i (slice_get_within q.rows i h.ints h.ints_is) ∙ right ∙ ap (λ y. turned_if h.ints.negated (value h.ints.factor *ℚ neg_ℚ y)) (sym (+ℚ_idr (value h.row.form.constant)))))

  -- ---- the unknowns are of their kinds
  allows : (j v u : ℕ) (minus : Bool) (kind : UnknownKind) → j < length q.columns → kind_at q.columns j ≡ Unknown v minus → v ≡ u → slice_get rows.kinds u ≡ Some kind → Allows kind minus
  allows j v u minus kind l e d k =
      unknown_allowed rows.kinds s.starts j u minus kind (subst (λ ks. j < length ks) s.columns l) (sym (ap (λ ks. kind_at ks j) s.columns) ∙ e ∙ ap (λ w. Unknown w minus) d) k

  module _ (zs : List ℚ) (u : ℕ) (low : (j : ℕ) → j < length q.columns → whole (pos 0) ≤ℚ rat_at zs j) where
    part : ℕ → ℚ
    part j = column_part u (kind_at q.columns j) (rat_at zs j)

    part_above : slice_get rows.kinds u ≡ Some Nonneg → (j : ℕ) → j < length q.columns → whole (pos 0) ≤ℚ part j
    unfolding part
    part_above d j l = by (kind_at q.columns j) refl
      where
        kept : (minus : Bool) → Allows Nonneg minus → whole (pos 0) ≤ℚ turned_if minus (rat_at zs j)
        kept true a = absurd a
        kept false a = low j l

        test : (v : ℕ) (minus b : Bool) → kind_at q.columns j ≡ Unknown v minus → nat_eq v u ≡ b → whole (pos 0) ≤ℚ (if b then turned_if minus (rat_at zs j) else whole (pos 0))
        test v minus true e t = let f : v ≡ u = grind (arith, nat_tests) in kept minus (allows j v u minus Nonneg l e f d)
        test v minus false e t = ≤ℚ_refl (whole (pos 0))

        by : (k : ColumnKind) → kind_at q.columns j ≡ k → whole (pos 0) ≤ℚ column_part u k (rat_at zs j)
        by (Unknown v minus) e = test v minus (nat_eq v u) e refl
        by (Slack r) e = ≤ℚ_refl (whole (pos 0))
        by (Artificial r) e = ≤ℚ_refl (whole (pos 0))

    part_below : slice_get rows.kinds u ≡ Some Nonpos → (j : ℕ) → j < length q.columns → part j ≤ℚ whole (pos 0)
    unfolding part
    part_below d j l = by (kind_at q.columns j) refl
      where
        kept : (minus : Bool) → Allows Nonpos minus → turned_if minus (rat_at zs j) ≤ℚ whole (pos 0)
        kept true a = subst (λ y. neg_ℚ (rat_at zs j) ≤ℚ y) neg_ℚ-zero (neg_ℚ-≤ℚ (low j l))
        kept false a = absurd a

        test : (v : ℕ) (minus b : Bool) → kind_at q.columns j ≡ Unknown v minus → nat_eq v u ≡ b → (if b then turned_if minus (rat_at zs j) else whole (pos 0)) ≤ℚ whole (pos 0)
        test v minus true e t = let f : v ≡ u = grind (arith, nat_tests) in kept minus (allows j v u minus Nonpos l e f d)
        test v minus false e t = ≤ℚ_refl (whole (pos 0))

        by : (k : ColumnKind) → kind_at q.columns j ≡ k → column_part u k (rat_at zs j) ≤ℚ whole (pos 0)
        by (Unknown v minus) e = test v minus (nat_eq v u) e refl
        by (Slack r) e = ≤ℚ_refl (whole (pos 0))
        by (Artificial r) e = ≤ℚ_refl (whole (pos 0))

    is_of_kind : (k : UnknownKind) → slice_get rows.kinds u ≡ Some k → IsOfKind k (unknowns_at q.columns zs u)
    unfolding part
    is_of_kind Free d = tt
    is_of_kind Nonneg d = rat_sum_below-nonnegative (length q.columns) part (part_above d)
    is_of_kind Nonpos d = subst (λ y. unknowns_at q.columns zs u ≤ℚ y) (rat_sum_below-zero (length q.columns)) (rat_sum_below-monotone (length q.columns) part (λ j. whole (pos 0)) (part_below d))

  pub kinds_hold : (zs : List ℚ) → ((j : ℕ) → j < length q.columns → whole (pos 0) ≤ℚ rat_at zs j) → AreOfKinds rows.kinds (unknowns_at q.columns zs)
  kinds_hold zs low u kind e = is_of_kind zs u low kind e

  -- ---- solutions of the program
  pub solution_of : (zs : List ℚ) → IsSolution q zs → linear_rows.IsSolution (linear_program rows) (unknowns_at q.columns zs)
  solution_of zs solution = record {
    kinds = kinds_hold zs solution.nonnegative;
    rows = λ i r e.
        let o = mapped row_at rows.rows i r e in
        let h = facts_of i o.0 o.1 in
        subst (λ (ra : RowAt). StandsTo ra.kind (ra.number (unknowns_at q.columns zs))) (row_facts_at i o.0 o.1 r o.2) (row_holds i h zs solution);
  }
    where
      row_facts_at : (i : ℕ) (row : Row Frac) (e : slice_get rows.rows i ≡ Some row) (r : RowAt) → row_at row ≡ r → row_at (facts_of i row e).row ≡ r
      row_facts_at i row e r d = d

  -- the cost at the columns is the objective at the unknowns
  pub cost_is : (zs : List ℚ) → cost_at_columns q.objective zs ≡ form_number rows.objective (unknowns_at q.columns zs)
  cost_is zs =
      let c = q.form.cost in
      let sum = cost_sum n (λ u. value (coefficient_at rows.objective.terms u)) q.columns zs (whole q.objective.lead) q.objective.entries c.width c.told
      (λ j u minus l e. (below_of j u minus l e, s.cost.unknown j u minus l e)) in
      cost_over (whole q.objective.lead) (linear_sum rows.objective (unknowns_at q.columns zs)) (value rows.objective.constant)
      (whole q.objective.right) _ (whole-<ℤ (pos 0) q.objective.lead c.lead) sum s.cost.right
      ∙ sym (form_is rows.objective (unknowns_at q.columns zs) s.cost.sparse known.objective_known)

  -- row i of the program, without slack and artificial, is the form
  pub form_of : (i : ℕ) (h : RowFacts i) (zs : List ℚ) → artificial_at q.columns zs i ≡ whole (pos 0) → slack_at q.columns zs i ≡ whole (pos 0)
      → form_at q i zs ≡ form_number h.row.form (unknowns_at q.columns zs)
  form_of i h zs none slack =
      let f = value h.ints.factor in
      let x = unknowns_at q.columns zs in
      let right : whole (right_side_at q.rows i) ≡ turned_if h.ints.negated (f *ℚ neg_ℚ (value h.row.form.constant)) = ap whole (mapped_at right_of q.rows i h.ints (pos 0) h.ints_is)
      ∙ h.scaled.right in
      ap₂ (λ b y. turned_if b (row_at_columns q i zs -ℚ whole (right_side_at q.rows i)) /ℚ y) (mapped_at is_negated q.rows i h.ints false h.ints_is) (factor_at i h)
      ∙ unscaled h.ints.negated f (linear_sum h.row.form x) (value h.row.form.constant) (slack_at q.columns zs i) (artificial_at q.columns zs i) (whole (right_side_at q.rows i))
      (row_at_columns q i zs) h.form.factor (row_value i h zs) none slack right
      ∙ sym (form_is h.row.form x h.scaled.sparse (narrow i h))
    where
      factor_at : (i : ℕ) (h : RowFacts i) → rat_at (map row_factor q.rows) i ≡ value h.ints.factor
      factor_at i h = sym (rat_at-get_or (map row_factor q.rows) i) ∙ mapped_at row_factor q.rows i h.ints (whole (pos 0)) h.ints_is
