-- The own column of each row, found in the list of kinds.
use Rattle.std.proofs.Common.{◌≡◌, ◌≢◌, ℕ, zero, suc, ◌<◌, Bool, true, false, nat_eq, List, [], ◌∷◌, length, refl, sym, ap, ◌∙◌, subst, ℤ, pos, negsuc, ◌⊎◌, inl, inr}
use Rattle.std.specs.Prelude.{if◌then◌else◌}
use Rattle.std.proofs.lemmas.Bool.{or_left, or_right, or_from, eq-eqb, ne_eqb}
use Rattle.dcx_tab.specs.declared.rows.ColumnKind.{ColumnKind}
use Rattle.dcx_tab.specs.declared.rows.ColumnKind.TheVariants.{Unknown, Slack, Artificial}
use Rattle.dcx_tab.specs.declared.program.Program.{Program}
use Rattle.dcx_tab.specs.Rows.{entry}
use Rattle.dcx_tab.specs.Program.{kind_at, told_entry, unknown_entry, entries_at, entries_of, is_negated_at, is_negated, first_basic_at, first_basic_of}
use Rattle.dcx_tab.proofs.Programs.{has_row, map_at}
use Rattle.dcx_simplex.specs.Reading.{IsOwnColumn}
use Rattle.dcx_lp_answer.specs.Right.{is_slack_of, is_inequality}
use Rattle.dcx_simplex.proofs.ReadLists.{starts_by}
use Rattle.dcx_simplex.proofs.Owns.{slack_or, own_low}
use Rattle.dcx_simplex.proofs.Starts.{told_artificial_own}

slack_test : (k : ColumnKind) (i : ℕ) → k ≡ Slack i → is_slack_of i k ≡ true
slack_test (Unknown u n) i e = cc
slack_test (Slack r) i e = let f : i ≡ r = cc in eq-eqb r i (sym f)
slack_test (Artificial r) i e = cc

not_slack_test : (k : ColumnKind) (i : ℕ) → k ≢ Slack i → is_slack_of i k ≡ false
not_slack_test (Unknown u n) i m = refl
not_slack_test (Slack r) i m = ne_eqb r i (λ e. m (ap Slack e))
not_slack_test (Artificial r) i m = refl

-- a row has a slack or none
pub record HasSlack (kinds : List ColumnKind) (i : ℕ) : Type 0 where
  pub column : ℕ
  pub is : kind_at kinds column ≡ Slack i
  pub inequality : is_inequality kinds i ≡ true

pub record HasNone (kinds : List ColumnKind) (i : ℕ) : Type 0 where
  pub none : (j : ℕ) → kind_at kinds j ≢ Slack i
  pub equality : is_inequality kinds i ≡ false

none_more : (k : ColumnKind) (kinds : List ColumnKind) (i : ℕ) → k ≢ Slack i → ((j : ℕ) → kind_at kinds j ≢ Slack i) → (j : ℕ) → kind_at (k ∷ kinds) j ≢ Slack i
none_more k kinds i n h zero = n
none_more k kinds i n h (suc j) = h j

find_by : (k : ColumnKind) (kinds : List ColumnKind) (i : ℕ) → (k ≡ Slack i) ⊎ (k ≢ Slack i) → HasSlack kinds i ⊎ HasNone kinds i → HasSlack (k ∷ kinds) i ⊎ HasNone (k ∷ kinds) i
find_by k kinds i (inl e) h = inl (record { column = 0; is = e; inequality = or_left _ _ (slack_test k i e) })
find_by k kinds i (inr n) (inl s) = inl (record { column = suc s.column; is = s.is; inequality = or_right (is_slack_of i k) _ s.inequality })
find_by k kinds i (inr n) (inr s) = inr (record { none = none_more k kinds i n s.none; equality = or_from _ _ (not_slack_test k i n) s.equality })

pub find_slack : (kinds : List ColumnKind) (i : ℕ) → HasSlack kinds i ⊎ HasNone kinds i
find_slack [] i = inr (record { none = λ j e. cc; equality = refl })
find_slack (k ∷ kinds) i = find_by k kinds i (slack_or k i) (find_slack kinds i)

-- the own column of row i: a slack where the row is an inequality, or an artificial where it is an equality
pub record Own (kinds : List ColumnKind) (i : ℕ) : Type 0 where
  pub column : ℕ
  pub own : IsOwnColumn kinds i column
  pub kind : ((kind_at kinds column ≡ Slack i) × (is_inequality kinds i ≡ true)) ⊎ ((kind_at kinds column ≡ Artificial i) × (is_inequality kinds i ≡ false))

module _ (p : Program) where
  own_by : (i : ℕ) → i < length p.rows → HasSlack p.columns i ⊎ HasNone p.columns i → Own p.columns i
  own_by i h (inl s) = record {
    column = s.column;
    own = record { kind = λ n. absurd (n s.is); first = λ k e. s.is };
    kind = inl (s.is, s.inequality);
  }
  own_by i h (inr s) =
      let r = has_row p.rows i h in
      let f = p.form.each_row i r.row r.is in
      let b = map_at first_basic_of p.rows i r.row 0 r.is in
      let a : kind_at p.columns (first_basic_at p.rows i) ≡ Artificial i = ap (kind_at p.columns) b
      ∙ starts_by p.columns i (first_basic_of r.row) r.row.negated (kind_at p.columns r.row.basic) refl f.starts (s.none (first_basic_of r.row)) in
      record {
        column = first_basic_at p.rows i;
        own = record { kind = λ n. a; first = λ k e. absurd (s.none k e) };
        kind = inr (a, s.equality);
      }

  pub own_of : (i : ℕ) → i < length p.rows → Own p.columns i
  own_of i h = own_by i h (find_slack p.columns i)

  -- ---- what the rows and the cost have at own columns
  told : (l j : ℕ) → l < length p.rows → j < length p.columns → entry (entries_at p.rows l) j ≡ told_entry l (is_negated_at p.rows l) (kind_at p.columns j) (entry (entries_at p.rows l) j)
  told l j h k =
      let r = has_row p.rows l h in
      let e = sym (map_at entries_of p.rows l r.row [] r.is) in
      let f = sym (map_at is_negated p.rows l r.row false r.is) in
      subst (λ es. entry es j ≡ told_entry l (is_negated_at p.rows l) (kind_at p.columns j) (entry es j)) e
      (subst (λ b. entry r.row.entries j ≡ told_entry l b (kind_at p.columns j) (entry r.row.entries j)) f ((p.form.each_row l r.row r.is).told j k))

  none_slack : (k : ColumnKind) (l i : ℕ) (negated : Bool) (z : ℤ) → k ≡ Slack i → l ≢ i → told_entry l negated k z ≡ pos 0
  none_slack (Unknown u n) l i negated z e m = cc
  none_slack (Slack r) l i negated z e m = let f : r ≡ i = cc in let d = ne_eqb r l (λ q. m (sym q ∙ f)) in rw d refl
  none_slack (Artificial r) l i negated z e m = cc

  none_artificial : (k : ColumnKind) (l i : ℕ) (negated : Bool) (z : ℤ) → k ≡ Artificial i → l ≢ i → told_entry l negated k z ≡ pos 0
  none_artificial (Unknown u n) l i negated z e m = cc
  none_artificial (Slack r) l i negated z e m = cc
  none_artificial (Artificial r) l i negated z e m = let f : r ≡ i = cc in let d = ne_eqb r l (λ q. m (sym q ∙ f)) in rw d refl

  own_slack : (k : ColumnKind) (i : ℕ) (negated : Bool) (z : ℤ) → k ≡ Slack i → told_entry i negated k z ≡ (if negated then negsuc 0 else pos 1)
  own_slack (Unknown u n) i negated z e = cc
  own_slack (Slack r) i negated z e = let f : r ≡ i = cc in let d : nat_eq r i ≡ true = eq-eqb r i f in rw d refl
  own_slack (Artificial r) i negated z e = cc

  none_cost : (k : ColumnKind) (i : ℕ) (z : ℤ) → (k ≡ Slack i) ⊎ (k ≡ Artificial i) → unknown_entry k z ≡ pos 0
  none_cost (Unknown u n) i z (inl e) = cc
  none_cost (Unknown u n) i z (inr e) = cc
  none_cost (Slack r) i z e = refl
  none_cost (Artificial r) i z e = refl

  other_by : (i l : ℕ) → l < length p.rows → (o : Own p.columns i) → l ≢ i
      → ((kind_at p.columns o.column ≡ Slack i) × (is_inequality p.columns i ≡ true)) ⊎ ((kind_at p.columns o.column ≡ Artificial i) × (is_inequality p.columns i ≡ false))
      → entry (entries_at p.rows l) o.column ≡ pos 0
  other_by i l h o n (inl k) = told l o.column h (own_low p.columns i o.column o.own)
      ∙ none_slack (kind_at p.columns o.column) l i (is_negated_at p.rows l) (entry (entries_at p.rows l) o.column) k.0 n
  other_by i l h o n (inr k) = told l o.column h (own_low p.columns i o.column o.own)
      ∙ none_artificial (kind_at p.columns o.column) l i (is_negated_at p.rows l) (entry (entries_at p.rows l) o.column) k.0 n

  -- another row has 0 there
  pub own_other : (i l : ℕ) → l < length p.rows → (o : Own p.columns i) → l ≢ i → entry (entries_at p.rows l) o.column ≡ pos 0
  own_other i l h o n = other_by i l h o n o.kind

  -- the row itself has 1, or -1 where it is an inequality that was negated
  pub sign_slack : (i : ℕ) → i < length p.rows → (o : Own p.columns i) → kind_at p.columns o.column ≡ Slack i
      → entry (entries_at p.rows i) o.column ≡ (if is_negated_at p.rows i then negsuc 0 else pos 1)
  sign_slack i h o e = told i o.column h (own_low p.columns i o.column o.own) ∙ own_slack (kind_at p.columns o.column) i (is_negated_at p.rows i) (entry (entries_at p.rows i) o.column) e

  pub sign_artificial : (i : ℕ) → i < length p.rows → (o : Own p.columns i) → kind_at p.columns o.column ≡ Artificial i → entry (entries_at p.rows i) o.column ≡ pos 1
  sign_artificial i h o e = told i o.column h (own_low p.columns i o.column o.own)
      ∙ told_artificial_own (kind_at p.columns o.column) i (is_negated_at p.rows i) (entry (entries_at p.rows i) o.column) e

  either_kind : {A B C D : Type 0} → (A × B) ⊎ (C × D) → A ⊎ C
  either_kind (inl k) = inl k.0
  either_kind (inr k) = inr k.0

  -- the cost has 0 there
  pub own_cost : (i : ℕ) (o : Own p.columns i) → entry p.objective.entries o.column ≡ pos 0
  own_cost i o = p.form.cost.told o.column (own_low p.columns i o.column o.own) ∙ none_cost (kind_at p.columns o.column) i (entry p.objective.entries o.column) (either_kind o.kind)
