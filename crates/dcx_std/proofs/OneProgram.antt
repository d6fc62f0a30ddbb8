-- Rows have one scaled program, and one stop.
use Rattle.std.proofs.Common.{◌≡◌, ◌≢◌, ℕ, suc, Bool, true, false, List, [], ◌∷◌, map, length, Some, Result, Ok, refl, sym, ap, ap₂, ◌∙◌, subst, inl, inr}
use Rattle.std.specs.Prelude.{slice_get, if◌then◌else◌}
use Rattle.std.proofs.Props.{props}
use Rattle.std.proofs.lemmas.Option.{get_or_from_slice_get}
use mathlib.Core.HLevel.{is_prop→PathP}
use Rattle.dcx_frac.specs.declared.fraction.Passes.{Passes}
use Rattle.dcx_answer.specs.declared.site.Site.{Site}
use Rattle.dcx_answer.specs.declared.site.Site.TheVariants as sites
use Rattle.dcx_linear.specs.declared.row.UnknownKind.{UnknownKind}
use Rattle.dcx_tab.specs.declared.rows.ColumnKind.{ColumnKind}
use Rattle.dcx_tab.specs.declared.rows.ColumnKind.TheVariants.{Unknown, Slack, Artificial}
use Rattle.dcx_tab.specs.declared.rows.IntRow.{IntRow}
use Rattle.dcx_tab.specs.declared.rows.CostRow.{CostRow}
use Rattle.dcx_tab.specs.declared.program.Program.{Program}
use Rattle.dcx_tab.specs.Program.{IsProgram, kind_at, plain_count}
use Rattle.dcx_std.specs.declared.stop.RowStop.{RowStop}
use Rattle.dcx_std.specs.declared.stop.RowStop.TheVariants as stops
use Rattle.dcx_std.specs.declared.start.Start.{Start}
use Rattle.dcx_std.specs.declared.whole.WholeRow.{WholeRow}
use Rattle.dcx_std.specs.GivenRows.{GivenRows}
use Rattle.dcx_std.specs.Columns.{columns_of, needs_artificial, start_column}
use Rattle.dcx_std.specs.IntegerRows.{start_of, IsMadeOf, AreMadeOf, IsCostOf, phase_made, HasIntegerRows, IsFirstPassing, IsStopOf, IsMade}
use Rattle.dcx_std.proofs.ColumnLaws.{slack_once, artificial_once}

-- ---- one row
-- the whole rows that rows become are one list
one_made : (ws vs : List WholeRow) → map {B = Result WholeRow Passes} Ok ws ≡ map Ok vs → ws ≡ vs
one_made [] [] e = refl
one_made [] (v ∷ vs) e = cc
one_made (w ∷ ws) [] e = cc
one_made (w ∷ ws) (v ∷ vs) e =
    let first : w ≡ v = cc in
    let rest : map {B = Result WholeRow Passes} Ok ws ≡ map Ok vs = cc in
    ap₂ (λ x xs. x ∷ xs) first (one_made ws vs rest)

module _ (kinds : List UnknownKind) (starts : List Start) where
  abbrev all : List ColumnKind
  all = columns_of kinds starts

  kind_there : (j : ℕ) (k : ColumnKind) → slice_get all j ≡ Some k → kind_at all j ≡ k
  kind_there j k e = get_or_from_slice_get all j k (Unknown 0 false) e

  -- the column that is basic at first in a row stands at one place
  one_basic : (i : ℕ) (s : Start) (j k : ℕ) → slice_get all j ≡ Some (start_column i s) → slice_get all k ≡ Some (start_column i s) → j ≡ k
  one_basic i s j k = by (needs_artificial s)
    where
      by : (b : Bool) → slice_get all j ≡ Some (if b then Artificial i else Slack i) → slice_get all k ≡ Some (if b then Artificial i else Slack i) → j ≡ k
      by true e d = artificial_once kinds starts j k i (kind_there j (Artificial i) e) (kind_there k (Artificial i) d)
      by false e d = slack_once kinds starts j k i (kind_there j (Slack i) e) (kind_there k (Slack i) d)

  -- a whole row becomes one row
  one_row : (n i : ℕ) (w : WholeRow) (r t : IntRow) → IsMadeOf all n i w r → IsMadeOf all n i w t → r ≡ t
  one_row n i w r t h k = λ j. record {
    entries = (h.entries ∙ sym k.entries) j;
    right = (h.right ∙ sym k.right) j;
    basic = one_basic i (start_of n w) r.basic t.basic h.basic k.basic j;
    factor = (h.factor ∙ sym k.factor) j;
    negated = (h.negated ∙ sym k.negated) j;
  }

  one_rows : (n i : ℕ) (ws : List WholeRow) (rs ts : List IntRow) → AreMadeOf all n i ws rs → AreMadeOf all n i ws ts → rs ≡ ts
  one_rows n i [] [] [] h k = refl
  one_rows n i [] [] (t ∷ ts) h k = absurd k
  one_rows n i [] (r ∷ rs) ts h k = absurd h
  one_rows n i (w ∷ ws) [] ts h k = absurd h
  one_rows n i (w ∷ ws) (r ∷ rs) [] h k = absurd k
  one_rows n i (w ∷ ws) (r ∷ rs) (t ∷ ts) h k = ap₂ (λ x xs. x ∷ xs) (one_row n i w r t h.0 k.0) (one_rows n (suc i) ws rs ts h.1 k.1)

one_cost : (columns : List ColumnKind) (n : ℕ) (w : WholeRow) (c d : CostRow) → IsCostOf columns n w c → IsCostOf columns n w d → c ≡ d
one_cost columns n w c d h k = λ i. record {
  entries = (h.entries ∙ sym k.entries) i;
  lead = (h.lead ∙ sym k.lead) i;
  right = (h.right ∙ sym k.right) i;
}

-- ---- one program
-- rows have one list of columns, and one list of integer rows
record SameRows (columns other_columns : List ColumnKind) (ints other_ints : List IntRow) : Type 0 where
  columns_are : columns ≡ other_columns
  ints_are : ints ≡ other_ints

same_rows : (rows : GivenRows) (columns other_columns : List ColumnKind) (ints other_ints : List IntRow) → HasIntegerRows rows columns ints → HasIntegerRows rows other_columns other_ints
    → SameRows columns other_columns ints other_ints
same_rows rows columns other_columns ints other_ints h k =
    let n = length rows.kinds in
    let made : h.made ≡ k.made = one_made h.made k.made (sym h.are ∙ k.are) in
    let first : AreMadeOf (columns_of rows.kinds (map (start_of n) h.made)) n 0 h.made ints = subst (λ ks. AreMadeOf ks n 0 h.made ints) h.has_columns h.ints_are in
    let second : AreMadeOf (columns_of rows.kinds (map (start_of n) k.made)) n 0 k.made other_ints = subst (λ ks. AreMadeOf ks n 0 k.made other_ints) k.has_columns k.ints_are in
    let again : AreMadeOf (columns_of rows.kinds (map (start_of n) h.made)) n 0 h.made other_ints =
    subst (λ ws. AreMadeOf (columns_of rows.kinds (map (start_of n) ws)) n 0 ws other_ints) (sym made) second in
    record {
      columns_are = h.has_columns ∙ ap (λ ws. columns_of rows.kinds (map (start_of n) ws)) made ∙ sym k.has_columns;
      ints_are = one_rows rows.kinds (map (start_of n) h.made) n 0 h.made ints other_ints first again;
    }

-- and one phase 1 row, or one operation that passes in it
same_phase : (columns other_columns : List ColumnKind) (ints other_ints : List IntRow) → SameRows columns other_columns ints other_ints
    → phase_made (plain_count columns) (length columns) ints ≡ phase_made (plain_count other_columns) (length other_columns) other_ints
same_phase columns other_columns ints other_ints same = ap₂ (λ ks rs. phase_made (plain_count ks) (length ks) rs) same.columns_are same.ints_are

-- programs of the same parts are one, since the form has one proof
same_parts : (q r : Program) → q.rows ≡ r.rows → q.columns ≡ r.columns → q.objective ≡ r.objective → q.phase ≡ r.phase → q ≡ r
same_parts q r a b c d = λ i. record {
  rows = a i;
  columns = b i;
  objective = c i;
  phase = d i;
  form = is_prop→PathP (λ j. IsProgram (a j) (b j) (c j) (d j)) (λ j. hlevel props) q.form r.form i;
}

pub programs_are_one : (rows : GivenRows) (q r : Program) → IsMade rows q → IsMade rows r → q ≡ r
programs_are_one rows q r h k =
    let same = same_rows rows q.columns r.columns q.rows r.rows h.integer k.integer in
    let cost : h.cost ≡ k.cost = (let e = h.cost_is in let d = k.cost_is in cc) in
    let objective : IsCostOf q.columns (length rows.kinds) h.cost r.objective =
    subst (λ ks. IsCostOf ks (length rows.kinds) h.cost r.objective) (sym same.columns_are) (subst (λ w. IsCostOf r.columns (length rows.kinds) w r.objective) (sym cost) k.objective) in
    let phase = sym h.phase ∙ same_phase q.columns r.columns q.rows r.rows same ∙ k.phase in
    same_parts q r same.ints_are same.columns_are (one_cost q.columns (length rows.kinds) h.cost q.objective r.objective h.objective objective) (cc)

-- ---- one stop
-- no operation passes where a program is made
made_or_passes : (rows : GivenRows) (q : Program) (site : Site) → IsMade rows q → IsFirstPassing rows site → ⊥
made_or_passes rows q site h (inl e) = let d = h.passes in cc
made_or_passes rows q site h (inr p) =
    let same = same_rows rows q.columns p.columns q.rows p.ints h.integer p.integer in
    let e = sym h.phase ∙ same_phase q.columns p.columns q.rows p.ints same ∙ p.here in
    cc

pub made_or_stopped : (rows : GivenRows) (q : Program) (stop : RowStop) → IsMade rows q → IsStopOf rows stop → stop ≡ stops.Memory
made_or_stopped rows q (stops.TooLarge r c) h s = absurd (s.0 h.fits)
made_or_stopped rows q (stops.Wide site) h s = absurd (made_or_passes rows q site h s.1)
made_or_stopped rows q stops.Memory h s = refl

-- the first operation that passes stands at one site
one_site : (rows : GivenRows) (a b : Site) → IsFirstPassing rows a → IsFirstPassing rows b → a ≡ b
one_site rows a b (inl e) (inl d) = cc
one_site rows a b (inl e) (inr p) = let d = p.before in absurd (cc)
one_site rows a b (inr p) (inl d) = let e = p.before in absurd (cc)
one_site rows a b (inr p) (inr o) =
    let same = same_rows rows p.columns o.columns p.ints o.ints p.integer o.integer in
    let e = sym p.here ∙ same_phase p.columns o.columns p.ints o.ints same ∙ o.here in
    let passes : p.passes ≡ o.passes = cc in
    p.at ∙ ap (sites.Row (suc (length rows.rows))) passes ∙ sym o.at

pub stops_are_one : (rows : GivenRows) (s t : RowStop) → IsStopOf rows s → IsStopOf rows t → s ≢ stops.Memory → t ≢ stops.Memory → s ≡ t
stops_are_one rows stops.Memory t h k n m = absurd (n refl)
stops_are_one rows (stops.TooLarge r c) stops.Memory h k n m = absurd (m refl)
stops_are_one rows (stops.TooLarge r c) (stops.TooLarge a b) h k n m = ap₂ stops.TooLarge (h.1 ∙ sym k.1) (h.2 ∙ sym k.2)
stops_are_one rows (stops.TooLarge r c) (stops.Wide site) h k n m = absurd (h.0 k.0)
stops_are_one rows (stops.Wide site) stops.Memory h k n m = absurd (m refl)
stops_are_one rows (stops.Wide site) (stops.TooLarge a b) h k n m = absurd (k.0 h.0)
stops_are_one rows (stops.Wide site) (stops.Wide other) h k n m = ap stops.Wide (one_site rows site other h.1 k.1)
