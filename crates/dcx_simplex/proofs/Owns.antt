-- Each row has one own column.
use Rattle.std.proofs.Common.{◌≡◌, ◌≢◌, ℕ, ◌<◌, ◌≤◌, List, length, false, refl, sym, ap, ◌∙◌, ◌⊎◌, inl, inr}
use Rattle.std.proofs.lemmas.Bool.{cases_lt, cases_eq}
use Rattle.std.proofs.lemmas.List.{get_or_past}
use Rattle.dcx_tab.specs.declared.rows.ColumnKind.{ColumnKind}
use Rattle.dcx_tab.specs.declared.rows.ColumnKind.TheVariants.{Unknown, Slack, Artificial}
use Rattle.dcx_tab.specs.declared.rows.IntRow.{IntRow}
use Rattle.dcx_tab.specs.declared.rows.CostRow.{CostRow}
use Rattle.dcx_tab.specs.Program.{IsProgram, kind_at}
use Rattle.dcx_simplex.specs.Reading.{IsOwnColumn}

slack_low_by : (kinds : List ColumnKind) (j i : ℕ) → kind_at kinds j ≡ Slack i → (j < length kinds) ⊎ (length kinds ≤ j) → j < length kinds
slack_low_by kinds j i e (inl l) = l
slack_low_by kinds j i e (inr l) = let f = sym (get_or_past kinds j (Unknown 0 false) l) ∙ e in cc

pub slack_low : (kinds : List ColumnKind) (j i : ℕ) → kind_at kinds j ≡ Slack i → j < length kinds
slack_low kinds j i e = slack_low_by kinds j i e (cases_lt j (length kinds))

artificial_low_by : (kinds : List ColumnKind) (j i : ℕ) → kind_at kinds j ≡ Artificial i → (j < length kinds) ⊎ (length kinds ≤ j) → j < length kinds
artificial_low_by kinds j i e (inl l) = l
artificial_low_by kinds j i e (inr l) = let f = sym (get_or_past kinds j (Unknown 0 false) l) ∙ e in cc

pub artificial_low : (kinds : List ColumnKind) (j i : ℕ) → kind_at kinds j ≡ Artificial i → j < length kinds
artificial_low kinds j i e = artificial_low_by kinds j i e (cases_lt j (length kinds))

slack_or_by : (k : ColumnKind) (i r : ℕ) → k ≡ Slack r → (r ≡ i) ⊎ (r ≢ i) → (k ≡ Slack i) ⊎ (k ≢ Slack i)
slack_or_by k i r e (inl s) = inl (e ∙ ap Slack s)
slack_or_by k i r e (inr n) = inr (λ f. n (let h : Slack r ≡ Slack i = sym e ∙ f in cc))

-- a column is the slack of row i or isn't
pub slack_or : (k : ColumnKind) (i : ℕ) → (k ≡ Slack i) ⊎ (k ≢ Slack i)
slack_or (Unknown u n) i = inr (λ e. cc)
slack_or (Slack r) i = slack_or_by (Slack r) i r refl (cases_eq r i)
slack_or (Artificial r) i = inr (λ e. cc)

own_low_by : (kinds : List ColumnKind) (i j : ℕ) → IsOwnColumn kinds i j → (kind_at kinds j ≡ Slack i) ⊎ (kind_at kinds j ≢ Slack i) → j < length kinds
own_low_by kinds i j own (inl e) = slack_low kinds j i e
own_low_by kinds i j own (inr n) = artificial_low kinds j i (own.kind n)

pub own_low : (kinds : List ColumnKind) (i j : ℕ) → IsOwnColumn kinds i j → j < length kinds
own_low kinds i j own = own_low_by kinds i j own (slack_or (kind_at kinds j) i)

module _ (rows : List IntRow) (kinds : List ColumnKind) (objective phase : CostRow) (form : IsProgram rows kinds objective phase) where
  unique_by : (i j k : ℕ) → IsOwnColumn kinds i j → IsOwnColumn kinds i k → (kind_at kinds j ≡ Slack i) ⊎ (kind_at kinds j ≢ Slack i) → j ≡ k
  unique_by i j k a b (inl e) = form.one_slack j k i e (b.first j e)
  unique_by i j k a b (inr n) =
      let m : kind_at kinds k ≢ Slack i = λ e. n (a.first k e) in
      sym (form.starting j i (a.kind n)) ∙ form.starting k i (b.kind m)

  pub own_unique : (i j k : ℕ) → IsOwnColumn kinds i j → IsOwnColumn kinds i k → j ≡ k
  own_unique i j k a b = unique_by i j k a b (slack_or (kind_at kinds j) i)
