-- Counts that are capped at the largest number of 32 bits pass the limits exactly where the counts do.
use Rattle.std.proofs.Common.{◌≡◌, ℕ, ◌+◌, ◌<◌, ◌≤◌, ◌⊎◌, inl, inr, List, length, refl, ap, ap₂, ◌∙◌, arith}
use Rattle.std.specs.Prelude.{min, sum_by}
use Rattle.dcx_frac.specs.declared.fraction.Frac.{Frac}
use Rattle.dcx_linear.specs.declared.row.Row.{Row}
use Rattle.dcx_linear.specs.declared.row.UnknownKind.{UnknownKind}
use Rattle.dcx_linear.specs.Size.{capped, columns_for}
use Rattle.dcx_std.specs.Size.{slacks_for, column_count}
use Rattle.dcx_std.specs.declared.stop.RowStop.TheVariants.{TooLarge}
use Rattle.dcx_std.proofs.size.check_size.Goals as goal

-- the capped sum of capped numbers is the capped sum
capped_sum : (k u s n m : ℕ) → k ≡ min (u + s) 4294967295 → u ≡ capped n → s ≡ capped m → k ≡ capped (n + m)
capped_sum k u s n m e eu es = omega arith

-- a small capped number is the number
both_fit : (rows columns n m : ℕ) → rows ≡ capped n → columns ≡ capped m → rows ≤ 600 → columns ≤ 2400 → (n ≤ 600) × (m ≤ 2400)
both_fit rows columns n m e d h k = (omega arith, omega arith)

one_is_larger : (rows columns n m : ℕ) → rows ≡ capped n → columns ≡ capped m → (600 < rows) ⊎ ((rows ≤ 600) × (2400 < columns)) → n ≤ 600 → m ≤ 2400 → ⊥
one_is_larger rows columns n m e d (inl h) k l = omega arith
one_is_larger rows columns n m e d (inr h) k l = omega arith

pub returns : goal.returns
returns c =
    let rows = c.args.rows.now.rows in
    let kinds = c.args.rows.now.kinds in
    let count = c.capped_length-count.ensures ∙ ap (λ (rs : List (Row Frac)). capped (length rs)) c.as_slice-list.ensures in
    let unknowns = c.unknown_columns.ensures ∙ ap (λ (ks : List UnknownKind). capped (sum_by columns_for ks)) c.as_slice.ensures in
    let slacks = c.slack_columns.ensures ∙ ap (λ (rs : List (Row Frac)). capped (sum_by (λ r. slacks_for r.kind) rs)) c.as_slice-list.ensures in
    let columns = capped_sum c.saturating_add-columns.result c.unknown_columns.result c.slack_columns.result (sum_by columns_for kinds)
    (sum_by (λ r. slacks_for r.kind) rows) c.saturating_add-columns.ensures unknowns slacks in
    record {
      fits = (
        λ e. both_fit c.capped_length-count.result c.saturating_add-columns.result (length rows) (column_count kinds rows) count columns c.if-count-gt600.false c.if-columns-gt2400.false,
        λ h. refl,
      );
      told = tt;
    }

pub returns-then-count-gt600-clause-fits : goal.returns-then-count-gt600-clause-fits
returns-then-count-gt600-clause-fits c =
    let rows = c.args.rows.now.rows in
    let kinds = c.args.rows.now.kinds in
    let count = c.capped_length-count.ensures ∙ ap (λ (rs : List (Row Frac)). capped (length rs)) c.as_slice-list.ensures in
    let unknowns = c.unknown_columns.ensures ∙ ap (λ (ks : List UnknownKind). capped (sum_by columns_for ks)) c.as_slice.ensures in
    let slacks = c.slack_columns.ensures ∙ ap (λ (rs : List (Row Frac)). capped (sum_by (λ r. slacks_for r.kind) rs)) c.as_slice-list.ensures in
    let columns = capped_sum c.saturating_add-columns.result c.unknown_columns.result c.slack_columns.result (sum_by columns_for kinds)
    (sum_by (λ r. slacks_for r.kind) rows) c.saturating_add-columns.ensures unknowns slacks in
    (λ e. cc, λ h. absurd (one_is_larger c.capped_length-count.result c.saturating_add-columns.result (length rows) (column_count kinds rows) count columns c.then-count-gt600.either h.0 h.1))

pub returns-then-count-gt600-clause-told : goal.returns-then-count-gt600-clause-told
returns-then-count-gt600-clause-told c =
    let rows = c.args.rows.now.rows in
    let kinds = c.args.rows.now.kinds in
    let unknowns = c.unknown_columns.ensures ∙ ap (λ (ks : List UnknownKind). capped (sum_by columns_for ks)) c.as_slice.ensures in
    let slacks = c.slack_columns.ensures ∙ ap (λ (rs : List (Row Frac)). capped (sum_by (λ r. slacks_for r.kind) rs)) c.as_slice-list.ensures in
    ap₂ TooLarge (c.capped_length-count.ensures ∙ ap (λ (rs : List (Row Frac)). capped (length rs)) c.as_slice-list.ensures)
    (capped_sum c.saturating_add-columns.result c.unknown_columns.result c.slack_columns.result (sum_by columns_for kinds)
    (sum_by (λ r. slacks_for r.kind) rows) c.saturating_add-columns.ensures unknowns slacks)
