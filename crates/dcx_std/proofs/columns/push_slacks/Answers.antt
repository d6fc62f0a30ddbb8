-- One more row has its slack where it is no equality.
use Rattle.std.proofs.Common.{[], ◌∷◌, ◌++◌, ◌<◌, length, take, sym, ap, ◌∙◌, append_assoc, arith}
use Rattle.std.specs.Prelude.{if◌then◌else◌}
use Rattle.dcx_tab.specs.declared.rows.ColumnKind.TheVariants.{Slack}
use Rattle.dcx_std.specs.Columns.{has_slack, slack_columns}
use Rattle.dcx_std.proofs.Making.{marked_next}
use Rattle.dcx_std.proofs.columns.push_slacks.Goals as goal

pub starts-preserved : goal.starts-preserved
starts-preserved c =
    let ss = c.args.starts.now in
    let i = c.starts.row in
    let old = c.args.columns.now.items in
    let within : i < length ss = omega arith in
    let next = marked_next Slack has_slack ss i within _ c.is_slack_there-is_wanted.ensures in
    c.in_ok-push_where.ensures ∙ ap (λ a. a ++ (if c.is_slack_there-is_wanted.result then Slack i ∷ [] else [])) c.starts.invariant
    ∙ append_assoc old (slack_columns (take i ss)) (if c.is_slack_there-is_wanted.result then Slack i ∷ [] else [])
    ∙ ap (λ ks. old ++ ks) (sym next)
