-- One more row has its artificial where it starts with one.
use Rattle.std.proofs.Common.{[], ◌∷◌, ◌++◌, ◌<◌, length, take, sym, ap, ◌∙◌, append_assoc, arith}
use Rattle.std.specs.Prelude.{if◌then◌else◌}
use Rattle.dcx_tab.specs.declared.rows.ColumnKind.TheVariants.{Artificial}
use Rattle.dcx_std.specs.Columns.{needs_artificial, artificial_columns}
use Rattle.dcx_std.proofs.Making.{marked_next}
use Rattle.dcx_std.proofs.columns.push_artificials.Goals as goal

pub starts-preserved : goal.starts-preserved
starts-preserved c =
    let ss = c.args.starts.now in
    let i = c.starts.row in
    let old = c.args.columns.now.items in
    let within : i < length ss = omega arith in
    let next = marked_next Artificial needs_artificial ss i within _ c.is_artificial_there-is_wanted.ensures in
    c.in_ok-push_where.ensures ∙ ap (λ a. a ++ (if c.is_artificial_there-is_wanted.result then Artificial i ∷ [] else [])) c.starts.invariant
    ∙ append_assoc old (artificial_columns (take i ss)) (if c.is_artificial_there-is_wanted.result then Artificial i ∷ [] else [])
    ∙ ap (λ ks. old ++ ks) (sym next)
