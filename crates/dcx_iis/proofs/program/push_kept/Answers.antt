-- All rows of the constraint are added where it is kept, and none where it isn't.
use Rattle.std.proofs.Common.{◌≡◌, ◌++◌, [], Bool, if◌then◌else◌, OnOk, sym, ap, ◌∙◌, subst, append-nil}
use Rattle.dcx_iis.proofs.program.push_kept.Goals as goal

pub returns-then-kept : goal.returns-then-kept
returns-then-kept c =
    subst (λ (b : Bool). OnOk c.push_rows.result (c.push_rows.new.copies.items ≡ c.args.copies.now.items ++ (if b then c.args.rows.now else []))) (sym c.if-kept.true) c.push_rows.ensures

pub returns-else-kept : goal.returns-else-kept
returns-else-kept c = sym (ap (λ (b : Bool). c.args.copies.now.items ++ (if b then c.args.rows.now else [])) c.if-kept.false ∙ append-nil c.args.copies.now.items)
