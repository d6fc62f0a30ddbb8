-- The left side first, and then the right side.
use Rattle.std.proofs.Common.{◌≡◌, sym, subst, Ok, Err, OnOk, IfErr}
use Rattle.std.proofs.lemmas.Result.{err_from_is_err_and}
use Rattle.dcx_cert_collect.specs.Multipliers.{array_shares, negated_shares}
use Rattle.dcx_cert_collect.proofs.Sharing.{shares-after, shares-stopped}
use Rattle.dcx_cert_collect.proofs.multipliers.add_constraint.Goals as goal

pub returns-in_err-add_array-clause-passes : goal.returns-in_err-add_array-clause-passes
returns-in_err-add_array-clause-passes c =
    let r = err_from_is_err_and c.from_residual.result c.from_residual.ensures.1 in
    let nodes = c.args.tree.now in
    rw (r.1, r.2) (shares-stopped c.args.table.now.items (array_shares nodes c.args.constraint.now.left.0 c.args.array.now) (negated_shares nodes c.args.constraint.now.right.0 c.args.array.now)
    c.in_err-add_array.field-0.0 c.in_err-add_array.ensures.passes)

pub returns-clause-ok : goal.returns-clause-ok
returns-clause-ok c =
    let nodes = c.args.tree.now in
    subst (λ r. OnOk c.add_negated.result (r ≡ Ok c.add_negated.new.table.items))
    (sym (shares-after c.args.table.now.items c.add_array.new.table.items (array_shares nodes c.args.constraint.now.left.0 c.args.array.now)
    (negated_shares nodes c.args.constraint.now.right.0 c.args.array.now) c.in_ok-add_array.ensures.ok))
    c.add_negated.ensures.ok

pub returns-clause-passes : goal.returns-clause-passes
returns-clause-passes c =
    let nodes = c.args.tree.now in
    subst (λ r. IfErr c.add_negated.result (λ p. r ≡ Err p))
    (sym (shares-after c.args.table.now.items c.add_array.new.table.items (array_shares nodes c.args.constraint.now.left.0 c.args.array.now)
    (negated_shares nodes c.args.constraint.now.right.0 c.args.array.now) c.in_ok-add_array.ensures.ok))
    c.add_negated.ensures.passes
