-- One more row of the entry is added, under the next number.
use Rattle.std.proofs.Common.{◌≡◌, ◌+◌, ◌≤◌, [], ◌∷◌, ◌++◌, length, take, refl, sym, ap, ◌∙◌, subst, arith, rules}
use Rattle.std.proofs.lemmas.List.{append-nil, length_push, take_all}
use Rattle.std.proofs.lemmas.Iterator.Adapters.{YieldsList-from_vec}
use Rattle.std.proofs.lemmas.Iterator.Consumers.{YieldsList-turn, YieldsList-end}
use Rattle.dcx_nodes.proofs.GraphRows.{rows_made, rows_go_on}
use Rattle.dcx_nodes.proofs.rows.push_rows.Goals as goal

pub rows-init : goal.rows-init
rows-init g c = record { row_is = refl; rows_are = sym (append-nil c.args.rows.now.items) }

pub rows-preserved : goal.rows-preserved
rows-preserved g c =
    let t = g.C.Coef in
    let fs = c.into_vec-form-items.result.items in
    let turn = YieldsList-turn (YieldsList-from_vec {s = c.into_iter-form-iterator.result} fs (search rules) (search rules)) c.rows.yielded c.rows.form-iterator c.rows.yielded_by c.next.result
    c.next.new.self c.in-Some.form c.in-Some.is c.next.ensures.steps in
    rw length_push (record {
      row_is = c.in_ok-row.ensures ∙ ap (λ k. k + 1) c.rows.invariant.row_is;
      rows_are = subst (λ own. c.push_row.new.rows.items ≡ c.args.rows.now.items ++ rows_made t.of_number c.args.node.0 c.args.entry (take (length c.rows.yielded + 1) own))
          c.into_vec-form-items.ensures
          (rows_go_on t.of_number c.args.node.0 c.args.entry fs (length c.rows.yielded) c.in-Some.form c.args.rows.now.items c.rows.rows.items c.push_row.new.rows.items turn.0 turn.1
          (subst (λ own. c.rows.rows.items ≡ c.args.rows.now.items ++ rows_made t.of_number c.args.node.0 c.args.entry (take (length c.rows.yielded) own))
          (sym c.into_vec-form-items.ensures) c.rows.invariant.rows_are)
          (subst (λ k. c.push_row.new.rows.items ≡ c.rows.rows.items ++ record { node = c.args.node; entry = c.args.entry; row = k; form = c.in-Some.form }
          ∷ []) c.rows.invariant.row_is c.in_ok-push_row.ensures));
    })

pub returns : goal.returns
returns g c =
    let t = g.C.Coef in
    let fs = c.into_vec-form-items.result.items in
    let end = YieldsList-end (YieldsList-from_vec {s = c.into_iter-form-iterator.result} fs (search rules) (search rules)) c.rows.yielded c.rows.form-iterator c.rows.yielded_by c.next.result
    c.next.new.self c.in-None.is c.next.ensures.steps in
    let all : length c.args.own ≤ length c.rows.yielded = (let many = ap length c.into_vec-form-items.ensures in omega (arith, many, end.1)) in
    c.rows.invariant.rows_are ∙ ap (λ own. c.args.rows.now.items ++ rows_made t.of_number c.args.node.0 c.args.entry own) (take_all (length c.rows.yielded) c.args.own all)
