-- What stands for the node is behind the others, of which some are given back.
use Rattle.std.proofs.Common.{◌≡◌, [], ◌∷◌, ◌++◌, length, sym, ap, ◌∙◌, subst, arith}
use Rattle.std.proofs.lemmas.List.{length_push, with_items_is}
use Rattle.std.proofs.lemmas.Result.{err_from_is_err_and}
use Rattle.dcx_arena.specs.Nodes.{positions}
use Rattle.dcx_nodes.specs.Uses.{IsGivenBack}
use Rattle.dcx_nodes.proofs.forming.put_standing.Goals as goal

pub give_back_last-requires-clause-standing : goal.give_back_last-requires-clause-standing
give_back_last-requires-clause-standing g c = λ k d lt.
    let low = c.requires.standing k d lt in
    let more = ap length (c.deref_mut.ensures.value ∙ c.in_ok-push_standing.ensures.ok) in
    let count = length_push c.args.standing.now.items c.args.kept in
    omega (arith, low, more, count)

pub give_back_last-requires-clause-uses : goal.give_back_last-requires-clause-uses
give_back_last-requires-clause-uses g c = c.requires.uses

pub returns-in_err-push_standing-clause-ok : goal.returns-in_err-push_standing-clause-ok
returns-in_err-push_standing-clause-ok g c = let p = err_from_is_err_and c.from_residual.result c.from_residual.ensures.1 in rw p.1 tt

pub returns-in_err-push_standing-clause-err : goal.returns-in_err-push_standing-clause-err
returns-in_err-push_standing-clause-err g c = let p = err_from_is_err_and c.from_residual.result c.from_residual.ensures.1 in rw (p.1, p.2) c.in_err-push_standing.ensures.err

pub returns-clause-ok : goal.returns-clause-ok
returns-clause-ok g c =
    let new = c.give_back_last.new.standing in
    let many : length new ≡ c.push_standing.new.standing.len = c.give_back_last.ensures.counted ∙ c.deref_mut.ensures.len in
    let all = c.args.standing.now.items ++ c.args.kept ∷ [] in
    subst (IsGivenBack c.args.uses.now c.args.node.0 (positions c.args.ids.now) all) (sym (with_items_is c.push_standing.new.standing new many))
    (subst (λ xs. IsGivenBack c.args.uses.now c.args.node.0 (positions c.args.ids.now) xs new) (c.deref_mut.ensures.value ∙ c.in_ok-push_standing.ensures.ok) c.give_back_last.ensures)
