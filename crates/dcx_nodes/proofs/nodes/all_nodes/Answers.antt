-- What is formed is kept.
use Rattle.std.proofs.Common.{sym, ◌∙◌, add-zero}
use Rattle.dcx_unknowns.specs.Unknowns.{variable_unknowns}
use Rattle.dcx_nodes.proofs.OneMore.{none_formed, all_kept}
use Rattle.dcx_nodes.proofs.nodes.all_nodes.Goals as goal

pub add_nodes-requires-clause-none : goal.add_nodes-requires-clause-none
add_nodes-requires-clause-none g c =
    let t = g.C.Coef in
    none_formed t.of_number t.number_of t.sum_gives t.change_gives t.parameter_gives c.args.given.now.problem.now c.args.given.now.setting.now c.args.given.now.reduced.now
    c.args.given.now.fixed.now _ c.new.ensures.items c.new-2.ensures.items (c.requires.next ∙ sym (add-zero (variable_unknowns c.args.given.now.problem.now.variables)))

pub returns-in-Ok-add_nodes-clause-formed : goal.returns-in-Ok-add_nodes-clause-formed
returns-in-Ok-add_nodes-clause-formed g c =
    let t = g.C.Coef in
    all_kept t.of_number t.number_of t.sum_gives t.change_gives t.parameter_gives c.args.given.now.problem.now c.args.given.now.setting.now c.args.given.now.reduced.now c.args.given.now.fixed.now
    c.add_nodes.new.forming _ c.in-Ok-add_nodes.ensures.formed c.from_vec.ensures c.from_vec-in-Ok-add_nodes.ensures
