-- The variable is listed, and its unknowns are its own.
use Rattle.std.proofs.Common.{◌≡◌, [], get_or, map, ap, ◌∙◌, arith}
use Rattle.dcx_tree.proofs.Few.{few_variables}
use Rattle.dcx_tree.specs.Nodes.{number_in}
use Rattle.dcx_nodes.proofs.AtNode.{the_node}
use Rattle.dcx_call.specs.declared.call.Call.TheVariants as calls
use Rattle.dcx_unknowns.specs.Unknowns.{first_unknown}
use Rattle.dcx_unknowns.proofs.Owners.{firsts_counted, first_at}
use Rattle.dcx_nodes.proofs.Leaves.{few_variable_unknowns, place, place_there, is_square, unknowns_within, variable_counted, variable_gives}
use Rattle.dcx_nodes.proofs.leaf.variable_node.Goals as goal

pub bounds-given-position : goal.bounds-given-position
bounds-given-position g c =
    let p = c.args.given.now.problem.now in
    let v = c.args.variable.now in
    let is : c.variable_position-position.result ≡ place p c.args.node.0 v c.requires.call = c.variable_position-position.ensures
    ∙ ap (λ vs. number_in (map (λ w. w.name) vs) v.name) c.as_slice.ensures in
    omega (arith, is, place_there p c.args.node.0 v c.requires.call, firsts_counted p.variables c.args.given.now.firsts.now c.requires.ready.begin)

pub offset_bounds-given-position : goal.offset_bounds-given-position
offset_bounds-given-position g c =
    let p = c.args.given.now.problem.now in
    let v = c.args.variable.now in
    let is : c.variable_position-position.result ≡ place p c.args.node.0 v c.requires.call = c.variable_position-position.ensures
    ∙ ap (λ vs. number_in (map (λ w. w.name) vs) v.name) c.as_slice.ensures in
    omega (arith, is, place_there p c.args.node.0 v c.requires.call, few_variables p)

pub entry_unknowns-requires-clause-square : goal.entry_unknowns-requires-clause-square
entry_unknowns-requires-clause-square g c = is_square c.args.given.now.problem.now c.args.node.0 c.args.variable.now c.requires.call

pub entry_unknowns-requires-clause-fits : goal.entry_unknowns-requires-clause-fits
entry_unknowns-requires-clause-fits g c =
    let p = c.args.given.now.problem.now in
    let v = c.args.variable.now in
    let firsts = c.args.given.now.firsts.now in
    let is : c.variable_position-position.result ≡ place p c.args.node.0 v c.requires.call = c.variable_position-position.ensures
    ∙ ap (λ vs. number_in (map (λ w. w.name) vs) v.name) c.as_slice.ensures in
    let first : get_or firsts c.variable_position-position.result 0 ≡ first_unknown p.variables (place p c.args.node.0 v c.requires.call) =
    ap (λ k. get_or firsts k 0) is ∙ first_at p.variables firsts (place p c.args.node.0 v c.requires.call) 0 c.requires.ready.begin (place_there p c.args.node.0 v c.requires.call) in
    omega (arith, first, unknowns_within p c.args.node.0 v c.requires.call, few_variable_unknowns p c.args.given.now.reduced.now c.requires.ready.few)

pub returns-in-Ok-variable_entries-clause-count : goal.returns-in-Ok-variable_entries-clause-count
returns-in-Ok-variable_entries-clause-count g c =
    let t = g.C.Coef in
    let p = c.args.given.now.problem.now in
    let v = c.args.variable.now in
    let (n, at) = the_node p c.args.node.0 (calls.Variable v) c.requires.call in
    variable_counted t.of_number t.number_of t.sum_gives t.change_gives t.parameter_gives p c.args.given.now.setting.now c.args.given.now.reduced.now c.args.given.now.fixed.now [] c.args.node.0
    v c.requires.call _ c.in-Ok-variable_entries.entries c.deref.result.now c.in-Ok-variable_entries.ensures (c.deref.ensures.value ∙ c.in-Ok.ensures) n at

pub returns-in-Ok-variable_entries-clause-entries : goal.returns-in-Ok-variable_entries-clause-entries
returns-in-Ok-variable_entries-clause-entries g c forms =
    let t = g.C.Coef in
    let p = c.args.given.now.problem.now in
    let v = c.args.variable.now in
    let firsts = c.args.given.now.firsts.now in
    let is : c.variable_position-position.result ≡ place p c.args.node.0 v c.requires.call = c.variable_position-position.ensures
    ∙ ap (λ vs. number_in (map (λ w. w.name) vs) v.name) c.as_slice.ensures in
    let first : get_or firsts c.variable_position-position.result 0 ≡ first_unknown p.variables (place p c.args.node.0 v c.requires.call) =
    ap (λ k. get_or firsts k 0) is ∙ first_at p.variables firsts (place p c.args.node.0 v c.requires.call) 0 c.requires.ready.begin (place_there p c.args.node.0 v c.requires.call) in
    variable_gives t.of_number t.number_of t.sum_gives t.change_gives t.parameter_gives p c.args.given.now.setting.now c.args.given.now.reduced.now c.args.given.now.fixed.now forms c.args.node.0
    v c.requires.call _ c.in-Ok-variable_entries.entries c.deref.result.now c.in-Ok-variable_entries.ensures (c.deref.ensures.value ∙ c.in-Ok.ensures) first
