-- The terms of the call are those of its meaning.
use Rattle.std.proofs.Common.{ℕ, [], length, map, slice_index_or, ap, sym, ◌∙◌, subst, IfSome, Result}
use Rattle.dcx_shape.specs.Shape.{sides_of}
use Rattle.dcx_shape.specs.Sides.{entries_of}
use Rattle.dcx_arena.specs.Nodes.{positions, sides_at}
use Rattle.dcx_atom.specs.Arrays.{sides_list}
use Rattle.dcx_atom.specs.declared.stops.ValueStop.{ValueStop}
use Rattle.dcx_atom.specs.Linear.{linear_term, AreTermsOf}
use Rattle.dcx_call.specs.declared.call.Call.TheVariants as calls
use Rattle.dcx_call.specs.Linears.{linear_meaning}
use Rattle.dcx_tree.proofs.NodeValues.{sides_are}
use Rattle.dcx_entries.specs.declared.entries.EntryForms.{EntryForms}
use Rattle.dcx_entries.specs.Forming.{AtEntry}
use Rattle.dcx_entries.specs.Parts.{term_part}
use Rattle.dcx_entries.specs.Entries.{LinearEntry}
use Rattle.dcx_entries.specs.Standing.{all_forms, args_among}
use Rattle.dcx_nodes.specs.Formed.{ReducedGives}
use Rattle.dcx_nodes.proofs.AtNode.{the_node, args_within, sides_of_args}
use Rattle.dcx_nodes.proofs.Gives.{formed_weaker, formed_count}
use Rattle.dcx_nodes.proofs.LinearNodes.{linear_shape, terms_counted, linear_gives}
use Rattle.dcx_nodes.proofs.calls.linear_node.Goals as goal

pub shapes_of-requires : goal.shapes_of-requires
shapes_of-requires g c =
    let p = c.args.given.now.problem.now in
    let (n, at) = the_node p c.args.node.0 (calls.Linear c.args.call.now) c.requires.call in
    args_within p c.args.node.0 n at (positions c.args.args.now.ids.now) c.requires.ids

pub map-requires : goal.map-requires
map-requires g c =
    let p = c.args.given.now.problem.now in
    let i = c.args.node.0 in
    let (n, at) = the_node p i (calls.Linear c.args.call.now) c.requires.call in
    linear_shape p i c.args.call.now c.requires.call n at c.deref.result.now
    (ap (map sides_of) c.deref.ensures.value ∙ c.in-Ok.ensures ∙ sides_of_args p i n at (positions c.args.args.now.ids.now) c.requires.ids)

pub linear_entries-entries-requires : goal.linear_entries-entries-requires
linear_entries-entries-requires g c =
    let p = c.args.given.now.problem.now in
    let i = c.args.node.0 in
    let (n, at) = the_node p i (calls.Linear c.args.call.now) c.requires.call in
    ap length c.as_slice.ensures
    ∙ terms_counted p i c.args.call.now c.requires.call n at c.deref.result.now
    (ap (map sides_of) c.deref.ensures.value ∙ c.in-Ok.ensures ∙ sides_of_args p i n at (positions c.args.args.now.ids.now) c.requires.ids) c.in-Ok-map.terms c.in-Ok-map.ensures
    ∙ sym (c.size-size.ensures.value ∙ ap entries_of (c.shape.ensures ∙ sides_are p.tree i n at))

pub returns-in-Ok-map-clause-count : goal.returns-in-Ok-map-clause-count
returns-in-Ok-map-clause-count g c =
    let t = g.C.Coef in
    let F : ℕ → Result (EntryForms g.row.C.Denot) ValueStop → Type 0 =
    λ j. AtEntry j (LinearEntry t.of_number t.number_of t.sum_gives t.change_gives
    (map (term_part (args_among t.of_number (all_forms t.of_number c.args.args.now.standing.now) (positions c.args.args.now.ids.now)))
    (map linear_term (slice_index_or c.as_slice.result.now j [])))) in
    formed_count F c.size-size.result (entries_of (sides_at c.args.given.now.problem.now.tree c.args.node.0)) c.linear_entries-entries.result
    (c.size-size.ensures.value ∙ ap entries_of c.shape.ensures) c.linear_entries-entries.ensures

pub returns-in-Ok-map-clause-entries : goal.returns-in-Ok-map-clause-entries
returns-in-Ok-map-clause-entries g c =
    let t = g.C.Coef in
    let p = c.args.given.now.problem.now in
    let i = c.args.node.0 in
    let forms = all_forms t.of_number c.args.args.now.standing.now in
    let (n, at) = the_node p i (calls.Linear c.args.call.now) c.requires.call in
    formed_weaker c.linear_entries-entries.result _ (ReducedGives t.of_number t.number_of t.sum_gives t.change_gives t.parameter_gives p c.args.given.now.setting.now c.args.given.now.reduced.now
    c.args.given.now.fixed.now forms i)
    (λ r h. linear_gives p i c.args.call.now c.requires.call n at c.deref.result.now
    (ap (map sides_of) c.deref.ensures.value ∙ c.in-Ok.ensures ∙ sides_of_args p i n at (positions c.args.args.now.ids.now) c.requires.ids) c.as_slice.result.now
    (subst (λ ts. IfSome ((linear_meaning c.args.call.now).shape (sides_list c.deref.result.now))
    (λ s. AreTermsOf (linear_meaning c.args.call.now) (sides_list c.deref.result.now) (entries_of s) ts)) (sym c.as_slice.ensures) c.in-Ok-map.ensures)
    t.of_number t.number_of t.sum_gives t.change_gives t.parameter_gives c.args.given.now.setting.now c.args.given.now.reduced.now c.args.given.now.fixed.now forms
    (positions c.args.args.now.ids.now) c.requires.ids
    c.size-size.result r (c.size-size.ensures.value ∙ ap entries_of c.shape.ensures) h)
    c.linear_entries-entries.ensures
