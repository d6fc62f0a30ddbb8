-- The pairs are those of the two sides.
use Rattle.std.proofs.Common.{ℕ, [], List, length, get_or, slice_index_or, Result, sym, ap, ◌∙◌, subst, arith}
use Rattle.dcx_shape.specs.Shape.{sides_of}
use Rattle.dcx_shape.specs.Sides.{entries_of}
use Rattle.dcx_atom.specs.declared.stops.ValueStop.{ValueStop}
use Rattle.dcx_affine.specs.declared.pairing.Pair.{Pair}
use Rattle.dcx_arena.specs.Nodes.{positions, sides_at}
use Rattle.dcx_entries.specs.declared.entries.EntryForms.{EntryForms}
use Rattle.dcx_entries.specs.Forming.{FormsEach}
use Rattle.dcx_entries.specs.Standing.{all_forms, args_among}
use Rattle.dcx_entries.specs.Entries.{PairEntry}
use Rattle.dcx_nodes.specs.Formed.{ReducedGives}
use Rattle.dcx_nodes.proofs.Gives.{formed_weaker, formed_count}
use Rattle.dcx_nodes.proofs.PairNodes.{two_ids, call_within, id_below, may_pair, counted_here, numbers_here, gives_here}
use Rattle.dcx_nodes.proofs.products.pairing_node.Goals as goal

pub bounds-ids-0 : goal.bounds-ids-0
bounds-ids-0 g c = let two = two_ids c.args.given.now.problem.now c.args.node.0 c.args.pairing c.requires.call c.args.args.now.ids.now c.requires.ids in omega (arith, two)

pub bounds-ids-1 : goal.bounds-ids-1
bounds-ids-1 g c = let two = two_ids c.args.given.now.problem.now c.args.node.0 c.args.pairing c.requires.call c.args.args.now.ids.now c.requires.ids in omega (arith, two)

pub side_at-left_side-requires-clause-reduced : goal.side_at-left_side-requires-clause-reduced
side_at-left_side-requires-clause-reduced g c =
    let within = call_within c.args.given.now.problem.now c.args.node.0 c.args.pairing c.requires.call c.args.args.now.ids.now c.requires.ids in
    let below = id_below c.args.given.now.problem.now c.args.node.0 c.args.pairing c.requires.call c.args.args.now.ids.now c.requires.ids 0 (omega arith) in
    omega (arith, below, within, c.requires.ready.reduced_counted)

pub side_at-left_side-requires-clause-fixed : goal.side_at-left_side-requires-clause-fixed
side_at-left_side-requires-clause-fixed g c =
    let within = call_within c.args.given.now.problem.now c.args.node.0 c.args.pairing c.requires.call c.args.args.now.ids.now c.requires.ids in
    let below = id_below c.args.given.now.problem.now c.args.node.0 c.args.pairing c.requires.call c.args.args.now.ids.now c.requires.ids 0 (omega arith) in
    omega (arith, below, within, c.requires.ready.fixed_counted)

pub side_at-left_side-requires-clause-before : goal.side_at-left_side-requires-clause-before
side_at-left_side-requires-clause-before g c =
    let below = id_below c.args.given.now.problem.now c.args.node.0 c.args.pairing c.requires.call c.args.args.now.ids.now c.requires.ids 0 (omega arith) in omega (arith, below, c.requires.before)

pub side_at-right_side-requires-clause-reduced : goal.side_at-right_side-requires-clause-reduced
side_at-right_side-requires-clause-reduced g c =
    let within = call_within c.args.given.now.problem.now c.args.node.0 c.args.pairing c.requires.call c.args.args.now.ids.now c.requires.ids in
    let below = id_below c.args.given.now.problem.now c.args.node.0 c.args.pairing c.requires.call c.args.args.now.ids.now c.requires.ids 1 (omega arith) in
    omega (arith, below, within, c.requires.ready.reduced_counted)

pub side_at-right_side-requires-clause-fixed : goal.side_at-right_side-requires-clause-fixed
side_at-right_side-requires-clause-fixed g c =
    let within = call_within c.args.given.now.problem.now c.args.node.0 c.args.pairing c.requires.call c.args.args.now.ids.now c.requires.ids in
    let below = id_below c.args.given.now.problem.now c.args.node.0 c.args.pairing c.requires.call c.args.args.now.ids.now c.requires.ids 1 (omega arith) in
    omega (arith, below, within, c.requires.ready.fixed_counted)

pub side_at-right_side-requires-clause-before : goal.side_at-right_side-requires-clause-before
side_at-right_side-requires-clause-before g c =
    let below = id_below c.args.given.now.problem.now c.args.node.0 c.args.pairing c.requires.call c.args.args.now.ids.now c.requires.ids 1 (omega arith) in omega (arith, below, c.requires.before)

pub shape-requires : goal.shape-requires
shape-requires g c =
    let within = call_within c.args.given.now.problem.now c.args.node.0 c.args.pairing c.requires.call c.args.args.now.ids.now c.requires.ids in
    let below = id_below c.args.given.now.problem.now c.args.node.0 c.args.pairing c.requires.call c.args.args.now.ids.now c.requires.ids 0 (omega arith) in
    omega (arith, below, within)

pub shape-requires-2 : goal.shape-requires-2
shape-requires-2 g c =
    let within = call_within c.args.given.now.problem.now c.args.node.0 c.args.pairing c.requires.call c.args.args.now.ids.now c.requires.ids in
    let below = id_below c.args.given.now.problem.now c.args.node.0 c.args.pairing c.requires.call c.args.args.now.ids.now c.requires.ids 1 (omega arith) in
    omega (arith, below, within)

pub pairs-requires : goal.pairs-requires
pairs-requires g c = may_pair c.args.given.now.problem.now c.args.node.0 c.args.pairing c.requires.call c.args.args.now.ids.now c.requires.ids (sides_of c.shape.result)
    (sides_of c.shape-2.result) c.shape.ensures c.shape-2.ensures

pub shape-requires-in-Ok : goal.shape-requires-in-Ok
shape-requires-in-Ok g c = call_within c.args.given.now.problem.now c.args.node.0 c.args.pairing c.requires.call c.args.args.now.ids.now c.requires.ids

pub pair_entries-requires-clause-size : goal.pair_entries-requires-clause-size
pair_entries-requires-clause-size g c =
    ap length c.as_slice.ensures ∙ counted_here c.args.given.now.problem.now c.args.node.0 c.args.pairing c.requires.call c.args.args.now.ids.now c.requires.ids (sides_of c.shape.result)
    (sides_of c.shape-2.result) c.shape.ensures c.shape-2.ensures c.in-Ok.pairs c.in-Ok.ensures ∙ sym (c.size.ensures.value ∙ ap entries_of c.shape-in-Ok.ensures)

pub pair_entries-requires-clause-numbers : goal.pair_entries-requires-clause-numbers
pair_entries-requires-clause-numbers g c =
    let t = g.C.Coef in
    λ k d b. numbers_here c.args.given.now.problem.now c.args.node.0 c.args.pairing c.requires.call c.args.args.now.ids.now c.requires.ids (sides_of c.shape.result)
    (sides_of c.shape-2.result) c.shape.ensures c.shape-2.ensures c.in-Ok.pairs c.in-Ok.ensures t.of_number t.number_of t.sum_gives t.change_gives t.parameter_gives g.met.C.Coef.number_told
    c.args.given.now.setting.now c.args.given.now.reduced.now c.args.given.now.fixed.now
    (all_forms t.of_number c.args.args.now.standing.now) c.pairing_scaling-scaling.result c.side_at-left_side.result c.side_at-right_side.result c.pairing_scaling-scaling.ensures
    c.side_at-left_side.ensures c.side_at-right_side.ensures (get_or c.as_slice.result.now k d)

pub returns-in-Ok-clause-count : goal.returns-in-Ok-clause-count
returns-in-Ok-clause-count g c =
    let t = g.C.Coef in
    let F : List (List Pair) → ℕ → Result (EntryForms g.row.C.Denot) ValueStop → Type 0 =
    λ ps j r. PairEntry t.of_number t.number_of t.sum_gives t.change_gives c.pairing_scaling-scaling.result
    (args_among t.of_number (all_forms t.of_number c.args.args.now.standing.now) (positions c.args.args.now.ids.now)) (slice_index_or ps j []) j r in
    formed_count (F c.as_slice.result.now) c.size.result (entries_of (sides_at c.args.given.now.problem.now.tree c.args.node.0)) c.pair_entries.result
    (c.size.ensures.value ∙ ap entries_of c.shape-in-Ok.ensures) c.pair_entries.ensures

pub returns-in-Ok-clause-entries : goal.returns-in-Ok-clause-entries
returns-in-Ok-clause-entries g c =
    let t = g.C.Coef in
    let F : List (List Pair) → ℕ → Result (EntryForms g.row.C.Denot) ValueStop → Type 0 =
    λ ps j r. PairEntry t.of_number t.number_of t.sum_gives t.change_gives c.pairing_scaling-scaling.result
    (args_among t.of_number (all_forms t.of_number c.args.args.now.standing.now) (positions c.args.args.now.ids.now)) (slice_index_or ps j []) j r in
    formed_weaker c.pair_entries.result (FormsEach (F c.as_slice.result.now) c.size.result)
    (ReducedGives t.of_number t.number_of t.sum_gives t.change_gives t.parameter_gives c.args.given.now.problem.now c.args.given.now.setting.now c.args.given.now.reduced.now
    c.args.given.now.fixed.now (all_forms t.of_number c.args.args.now.standing.now) c.args.node.0)
    (λ r h. gives_here c.args.given.now.problem.now c.args.node.0 c.args.pairing c.requires.call c.args.args.now.ids.now c.requires.ids (sides_of c.shape.result)
    (sides_of c.shape-2.result) c.shape.ensures c.shape-2.ensures c.in-Ok.pairs c.in-Ok.ensures t.of_number t.number_of t.sum_gives t.change_gives t.parameter_gives g.met.C.Coef.number_told
    c.args.given.now.setting.now c.args.given.now.reduced.now c.args.given.now.fixed.now
    (all_forms t.of_number c.args.args.now.standing.now) c.pairing_scaling-scaling.result c.side_at-left_side.result c.side_at-right_side.result c.pairing_scaling-scaling.ensures
    c.side_at-left_side.ensures c.side_at-right_side.ensures
    c.size.result r (c.size.ensures.value ∙ ap entries_of c.shape-in-Ok.ensures) (subst (λ ps. FormsEach (F ps) c.size.result r) c.as_slice.ensures h))
    c.pair_entries.ensures
