-- What is read of the answer of a node's rows is there, and makes what it turns out to be.
use Rattle.std.proofs.Common.{◌≡◌, ◌⊎◌, ◌<◌, List, length, option_map, sym, ap, ◌∙◌, subst}
use Rattle.std.specs.List.{All}
use Rattle.std.proofs.lemmas.Result.{IfOk-weaker, IfErr-weaker}
use Rattle.dcx_frac.specs.Frac.{value}
use Rattle.dcx_answer.specs.declared.stop.Stop.{Stop}
use Rattle.dcx_answer.specs.declared.stop.Stop.TheVariants as why
use Rattle.dcx_linear.specs.declared.row.UnknownKind.{UnknownKind}
use Rattle.dcx_branch.specs.declared.place.Place.{Place}
use Rattle.dcx_branch.specs.declared.bound.BoundAt.{BoundAt}
use Rattle.dcx_branch.specs.Sides.{box_bounds}
use Rattle.dcx_branch.specs.Run.{NodeStops}
use Rattle.dcx_branch.specs.Taken.{HasNotes, TellsUnknowns, IsTaken, StopsJudging, TakenAs, StopsTaking}
use Rattle.dcx_branch.proofs.Members.{places_below_all}
use Rattle.dcx_branch.proofs.Told.{has_notes, tells}
use Rattle.dcx_branch.proofs.Taking.{taken_as, stops_as, rows_stop}
use Rattle.dcx_branch.proofs.node.take.Goals as goal

pub solve_node-requires : goal.solve_node-requires
solve_node-requires c =
    let p = c.args.problem.now in
    let n = length c.args.reduced.now.program.kinds in
    subst (All (λ (a : Place). a.unknown < n)) (sym c.requires.places) (places_below_all p.variables n p.squares c.requires.unknowns)

pub judge-taken-requires-clause-notes : goal.judge-taken-requires-clause-notes
judge-taken-requires-clause-notes c =
    let p = c.args.problem.now in
    let q = c.args.reduced.now.program in
    let bs = box_bounds c.args.places.now c.args.sides.now in
    let s = c.in-Ok.node.solved in
    let is = c.in-Ok.ensures.node in
    let first : length c.as_slice.result.now ≡ length q.rows = ap length (c.as_slice.ensures ∙ c.rows-rows.ensures.rows) in
    let notes = has_notes q c.args.limit bs s is.is.solved p c.requires.rows in
    subst (λ n. HasNotes p s.answer n c.in-Ok.node.bounds.items) (sym first) (subst (λ (xs : List BoundAt). HasNotes p s.answer (length q.rows) xs) (sym is.bounds) notes)

pub judge-taken-requires-clause-tells : goal.judge-taken-requires-clause-tells
judge-taken-requires-clause-tells c =
    let q = c.args.reduced.now.program in
    let s = c.in-Ok.node.solved in
    subst (λ (kinds : List UnknownKind). TellsUnknowns kinds s.program s.answer) (sym (c.as_slice-in-Ok.ensures ∙ c.rows-rows.ensures.kinds))
    (tells q c.args.limit (box_bounds c.args.places.now c.args.sides.now) s c.in-Ok.ensures.node.is.solved)

pub judge-taken-requires-clause-known : goal.judge-taken-requires-clause-known
judge-taken-requires-clause-known c =
    let p = c.args.problem.now in
    let n = length c.args.reduced.now.program.kinds in
    let known = subst (All (λ (a : Place). a.unknown < n)) (sym c.requires.places) (places_below_all p.variables n p.squares c.requires.unknowns) in
    subst (λ (kinds : List UnknownKind). All (λ (a : Place). a.unknown < length kinds) c.args.places.now) (sym (c.as_slice-in-Ok.ensures ∙ c.rows-rows.ensures.kinds)) known

pub returns-in-Ok-clause-taken : goal.returns-in-Ok-clause-taken
returns-in-Ok-clause-taken c =
    let p = c.args.problem.now in
    let q = c.args.reduced.now.program in
    let bs = box_bounds c.args.places.now c.args.sides.now in
    let best = option_map value c.args.best.now in
    let node = c.in-Ok.node in
    let is = c.in-Ok.ensures.node in
    let first : length c.as_slice.result.now ≡ length q.rows = ap length (c.as_slice.ensures ∙ c.rows-rows.ensures.rows) in
    IfOk-weaker c.judge-taken.result (IsTaken p (length c.as_slice.result.now) node.bounds.items best node.solved) (TakenAs p q c.args.limit bs best)
    (λ t h. taken_as p q c.args.limit bs best node.solved is.is (length c.as_slice.result.now) node.bounds.items first is.bounds t h) c.judge-taken.ensures.taken

pub returns-in-Ok-clause-stops : goal.returns-in-Ok-clause-stops
returns-in-Ok-clause-stops c =
    let p = c.args.problem.now in
    let q = c.args.reduced.now.program in
    let bs = box_bounds c.args.places.now c.args.sides.now in
    let best = option_map value c.args.best.now in
    let node = c.in-Ok.node in
    let is = c.in-Ok.ensures.node in
    let first : length c.as_slice.result.now ≡ length q.rows = ap length (c.as_slice.ensures ∙ c.rows-rows.ensures.rows) in
    IfErr-weaker c.judge-taken.result (StopsJudging p (length c.as_slice.result.now) node.bounds.items best node.solved) (StopsTaking p q c.args.limit bs best)
    (λ e h. stops_as p q c.args.limit bs best node.solved is.is (length c.as_slice.result.now) node.bounds.items first is.bounds e h) c.judge-taken.ensures.stops

pub returns-in-Err-clause-stops : goal.returns-in-Err-clause-stops
returns-in-Err-clause-stops c =
    let p = c.args.problem.now in
    let q = c.args.reduced.now.program in
    let bs = box_bounds c.args.places.now c.args.sides.now in
    let best = option_map value c.args.best.now in
    subst (λ (s : Stop). (s ≡ why.Memory) ⊎ NodeStops p q c.args.limit bs best s) (sym c.run_stop.ensures) (rows_stop p q c.args.limit bs best c.in-Err.stop c.in-Err.ensures.stops)
