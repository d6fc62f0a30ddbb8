-- What the steps come to is found, and so it is right.
use Rattle.std.proofs.Common.{◌≡◌, true, Bool, List, replicate, length, refl, ap, subst, ◌∙◌}
use Rattle.std.proofs.lemmas.Result.{IfOk-weaker, IfErr-weaker, err_from_is_err_and}
use Rattle.dcx_tree.specs.declared.constraint.Constraint.{Constraint}
use Rattle.dcx_tree.specs.Meaning.{setting_of}
use Rattle.dcx_answer.specs.declared.filtered.Filtered.TheVariants as filtered
use Rattle.dcx_graph.proofs.Slacks.{rows_of_reduced}
use Rattle.dcx_right.specs.Filters.{IsRightFor}
use Rattle.dcx_iis.specs.declared.trying.Tried.{Tried}
use Rattle.dcx_iis.specs.Steps.{flagged, StopsFilter}
use Rattle.dcx_iis.specs.Found.{IsFound}
use Rattle.dcx_iis.specs.Runs.{IsTried, IsEnd, StopsTry, StopsRun}
use Rattle.dcx_iis.proofs.Going.{first_stops, first_left}
use Rattle.dcx_iis.proofs.Right.{found_is_right}
use Rattle.dcx_iis.proofs.Finding.{tells_stop, point_found, left_noted, left_few, end_found}
use Rattle.dcx_iis.proofs.filtering.filter.Goals as goal
use Rattle.dcx_iis.proofs.filtering.filter.Goals.{In_ok-kept, In_ok-point}

-- all flags are set
all_set : (c : In_ok-kept) → c.in_ok-kept.kept.items ≡ replicate (length c.args.problem.now.constraints) true
all_set c = c.in_ok-kept.ensures.items_if_clones_equal (λ y h. h) ∙ ap (λ (cs : List Constraint). replicate (length cs) true) c.as_slice.ensures

-- what the first step shows
first_tried : (c : In_ok-point) (t : Tried) → c.in_ok-point.field-0 ≡ t → IsTried c.args.problem.now c.args.reduced.now.program c.args.limit (flagged c.in_ok-kept.kept.items) t
first_tried c t is =
    subst (IsTried c.args.problem.now c.args.reduced.now.program c.args.limit (flagged c.in_ok-kept.kept.items)) is
    (subst (λ (flags : List Bool). IsTried c.args.problem.now c.args.reduced.now.program c.args.limit (flagged flags) c.in_ok-point.field-0) c.deref.ensures.value c.in_ok-point.ensures.tried)

pub try_kept-requires-clause-rows : goal.try_kept-requires-clause-rows
try_kept-requires-clause-rows c = rows_of_reduced c.args.problem.now (setting_of c.args.problem.now c.args.setting.now) c.args.reduced.now.program c.requires.reduced

pub returns-in_err-point-clause-stops : goal.returns-in_err-point-clause-stops
returns-in_err-point-clause-stops c =
    let r = err_from_is_err_and c.from_residual-in_err-point.result c.from_residual-in_err-point.ensures.1 in
    let p = c.args.problem.now in
    let q = c.args.reduced.now.program in
    let limit = c.args.limit in
    let e = c.in_err-point.field-0.0 in
    rw (r.1, r.2) (tells_stop p q limit (setting_of p c.args.setting.now) c.requires.reduced e
    (first_stops p q limit c.in_ok-kept.kept.items e (all_set (goal.at.returns-in_err-point-clause-stops c).In_ok-kept)
    (subst (λ (flags : List Bool). StopsTry p q limit (flagged flags) 0 e) c.deref.ensures.value c.in_err-point.ensures.stops)))

pub try_each-requires-clause-rows : goal.try_each-requires-clause-rows
try_each-requires-clause-rows c = rows_of_reduced c.args.problem.now (setting_of c.args.problem.now c.args.setting.now) c.args.reduced.now.program c.requires.reduced

pub try_each-requires-clause-left : goal.try_each-requires-clause-left
try_each-requires-clause-left c =
    let p = c.args.problem.now in
    let q = c.args.reduced.now.program in
    let limit = c.args.limit in
    let flags = c.in_ok-kept.kept.items in
    let at = goal.at.try_each-requires-clause-left c in
    first_left p q limit flags c.in-Impossible.answer _ (all_set at.In_ok-kept) (first_tried at.In_ok-point _ c.in-Impossible.is) refl refl refl c.new.ensures.items

pub returns-in-Err-clause-stops : goal.returns-in-Err-clause-stops
returns-in-Err-clause-stops c =
    let p = c.args.problem.now in
    tells_stop p c.args.reduced.now.program c.args.limit (setting_of p c.args.setting.now) c.requires.reduced c.in-Err.stop c.in-Err.ensures.stops

pub found-requires-clause-rows : goal.found-requires-clause-rows
found-requires-clause-rows c =
    let p = c.args.problem.now in
    left_noted p c.args.reduced.now.program c.args.limit (setting_of p c.args.setting.now) c.requires.reduced c.try_each.new.left c.in-Ok.ensures.left

pub found-requires-clause-few : goal.found-requires-clause-few
found-requires-clause-few c =
    let p = c.args.problem.now in
    left_few p c.args.reduced.now.program c.args.limit (setting_of p c.args.setting.now) c.requires.reduced c.try_each.new.left c.in-Ok.ensures.left

pub returns-in-Possible-clause-found : goal.returns-in-Possible-clause-found
returns-in-Possible-clause-found c =
    let p = c.args.problem.now in
    let q = c.args.reduced.now.program in
    let flags = c.in_ok-kept.kept.items in
    let at = goal.at.returns-in-Possible-clause-found c in
    point_found p q c.args.limit flags c.in-Possible.point (all_set at.In_ok-kept) (first_tried at.In_ok-point _ c.in-Possible.is)

pub returns-in-Possible-clause-right : goal.returns-in-Possible-clause-right
returns-in-Possible-clause-right c =
    let p = c.args.problem.now in
    let q = c.args.reduced.now.program in
    let flags = c.in_ok-kept.kept.items in
    let at = goal.at.returns-in-Possible-clause-right c in
    found_is_right p (setting_of p c.args.setting.now) q c.args.limit (filtered.Feasible c.in-Possible.point) c.requires.reduced
    (point_found p q c.args.limit flags c.in-Possible.point (all_set at.In_ok-kept) (first_tried at.In_ok-point _ c.in-Possible.is))

pub returns-in-Ok-clause-found : goal.returns-in-Ok-clause-found
returns-in-Ok-clause-found c =
    let p = c.args.problem.now in
    let q = c.args.reduced.now.program in
    IfOk-weaker c.found.result (IsEnd p c.try_each.new.left) (IsFound p q c.args.limit) (end_found p q c.args.limit c.try_each.new.left c.in-Ok.ensures.left) c.found.ensures.end

pub returns-in-Ok-clause-right : goal.returns-in-Ok-clause-right
returns-in-Ok-clause-right c =
    let p = c.args.problem.now in
    let q = c.args.reduced.now.program in
    let s = setting_of p c.args.setting.now in
    IfOk-weaker c.found.result (IsEnd p c.try_each.new.left) (IsRightFor p s)
    (λ f h. found_is_right p s q c.args.limit f c.requires.reduced (end_found p q c.args.limit c.try_each.new.left c.in-Ok.ensures.left f h)) c.found.ensures.end

pub returns-in-Ok-clause-stops : goal.returns-in-Ok-clause-stops
returns-in-Ok-clause-stops c =
    let p = c.args.problem.now in
    let q = c.args.reduced.now.program in
    let s = setting_of p c.args.setting.now in
    IfErr-weaker c.found.result (StopsRun p q c.args.limit) (StopsFilter p s q c.args.limit) (tells_stop p q c.args.limit s c.requires.reduced)
    (c.found.ensures.stops q c.args.limit c.in-Ok.ensures.left)
