-- The place of the next variable is put under its name.
use Rattle.std.proofs.Common.{◌-◌, ◌<◌, length, drop, get_or, sym, ap, ◌∙◌}
use Rattle.std.proofs.lemmas.Option.{slice_get-get_or}
use Rattle.std.specs.HashMap.{get}
use Rattle.dcx_point.specs.Pairs.{same_name}
use Rattle.dcx_tree.specs.Gather.{is_variable}
use Rattle.dcx_tree.proofs.Names.{no_variable}
use Rattle.dcx_cert_bound.specs.Variables.{reaching, coefficients_in}
use Rattle.dcx_cert_bound.proofs.ByName.{put_reaching, keep_reaching}
use Rattle.dcx_cert_bound.proofs.Indexing.{drop-more, place_inside}
use Rattle.dcx_cert_bound.proofs.variables.places_of.Goals as goal
use Rattle.dcx_cert_bound.proofs.variables.places_of.Goals.{in-Variable+in_ok-copy_name+in_ok-insert, in_default}

pub loop-k-preserved : goal.loop-k-preserved
loop-k-preserved c =
    let reached = c.args.reached.now in
    let tree = c.args.tree.now in
    let k = c.loop-k.k in
    let place = length reached - 1 - k in
    let d = c.index-reached-place.result in
    let below : k < length reached = c.loop-k-test.true in
    let lt : place < length reached = place_inside (length reached) k below in
    let rest = drop (length reached - k) reached in
    let own = get_or reached place d in
    elim c.match-call.branch [
      | in-Variable+in_ok-copy_name+in_ok-insert w ↦ λ name. (
          put_reaching tree reached rest place own w.in_ok-copy_name.field-0 name _ _ c.call.result.now (slice_get-get_or reached place d lt) c.call.ensures
          (ap (is_variable name) w.in-Variable.is ∙ ap (same_name name) (sym w.in_ok-copy_name.ensures))
          (ap (λ m. get same_name m name) w.places-is ∙ w.in_ok-insert.ensures.updates.0 name) (c.loop-k.invariant name)
          ∙ sym (ap (λ rs. reaching tree rs name) (drop-more reached k d below)))
      | in_default w ↦ λ name. (
          keep_reaching tree rest own name c.call.result.now _ c.call.ensures (no_variable c.call.result.now w.in_default.not-Variable name)
          (ap (λ m. coefficients_in reached (get same_name m name)) w.places-is ∙ c.loop-k.invariant name)
          ∙ sym (ap (λ rs. reaching tree rs name) (drop-more reached k d below)))
    ]
