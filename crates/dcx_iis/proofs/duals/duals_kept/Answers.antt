-- The multipliers are those of the constraints that are kept.
use Rattle.std.proofs.Common.{◌≤◌, List, length, sum_by, sym, subst, ◌∙◌}
use Rattle.std.proofs.lemmas.Result.{err_from_is_err_and}
use Rattle.dcx_lp_answer.specs.Multipliers.{passing_from, StopsAt}
use Rattle.dcx_tree.specs.declared.constraint.Constraint.{Constraint}
use Rattle.dcx_unknowns.specs.Layout.{constraint_rows}
use Rattle.dcx_postsolve.specs.Duals.{all_multipliers, AreDuals}
use Rattle.dcx_iis.specs.Steps.{flagged, kept_of}
use Rattle.dcx_iis.proofs.Shown.{duals_shaped}
use Rattle.dcx_iis.proofs.duals.duals_kept.Goals as goal

pub duals_of-requires-clause-rows : goal.duals_of-requires-clause-rows
duals_of-requires-clause-rows c =
    subst (λ (cs : List Constraint). sum_by constraint_rows cs ≤ length c.args.answer.now.rows) (sym (c.as_slice.ensures.value ∙ c.in_ok-members.ensures)) c.requires.rows

pub returns-in_err-formed-clause-stops : goal.returns-in_err-formed-clause-stops
returns-in_err-formed-clause-stops c =
    let p = err_from_is_err_and c.from_residual-in_err-formed.result c.from_residual-in_err-formed.ensures.1 in
    let a = c.args.answer.now in
    rw (p.1, p.2)
    (subst (λ (cs : List Constraint). StopsAt c.in_err-formed.field-0.0 (passing_from 0 (all_multipliers a.status cs a.rows)))
    (c.as_slice.ensures.value ∙ c.in_ok-members.ensures) c.in_err-formed.ensures.stops)

pub spread-requires-clause-shaped : goal.spread-requires-clause-shaped
spread-requires-clause-shaped c =
    let a = c.args.answer.now in
    let cs = kept_of (flagged c.args.kept.now) c.args.constraints.now in
    duals_shaped a.status cs a.rows c.in_ok-formed.formed
    (subst (λ (xs : List Constraint). AreDuals a.status xs a.rows c.in_ok-formed.formed) (c.as_slice.ensures.value ∙ c.in_ok-members.ensures) c.in_ok-formed.ensures.made)

pub returns-clause-made : goal.returns-clause-made
returns-clause-made c =
    let a = c.args.answer.now in (
      c.in_ok-formed.formed,
      subst (λ (xs : List Constraint). AreDuals a.status xs a.rows c.in_ok-formed.formed) (c.as_slice.ensures.value ∙ c.in_ok-members.ensures) c.in_ok-formed.ensures.made,
      c.in_ok-spread.ensures,
    )
