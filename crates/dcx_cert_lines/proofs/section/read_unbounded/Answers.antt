-- Part after part is read, and reading stops in the first that isn't there.
use Rattle.std.proofs.Common.{rules, [], ◌∷◌, ◌++◌, map, subst}
use Rattle.std.specs.Prelude.{codes, IfErr}
use Rattle.std.proofs.lemmas.Result.{err_from_is_err_and}
use Rattle.dcx_cert_sections.specs.Outlines.{shown}
use Rattle.dcx_cert_lines.specs.declared.kind.Kind.TheVariants.{Unbounded}
use Rattle.dcx_cert_lines.specs.Templates.{IsStopped, IfMisfit, body_templates, param_templates, number_template, named_template, end_template}
use Rattle.dcx_cert_lines.proofs.Filled.{stop_map}
use Rattle.dcx_cert_lines.proofs.Chain.{and_then, stop_after, stop_in, params_done, number_done, point_done, end_done}
use Rattle.dcx_cert_lines.proofs.section.read_unbounded.Goals as goal

pub returns-in_err-read_params-clause-misfit : goal.returns-in_err-read_params-clause-misfit
returns-in_err-read_params-clause-misfit c =
    let here : IfErr c.from_residual.result
    (IfMisfit (IsStopped (param_templates c.args.format c.args.outline.now) c.args.cursor.now.rest.now c.args.cursor.now.line c.read_params.new.cursor.line)) = search rules in
    stop_map (IsStopped (param_templates c.args.format c.args.outline.now) c.args.cursor.now.rest.now c.args.cursor.now.line c.read_params.new.cursor.line)
    (IsStopped (body_templates c.args.format c.args.outline.now Unbounded) c.args.cursor.now.rest.now c.args.cursor.now.line c.read_params.new.cursor.line)
    (λ s. (stop_in ((number_template (codes "bound") ∷ []) ++ ((number_template (codes "slope") ∷ [])
    ++ ((map (named_template (codes "var")) c.args.outline.now.variables) ++ ((map (named_template (codes "ray")) c.args.outline.now.variables) ++ (end_template ∷ []))))) s)) c.from_residual.result
    here

pub returns-in_err-bound-clause-misfit : goal.returns-in_err-bound-clause-misfit
returns-in_err-bound-clause-misfit c =
    let p0 = params_done c.args.format c.args.outline.now c.read_params.new.params c.in_ok-read_params.ensures.shown c.in_ok-read_params.ensures.format c.in_ok-read_params.ensures.read in
    let here : IfErr c.from_residual-in_err-bound.result
    (IfMisfit (IsStopped (number_template (codes "bound") ∷ []) c.read_params.new.cursor.rest.now c.read_params.new.cursor.line c.number.new.self.line)) = search rules in
    stop_map (IsStopped (number_template (codes "bound") ∷ []) c.read_params.new.cursor.rest.now c.read_params.new.cursor.line c.number.new.self.line)
    (IsStopped (body_templates c.args.format c.args.outline.now Unbounded) c.args.cursor.now.rest.now c.args.cursor.now.line c.number.new.self.line)
    (λ s. (stop_after p0 (stop_in ((number_template (codes "slope") ∷ [])
    ++ ((map (named_template (codes "var")) c.args.outline.now.variables) ++ ((map (named_template (codes "ray")) c.args.outline.now.variables) ++ (end_template ∷ [])))) s)))
    c.from_residual-in_err-bound.result here

pub returns-in_err-slope-clause-misfit : goal.returns-in_err-slope-clause-misfit
returns-in_err-slope-clause-misfit c =
    let p0 = params_done c.args.format c.args.outline.now c.read_params.new.params c.in_ok-read_params.ensures.shown c.in_ok-read_params.ensures.format c.in_ok-read_params.ensures.read in
    let p1 = number_done (codes "bound") c.in_ok-bound.bound c.in_ok-bound.ensures.read in
    let here : IfErr c.from_residual-in_err-slope.result (IfMisfit (IsStopped (number_template (codes "slope") ∷ []) c.number.new.self.rest.now c.number.new.self.line c.number-2.new.self.line)) =
    search rules in
    stop_map (IsStopped (number_template (codes "slope") ∷ []) c.number.new.self.rest.now c.number.new.self.line c.number-2.new.self.line)
    (IsStopped (body_templates c.args.format c.args.outline.now Unbounded) c.args.cursor.now.rest.now c.args.cursor.now.line c.number-2.new.self.line)
    (λ s. (stop_after p0 (stop_after p1
    (stop_in ((map (named_template (codes "var")) c.args.outline.now.variables) ++ ((map (named_template (codes "ray")) c.args.outline.now.variables) ++ (end_template ∷ []))) s))))
    c.from_residual-in_err-slope.result here

pub returns-in_err-read_point-clause-misfit : goal.returns-in_err-read_point-clause-misfit
returns-in_err-read_point-clause-misfit c =
    let p0 = params_done c.args.format c.args.outline.now c.read_params.new.params c.in_ok-read_params.ensures.shown c.in_ok-read_params.ensures.format c.in_ok-read_params.ensures.read in
    let p1 = number_done (codes "bound") c.in_ok-bound.bound c.in_ok-bound.ensures.read in
    let p2 = number_done (codes "slope") c.in_ok-slope.slope c.in_ok-slope.ensures.read in
    let here : IfErr c.from_residual-in_err-read_point.result
    (IfMisfit (IsStopped (map (named_template (codes "var")) (map shown c.variables.result.now)) c.number-2.new.self.rest.now c.number-2.new.self.line c.read_point.new.cursor.line)) = search rules in
    stop_map (IsStopped (map (named_template (codes "var")) (map shown c.variables.result.now)) c.number-2.new.self.rest.now c.number-2.new.self.line c.read_point.new.cursor.line)
    (IsStopped (body_templates c.args.format c.args.outline.now Unbounded) c.args.cursor.now.rest.now c.args.cursor.now.line c.read_point.new.cursor.line)
    (λ s. (stop_after p0 (stop_after p1
    (stop_after p2 (stop_in ((map (named_template (codes "ray")) c.args.outline.now.variables) ++ (end_template ∷ []))
    (subst (λ t. IsStopped (map (named_template (codes "var")) t) c.number-2.new.self.rest.now c.number-2.new.self.line c.read_point.new.cursor.line) c.variables.ensures s))))))
    c.from_residual-in_err-read_point.result here

pub returns-in_err-read_point-2-clause-misfit : goal.returns-in_err-read_point-2-clause-misfit
returns-in_err-read_point-2-clause-misfit c =
    let p0 = params_done c.args.format c.args.outline.now c.read_params.new.params c.in_ok-read_params.ensures.shown c.in_ok-read_params.ensures.format c.in_ok-read_params.ensures.read in
    let p1 = number_done (codes "bound") c.in_ok-bound.bound c.in_ok-bound.ensures.read in
    let p2 = number_done (codes "slope") c.in_ok-slope.slope c.in_ok-slope.ensures.read in
    let p3 = point_done (codes "var") c.read_point.new.point (map shown c.variables.result.now) c.args.outline.now.variables c.variables.ensures c.in_ok-read_point.ensures.shown
    c.in_ok-read_point.ensures.read in
    let here : IfErr c.from_residual-in_err-read_point-2.result
    (IfMisfit (IsStopped (map (named_template (codes "ray")) (map shown c.variables-2.result.now)) c.read_point.new.cursor.rest.now c.read_point.new.cursor.line c.read_point-2.new.cursor.line)) =
    search rules in
    stop_map (IsStopped (map (named_template (codes "ray")) (map shown c.variables-2.result.now)) c.read_point.new.cursor.rest.now c.read_point.new.cursor.line c.read_point-2.new.cursor.line)
    (IsStopped (body_templates c.args.format c.args.outline.now Unbounded) c.args.cursor.now.rest.now c.args.cursor.now.line c.read_point-2.new.cursor.line)
    (λ s. (stop_after p0 (stop_after p1
    (stop_after p2 (stop_after p3
    (stop_in (end_template ∷ [])
    (subst (λ t. IsStopped (map (named_template (codes "ray")) t) c.read_point.new.cursor.rest.now c.read_point.new.cursor.line c.read_point-2.new.cursor.line) c.variables-2.ensures s)))))))
    c.from_residual-in_err-read_point-2.result here

pub returns-in_err-plain-clause-misfit : goal.returns-in_err-plain-clause-misfit
returns-in_err-plain-clause-misfit c =
    let p0 = params_done c.args.format c.args.outline.now c.read_params.new.params c.in_ok-read_params.ensures.shown c.in_ok-read_params.ensures.format c.in_ok-read_params.ensures.read in
    let p1 = number_done (codes "bound") c.in_ok-bound.bound c.in_ok-bound.ensures.read in
    let p2 = number_done (codes "slope") c.in_ok-slope.slope c.in_ok-slope.ensures.read in
    let p3 = point_done (codes "var") c.read_point.new.point (map shown c.variables.result.now) c.args.outline.now.variables c.variables.ensures c.in_ok-read_point.ensures.shown
    c.in_ok-read_point.ensures.read in
    let p4 = point_done (codes "ray") c.read_point-2.new.point (map shown c.variables-2.result.now) c.args.outline.now.variables c.variables-2.ensures c.in_ok-read_point-2.ensures.shown
    c.in_ok-read_point-2.ensures.read in
    let here : IfErr c.from_residual-in_err-plain.result (IfMisfit (IsStopped (end_template ∷ []) c.read_point-2.new.cursor.rest.now c.read_point-2.new.cursor.line c.plain.new.self.line)) =
    search rules in
    stop_map (IsStopped (end_template ∷ []) c.read_point-2.new.cursor.rest.now c.read_point-2.new.cursor.line c.plain.new.self.line)
    (IsStopped (body_templates c.args.format c.args.outline.now Unbounded) c.args.cursor.now.rest.now c.args.cursor.now.line c.plain.new.self.line)
    (λ s. (stop_after p0 (stop_after p1 (stop_after p2 (stop_after p3 (stop_after p4 s)))))) c.from_residual-in_err-plain.result here

pub returns-clause-read : goal.returns-clause-read
returns-clause-read c =
    let p0 = params_done c.args.format c.args.outline.now c.read_params.new.params c.in_ok-read_params.ensures.shown c.in_ok-read_params.ensures.format c.in_ok-read_params.ensures.read in
    let p1 = number_done (codes "bound") c.in_ok-bound.bound c.in_ok-bound.ensures.read in
    let p2 = number_done (codes "slope") c.in_ok-slope.slope c.in_ok-slope.ensures.read in
    let p3 = point_done (codes "var") c.read_point.new.point (map shown c.variables.result.now) c.args.outline.now.variables c.variables.ensures c.in_ok-read_point.ensures.shown
    c.in_ok-read_point.ensures.read in
    let p4 = point_done (codes "ray") c.read_point-2.new.point (map shown c.variables-2.result.now) c.args.outline.now.variables c.variables-2.ensures c.in_ok-read_point-2.ensures.shown
    c.in_ok-read_point-2.ensures.read in
    let p5 = end_done c.in_ok-plain.ensures.read in
    let all = (and_then p0 (and_then p1 (and_then p2 (and_then p3 (and_then p4 p5))))) in
    all.read

pub returns-in_err-read_params-clause-shown : goal.returns-in_err-read_params-clause-shown
returns-in_err-read_params-clause-shown c = let p = err_from_is_err_and c.from_residual.result c.from_residual.ensures.1 in rw p.1 tt

pub returns-in_err-read_params-clause-format : goal.returns-in_err-read_params-clause-format
returns-in_err-read_params-clause-format c = let p = err_from_is_err_and c.from_residual.result c.from_residual.ensures.1 in rw p.1 tt

pub returns-in_err-read_params-clause-read : goal.returns-in_err-read_params-clause-read
returns-in_err-read_params-clause-read c = let p = err_from_is_err_and c.from_residual.result c.from_residual.ensures.1 in rw p.1 tt

pub returns-in_err-bound-clause-shown : goal.returns-in_err-bound-clause-shown
returns-in_err-bound-clause-shown c = let p = err_from_is_err_and c.from_residual-in_err-bound.result c.from_residual-in_err-bound.ensures.1 in rw p.1 tt

pub returns-in_err-bound-clause-format : goal.returns-in_err-bound-clause-format
returns-in_err-bound-clause-format c = let p = err_from_is_err_and c.from_residual-in_err-bound.result c.from_residual-in_err-bound.ensures.1 in rw p.1 tt

pub returns-in_err-bound-clause-read : goal.returns-in_err-bound-clause-read
returns-in_err-bound-clause-read c = let p = err_from_is_err_and c.from_residual-in_err-bound.result c.from_residual-in_err-bound.ensures.1 in rw p.1 tt

pub returns-in_err-slope-clause-shown : goal.returns-in_err-slope-clause-shown
returns-in_err-slope-clause-shown c = let p = err_from_is_err_and c.from_residual-in_err-slope.result c.from_residual-in_err-slope.ensures.1 in rw p.1 tt

pub returns-in_err-slope-clause-format : goal.returns-in_err-slope-clause-format
returns-in_err-slope-clause-format c = let p = err_from_is_err_and c.from_residual-in_err-slope.result c.from_residual-in_err-slope.ensures.1 in rw p.1 tt

pub returns-in_err-slope-clause-read : goal.returns-in_err-slope-clause-read
returns-in_err-slope-clause-read c = let p = err_from_is_err_and c.from_residual-in_err-slope.result c.from_residual-in_err-slope.ensures.1 in rw p.1 tt

pub returns-in_err-read_point-clause-shown : goal.returns-in_err-read_point-clause-shown
returns-in_err-read_point-clause-shown c = let p = err_from_is_err_and c.from_residual-in_err-read_point.result c.from_residual-in_err-read_point.ensures.1 in rw p.1 tt

pub returns-in_err-read_point-clause-format : goal.returns-in_err-read_point-clause-format
returns-in_err-read_point-clause-format c = let p = err_from_is_err_and c.from_residual-in_err-read_point.result c.from_residual-in_err-read_point.ensures.1 in rw p.1 tt

pub returns-in_err-read_point-clause-read : goal.returns-in_err-read_point-clause-read
returns-in_err-read_point-clause-read c = let p = err_from_is_err_and c.from_residual-in_err-read_point.result c.from_residual-in_err-read_point.ensures.1 in rw p.1 tt

pub returns-in_err-read_point-2-clause-shown : goal.returns-in_err-read_point-2-clause-shown
returns-in_err-read_point-2-clause-shown c = let p = err_from_is_err_and c.from_residual-in_err-read_point-2.result c.from_residual-in_err-read_point-2.ensures.1 in rw p.1 tt

pub returns-in_err-read_point-2-clause-format : goal.returns-in_err-read_point-2-clause-format
returns-in_err-read_point-2-clause-format c = let p = err_from_is_err_and c.from_residual-in_err-read_point-2.result c.from_residual-in_err-read_point-2.ensures.1 in rw p.1 tt

pub returns-in_err-read_point-2-clause-read : goal.returns-in_err-read_point-2-clause-read
returns-in_err-read_point-2-clause-read c = let p = err_from_is_err_and c.from_residual-in_err-read_point-2.result c.from_residual-in_err-read_point-2.ensures.1 in rw p.1 tt

pub returns-in_err-plain-clause-shown : goal.returns-in_err-plain-clause-shown
returns-in_err-plain-clause-shown c = let p = err_from_is_err_and c.from_residual-in_err-plain.result c.from_residual-in_err-plain.ensures.1 in rw p.1 tt

pub returns-in_err-plain-clause-format : goal.returns-in_err-plain-clause-format
returns-in_err-plain-clause-format c = let p = err_from_is_err_and c.from_residual-in_err-plain.result c.from_residual-in_err-plain.ensures.1 in rw p.1 tt

pub returns-in_err-plain-clause-read : goal.returns-in_err-plain-clause-read
returns-in_err-plain-clause-read c = let p = err_from_is_err_and c.from_residual-in_err-plain.result c.from_residual-in_err-plain.ensures.1 in rw p.1 tt
