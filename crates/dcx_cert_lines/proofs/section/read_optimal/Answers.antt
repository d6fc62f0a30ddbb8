-- Part after part is read, and reading stops in the first that isn't there.
use Rattle.std.proofs.Common.{rules, [], ◌∷◌, ◌++◌, map, subst}
use Rattle.std.specs.Prelude.{codes, IfErr}
use Rattle.std.proofs.lemmas.Result.{err_from_is_err_and}
use Rattle.dcx_cert_sections.specs.Outlines.{shown, rows_shown}
use Rattle.dcx_cert_lines.specs.declared.kind.Kind.TheVariants.{Optimal}
use Rattle.dcx_cert_lines.specs.Templates.{IsStopped, IfMisfit, body_templates, param_templates, number_template, named_template, node_template, duals_from, end_template}
use Rattle.dcx_cert_lines.proofs.Filled.{stop_map}
use Rattle.dcx_cert_lines.proofs.Chain.{and_then, stop_after, stop_in, params_done, number_done, point_done, duals_done, nodes_done, end_done}
use Rattle.dcx_cert_lines.proofs.section.read_optimal.Goals as goal

pub returns-in_err-read_params-clause-misfit : goal.returns-in_err-read_params-clause-misfit
returns-in_err-read_params-clause-misfit c =
    let here : IfErr c.from_residual.result
    (IfMisfit (IsStopped (param_templates c.args.format c.args.outline.now) c.args.cursor.now.rest.now c.args.cursor.now.line c.read_params.new.cursor.line)) = search rules in
    stop_map (IsStopped (param_templates c.args.format c.args.outline.now) c.args.cursor.now.rest.now c.args.cursor.now.line c.read_params.new.cursor.line)
    (IsStopped (body_templates c.args.format c.args.outline.now Optimal) c.args.cursor.now.rest.now c.args.cursor.now.line c.read_params.new.cursor.line)
    (λ s. (stop_in ((number_template (codes "value") ∷ []) ++ ((map (named_template (codes "var")) c.args.outline.now.variables)
    ++ ((duals_from 1 c.args.outline.now.constraints) ++ ((map node_template c.args.outline.now.atoms) ++ (end_template ∷ []))))) s)) c.from_residual.result here

pub returns-in_err-value-clause-misfit : goal.returns-in_err-value-clause-misfit
returns-in_err-value-clause-misfit c =
    let p0 = params_done c.args.format c.args.outline.now c.read_params.new.params c.in_ok-read_params.ensures.shown c.in_ok-read_params.ensures.format c.in_ok-read_params.ensures.read in
    let here : IfErr c.from_residual-in_err-value.result
    (IfMisfit (IsStopped (number_template (codes "value") ∷ []) c.read_params.new.cursor.rest.now c.read_params.new.cursor.line c.number.new.self.line)) = search rules in
    stop_map (IsStopped (number_template (codes "value") ∷ []) c.read_params.new.cursor.rest.now c.read_params.new.cursor.line c.number.new.self.line)
    (IsStopped (body_templates c.args.format c.args.outline.now Optimal) c.args.cursor.now.rest.now c.args.cursor.now.line c.number.new.self.line)
    (λ s. (stop_after p0 (stop_in ((map (named_template (codes "var")) c.args.outline.now.variables)
    ++ ((duals_from 1 c.args.outline.now.constraints) ++ ((map node_template c.args.outline.now.atoms) ++ (end_template ∷ [])))) s))) c.from_residual-in_err-value.result here

pub returns-in_err-read_point-clause-misfit : goal.returns-in_err-read_point-clause-misfit
returns-in_err-read_point-clause-misfit c =
    let p0 = params_done c.args.format c.args.outline.now c.read_params.new.params c.in_ok-read_params.ensures.shown c.in_ok-read_params.ensures.format c.in_ok-read_params.ensures.read in
    let p1 = number_done (codes "value") c.in_ok-value.value c.in_ok-value.ensures.read in
    let here : IfErr c.from_residual-in_err-read_point.result
    (IfMisfit (IsStopped (map (named_template (codes "var")) (map shown c.variables.result.now)) c.number.new.self.rest.now c.number.new.self.line c.read_point.new.cursor.line)) = search rules in
    stop_map (IsStopped (map (named_template (codes "var")) (map shown c.variables.result.now)) c.number.new.self.rest.now c.number.new.self.line c.read_point.new.cursor.line)
    (IsStopped (body_templates c.args.format c.args.outline.now Optimal) c.args.cursor.now.rest.now c.args.cursor.now.line c.read_point.new.cursor.line)
    (λ s. (stop_after p0 (stop_after p1 (stop_in ((duals_from 1 c.args.outline.now.constraints) ++ ((map node_template c.args.outline.now.atoms) ++ (end_template ∷ [])))
    (subst (λ t. IsStopped (map (named_template (codes "var")) t) c.number.new.self.rest.now c.number.new.self.line c.read_point.new.cursor.line) c.variables.ensures s)))))
    c.from_residual-in_err-read_point.result here

pub returns-in_err-read_duals-clause-misfit : goal.returns-in_err-read_duals-clause-misfit
returns-in_err-read_duals-clause-misfit c =
    let p0 = params_done c.args.format c.args.outline.now c.read_params.new.params c.in_ok-read_params.ensures.shown c.in_ok-read_params.ensures.format c.in_ok-read_params.ensures.read in
    let p1 = number_done (codes "value") c.in_ok-value.value c.in_ok-value.ensures.read in
    let p2 = point_done (codes "var") c.read_point.new.point (map shown c.variables.result.now) c.args.outline.now.variables c.variables.ensures c.in_ok-read_point.ensures.shown
    c.in_ok-read_point.ensures.read in
    let here : IfErr c.from_residual-in_err-read_duals.result
    (IfMisfit (IsStopped (duals_from 1 c.constraints.result.now) c.read_point.new.cursor.rest.now c.read_point.new.cursor.line c.read_duals.new.cursor.line)) = search rules in
    stop_map (IsStopped (duals_from 1 c.constraints.result.now) c.read_point.new.cursor.rest.now c.read_point.new.cursor.line c.read_duals.new.cursor.line)
    (IsStopped (body_templates c.args.format c.args.outline.now Optimal) c.args.cursor.now.rest.now c.args.cursor.now.line c.read_duals.new.cursor.line)
    (λ s. (stop_after p0 (stop_after p1
    (stop_after p2 (stop_in ((map node_template c.args.outline.now.atoms) ++ (end_template ∷ []))
    (subst (λ t. IsStopped (duals_from 1 t) c.read_point.new.cursor.rest.now c.read_point.new.cursor.line c.read_duals.new.cursor.line) c.constraints.ensures s))))))
    c.from_residual-in_err-read_duals.result here

pub returns-in_err-read_weights-clause-misfit : goal.returns-in_err-read_weights-clause-misfit
returns-in_err-read_weights-clause-misfit c =
    let p0 = params_done c.args.format c.args.outline.now c.read_params.new.params c.in_ok-read_params.ensures.shown c.in_ok-read_params.ensures.format c.in_ok-read_params.ensures.read in
    let p1 = number_done (codes "value") c.in_ok-value.value c.in_ok-value.ensures.read in
    let p2 = point_done (codes "var") c.read_point.new.point (map shown c.variables.result.now) c.args.outline.now.variables c.variables.ensures c.in_ok-read_point.ensures.shown
    c.in_ok-read_point.ensures.read in
    let p3 = duals_done c.read_duals.new.duals.items c.constraints.result.now c.args.outline.now.constraints c.constraints.ensures c.in_ok-read_duals.ensures.shown c.in_ok-read_duals.ensures.read in
    let here : IfErr c.from_residual-in_err-read_weights.result
    (IfMisfit (IsStopped (map node_template (map rows_shown c.atoms.result.now)) c.read_duals.new.cursor.rest.now c.read_duals.new.cursor.line c.read_weights.new.cursor.line)) = search rules in
    stop_map (IsStopped (map node_template (map rows_shown c.atoms.result.now)) c.read_duals.new.cursor.rest.now c.read_duals.new.cursor.line c.read_weights.new.cursor.line)
    (IsStopped (body_templates c.args.format c.args.outline.now Optimal) c.args.cursor.now.rest.now c.args.cursor.now.line c.read_weights.new.cursor.line)
    (λ s. (stop_after p0 (stop_after p1
    (stop_after p2 (stop_after p3
    (stop_in (end_template ∷ []) (subst (λ t. IsStopped (map node_template t) c.read_duals.new.cursor.rest.now c.read_duals.new.cursor.line c.read_weights.new.cursor.line) c.atoms.ensures s)))))))
    c.from_residual-in_err-read_weights.result here

pub returns-in_err-plain-clause-misfit : goal.returns-in_err-plain-clause-misfit
returns-in_err-plain-clause-misfit c =
    let p0 = params_done c.args.format c.args.outline.now c.read_params.new.params c.in_ok-read_params.ensures.shown c.in_ok-read_params.ensures.format c.in_ok-read_params.ensures.read in
    let p1 = number_done (codes "value") c.in_ok-value.value c.in_ok-value.ensures.read in
    let p2 = point_done (codes "var") c.read_point.new.point (map shown c.variables.result.now) c.args.outline.now.variables c.variables.ensures c.in_ok-read_point.ensures.shown
    c.in_ok-read_point.ensures.read in
    let p3 = duals_done c.read_duals.new.duals.items c.constraints.result.now c.args.outline.now.constraints c.constraints.ensures c.in_ok-read_duals.ensures.shown c.in_ok-read_duals.ensures.read in
    let p4 = nodes_done c.read_weights.new.weights.items (map rows_shown c.atoms.result.now) c.args.outline.now.atoms c.atoms.ensures c.in_ok-read_weights.ensures.shown
    c.in_ok-read_weights.ensures.read in
    let here : IfErr c.from_residual-in_err-plain.result (IfMisfit (IsStopped (end_template ∷ []) c.read_weights.new.cursor.rest.now c.read_weights.new.cursor.line c.plain.new.self.line)) =
    search rules in
    stop_map (IsStopped (end_template ∷ []) c.read_weights.new.cursor.rest.now c.read_weights.new.cursor.line c.plain.new.self.line)
    (IsStopped (body_templates c.args.format c.args.outline.now Optimal) c.args.cursor.now.rest.now c.args.cursor.now.line c.plain.new.self.line)
    (λ s. (stop_after p0 (stop_after p1 (stop_after p2 (stop_after p3 (stop_after p4 s)))))) c.from_residual-in_err-plain.result here

pub returns-clause-read : goal.returns-clause-read
returns-clause-read c =
    let p0 = params_done c.args.format c.args.outline.now c.read_params.new.params c.in_ok-read_params.ensures.shown c.in_ok-read_params.ensures.format c.in_ok-read_params.ensures.read in
    let p1 = number_done (codes "value") c.in_ok-value.value c.in_ok-value.ensures.read in
    let p2 = point_done (codes "var") c.read_point.new.point (map shown c.variables.result.now) c.args.outline.now.variables c.variables.ensures c.in_ok-read_point.ensures.shown
    c.in_ok-read_point.ensures.read in
    let p3 = duals_done c.read_duals.new.duals.items c.constraints.result.now c.args.outline.now.constraints c.constraints.ensures c.in_ok-read_duals.ensures.shown c.in_ok-read_duals.ensures.read in
    let p4 = nodes_done c.read_weights.new.weights.items (map rows_shown c.atoms.result.now) c.args.outline.now.atoms c.atoms.ensures c.in_ok-read_weights.ensures.shown
    c.in_ok-read_weights.ensures.read in
    let p5 = end_done c.in_ok-plain.ensures.read in
    let all = (and_then p0 (and_then p1 (and_then p2 (and_then p3 (and_then p4 p5))))) in
    all.read

pub returns-in_err-read_params-clause-shown : goal.returns-in_err-read_params-clause-shown
returns-in_err-read_params-clause-shown c = let p = err_from_is_err_and c.from_residual.result c.from_residual.ensures.1 in rw p.1 tt

pub returns-in_err-read_params-clause-format : goal.returns-in_err-read_params-clause-format
returns-in_err-read_params-clause-format c = let p = err_from_is_err_and c.from_residual.result c.from_residual.ensures.1 in rw p.1 tt

pub returns-in_err-read_params-clause-read : goal.returns-in_err-read_params-clause-read
returns-in_err-read_params-clause-read c = let p = err_from_is_err_and c.from_residual.result c.from_residual.ensures.1 in rw p.1 tt

pub returns-in_err-value-clause-shown : goal.returns-in_err-value-clause-shown
returns-in_err-value-clause-shown c = let p = err_from_is_err_and c.from_residual-in_err-value.result c.from_residual-in_err-value.ensures.1 in rw p.1 tt

pub returns-in_err-value-clause-format : goal.returns-in_err-value-clause-format
returns-in_err-value-clause-format c = let p = err_from_is_err_and c.from_residual-in_err-value.result c.from_residual-in_err-value.ensures.1 in rw p.1 tt

pub returns-in_err-value-clause-read : goal.returns-in_err-value-clause-read
returns-in_err-value-clause-read c = let p = err_from_is_err_and c.from_residual-in_err-value.result c.from_residual-in_err-value.ensures.1 in rw p.1 tt

pub returns-in_err-read_point-clause-shown : goal.returns-in_err-read_point-clause-shown
returns-in_err-read_point-clause-shown c = let p = err_from_is_err_and c.from_residual-in_err-read_point.result c.from_residual-in_err-read_point.ensures.1 in rw p.1 tt

pub returns-in_err-read_point-clause-format : goal.returns-in_err-read_point-clause-format
returns-in_err-read_point-clause-format c = let p = err_from_is_err_and c.from_residual-in_err-read_point.result c.from_residual-in_err-read_point.ensures.1 in rw p.1 tt

pub returns-in_err-read_point-clause-read : goal.returns-in_err-read_point-clause-read
returns-in_err-read_point-clause-read c = let p = err_from_is_err_and c.from_residual-in_err-read_point.result c.from_residual-in_err-read_point.ensures.1 in rw p.1 tt

pub returns-in_err-read_duals-clause-shown : goal.returns-in_err-read_duals-clause-shown
returns-in_err-read_duals-clause-shown c = let p = err_from_is_err_and c.from_residual-in_err-read_duals.result c.from_residual-in_err-read_duals.ensures.1 in rw p.1 tt

pub returns-in_err-read_duals-clause-format : goal.returns-in_err-read_duals-clause-format
returns-in_err-read_duals-clause-format c = let p = err_from_is_err_and c.from_residual-in_err-read_duals.result c.from_residual-in_err-read_duals.ensures.1 in rw p.1 tt

pub returns-in_err-read_duals-clause-read : goal.returns-in_err-read_duals-clause-read
returns-in_err-read_duals-clause-read c = let p = err_from_is_err_and c.from_residual-in_err-read_duals.result c.from_residual-in_err-read_duals.ensures.1 in rw p.1 tt

pub returns-in_err-read_weights-clause-shown : goal.returns-in_err-read_weights-clause-shown
returns-in_err-read_weights-clause-shown c = let p = err_from_is_err_and c.from_residual-in_err-read_weights.result c.from_residual-in_err-read_weights.ensures.1 in rw p.1 tt

pub returns-in_err-read_weights-clause-format : goal.returns-in_err-read_weights-clause-format
returns-in_err-read_weights-clause-format c = let p = err_from_is_err_and c.from_residual-in_err-read_weights.result c.from_residual-in_err-read_weights.ensures.1 in rw p.1 tt

pub returns-in_err-read_weights-clause-read : goal.returns-in_err-read_weights-clause-read
returns-in_err-read_weights-clause-read c = let p = err_from_is_err_and c.from_residual-in_err-read_weights.result c.from_residual-in_err-read_weights.ensures.1 in rw p.1 tt

pub returns-in_err-plain-clause-shown : goal.returns-in_err-plain-clause-shown
returns-in_err-plain-clause-shown c = let p = err_from_is_err_and c.from_residual-in_err-plain.result c.from_residual-in_err-plain.ensures.1 in rw p.1 tt

pub returns-in_err-plain-clause-format : goal.returns-in_err-plain-clause-format
returns-in_err-plain-clause-format c = let p = err_from_is_err_and c.from_residual-in_err-plain.result c.from_residual-in_err-plain.ensures.1 in rw p.1 tt

pub returns-in_err-plain-clause-read : goal.returns-in_err-plain-clause-read
returns-in_err-plain-clause-read c = let p = err_from_is_err_and c.from_residual-in_err-plain.result c.from_residual-in_err-plain.ensures.1 in rw p.1 tt
