-- The multipliers of one more constraint are read, or reading stops at them.
use Rattle.std.proofs.Common.{rules, ◌≡◌, ◌+◌, [], ◌∷◌, ◌++◌, length, ap, sym, ◌∙◌, arith, length-take}
use Rattle.std.proofs.lemmas.List.{length-map}
use Rattle.std.proofs.lemmas.Result.{err_from_is_err_and}
use Rattle.std.specs.Prelude.{IfErr}
use Rattle.dcx_atom.specs.declared.array.Array.{Array}
use Rattle.dcx_cert_lines.specs.Templates.{IsStopped, IfMisfit, dual_template, duals_from}
use Rattle.dcx_cert_lines.proofs.Filled.{stop_map}
use Rattle.dcx_cert_lines.proofs.Items.{duals_shown, duals_read, duals_stop}
use Rattle.dcx_cert_lines.proofs.arrays.read_duals.Goals as goal

pub returns-in_err-read_dual-clause-misfit : goal.returns-in_err-read_dual-clause-misfit
returns-in_err-read_dual-clause-misfit c =
    let shape = c.shape-item.result in
    let number = c.loop-shape.number + 1 in
    let here : IfErr c.from_residual.result (IfMisfit (IsStopped (dual_template (number, shape) ∷ []) c.loop-shape.cursor.rest.now c.loop-shape.cursor.line c.read_dual.new.cursor.line)) =
    search rules in
    stop_map (IsStopped (dual_template (number, shape) ∷ []) c.loop-shape.cursor.rest.now c.loop-shape.cursor.line c.read_dual.new.cursor.line)
    (IsStopped (duals_from 1 c.args.shapes.now) c.args.cursor.now.rest.now c.args.cursor.now.line c.read_dual.new.cursor.line)
    (λ s. duals_stop c.args.shapes.now number c.loop-shape.shape-index shape c.loop-shape.duals.items c.args.cursor.now.rest.now c.args.cursor.now.line c.loop-shape.cursor.rest.now
    c.loop-shape.cursor.line c.read_dual.new.cursor.line (ap (λ n. n + 1) c.loop-shape.invariant.counted) (omega arith) c.shape-item.is c.loop-shape.invariant.shown c.loop-shape.invariant.read s)
    c.from_residual.result here

pub loop-shape-preserved : goal.loop-shape-preserved
loop-shape-preserved c =
    let shape = c.shape-item.result in
    let number = c.loop-shape.number + 1 in
    let d = c.in_ok-read_dual.field-0 in
    let ds = c.loop-shape.duals.items in
    let put : c.push.new.self.items ≡ ds ++ d ∷ [] = c.in_ok-push.ensures.items in
    let numbered = ap (λ n. n + 1) c.loop-shape.invariant.counted in
    let shown = c.loop-shape.invariant.shown in
    let count : length ds ≡ c.loop-shape.shape-index = sym (length-map ds (λ (a : Array). a.shape)) ∙ ap length shown ∙ omega (arith, length-take c.loop-shape.shape-index c.args.shapes.now) in
    record {
      counted = numbered;
      shown = duals_shown c.args.shapes.now c.loop-shape.shape-index shape ds c.push.new.self.items d (omega arith) c.shape-item.is shown c.in_ok-read_dual.ensures.shape put;
      read = duals_read number c.loop-shape.shape-index ds c.push.new.self.items d c.args.cursor.now.rest.now c.args.cursor.now.line c.loop-shape.cursor.rest.now c.loop-shape.cursor.line
          c.read_dual.new.cursor.rest.now c.read_dual.new.cursor.line numbered count put c.loop-shape.invariant.read c.in_ok-read_dual.ensures.read;
    }

pub loop-shape-smaller : goal.loop-shape-smaller
loop-shape-smaller c = search rules

pub returns-in_err-read_dual-clause-shown : goal.returns-in_err-read_dual-clause-shown
returns-in_err-read_dual-clause-shown c = let p = err_from_is_err_and c.from_residual.result c.from_residual.ensures.1 in rw p.1 tt

pub returns-in_err-read_dual-clause-read : goal.returns-in_err-read_dual-clause-read
returns-in_err-read_dual-clause-read c = let p = err_from_is_err_and c.from_residual.result c.from_residual.ensures.1 in rw p.1 tt

pub returns-in_err-push-clause-shown : goal.returns-in_err-push-clause-shown
returns-in_err-push-clause-shown c = let p = err_from_is_err_and c.from_residual-in_err-push.result c.from_residual-in_err-push.ensures.1 in rw p.1 tt

pub returns-in_err-push-clause-read : goal.returns-in_err-push-clause-read
returns-in_err-push-clause-read c = let p = err_from_is_err_and c.from_residual-in_err-push.result c.from_residual-in_err-push.ensures.1 in rw p.1 tt

pub returns-in_err-push-clause-misfit : goal.returns-in_err-push-clause-misfit
returns-in_err-push-clause-misfit c = let p = err_from_is_err_and c.from_residual-in_err-push.result c.from_residual-in_err-push.ensures.1 in rw (p.1, p.2) tt
