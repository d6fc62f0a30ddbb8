-- The weights of one more atom are read, or reading stops at them.
use Rattle.std.proofs.Common.{rules, ◌≡◌, [], ◌∷◌, ◌++◌, map, get_or, arith}
use Rattle.std.specs.Prelude.{IfErr}
use Rattle.std.proofs.lemmas.Result.{err_from_is_err_and}
use Rattle.dcx_cert_sections.specs.declared.outline.AtomRows.{AtomRows}
use Rattle.dcx_cert_sections.specs.Outlines.{rows_shown}
use Rattle.dcx_cert_lines.specs.Templates.{IsStopped, IfMisfit, node_template}
use Rattle.dcx_cert_lines.proofs.Filled.{stop_map}
use Rattle.dcx_cert_lines.proofs.Slots.{read_at}
use Rattle.dcx_cert_lines.proofs.Items.{weights_shown, weights_read, weights_stop}
use Rattle.dcx_cert_lines.proofs.arrays.read_weights.Goals as goal

pub returns-in_err-read_node-clause-misfit : goal.returns-in_err-read_node-clause-misfit
returns-in_err-read_node-clause-misfit c =
    let d : AtomRows = record { node = record { 0 = 0 }; rows = 0 } in
    let x = rows_shown (get_or c.args.atoms.now c.loop-atom.atom-index d) in
    let atoms = map rows_shown c.args.atoms.now in
    let at = read_at rows_shown c.args.atoms.now c.loop-atom.atom-index d (omega arith) in
    let here : IfErr c.from_residual.result (IfMisfit (IsStopped (node_template x ∷ []) c.loop-atom.cursor.rest.now c.loop-atom.cursor.line c.read_node.new.cursor.line)) = search rules in
    stop_map (IsStopped (node_template x ∷ []) c.loop-atom.cursor.rest.now c.loop-atom.cursor.line c.read_node.new.cursor.line)
    (IsStopped (map node_template atoms) c.args.cursor.now.rest.now c.args.cursor.now.line c.read_node.new.cursor.line)
    (λ s. weights_stop atoms c.loop-atom.atom-index x c.loop-atom.weights.items c.args.cursor.now.rest.now c.args.cursor.now.line c.loop-atom.cursor.rest.now c.loop-atom.cursor.line
    c.read_node.new.cursor.line at.0 at.1 c.loop-atom.invariant.shown c.loop-atom.invariant.read s)
    c.from_residual.result here

pub loop-atom-preserved : goal.loop-atom-preserved
loop-atom-preserved c =
    let d : AtomRows = record { node = record { 0 = 0 }; rows = 0 } in
    let x = rows_shown (get_or c.args.atoms.now c.loop-atom.atom-index d) in
    let atoms = map rows_shown c.args.atoms.now in
    let at = read_at rows_shown c.args.atoms.now c.loop-atom.atom-index d (omega arith) in
    let w = c.in_ok-read_node.field-0 in
    let put : c.push.new.self.items ≡ c.loop-atom.weights.items ++ w ∷ [] = c.in_ok-push.ensures.items in
    record {
      shown = weights_shown atoms c.loop-atom.atom-index x c.loop-atom.weights.items c.push.new.self.items w at.0 at.1 c.loop-atom.invariant.shown c.in_ok-read_node.ensures.shown put;
      read = weights_read c.loop-atom.weights.items c.push.new.self.items w c.args.cursor.now.rest.now c.args.cursor.now.line c.loop-atom.cursor.rest.now c.loop-atom.cursor.line
          c.read_node.new.cursor.rest.now c.read_node.new.cursor.line put c.loop-atom.invariant.read c.in_ok-read_node.ensures.read;
    }

pub loop-atom-smaller : goal.loop-atom-smaller
loop-atom-smaller c = search rules

pub returns-in_err-read_node-clause-shown : goal.returns-in_err-read_node-clause-shown
returns-in_err-read_node-clause-shown c = let p = err_from_is_err_and c.from_residual.result c.from_residual.ensures.1 in rw p.1 tt

pub returns-in_err-read_node-clause-read : goal.returns-in_err-read_node-clause-read
returns-in_err-read_node-clause-read c = let p = err_from_is_err_and c.from_residual.result c.from_residual.ensures.1 in rw p.1 tt

pub returns-in_err-push-clause-shown : goal.returns-in_err-push-clause-shown
returns-in_err-push-clause-shown c = let p = err_from_is_err_and c.from_residual-in_err-push.result c.from_residual-in_err-push.ensures.1 in rw p.1 tt

pub returns-in_err-push-clause-read : goal.returns-in_err-push-clause-read
returns-in_err-push-clause-read c = let p = err_from_is_err_and c.from_residual-in_err-push.result c.from_residual-in_err-push.ensures.1 in rw p.1 tt

pub returns-in_err-push-clause-misfit : goal.returns-in_err-push-clause-misfit
returns-in_err-push-clause-misfit c = let p = err_from_is_err_and c.from_residual-in_err-push.result c.from_residual-in_err-push.ensures.1 in rw (p.1, p.2) tt
