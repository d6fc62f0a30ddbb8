-- One more array is read, or reading stops at it.
use Rattle.std.proofs.Common.{rules, [], ◌∷◌, map, arith}
use Rattle.std.specs.Prelude.{codes, IfErr}
use Rattle.std.proofs.lemmas.Result.{err_from_is_err_and}
use Rattle.dcx_cert_sections.specs.Outlines.{shown}
use Rattle.dcx_cert_lines.specs.Templates.{IsStopped, IfMisfit, named_template}
use Rattle.dcx_cert_lines.proofs.Filled.{stop_map}
use Rattle.dcx_cert_lines.proofs.Slots.{mapped_at, absent_among, more_shown, more_read, stop_at}
use Rattle.dcx_cert_lines.proofs.arrays.read_setting.Goals as goal

pub read_parameter-requires : goal.read_parameter-requires
read_parameter-requires c =
    let at = mapped_at shown c.args.parameters.now c.loop-named.named-index c.named-item.result (omega arith) c.named-item.is in
    absent_among (map shown c.args.parameters.now) c.loop-named.named-index (shown c.named-item.result) c.loop-named.setting at.0 at.1 c.requires.distinct c.loop-named.invariant.shown

pub returns-in_err-read_parameter-clause-misfit : goal.returns-in_err-read_parameter-clause-misfit
returns-in_err-read_parameter-clause-misfit c =
    let x = shown c.named-item.result in
    let slots = map shown c.args.parameters.now in
    let at = mapped_at shown c.args.parameters.now c.loop-named.named-index c.named-item.result (omega arith) c.named-item.is in
    let here : IfErr c.from_residual.result (IfMisfit (IsStopped (named_template (codes "param") x ∷ []) c.loop-named.cursor.rest.now c.loop-named.cursor.line c.read_parameter.new.cursor.line)) =
    search rules in
    stop_map (IsStopped (named_template (codes "param") x ∷ []) c.loop-named.cursor.rest.now c.loop-named.cursor.line c.read_parameter.new.cursor.line)
    (IsStopped (map (named_template (codes "param")) slots) c.args.cursor.now.rest.now c.args.cursor.now.line c.read_parameter.new.cursor.line)
    (λ s. stop_at (codes "param") slots c.loop-named.named-index x c.loop-named.setting c.args.cursor.now.rest.now c.args.cursor.now.line c.loop-named.cursor.rest.now c.loop-named.cursor.line
    c.read_parameter.new.cursor.line at.0 at.1 c.loop-named.invariant.shown c.loop-named.invariant.read s)
    c.from_residual.result here

pub loop-named-preserved : goal.loop-named-preserved
loop-named-preserved c =
    let x = shown c.named-item.result in
    let slots = map shown c.args.parameters.now in
    let at = mapped_at shown c.args.parameters.now c.loop-named.named-index c.named-item.result (omega arith) c.named-item.is in
    let next = c.in_ok-read_parameter.ensures.read in
    record {
      shown = more_shown slots c.loop-named.named-index x c.loop-named.setting c.read_parameter.new.setting next.array at.0 at.1 c.loop-named.invariant.shown next.shape next.put;
      read = more_read (codes "param") x c.loop-named.setting c.read_parameter.new.setting c.args.cursor.now.rest.now c.args.cursor.now.line c.loop-named.cursor.rest.now c.loop-named.cursor.line
          c.read_parameter.new.cursor.rest.now c.read_parameter.new.cursor.line c.loop-named.invariant.read next;
    }

pub loop-named-smaller : goal.loop-named-smaller
loop-named-smaller c = search rules

pub returns-in_err-read_parameter-clause-shown : goal.returns-in_err-read_parameter-clause-shown
returns-in_err-read_parameter-clause-shown c = let p = err_from_is_err_and c.from_residual.result c.from_residual.ensures.1 in rw p.1 tt

pub returns-in_err-read_parameter-clause-read : goal.returns-in_err-read_parameter-clause-read
returns-in_err-read_parameter-clause-read c = let p = err_from_is_err_and c.from_residual.result c.from_residual.ensures.1 in rw p.1 tt
