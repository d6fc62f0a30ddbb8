-- One more section is read, or reading stops in it.
use Rattle.std.proofs.Common.{rules, ◌≡◌, ◌+◌, [], ◌∷◌, ◌++◌, length, ap, arith, length-append}
use Rattle.std.specs.Prelude.{IfErr}
use Rattle.std.proofs.lemmas.Result.{err_from_is_err_and}
use Rattle.dcx_cert_lines.specs.Templates.{IsSectionStop, IsListStop, IfMisfit}
use Rattle.dcx_cert_lines.proofs.Filled.{stop_map}
use Rattle.dcx_cert_lines.proofs.Lists.{none_read, one_more, next_stops}
use Rattle.dcx_cert_lines.proofs.whole.read_sections.Goals as goal

pub sections-init : goal.sections-init
sections-init c = record {
  counted = ap length c.requires.empty;
  read = none_read c.args.format c.args.outline.now c.args.list.now.items c.args.cursor.now.rest.now c.args.cursor.now.line c.args.cursor.now.small c.requires.empty;
}

pub sections-preserved : goal.sections-preserved
sections-preserved c =
    let s = c.in_ok-read_section.field-0 in
    let list = c.sections.list.items in
    let counted = c.sections.invariant.counted in
    let put : c.push.new.self.items ≡ list ++ s ∷ [] = c.in_ok-push.ensures.items in
    record {
      counted = omega (arith, ap length put, length-append list (s ∷ []), counted);
      read = one_more c.args.format c.args.outline.now list c.push.new.self.items s
          (c.from.result + 1) c.args.cursor.now.rest.now c.args.cursor.now.line c.sections.cursor.rest.now c.sections.cursor.line c.read_section.new.cursor.rest.now c.read_section.new.cursor.line
          c.sections.invariant.read c.in_ok-read_section.ensures.shown c.in_ok-read_section.ensures.format (omega (arith, counted, c.from.ensures)) put c.in_ok-read_section.ensures.read;
    }

pub returns-in_err-read_section-clause-misfit : goal.returns-in_err-read_section-clause-misfit
returns-in_err-read_section-clause-misfit c =
    let counted = c.sections.invariant.counted in
    let here : IfErr c.from_residual.result
    (IfMisfit (IsSectionStop c.args.format c.args.outline.now (c.from.result + 1) c.sections.cursor.rest.now c.sections.cursor.line c.read_section.new.cursor.line)) = search rules in
    stop_map (IsSectionStop c.args.format c.args.outline.now (c.from.result + 1) c.sections.cursor.rest.now c.sections.cursor.line c.read_section.new.cursor.line)
    (IsListStop c.args.format c.args.outline.now c.args.count c.args.cursor.now.rest.now c.args.cursor.now.line c.read_section.new.cursor.line)
    (λ s. next_stops c.args.format c.args.outline.now c.args.count c.sections.list.items
    (c.from.result + 1) c.args.cursor.now.rest.now c.args.cursor.now.line c.sections.cursor.rest.now c.sections.cursor.line c.read_section.new.cursor.line
    c.sections.invariant.read (omega (arith, counted, c.sections-test.true)) (omega (arith, counted, c.from.ensures)) s)
    c.from_residual.result here

pub sections-smaller : goal.sections-smaller
sections-smaller c = search rules

pub returns-in_err-read_section-clause-count : goal.returns-in_err-read_section-clause-count
returns-in_err-read_section-clause-count c = let p = err_from_is_err_and c.from_residual.result c.from_residual.ensures.1 in rw p.1 tt

pub returns-in_err-read_section-clause-read : goal.returns-in_err-read_section-clause-read
returns-in_err-read_section-clause-read c = let p = err_from_is_err_and c.from_residual.result c.from_residual.ensures.1 in rw p.1 tt

pub returns-in_err-push-clause-count : goal.returns-in_err-push-clause-count
returns-in_err-push-clause-count c = let p = err_from_is_err_and c.from_residual-in_err-push.result c.from_residual-in_err-push.ensures.1 in rw p.1 tt

pub returns-in_err-push-clause-read : goal.returns-in_err-push-clause-read
returns-in_err-push-clause-read c = let p = err_from_is_err_and c.from_residual-in_err-push.result c.from_residual-in_err-push.ensures.1 in rw p.1 tt

pub returns-in_err-push-clause-misfit : goal.returns-in_err-push-clause-misfit
returns-in_err-push-clause-misfit c = let p = err_from_is_err_and c.from_residual-in_err-push.result c.from_residual-in_err-push.ensures.1 in rw (p.1, p.2) tt
