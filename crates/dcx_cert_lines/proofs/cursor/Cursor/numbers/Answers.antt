-- The front stands there or not, and the numbers behind it do or not.
use Rattle.std.proofs.Common.{[], ◌∷◌, ◌++◌, sym, ap, ◌∙◌, subst}
use Rattle.std.specs.Prelude.{IfSome}
use Rattle.dcx_lines.specs.Reading.{HasEntries}
use Rattle.dcx_cert_lines.specs.Templates.{filled, IsRead}
use Rattle.dcx_cert_lines.proofs.Steps.{front_read, line_read, no_front, stops_here}
use Rattle.dcx_cert_lines.proofs.cursor.Cursor.numbers.Goals as goal

pub returns-in-None-clause-misfit : goal.returns-in-None-clause-misfit
returns-in-None-clause-misfit c = stops_here _ _ _ _ c.args.self.now.small (no_front c.args.front.now c.args.self.now.rest.now c.args.count c.in-None.ensures.cases)

pub returns-in-Some-2-clause-read : goal.returns-in-Some-2-clause-read
returns-in-Some-2-clause-read c =
    let cases = c.in-Some.ensures.cases in
    let entries = subst (λ o. IfSome o (λ rest. HasEntries c.args.count c.in-Some.behind.now c.read_entries.new.numbers.items rest.now)) c.in-Some-2.is c.in_ok-rest-in-Some.ensures.read in
    let stands = front_read c.args.front.now c.args.self.now.rest.now cases.0 ∙ ap (λ t. c.args.front.now ++ t) (sym cases.1) in
    let read = line_read c.args.front.now c.args.self.now.rest.now c.in-Some.behind.now c.in-Some-2.rest.now c.args.count c.args.self.now.line c.read_entries.new.numbers.items stands entries in
    subst (λ k. IsRead (filled c.args.front.now c.read_entries.new.numbers.items ∷ []) c.args.self.now.rest.now c.args.self.now.line c.in-Some-2.rest.now k) (sym c.saturating_add-self.ensures) read
