-- What is read makes the section.
use Rattle.std.proofs.Common.{◌≡◌, IfOk, refl, sym, subst}
use Rattle.dcx_cert_sections.specs.declared.section.Section.{Section}
use Rattle.dcx_cert_sections.specs.Shown.{IsSectionOf}
use Rattle.dcx_cert_sections.specs.Formats.{IsSectionOfFormat}
use Rattle.dcx_cert_lines.specs.declared.kind.Kind.TheVariants.{Infeasible}
use Rattle.dcx_cert_lines.specs.CertText.{section_body}
use Rattle.dcx_cert_lines.specs.Parts.{infeasible_of}
use Rattle.dcx_cert_lines.specs.Templates.{IsRead, kind_of}
use Rattle.dcx_cert_lines.proofs.section.infeasible_section.Goals as goal

pub returns-in-Ok-clause-kind : goal.returns-in-Ok-clause-kind
returns-in-Ok-clause-kind c = subst (λ (s : Section). kind_of s ≡ Infeasible) (sym c.made_infeasible.ensures) refl

pub returns-in-Ok-clause-shown : goal.returns-in-Ok-clause-shown
returns-in-Ok-clause-shown c =
    let parts = c.read_infeasible.new.parts in
    let shown = subst (λ r. IfOk r (λ gap. IsSectionOf c.args.outline.now (infeasible_of gap parts))) c.in-Ok.is c.read_infeasible.ensures.shown in
    subst (λ (s : Section). IsSectionOf c.args.outline.now s) (sym c.made_infeasible.ensures) shown

pub returns-in-Ok-clause-format : goal.returns-in-Ok-clause-format
returns-in-Ok-clause-format c =
    let parts = c.read_infeasible.new.parts in
    let format = subst (λ r. IfOk r (λ gap. IsSectionOfFormat c.args.format (infeasible_of gap parts))) c.in-Ok.is c.read_infeasible.ensures.format in
    subst (λ (s : Section). IsSectionOfFormat c.args.format s) (sym c.made_infeasible.ensures) format

pub returns-in-Ok-clause-read : goal.returns-in-Ok-clause-read
returns-in-Ok-clause-read c =
    let parts = c.read_infeasible.new.parts in
    let read = subst (λ r. IfOk r
    (λ gap. IsRead (section_body (infeasible_of gap parts)) c.args.cursor.now.rest.now c.args.cursor.now.line c.read_infeasible.new.cursor.rest.now c.read_infeasible.new.cursor.line)) c.in-Ok.is
    c.read_infeasible.ensures.read in
    subst (λ (s : Section). IsRead (section_body s) c.args.cursor.now.rest.now c.args.cursor.now.line c.read_infeasible.new.cursor.rest.now c.read_infeasible.new.cursor.line)
    (sym c.made_infeasible.ensures) read
