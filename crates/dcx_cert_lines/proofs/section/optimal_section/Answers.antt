-- What is read makes the section.
use Rattle.std.proofs.Common.{◌≡◌, IfOk, refl, sym, subst}
use Rattle.dcx_cert_sections.specs.declared.section.Section.{Section}
use Rattle.dcx_cert_sections.specs.Shown.{IsSectionOf}
use Rattle.dcx_cert_sections.specs.Formats.{IsSectionOfFormat}
use Rattle.dcx_cert_lines.specs.declared.kind.Kind.TheVariants.{Optimal}
use Rattle.dcx_cert_lines.specs.CertText.{section_body}
use Rattle.dcx_cert_lines.specs.Parts.{optimal_of}
use Rattle.dcx_cert_lines.specs.Templates.{IsRead, kind_of}
use Rattle.dcx_cert_lines.proofs.section.optimal_section.Goals as goal

pub returns-in-Ok-clause-kind : goal.returns-in-Ok-clause-kind
returns-in-Ok-clause-kind c = subst (λ (s : Section). kind_of s ≡ Optimal) (sym c.made_optimal.ensures) refl

pub returns-in-Ok-clause-shown : goal.returns-in-Ok-clause-shown
returns-in-Ok-clause-shown c =
    let parts = c.read_optimal.new.parts in
    let shown = subst (λ r. IfOk r (λ value. IsSectionOf c.args.outline.now (optimal_of value parts))) c.in-Ok.is c.read_optimal.ensures.shown in
    subst (λ (s : Section). IsSectionOf c.args.outline.now s) (sym c.made_optimal.ensures) shown

pub returns-in-Ok-clause-format : goal.returns-in-Ok-clause-format
returns-in-Ok-clause-format c =
    let parts = c.read_optimal.new.parts in
    let format = subst (λ r. IfOk r (λ value. IsSectionOfFormat c.args.format (optimal_of value parts))) c.in-Ok.is c.read_optimal.ensures.format in
    subst (λ (s : Section). IsSectionOfFormat c.args.format s) (sym c.made_optimal.ensures) format

pub returns-in-Ok-clause-read : goal.returns-in-Ok-clause-read
returns-in-Ok-clause-read c =
    let parts = c.read_optimal.new.parts in
    let read = subst (λ r. IfOk r
    (λ value. IsRead (section_body (optimal_of value parts)) c.args.cursor.now.rest.now c.args.cursor.now.line c.read_optimal.new.cursor.rest.now c.read_optimal.new.cursor.line)) c.in-Ok.is
    c.read_optimal.ensures.read in
    subst (λ (s : Section). IsRead (section_body s) c.args.cursor.now.rest.now c.args.cursor.now.line c.read_optimal.new.cursor.rest.now c.read_optimal.new.cursor.line)
    (sym c.made_optimal.ensures) read
