-- What is read makes the section.
use Rattle.std.proofs.Common.{◌≡◌, IfOk, refl, sym, subst}
use Rattle.dcx_cert_sections.specs.declared.section.Section.{Section}
use Rattle.dcx_cert_sections.specs.Shown.{IsSectionOf}
use Rattle.dcx_cert_sections.specs.Formats.{IsSectionOfFormat}
use Rattle.dcx_cert_lines.specs.declared.kind.Kind.TheVariants.{Unbounded}
use Rattle.dcx_cert_lines.specs.CertText.{section_body}
use Rattle.dcx_cert_lines.specs.Parts.{unbounded_of}
use Rattle.dcx_cert_lines.specs.Templates.{IsRead, kind_of}
use Rattle.dcx_cert_lines.proofs.section.unbounded_section.Goals as goal

pub returns-in-Ok-clause-kind : goal.returns-in-Ok-clause-kind
returns-in-Ok-clause-kind c = subst (λ (s : Section). kind_of s ≡ Unbounded) (sym c.made_unbounded.ensures) refl

pub returns-in-Ok-clause-shown : goal.returns-in-Ok-clause-shown
returns-in-Ok-clause-shown c =
    let parts = c.read_unbounded.new.parts in
    let shown = subst (λ r. IfOk r (λ p. IsSectionOf c.args.outline.now (unbounded_of p.0 p.1 parts))) c.in-Ok.is c.read_unbounded.ensures.shown in
    subst (λ (s : Section). IsSectionOf c.args.outline.now s) (sym c.made_unbounded.ensures) shown

pub returns-in-Ok-clause-format : goal.returns-in-Ok-clause-format
returns-in-Ok-clause-format c =
    let parts = c.read_unbounded.new.parts in
    let format = subst (λ r. IfOk r (λ p. IsSectionOfFormat c.args.format (unbounded_of p.0 p.1 parts))) c.in-Ok.is c.read_unbounded.ensures.format in
    subst (λ (s : Section). IsSectionOfFormat c.args.format s) (sym c.made_unbounded.ensures) format

pub returns-in-Ok-clause-read : goal.returns-in-Ok-clause-read
returns-in-Ok-clause-read c =
    let parts = c.read_unbounded.new.parts in
    let read = subst (λ r. IfOk r
    (λ p. IsRead (section_body (unbounded_of p.0 p.1 parts)) c.args.cursor.now.rest.now c.args.cursor.now.line c.read_unbounded.new.cursor.rest.now c.read_unbounded.new.cursor.line)) c.in-Ok.is
    c.read_unbounded.ensures.read in
    subst (λ (s : Section). IsRead (section_body s) c.args.cursor.now.rest.now c.args.cursor.now.line c.read_unbounded.new.cursor.rest.now c.read_unbounded.new.cursor.line)
    (sym c.made_unbounded.ensures) read
