-- The first line, and then the sections.
use Rattle.std.proofs.Common.{◌++◌, ap, sym, ◌∙◌}
use Rattle.std.specs.List.{flat_map, enumerate_from}
use Rattle.dcx_cert_lines.specs.CertText.{first_line}
use Rattle.dcx_cert_text.specs.Written.{section_text}
use Rattle.dcx_cert_text.proofs.Joined.{sections_joined}
use Rattle.dcx_cert_text.proofs.write.write_cert.Goals as goal

pub returns : goal.returns
returns c =
    let format = c.args.sections.now.format in
    let list = c.args.sections.now.list in
    c.from_vec.ensures ∙ c.in_ok-put_sections.ensures {u = tt} ∙ ap (λ xs. c.put_first.new.out.items ++ flat_map section_text (enumerate_from 1 xs)) c.as_slice.ensures
    ∙ ap (λ o. o ++ flat_map section_text (enumerate_from 1 list)) (c.in_ok-put_first.ensures {u = tt} ∙ ap (λ o. o ++ first_line format) c.new-out.ensures.items)
    ∙ ap (λ t. first_line format ++ t) (sym (sections_joined 1 list))
