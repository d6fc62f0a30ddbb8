-- One more section is appended.
use Rattle.std.proofs.Common.{◌+◌, ◌++◌, ap, ◌∙◌, arith}
use Rattle.dcx_lines.proofs.Numbered.{numbered_more}
use Rattle.dcx_cert_text.specs.Written.{section_text}
use Rattle.dcx_cert_text.proofs.write.put_sections.Goals as goal

pub loop-section-preserved : goal.loop-section-preserved
loop-section-preserved c =
    let x = c.section-item.result in
    let number = c.loop-section.number + 1 in
    let counted = ap (λ n. n + 1) c.loop-section.invariant.counted in
    record {
      counted = counted;
      lines = c.in_ok-put_section.ensures {u = tt} ∙ ap (λ o. o ++ section_text (number, x)) c.loop-section.invariant.lines
          ∙ numbered_more section_text c.args.out.now.items c.args.sections.now c.loop-section.section-index number x (omega arith) c.section-item.is counted;
    }
