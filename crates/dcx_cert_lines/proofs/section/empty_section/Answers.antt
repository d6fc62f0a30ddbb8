-- The last line is read.
use Rattle.dcx_cert_lines.specs.CertText.{end_line}
use Rattle.dcx_cert_lines.proofs.section.empty_section.Goals as goal

pub returns-clause-read : goal.returns-clause-read
unfolding end_line
returns-clause-read c = c.in_ok-plain.ensures.read
