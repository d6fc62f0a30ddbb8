-- The bytes that are fetched are those of the file, and a fault in them is a refusal of the certificate.
use Rattle.std.proofs.Common.{subst}
use Rattle.dcx_cert_lines.specs.Forms.{IsTextOf}
use Rattle.dcx_cert_outline.specs.Drawn.{problem_outline}
use Rattle.dcx_top.proofs.Reading.{misread_ends}
use Rattle.dcx_top.proofs.files.read_certificate.Goals as goal

pub returns-in-Ok-clause-reads : goal.returns-in-Ok-clause-reads
returns-in-Ok-clause-reads g c =
    (_, c.in_ok-bytes.ensures.bytes, c.in_ok-bytes.ensures.few, subst (λ b. IsTextOf (problem_outline c.args.problem.now) c.args.count b c.in-Ok.sections) c.as_slice.ensures c.in-Ok.ensures)

pub returns-clause-reads : goal.returns-clause-reads
returns-clause-reads g c = misread_ends _ _ _ _ _ _ _ c.in-Err.fault _ c.as_slice.ensures c.in_ok-bytes.ensures.bytes c.in_ok-bytes.ensures.few c.in-Err.ensures c.refused_at.ensures
