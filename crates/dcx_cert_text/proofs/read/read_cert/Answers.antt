-- The outline is that of the problem.
use Rattle.std.proofs.Common.{sym, subst}
use Rattle.dcx_cert_lines.specs.Templates.{HasDistinctNames}
use Rattle.dcx_cert_text.proofs.Names.{names_distinct}
use Rattle.dcx_cert_text.proofs.read.read_cert.Goals as goal

pub read_outlined-requires-clause-distinct : goal.read_outlined-requires-clause-distinct
read_outlined-requires-clause-distinct c = subst HasDistinctNames (sym c.in-Ok.ensures) (names_distinct c.args.problem.now)
