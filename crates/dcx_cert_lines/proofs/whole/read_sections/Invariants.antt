-- The sections so far are read.
use Rattle.std.proofs.Common.{◌≡◌, length}
use Rattle.dcx_cert_lines.specs.Templates.{AreRead}
use Rattle.dcx_cert_lines.proofs.whole.read_sections.Given as goal

abbrev pub invariant-sections : goal.invariant-sections
invariant-sections l = record {
  counted : length l.list.items ≡ l.k;
  read : AreRead l.format l.outline l.list.items l.fn.cursor.rest.now l.fn.cursor.line l.cursor.rest.now l.cursor.line;
}
