-- The multipliers so far are read, and counted.
use Rattle.std.proofs.Common.{◌≡◌, take}
use Rattle.dcx_lines.specs.Shown.{constraints_of}
use Rattle.dcx_cert_lines.specs.CertText.{dual_lines}
use Rattle.dcx_cert_lines.specs.Templates.{IsRead}
use Rattle.dcx_cert_lines.proofs.arrays.read_duals.Given as goal

abbrev pub invariant-loop-shape : goal.invariant-loop-shape
invariant-loop-shape l = record {
  counted : l.number ≡ l.shape-index;
  shown : constraints_of l.duals.items ≡ take l.shape-index l.shapes;
  read : IsRead (dual_lines l.duals.items) l.fn.cursor.rest.now l.fn.cursor.line l.cursor.rest.now l.cursor.line;
}
