-- The weights so far are read.
use Rattle.std.proofs.Common.{◌≡◌, take, map}
use Rattle.dcx_cert_sections.specs.Outlines.{rows_shown}
use Rattle.dcx_cert_sections.specs.Shown.{atoms_of}
use Rattle.dcx_cert_lines.specs.CertText.{node_lines}
use Rattle.dcx_cert_lines.specs.Templates.{IsRead}
use Rattle.dcx_cert_lines.proofs.arrays.read_weights.Given as goal

abbrev pub invariant-loop-atom : goal.invariant-loop-atom
invariant-loop-atom l = record {
  shown : atoms_of l.weights.items ≡ take l.atom-index (map rows_shown l.atoms);
  read : IsRead (node_lines l.weights.items) l.fn.cursor.rest.now l.fn.cursor.line l.cursor.rest.now l.cursor.line;
}
