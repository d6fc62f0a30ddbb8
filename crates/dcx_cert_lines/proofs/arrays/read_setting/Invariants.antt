-- The arrays so far are read.
use Rattle.std.proofs.Common.{◌≡◌, take, map}
use Rattle.std.specs.Prelude.{codes}
use Rattle.dcx_lines.specs.Shown.{variables_of}
use Rattle.dcx_cert_sections.specs.Outlines.{shown}
use Rattle.dcx_cert_lines.specs.CertText.{named_lines}
use Rattle.dcx_cert_lines.specs.Templates.{IsRead}
use Rattle.dcx_cert_lines.proofs.arrays.read_setting.Given as goal

abbrev pub invariant-loop-named : goal.invariant-loop-named
invariant-loop-named l = record {
  shown : variables_of l.setting ≡ take l.named-index (map shown l.parameters);
  read : IsRead (named_lines (codes "param") l.setting) l.fn.cursor.rest.now l.fn.cursor.line l.cursor.rest.now l.cursor.line;
}
