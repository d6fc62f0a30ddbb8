-- The sections so far are appended, and counted.
use Rattle.std.proofs.Common.{◌≡◌, ◌++◌, take}
use Rattle.std.specs.List.{flat_map, enumerate_from}
use Rattle.dcx_cert_text.specs.Written.{section_text}
use Rattle.dcx_cert_text.proofs.write.put_sections.Given as goal

abbrev pub invariant-loop-section : goal.invariant-loop-section
invariant-loop-section l = record {
  counted : l.number ≡ l.section-index;
  lines : l.out.items ≡ l.fn.out.items ++ flat_map section_text (enumerate_from 1 (take l.section-index l.sections));
}
