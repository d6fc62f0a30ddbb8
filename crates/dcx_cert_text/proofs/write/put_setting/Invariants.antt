-- The lines so far are appended.
use Rattle.std.proofs.Common.{◌≡◌, ◌++◌, take}
use Rattle.std.specs.Prelude.{codes}
use Rattle.std.specs.List.{flat_map}
use Rattle.dcx_lines.specs.Lines.{named_line}
use Rattle.dcx_cert_text.proofs.write.put_setting.Given as goal

abbrev pub invariant-values : goal.invariant-values
invariant-values l = l.out.items ≡ l.fn.out.items ++ flat_map (named_line (codes "param")) (take l.i l.setting)
