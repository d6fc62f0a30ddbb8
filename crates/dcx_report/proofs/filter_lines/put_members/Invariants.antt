-- The numbers so far are appended.
use Rattle.std.proofs.Common.{◌≡◌, ◌++◌, take}
use Rattle.std.specs.List.{flat_map}
use Rattle.dcx_report.specs.FilterText.{member_text}
use Rattle.dcx_report.proofs.filter_lines.put_members.Given as goal

abbrev pub invariant-loop-member : goal.invariant-loop-member
invariant-loop-member l = l.out.items ≡ l.fn.out.items ++ flat_map member_text (take l.member-index l.members)
