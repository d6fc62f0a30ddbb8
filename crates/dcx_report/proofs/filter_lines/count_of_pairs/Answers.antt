-- A list of pairs is as long as the shorter of the two lists.
use Rattle.std.proofs.Common.{sym, ◌∙◌, arith}
use Rattle.std.proofs.Math.Nat.{min-eq_left, min-eq_right}
use Rattle.std.proofs.lemmas.Slice.Zip.{length-zip}
use Rattle.dcx_report.proofs.filter_lines.count_of_pairs.Goals as goal

pub returns-then-members-points : goal.returns-then-members-points
returns-then-members-points c =
    sym (length-zip c.args.members.now c.args.points.now ∙ min-eq_left (omega (arith, c.if-members-points.true)))

pub returns-else-members-points : goal.returns-else-members-points
returns-else-members-points c = sym (length-zip c.args.members.now c.args.points.now ∙ min-eq_right c.if-members-points.false)
