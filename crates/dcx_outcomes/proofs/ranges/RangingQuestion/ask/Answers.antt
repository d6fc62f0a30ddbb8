-- The program with affine coefficients that the session keeps is that of the range.
use Rattle.dcx_outcomes.proofs.RangeEnds.{affine_map, fixed_there, ranged_there}
use Rattle.dcx_outcomes.proofs.ranges.RangingQuestion.ask.Goals as goal

pub unreachable-requires : goal.unreachable-requires
unreachable-requires c =
    let none = rw c.in-None.is at c.requires.kept in
    none (c.requires.can.map, c.requires.can.is_map)

pub range-requires-clause-map : goal.range-requires-clause-map
range-requires-clause-map c = affine_map c.args.problem.now c.in-Some.map.now.program (rw c.in-Some.is at c.requires.kept)

pub range-requires-clause-program : goal.range-requires-clause-program
range-requires-clause-program c =
    let kept = rw c.in-Some.is at c.requires.kept in
    fixed_there c.args.problem.now c.args.setting.now c.in-Some.map.now.program c.args.program.now.program kept c.requires.given

pub range-requires-clause-ranged : goal.range-requires-clause-ranged
range-requires-clause-ranged c =
    let kept = rw c.in-Some.is at c.requires.kept in
    ranged_there c.args.problem.now c.args.self.now.name.now c.in-Some.map.now.program kept c.requires.can

pub returns : goal.returns
returns c =
    let kept = rw c.in-Some.is at c.requires.kept in
    record {
      range = record { map = c.in-Some.map.now.program; is_map = kept; ranged = ranged_there c.args.problem.now c.args.self.now.name.now c.in-Some.map.now.program kept c.requires.can };
      gives = c.range.ensures.given;
    }
