-- The digits so far write the number.
use Rattle.std.proofs.Common.{◌≡◌, ◌-◌, ◌^◌, take, min}
use Rattle.dcx_lines.specs.Reading.{worth_of}
use Rattle.dcx_lines.proofs.numbers.worth.Given as goal

abbrev pub invariant-loop-digit : goal.invariant-loop-digit
invariant-loop-digit l = l.number ≡ min (worth_of (take l.digit-index l.digits)) (2 ^ 128 - 1)
