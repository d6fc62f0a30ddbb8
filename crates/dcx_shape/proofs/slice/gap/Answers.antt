-- The numbers between start and stop, upward and downward.
use Rattle.std.proofs.Common.{◌≡◌, arith, rules}
use Rattle.std.specs.Prelude.{pos, ◌-ℤ◌, unsigned_abs}
use Rattle.std.specs.Int.{int_max, w64, cast_signed, cast_unsigned}
use Rattle.std.proofs.lemmas.Int.{ints, clamps}
use Rattle.dcx_shape.proofs.Slices.{ahead_up, ahead_down}
use Rattle.dcx_shape.proofs.slice.gap.Goals as goal

pub returns-then-step-gt0-clause-ahead : goal.returns-then-step-gt0-clause-ahead
returns-then-step-gt0-clause-ahead c =
    let e : pos (unsigned_abs (cast_signed w64 (cast_unsigned w64 c.max.result))) ≡ int_max (c.args.stop -ℤ c.args.start) (pos 0) = omega (arith, ints, clamps) in
    ahead_up c.args.step c.args.start c.args.stop _ (omega (arith, ints)) e

pub returns-else-step-gt0-clause-ahead : goal.returns-else-step-gt0-clause-ahead
returns-else-step-gt0-clause-ahead c =
    let e : pos (unsigned_abs (cast_signed w64 (cast_unsigned w64 c.max-else-step-gt0.result))) ≡ int_max (c.args.start -ℤ c.args.stop) (pos 0) = omega (arith, ints, clamps) in
    ahead_down c.args.step c.args.start c.args.stop _ c.requires.step (omega (arith, ints)) e

pub overflow_sub-stop : goal.overflow_sub-stop
overflow_sub-stop c = search rules

pub overflow_cast-result : goal.overflow_cast-result
overflow_cast-result c = search rules

pub overflow_sub-start : goal.overflow_sub-start
overflow_sub-start c = search rules

pub overflow_cast-result-else-step-gt0 : goal.overflow_cast-result-else-step-gt0
overflow_cast-result-else-step-gt0 c = search rules

pub returns-then-step-gt0-clause-small : goal.returns-then-step-gt0-clause-small
returns-then-step-gt0-clause-small c = search rules

pub returns-else-step-gt0-clause-small : goal.returns-else-step-gt0-clause-small
returns-else-step-gt0-clause-small c = search rules
