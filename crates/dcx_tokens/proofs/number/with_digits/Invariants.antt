-- The digits that are left go on from the number so far, and there is room for them.
use Rattle.std.proofs.Common.{◌≡◌, ◌+◌, ◌*◌, ◌^◌, ◌≤◌, length, drop}
use Rattle.std.specs.Str.Parse.{digits_value_after, AllDigits}
use Rattle.dcx_tokens.proofs.number.with_digits.Given as goal

abbrev pub invariant-loop-c : goal.invariant-loop-c
invariant-loop-c l = record {
  so_far : digits_value_after 10 l.number (drop l.c-index l.digits) ≡ digits_value_after 10 l.fn.start l.digits;
  digits : AllDigits 10 (drop l.c-index l.digits);
  small : (l.number + 1) * 10 ^ length (drop l.c-index l.digits) ≤ (l.fn.start + 1) * 10 ^ length l.digits;
}
