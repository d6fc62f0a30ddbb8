-- The digits that are left go on from the size so far, and only what is beyond 31 is lost.
use Rattle.std.proofs.Common.{◌≡◌, ◌≤◌, drop, min}
use Rattle.std.specs.Str.Parse.{digits_value, digits_value_after, AllDigits}
use Rattle.dcx_tokens.proofs.number.exponent_size.Given as goal

abbrev pub invariant-loop-c : goal.invariant-loop-c
invariant-loop-c l = record {
  so_far : min 31 (digits_value_after 10 l.size (drop l.c-index l.digits)) ≡ min 31 (digits_value 10 l.digits);
  digits : AllDigits 10 (drop l.c-index l.digits);
  small : l.size ≤ 31;
}
