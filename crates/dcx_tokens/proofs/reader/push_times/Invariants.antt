-- Behind what was there stand as many copies as are counted.
use Rattle.std.proofs.Common.{◌≡◌, ◌++◌, replicate}
use Rattle.dcx_tokens.proofs.reader.push_times.Given as goal

abbrev pub invariant-loop : goal.invariant-loop
invariant-loop l = l.tokens.items ≡ l.fn.tokens.items ++ replicate l.counter l.token
