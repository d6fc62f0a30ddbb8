-- The characters that are left count on from the count so far, up to the closing quote.
use Rattle.std.proofs.Common.{◌≡◌, ◌+◌, drop, false}
use Rattle.std.specs.Prelude.{option_map}
use Rattle.dcx_tokens.specs.Quoted.{up_to_quote}
use Rattle.dcx_tokens.proofs.quoted.quoted_run.Given as goal

abbrev pub invariant-loop-c : goal.invariant-loop-c
invariant-loop-c l = record {
  counted : l.count ≡ l.c-index;
  so_far : option_map (λ n. l.count + n) (up_to_quote l.quote l.is_taken (drop l.c-index l.after)) ≡ up_to_quote l.quote false l.after;
}
