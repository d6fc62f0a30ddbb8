-- The numbers so far are read, and what is left of any numbers that stand there stands behind them.
use Rattle.std.proofs.Common.{◌≡◌, ℕ, List, ◌++◌, length}
use Rattle.std.specs.List.{flat_map}
use Rattle.dcx_frac.specs.declared.fraction.Frac.{Frac}
use Rattle.dcx_lines.specs.Pieces.{entry_text}
use Rattle.dcx_lines.specs.Reading.{HasEntries}
use Rattle.dcx_lines.proofs.Entries.{IsLeft}
use Rattle.dcx_lines.proofs.numbers.read_entries.Given as goal

abbrev pub invariant-entries : goal.invariant-entries
invariant-entries l = record {
  counted : length l.numbers.items ≡ l.counter;
  read : l.bytes ≡ flat_map entry_text l.numbers.items ++ l.rest;
  left : (ns : List Frac) (r : List ℕ) → HasEntries l.count l.bytes ns r → IsLeft l.count l.counter l.numbers.items l.rest ns r;
}
