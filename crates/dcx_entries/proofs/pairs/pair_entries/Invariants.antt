-- The entries so far are formed, and the sum is 0.
use Rattle.std.proofs.Common.{◌≡◌, [], Ok, slice_index_or}
use Rattle.dcx_entries.specs.Forming.{FormsEach}
use Rattle.dcx_entries.specs.Parts.{zero_form}
use Rattle.dcx_entries.specs.Entries.{PairEntry}
use Rattle.dcx_entries.specs.Standing.{args_of}
use Rattle.dcx_entries.proofs.pairs.pair_entries.Given as goal

abbrev pub invariant-entries : goal.invariant-entries
invariant-entries g l =
    let t = g.C.Coef in
    record {
      zero : l.sum ≡ zero_form t.of_number;
      formed : FormsEach (λ j. PairEntry t.of_number t.number_of t.sum_gives t.change_gives l.scaling (args_of t.of_number l.args) (slice_index_or l.pairs j []) j) l.j (Ok l.entries.items);
    }
