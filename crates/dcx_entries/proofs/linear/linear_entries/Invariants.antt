-- The entries so far are formed, and the sum is 0.
use Rattle.std.proofs.Common.{◌≡◌, [], Ok, map, slice_index_or}
use Rattle.dcx_atom.specs.Linear.{linear_term}
use Rattle.dcx_entries.specs.Forming.{FormsEach, AtEntry}
use Rattle.dcx_entries.specs.Parts.{zero_form, term_part}
use Rattle.dcx_entries.specs.Entries.{LinearEntry}
use Rattle.dcx_entries.specs.Standing.{args_of}
use Rattle.dcx_entries.proofs.linear.linear_entries.Given as goal

abbrev pub invariant-entries : goal.invariant-entries
invariant-entries g l =
    let t = g.C.Coef in
    record {
      zero : l.sum ≡ zero_form t.of_number;
      formed : FormsEach (λ j. AtEntry j (LinearEntry t.of_number t.number_of t.sum_gives t.change_gives
          (map (term_part (args_of t.of_number l.args)) (map linear_term (slice_index_or l.terms j []))))) l.j (Ok l.entries.items);
    }
