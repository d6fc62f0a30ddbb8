-- The rows so far are formed, and the sum is 0.
use Rattle.std.proofs.Common.{◌≡◌, [], Ok, map, slice_index_or}
use Rattle.dcx_atom.specs.Graph.{row_term}
use Rattle.dcx_linear.specs.Parts.{sums_parts}
use Rattle.dcx_entries.specs.Forming.{FormsEach}
use Rattle.dcx_entries.specs.Parts.{zero_form, row_part}
use Rattle.dcx_entries.specs.Standing.{args_of}
use Rattle.dcx_entries.proofs.atom.row_forms.Given as goal

abbrev pub invariant-rows : goal.invariant-rows
invariant-rows g l =
    let t = g.C.Coef in
    record {
      zero : l.sum ≡ zero_form t.of_number;
      formed : FormsEach (λ k. sums_parts t.of_number t.number_of t.sum_gives t.change_gives
          (slice_index_or (map (λ r. map (row_part t.of_number (args_of t.of_number l.args) l.first) (map row_term r.terms)) l.rows) k [])) l.row-index (Ok l.forms.items);
    }
