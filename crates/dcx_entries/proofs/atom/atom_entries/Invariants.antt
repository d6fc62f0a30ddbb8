-- The entries so far are formed, and the rows of those that come are left.
use Rattle.std.proofs.Common.{◌≡◌, List, Ok, map}
use Rattle.std.specs.List.{All}
use Rattle.dcx_shape.specs.declared.shape.Sides.{Sides}
use Rattle.dcx_atom.specs.Graph.{IsGraphOf}
use Rattle.dcx_atom.specs.Meaning.{Meaning}
use Rattle.dcx_entries.specs.Forming.{FormsEach, AtEntry}
use Rattle.dcx_entries.specs.Parts.{zero_form, aux_part, row_part}
use Rattle.dcx_entries.specs.Entries.{AtomEntry}
use Rattle.dcx_entries.specs.Standing.{args_of}
use Rattle.dcx_entries.proofs.OwnRows.{AreLeft}
use Rattle.dcx_entries.proofs.Places.{RowIsThere}
use Rattle.dcx_entries.proofs.atom.atom_entries.Given as goal

abbrev pub invariant-entries : goal.invariant-entries
invariant-entries g l =
    let t = g.C.Coef in
    record {
      zero : l.sum ≡ zero_form t.of_number;
      there : All (RowIsThere l.first) l.rows;
      left : (m : Meaning) (sides : List Sides) → IsGraphOf m sides l.size l.graph → AreLeft (m.rows sides) l.j l.size l.rows;
      formed : (m : Meaning) (sides : List Sides) → IsGraphOf m sides l.size l.graph →
          FormsEach (λ j. AtEntry j (AtomEntry t.of_number t.number_of t.sum_gives t.change_gives (map (aux_part t.of_number l.first) (m.result sides j))
          (map (λ row. map (row_part t.of_number (args_of t.of_number l.args) l.first) row) (m.rows sides j)))) l.j (Ok l.entries.items);
    }
