-- The rows of the entries so far; the later entries are as they were, and all have their forms.
use Rattle.std.proofs.Common.{◌≡◌, ℕ, ◌++◌, ◌≤◌, get_or}
use Rattle.dcx_entries.specs.declared.entries.EntryForms.{EntryForms}
use Rattle.dcx_entries.specs.Entries.{entry_forms}
use Rattle.dcx_nodes.proofs.GraphRows.{rows_to}
use Rattle.dcx_nodes.proofs.rows.take_rows.Given as goal

abbrev pub invariant-entries : goal.invariant-entries
invariant-entries g l = record {
  forms : entry_forms l.entries ≡ entry_forms l.initial.entries;
  later : (j : ℕ) (d : EntryForms g.row.C.Denot) → l.j ≤ j → get_or l.entries j d ≡ get_or l.initial.entries j d;
  rows_are : l.rows.items ≡ l.initial.rows.items ++ rows_to g.C.Coef.of_number l.node.0 l.initial.entries l.j;
}
