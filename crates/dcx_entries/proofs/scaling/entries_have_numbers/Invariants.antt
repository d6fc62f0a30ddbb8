-- The forms so far have numbers.
use Rattle.std.proofs.Common.{◌≡◌, true, take}
use Rattle.std.specs.List.{list_all}
use Rattle.dcx_entries.specs.Nodes.{has_numbers}
use Rattle.dcx_entries.proofs.scaling.entries_have_numbers.Given as goal

abbrev pub invariant-entries : goal.invariant-entries
invariant-entries g l = list_all (λ e. has_numbers g.C.Coef.number_of e.form) (take l.entry-index l.entries) ≡ true
