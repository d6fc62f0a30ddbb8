-- The entries so far are the unknowns so far.
use Rattle.std.proofs.Common.{◌≡◌, map, take}
use Rattle.dcx_entries.specs.Parts.{form_of_unknown}
use Rattle.dcx_entries.specs.Entries.{alone}
use Rattle.dcx_entries.proofs.variable.variable_entries.Given as goal

abbrev pub invariant-unknowns : goal.invariant-unknowns
invariant-unknowns g l = l.entries.items ≡ map (λ u. alone (form_of_unknown g.C.Coef.of_number u)) (take l.unknown-index l.unknowns)
