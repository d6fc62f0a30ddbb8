-- The coefficients so far are numbers.
use Rattle.std.proofs.Common.{◌≡◌, true, take}
use Rattle.std.specs.List.{list_all}
use Rattle.dcx_entries.specs.Nodes.{is_told}
use Rattle.dcx_entries.proofs.scaling.has_numbers.Given as goal

abbrev pub invariant-terms : goal.invariant-terms
invariant-terms g l = list_all (λ t. is_told (g.C.Coef.number_of t.coefficient)) (take l.term-index l.form.terms) ≡ true
