-- The changes so far, and then those of the rows that are left, are all of them; in the constants so far entries rise.
use Rattle.std.proofs.Common.{◌≡◌, ◌++◌, ℕ, ◌<◌, drop, get_or, Ok}
use Rattle.dcx_atom.specs.Formed.{and_then}
use Rattle.dcx_linear.specs.declared.param_form.ParamForm.{ParamForm}
use Rattle.dcx_linear.specs.declared.row.Row.{Row}
use Rattle.dcx_linear.specs.ParamTerms.{HoldsTerms}
use Rattle.dcx_range.specs.Operations.{rates_of}
use Rattle.dcx_range.proofs.rates.rates.Given as goal

abbrev pub invariant-rows : goal.invariant-rows
invariant-rows l = record {
  formed : and_then (rates_of l.position (drop l.i l.rows) (drop l.i l.ints)) (λ hs. Ok (l.rates.items ++ hs)) ≡ rates_of l.position l.rows l.ints;
  rising : (k : ℕ) (d : Row ParamForm) → k < l.i → HoldsTerms (get_or l.rows k d).form.constant.terms;
}
