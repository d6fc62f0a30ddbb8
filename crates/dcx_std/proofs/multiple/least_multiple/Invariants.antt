-- The multiple so far leads by what is left to that of the form.
use Rattle.std.proofs.Common.{◌≡◌, ◌<◌, ◌^◌, [], ◌∷◌, ◌++◌, map, drop}
use Rattle.dcx_std.specs.Multiples.{multiple_from, denominator_of, multiple_of}
use Rattle.dcx_std.proofs.multiple.least_multiple.Given as goal

abbrev pub invariant-terms : goal.invariant-terms
invariant-terms l = record {
  small : l.found < 2 ^ 127;
  leads : multiple_from l.found (map (λ t. denominator_of t.coefficient) (drop l.term-index l.term-items) ++ denominator_of l.fn.form.constant ∷ []) ≡ multiple_of l.fn.form;
}
