-- Where the unknowns of the variables so far begin, and those of the next one.
use Rattle.std.proofs.Common.{◌≡◌, map}
use Rattle.dcx_shape.specs.Places.{places_below}
use Rattle.dcx_unknowns.specs.Unknowns.{first_unknown}
use Rattle.dcx_unknowns.proofs.variable.first_unknowns.Given as goal

abbrev pub invariant-variables : goal.invariant-variables
invariant-variables l = record {
  listed : l.firsts.items ≡ map (first_unknown l.variables) (places_below l.variable-index);
  next_is : l.next ≡ first_unknown l.variables l.variable-index;
}
