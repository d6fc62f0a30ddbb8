-- The unknowns of the entries so far, and the next one that an entry may have as its own.
use Rattle.std.proofs.Common.{◌≡◌, ◌+◌, map}
use Rattle.dcx_shape.specs.Places.{places_below}
use Rattle.dcx_unknowns.specs.Own.{own_before}
use Rattle.dcx_unknowns.specs.Unknowns.{demanded, sides_in, unknown_from}
use Rattle.dcx_unknowns.proofs.variable.entry_unknowns.Given as goal

abbrev pub invariant-entries : goal.invariant-entries
invariant-entries l = record {
  listed : l.unknowns.items ≡ map (unknown_from l.first l.variable) (places_below l.entry);
  next_is : l.next ≡ l.first + own_before (demanded l.variable) (sides_in l.variable) l.entry;
}
