-- So many places have their greatest or least entry.
use Rattle.std.proofs.Common.{◌≡◌, map}
use Rattle.dcx_frac.specs.Frac.{value}
use Rattle.dcx_atom.specs.Arrays.{list_below, number_at}
use Rattle.dcx_atom.specs.Farthest.{extreme}
use Rattle.dcx_elem.proofs.extremes.extreme_entries.Given as goal

abbrev pub invariant-loop-place : goal.invariant-loop-place
invariant-loop-place l = map value l.entries.items ≡ list_below l.place (λ j. extreme l.bend (map (λ x. number_at x.entries j) l.args))
