-- The entries are the numbers of the unknowns that stand for them.
use Rattle.std.proofs.Common.{refl, ap, map, ◌∙◌}
use Rattle.dcx_unknowns.specs.Unknowns.{number_at}
use Rattle.dcx_postsolve.specs.Points.{numbered}
use Rattle.dcx_postsolve.proofs.Arrays.{array_full, array_numbers}
use Rattle.dcx_postsolve.proofs.point.array_from.Goals as goal

pub invariant_of-result : goal.invariant_of-result
invariant_of-result c =
    record {
      full = array_full c.args.unknowns.now c.args.first c.args.variable.now c.in_ok-sources.sources.items c.in_ok-entries.entries c.in_ok-sources.ensures
          (c.in_ok-entries.ensures ∙ ap (map (number_at (numbered c.args.unknowns.now))) c.as_slice.ensures.value);
    }

pub returns : goal.returns
returns c =
    record {
      shape = refl;
      numbers = array_numbers c.args.unknowns.now c.args.first c.args.variable.now c.in_ok-sources.sources.items c.in_ok-entries.entries c.in_ok-sources.ensures
          (c.in_ok-entries.ensures ∙ ap (map (number_at (numbered c.args.unknowns.now))) c.as_slice.ensures.value);
    }
