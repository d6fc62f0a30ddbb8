-- The array has as many entries as its argument.
use Rattle.std.proofs.Common.{◌≡◌, ◌∙◌, ap, arith, length, map, take}
use Rattle.std.proofs.lemmas.List.{take_all}
use Rattle.dcx_frac.specs.Frac.{value}
use Rattle.dcx_elem.specs.Kinks.{kink_at}
use Rattle.dcx_atom.proofs.Lists.{length-same}
use Rattle.dcx_elem.proofs.kinks.at_array.Goals as goal

pub invariant_of-result : goal.invariant_of-result
invariant_of-result c =
    let xs = c.as_slice-numbers.result.now in
    let end : take c.loop-number.number-index xs ≡ xs = take_all c.loop-number.number-index xs (omega (arith, c.loop-number-test.false)) in
    record {
      full = ap length c.from_vec.ensures
          ∙ length-same value (λ y. kink_at c.args.kink (value y)) c.loop-number.entries.items xs (c.loop-number.invariant ∙ ap (map (λ y. kink_at c.args.kink (value y))) end)
          ∙ ap length c.as_slice-numbers.ensures ∙ c.args.x.now.full;
    }
