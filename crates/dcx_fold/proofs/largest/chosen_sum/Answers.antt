-- The first of the sorted numbers are summed.
use Rattle.std.proofs.Common.{◌≤◌, ◌∙◌, sym, ap, subst, refl, map, length}
use Rattle.dcx_math.specs.Sums.{rat_sum}
use Rattle.dcx_frac.specs.Frac.{value}
use Rattle.dcx_atom.proofs.Totals.{value-sum_in_order}
use Rattle.dcx_atom.specs.Formed.{sum_in_order}
use Rattle.dcx_fold.proofs.FallingLists.{first_chosen, sorted_length}
use Rattle.dcx_fold.proofs.largest.chosen_sum.Goals as goal

pub first_numbers-requires : goal.first_numbers-requires
first_numbers-requires c =
    let same = ap length c.as_slice.ensures.value ∙ sorted_length c.args.bend c.args.numbers.now c.in-Ok.list.items c.in-Ok.ensures in
    subst (λ m. c.args.k ≤ m) (sym same) c.requires

pub returns-in-Ok-sum_all-clause-ok : goal.returns-in-Ok-sum_all-clause-ok
returns-in-Ok-sum_all-clause-ok c =
    c.in-Ok-sum_all.ensures
    ∙ ap sum_in_order (first_chosen c.args.bend c.args.k c.args.numbers.now c.as_slice.result.now c.first_numbers.result.now
    (ap (map value) c.as_slice.ensures.value ∙ c.in-Ok.ensures) c.first_numbers.ensures)

pub returns-in-Ok-sum_all-clause-value : goal.returns-in-Ok-sum_all-clause-value
returns-in-Ok-sum_all-clause-value c =
    value-sum_in_order c.first_numbers.result.now c.in-Ok-sum_all.sum (sym c.in-Ok-sum_all.ensures)
    ∙ ap rat_sum (first_chosen c.args.bend c.args.k c.args.numbers.now c.as_slice.result.now c.first_numbers.result.now
    (ap (map value) c.as_slice.ensures.value ∙ c.in-Ok.ensures) c.first_numbers.ensures)

pub returns-clause-stop : goal.returns-clause-stop
returns-clause-stop c = (
  refl,
  ap sum_in_order (sym (first_chosen c.args.bend c.args.k c.args.numbers.now c.as_slice.result.now c.first_numbers.result.now
      (ap (map value) c.as_slice.ensures.value ∙ c.in-Ok.ensures) c.first_numbers.ensures))
      ∙ sym c.in-Err-sum_all.ensures,
)
