-- The entry is the sum of its pairs from 0 on, with no rows.
use Rattle.std.proofs.Common.{Ok, ap, ◌∙◌, subst}
use Rattle.dcx_entries.specs.Sums.{adds_pair, adds_each}
use Rattle.dcx_entries.specs.Entries.{alone}
use Rattle.dcx_entries.specs.Standing.{args_of}
use Rattle.dcx_entries.proofs.pairs.pair_sum.Goals as goal

pub returns-clause-entry : goal.returns-clause-entry
returns-clause-entry g c =
    let t = g.C.Coef in (
      c.add_pairs.new.sum,
      subst (λ f. adds_each (adds_pair t.number_of t.sum_gives t.change_gives c.args.scaling (args_of t.of_number c.args.args.now)) c.args.pairs.now f (Ok c.add_pairs.new.sum)) c.requires.zero
          c.in_ok-add_pairs.ensures,
      ap Ok (c.alone.ensures ∙ ap (λ f. alone f) c.in_ok-form.ensures.taken),
    )
