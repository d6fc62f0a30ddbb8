-- The coefficient of the triple is the fraction of its value.
use Rattle.std.proofs.Common.{sym, subst}
use Rattle.dcx_atom.proofs.FormedSums.{frac_at-value}
use Rattle.dcx_linear.specs.declared.change.Change.TheVariants.{Scale}
use Rattle.dcx_linear.specs.Stops.{GivesBy}
use Rattle.dcx_linear.specs.Parts.{adds_part}
use Rattle.dcx_entries.specs.Standing.{args_of}
use Rattle.dcx_entries.proofs.sums.add_term.Goals as goal

pub returns : goal.returns
returns g c =
    let t = g.C.Coef in
    subst (λ k. GivesBy c.add_entry.result (λ _. c.add_entry.new.sum) (adds_part t.number_of t.sum_gives t.change_gives c.args.sum.now (Scale k)
    (args_of t.of_number c.args.args.now c.args.term.argument c.args.term.entry)))
    (sym (frac_at-value c.args.term.coefficient)) c.add_entry.ensures
