-- The coefficient of the term is the fraction of its value.
use Rattle.std.proofs.Common.{◌+◌, sym, subst}
use Rattle.dcx_atom.proofs.FormedSums.{frac_at-value}
use Rattle.dcx_linear.specs.declared.change.Change.TheVariants.{Scale}
use Rattle.dcx_linear.specs.Stops.{GivesBy}
use Rattle.dcx_linear.specs.Parts.{adds_part}
use Rattle.dcx_entries.specs.Parts.{unknown_form}
use Rattle.dcx_entries.proofs.sums.add_aux.Goals as goal

pub returns : goal.returns
returns g c =
    let t = g.C.Coef in
    subst (λ k. GivesBy c.add_unknown.result (λ _. c.add_unknown.new.sum)
    (adds_part t.number_of t.sum_gives t.change_gives c.args.sum.now (Scale k) (unknown_form t.of_number (c.args.first + c.args.term.aux))))
    (sym (frac_at-value c.args.term.coefficient)) c.add_unknown.ensures
