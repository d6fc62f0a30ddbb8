-- A term of an entry or of an auxiliary unknown adds its coefficient times that form.
use Rattle.std.proofs.Common.{sym, subst}
use Rattle.dcx_frac.specs.declared.fraction.Frac.{Frac}
use Rattle.dcx_frac.specs.Frac.{value}
use Rattle.dcx_atom.specs.declared.graph.Operand.{Operand}
use Rattle.dcx_atom.specs.declared.graph.Operand.TheVariants.{Argument, Aux}
use Rattle.dcx_atom.specs.Formed.{frac_at}
use Rattle.dcx_atom.proofs.FormedSums.{frac_at-value}
use Rattle.dcx_linear.specs.declared.change.Change.TheVariants.{Scale}
use Rattle.dcx_linear.specs.Stops.{GivesBy}
use Rattle.dcx_linear.specs.Parts.{adds_part}
use Rattle.dcx_entries.specs.Parts.{operand_form}
use Rattle.dcx_entries.specs.Standing.{args_of}
use Rattle.dcx_entries.proofs.sums.add_operand.Goals as goal

pub returns-in-Argument : goal.returns-in-Argument
returns-in-Argument g c =
    let t = g.C.Coef in
    let P : Operand → Frac → Type 0 =
    (λ o k. GivesBy c.add_entry.result (λ _. c.add_entry.new.sum) (adds_part t.number_of t.sum_gives t.change_gives c.args.sum.now (Scale k)
    (operand_form t.of_number (args_of t.of_number c.args.args.now) c.args.first o))) in
    subst (λ o. P o (frac_at (value c.args.term.coefficient))) (sym c.in-Argument.is)
    (subst (λ k. P (Argument c.in-Argument.argument c.in-Argument.entry) k) (sym (frac_at-value c.args.term.coefficient)) c.add_entry.ensures)

pub returns-in-Aux : goal.returns-in-Aux
returns-in-Aux g c =
    let t = g.C.Coef in
    let P : Operand → Frac → Type 0 =
    (λ o k. GivesBy c.add_unknown.result (λ _. c.add_unknown.new.sum) (adds_part t.number_of t.sum_gives t.change_gives c.args.sum.now (Scale k)
    (operand_form t.of_number (args_of t.of_number c.args.args.now) c.args.first o))) in
    subst (λ o. P o (frac_at (value c.args.term.coefficient))) (sym c.in-Aux.is)
    (subst (λ k. P (Aux c.in-Aux.k) k) (sym (frac_at-value c.args.term.coefficient)) c.add_unknown.ensures)
