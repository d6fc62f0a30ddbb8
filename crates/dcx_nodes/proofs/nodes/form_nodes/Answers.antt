-- All that is needed is given.
use Rattle.std.proofs.Common.{◌<◌, ◌^◌, ap, sym, ◌∙◌, subst}
use Rattle.dcx_unknowns.specs.Unknowns.{variable_unknowns}
use Rattle.dcx_call.specs.Attributes.{AreSquare}
use Rattle.dcx_unknowns.specs.Unknowns.{AreFirstsOf}
use Rattle.dcx_nodes.proofs.Leaves.{few_variable_unknowns}
use Rattle.dcx_nodes.proofs.nodes.form_nodes.Goals as goal

pub first_unknowns-requires : goal.first_unknowns-requires
first_unknowns-requires g c =
    subst (λ vs. variable_unknowns vs < 2 ^ 32) (sym c.as_slice-variables.ensures) (few_variable_unknowns c.args.problem.now c.args.reduced.now c.requires.few)

pub unknown_count-requires-clause-square : goal.unknown_count-requires-clause-square
unknown_count-requires-clause-square g c = subst AreSquare (sym c.as_slice-variables.ensures) c.args.problem.now.squares

pub unknown_count-requires-clause-firsts : goal.unknown_count-requires-clause-firsts
unknown_count-requires-clause-firsts g c = c.deref.ensures.value ∙ c.in-Ok.ensures

pub unknown_count-requires-clause-few : goal.unknown_count-requires-clause-few
unknown_count-requires-clause-few g c =
    subst (λ vs. variable_unknowns vs < 2 ^ 32) (sym c.as_slice-variables.ensures) (few_variable_unknowns c.args.problem.now c.args.reduced.now c.requires.few)

pub all_nodes-requires-clause-ready : goal.all_nodes-requires-clause-ready
all_nodes-requires-clause-ready g c = record {
  reduced_counted = c.requires.reduced;
  fixed_counted = c.requires.fixed;
  few = c.requires.few;
  numbers = c.requires.numbers;
  readable = c.requires.readable;
  begin = subst (λ vs. AreFirstsOf vs c.deref-2.result.now) c.as_slice-variables.ensures (c.deref-2.ensures.value ∙ c.in-Ok.ensures);
}

pub all_nodes-requires-clause-next : goal.all_nodes-requires-clause-next
all_nodes-requires-clause-next g c = c.in-Ok-unknown_count.ensures ∙ ap variable_unknowns c.as_slice-variables.ensures
