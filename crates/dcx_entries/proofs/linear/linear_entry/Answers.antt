-- The entry is the sum of its terms from 0 on, with no rows.
use Rattle.std.proofs.Common.{Ok, map, ap, ◌∙◌, subst}
use Rattle.dcx_atom.specs.Linear.{linear_term}
use Rattle.dcx_linear.specs.Parts.{adds_parts}
use Rattle.dcx_entries.specs.Parts.{term_part}
use Rattle.dcx_entries.specs.Entries.{alone}
use Rattle.dcx_entries.specs.Standing.{args_of}
use Rattle.dcx_entries.proofs.linear.linear_entry.Goals as goal

pub returns-clause-entry : goal.returns-clause-entry
returns-clause-entry g c =
    let t = g.C.Coef in (
      c.add_terms.new.sum,
      subst (λ f. adds_parts t.number_of t.sum_gives t.change_gives (map (term_part (args_of t.of_number c.args.args.now)) (map linear_term c.args.terms.now)) f (Ok c.add_terms.new.sum)) c.requires
          c.in_ok-add_terms.ensures,
      ap Ok (c.alone.ensures ∙ ap (λ f. alone f) c.in_ok-form.ensures.taken),
    )
