-- The sections of the settings, whether one is stopped, and the steps.
use Rattle.std.proofs.Common.{List, refl, sym, subst}
use Rattle.dcx_cert_sections.specs.declared.section.Section.{Section}
use Rattle.dcx_cert_runs.specs.Sections.{AreSectionsAt}
use Rattle.dcx_cert_runs.proofs.Built.{sections_in_turn, stops_in_turn}
use Rattle.dcx_cert_runs.proofs.building.certificate.Goals as goal

pub returns-clause-certificate : goal.returns-clause-certificate
returns-clause-certificate g c = record {
  format = refl;
  sections = subst (λ (z : List Section). AreSectionsAt c.args.problem c.args.limit c.args.settings.now z) (sym c.from_vec.ensures)
      (sections_in_turn c.args.problem c.args.limit c.args.settings.now _ c.in_ok-list.list.items _ c.in_ok-list.ensures.outcomes.1);
}

pub returns-clause-stopped : goal.returns-clause-stopped
returns-clause-stopped g c = stops_in_turn c.args.problem c.args.limit c.args.settings.now _ c.in_ok-list.list.items _ c.in_ok-list.ensures.outcomes.1

pub returns-clause-mapped : goal.returns-clause-mapped
returns-clause-mapped g c = c.in_ok-list.ensures.counted.mapped

pub returns-clause-few : goal.returns-clause-few
returns-clause-few g c = c.problem_outcomes.ensures.few.mapped

pub returns-clause-anew : goal.returns-clause-anew
returns-clause-anew g c = c.problem_outcomes.ensures.few.anew

pub returns-in_err-list-clause-few : goal.returns-in_err-list-clause-few
returns-in_err-list-clause-few g c = c.problem_outcomes.ensures.few.mapped

pub returns-in_err-list-clause-anew : goal.returns-in_err-list-clause-anew
returns-in_err-list-clause-anew g c = c.problem_outcomes.ensures.few.anew
