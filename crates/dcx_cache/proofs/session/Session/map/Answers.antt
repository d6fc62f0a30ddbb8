-- The map that is lent is the one that is kept.
use Rattle.std.proofs.Common.{MatchOption, ap, subst, sym}
use Rattle.dcx_tree.specs.declared.problem.Problem.{Problem}
use Rattle.dcx_cache.specs.Programs.{IsMapOf, HasMap}
use Rattle.dcx_cache.specs.Sessions.{State, KeepsMap}
use Rattle.dcx_cache.proofs.Kept.{lent_map}
use Rattle.dcx_cache.proofs.session.Session.map.Goals as goal

pub returns-clause-map : goal.returns-clause-map
returns-clause-map c =
    subst (λ (q : Problem). MatchOption c.as_ref.result (¬ (HasMap q)) (λ m. IsMapOf q m.now.program)) (ap (λ (s : State). s.problem) c.self.view_is)
    (lent_map c.self.inside.problem c.as_ref.result (subst (KeepsMap c.self.inside.problem) (sym c.as_ref.ensures.value) c.self.invariant.maps))
