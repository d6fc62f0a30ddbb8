-- A map is kept exactly where the problem has one, as the session's invariant says.
use Rattle.std.proofs.Common.{◌↔◌, IsTrue, is_some, sym, ap, subst}
use Rattle.dcx_tree.specs.declared.problem.Problem.{Problem}
use Rattle.dcx_cache.specs.Programs.{HasMap}
use Rattle.dcx_cache.specs.Sessions.{State}
use Rattle.dcx_cache.proofs.Kept.{kept_map}
use Rattle.dcx_cache.proofs.session.Session.cached.Goals as goal

pub returns-clause-exact : goal.returns-clause-exact
returns-clause-exact c =
    subst (λ b. IsTrue b ↔ HasMap c.args.self.now.problem) (sym c.is_some.ensures)
    (subst (λ (p : Problem). IsTrue (is_some c.self.inside.map) ↔ HasMap p) (ap (λ (s : State). s.problem) c.self.view_is) (kept_map c.self.inside.problem c.self.inside.map c.self.invariant.maps))
