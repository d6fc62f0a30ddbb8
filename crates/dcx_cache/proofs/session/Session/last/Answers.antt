-- The program and the answer that are lent are those of what was found last.
use Rattle.std.proofs.Common.{refl, sym, ap, ◌∙◌}
use Rattle.dcx_cache.specs.Sessions.{State}
use Rattle.dcx_cache.proofs.session.Session.last.Goals as goal

pub returns-in-Some : goal.returns-in-Some
returns-in-Some c = (c.in-Some.last, sym (ap (λ (s : State). s.last) c.self.view_is) ∙ c.in-Some.is, refl, refl)
