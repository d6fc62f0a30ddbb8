-- How the logic stores a session: by its parts in a row.
use Rattle.std.specs.Prelude.{refl, ℕ, Bool, List, Option}
use Rattle.std.specs.Coded.{Coded, code_by, coded_option, coded_list, coded_ℕ, coded_bool, coded×}
use Rattle.dcx_tree.specs.declared.problem.Problem.{Problem}
use Rattle.dcx_tree.specs.contracts.problem.Problem.{the_row as problem_row}
use Rattle.dcx_cache.specs.declared.session.Last.{Last}
use Rattle.dcx_cache.specs.contracts.session.Last.{the_row as last_row}
use Rattle.dcx_cache.specs.Sessions.{State}

abbrev pub state_code : Coded State
state_code =
    code_by (Problem × (Bool × (Option Last × Option (List ℕ))))
    (coded× problem_row.coded (coded× coded_bool (coded× (coded_option last_row.coded) (coded_option (coded_list coded_ℕ)))))
    (λ s. (s.problem, (s.cached, (s.last, s.columns)))) (λ p. record { problem = p.0; cached = p.1.0; last = p.1.1.0; columns = p.1.1.1 }) (λ s. refl)
