-- Whether a program is kept tells whether the problem has one.
use Rattle.std.proofs.Common.{◌≡◌, ◌↔◌, IsTrue, Option, Some, None, is_some, option_copied, MatchOption, Bor, refl, ap, subst}
use Rattle.dcx_tree.specs.declared.problem.Problem.{Problem}
use Rattle.dcx_linear.specs.declared.param_form.ParamForm.{ParamForm}
use Rattle.dcx_graph.specs.Reduced.{Reduction}
use Rattle.dcx_cache.specs.Programs.{IsMapOf, HasMap}
use Rattle.dcx_cache.specs.Sessions.{KeepsMap}

pub kept_map : (p : Problem) (o : Option (Reduction ParamForm)) → KeepsMap p o → IsTrue (is_some o) ↔ HasMap p
kept_map p (Some map) h = (λ t. (map.program, h), λ m. refl)
kept_map p None h = (λ t. absurd cc, λ m. absurd (h m))

-- so it is where it is lent
pub lent_map : (p : Problem) (o : Option (Bor (Reduction ParamForm))) → KeepsMap p (option_copied o) → MatchOption o (¬ (HasMap p)) (λ m. IsMapOf p m.now.program)
lent_map p (Some map) h = h
lent_map p None h = h

pub has_map : (p : Problem) (o : Option (Bor (Reduction ParamForm))) (map : Bor (Reduction ParamForm)) → o ≡ Some map → KeepsMap p (option_copied o) → HasMap p
has_map p o map e h = (map.now.program, subst (λ z. KeepsMap p (option_copied z)) e h)

-- and something is lent exactly where something is kept
pub lent_some : (o : Option (Bor (Reduction ParamForm))) (map : Option (Reduction ParamForm)) → option_copied o ≡ map → is_some o ≡ is_some map
lent_some (Some x) map e = ap (λ (z : Option (Reduction ParamForm)). is_some z) e
lent_some None map e = ap (λ (z : Option (Reduction ParamForm)). is_some z) e
