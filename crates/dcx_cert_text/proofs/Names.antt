-- No two variables of a problem, and no two of its parameters, have one name.
use Rattle.std.proofs.Common.{◌≡◌, ℕ, List, [], ◌∷◌, map, refl, sym, ap, subst}
use Rattle.std.proofs.Math.Logic.{∥∥₁_elim}
use Rattle.std.specs.List.{IsDistinct, IsDistinct-prop}
use Rattle.dcx_shape.specs.declared.shape.Shape.{Shape}
use Rattle.dcx_point.specs.Pairs.{same_name}
use Rattle.dcx_call.specs.declared.attribute.Variable.{Variable}
use Rattle.dcx_call.specs.declared.attribute.Parameter.{Parameter}
use Rattle.dcx_tree.specs.declared.problem.Problem.{Problem}
use Rattle.dcx_tree.proofs.Sublists.{distinct_front, distinct_back}
use Rattle.dcx_cert_lines.specs.Templates.{HasDistinctNames}
use Rattle.dcx_cert_outline.specs.Drawn.{problem_outline}

variable_names : (vs : List Variable) → map (λ (p : List ℕ × Shape). p.0) (map (λ v. (v.name, v.shape)) vs) ≡ map (λ v. v.name) vs
variable_names [] = refl
variable_names (v ∷ vs) = ap (λ t. v.name ∷ t) (variable_names vs)

parameter_names : (qs : List Parameter) → map (λ (p : List ℕ × Shape). p.0) (map (λ q. (q.name, q.shape)) qs) ≡ map (λ q. q.name) qs
parameter_names [] = refl
parameter_names (q ∷ qs) = ap (λ t. q.name ∷ t) (parameter_names qs)

pub names_distinct : (p : Problem) → HasDistinctNames (problem_outline p)
names_distinct p = record {
  parameters = ∥∥₁_elim p.declared (IsDistinct-prop same_name (map (λ s. s.0) (problem_outline p).parameters))
      (λ d. subst (IsDistinct same_name) (sym (parameter_names p.parameters)) (distinct_back (map (λ v. v.name) p.variables) (map (λ q. q.name) p.parameters) d.distinct));
  variables = ∥∥₁_elim p.declared (IsDistinct-prop same_name (map (λ s. s.0) (problem_outline p).variables))
      (λ d. subst (IsDistinct same_name) (sym (variable_names p.variables)) (distinct_front (map (λ v. v.name) p.variables) (map (λ q. q.name) p.parameters) d.distinct));
}
