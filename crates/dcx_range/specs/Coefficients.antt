-- The coefficient of a parameter in affine numbers.
use Rattle.std.specs.Prelude.{ℕ, nat_eq, if◌then◌else◌, List, [], ◌∷◌}
use Rattle.std.specs.List.{All}
use Rattle.dcx_frac.specs.declared.fraction.Frac.{Frac}
use Rattle.dcx_atom.specs.Formed.{zero_frac}
use Rattle.dcx_linear.specs.declared.param_term.ParamTerm.{ParamTerm}
use Rattle.dcx_linear.specs.declared.param_form.ParamForm.{ParamForm}
use Rattle.dcx_linear.specs.ParamTerms.{HoldsTerms}
use Rattle.dcx_graph.specs.Program.{Program}

-- the coefficient of the parameter at position k, whose only entry it is; 0 where it isn't listed
abbrev pub coefficient_in : ℕ → List ParamTerm → Frac
coefficient_in k [] = zero_frac
coefficient_in k (t ∷ ts) = if nat_eq t.position k then t.coefficient else coefficient_in k ts

abbrev pub coefficient_of : ℕ → ParamForm → Frac
coefficient_of k f = coefficient_in k f.terms

-- in the constant of each row, and in that of what is to be small, entries rise
pub record HasConstants (q : Program ParamForm) : Type 0 where
  pub rows : All (λ row. HoldsTerms row.form.constant.terms) q.rows
  pub objective : HoldsTerms q.objective.constant.terms
