-- One check after the other, while they are made.
use Rattle.std.proofs.Common.{◌≡◌, ◌⊎◌, ℕ, List, Some, sym, subst}
use Rattle.std.specs.List.{slice_get}
use Rattle.dcx_frac.specs.declared.fraction.Frac.{Frac}
use Rattle.dcx_shape.specs.Sides.{entries_of}
use Rattle.dcx_call.specs.declared.attribute.Variable.{Variable}
use Rattle.dcx_tree.specs.declared.problem.Problem.{Problem}
use Rattle.dcx_unknowns.specs.Unknowns.{demanded, sides_in}
use Rattle.dcx_cert_collect.specs.declared.collected.Reached.{Reached}
use Rattle.dcx_answer.specs.declared.cert_fault.CertFault.{CertFault}
use Rattle.dcx_answer.specs.declared.cert_fault.CertFault.TheVariants.{Memory}
use Rattle.dcx_cert_sections.specs.Checks.{Check, each_below}
use Rattle.dcx_cert_bound.specs.Variables.{reaching, entry_check, variable_check}

-- the fault is told, or memory ran out
abbrev pub Fails : Check → CertFault → Type 0
Fails check f = (f ≡ Memory) ⊎ check.fails f

-- the check of a variable, where its coefficients are told
module _ (p : Problem) (reached : List Reached) (k : ℕ) (v : Variable) (coefficients : List Frac) (at : slice_get p.variables k ≡ Some v) (told : coefficients ≡ reaching p.tree reached v.name) where
  abbrev own : List Frac → Check
  own cs = each_below (entries_of (sides_in v)) (entry_check (demanded v) (sides_in v) cs k)

  pub variable_passes : (own coefficients).passes → (variable_check p.tree reached k (slice_get p.variables k)).passes
  variable_passes h = subst (λ o. (variable_check p.tree reached k o).passes) (sym at) (subst (λ cs. (own cs).passes) told h)

  pub variable_fails : (f : CertFault) → Fails (own coefficients) f → Fails (variable_check p.tree reached k (slice_get p.variables k)) f
  variable_fails f h = subst (λ o. Fails (variable_check p.tree reached k o) f) (sym at) (subst (λ cs. Fails (own cs) f) told h)
