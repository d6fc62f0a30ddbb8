-- Laws of the terms of affine numbers.
use Rattle.std.proofs.Common.{◌≡◌, Result, Ok, Err, sym, ap, ◌∙◌}
use Rattle.dcx_frac.specs.declared.fraction.Frac.{Frac}
use Rattle.dcx_frac.specs.declared.fraction.Passes.{Passes}
use Rattle.dcx_frac.specs.Results.{sum_of}
use Rattle.dcx_linear.specs.declared.change.Change.{Change}
use Rattle.dcx_linear.specs.declared.param_term.ParamTerm.{ParamTerm}
use Rattle.dcx_linear.specs.Changes.{changed_frac}
use Rattle.dcx_linear.specs.ParamTerms.{key_of, with_coefficient, renewed, sum_gives_term, change_gives_term}

-- a renewed term is the term with another coefficient
pub renewed_is : (t v : ParamTerm) (r : Result Frac Passes) → Ok v ≡ renewed t r → (r ≡ Ok v.coefficient) × (v ≡ with_coefficient t v.coefficient)
renewed_is t v (Ok x) e = let k : v ≡ with_coefficient t x = cc in (ap (λ w. Ok w.coefficient) (sym k), k ∙ ap (λ w. with_coefficient t w.coefficient) (sym k))
renewed_is t v (Err passes) e = cc

-- a sum has the key of its summands
pub sum_key_lem : (t u v : ParamTerm) → sum_gives_term t u (Ok v) → key_of v ≡ key_of t
sum_key_lem t u v h = ap key_of (renewed_is t v (sum_of t.coefficient u.coefficient) h.1).1

-- a changed term keeps its key
pub change_key_lem : (change : Change) (t v : ParamTerm) → change_gives_term change t (Ok v) → key_of v ≡ key_of t
change_key_lem change t v h = ap key_of (renewed_is t v (changed_frac change t.coefficient) h).1
