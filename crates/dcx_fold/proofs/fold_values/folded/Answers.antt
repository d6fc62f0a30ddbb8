-- Of an extreme nothing is formed, and a sum that is formed is the exact one.
use Rattle.std.proofs.Common.{◌≡◌, sym, subst, [], ◌∷◌, List, map, Result, Ok, Err, IfOk}
use Rattle.dcx_math.specs.Rational.{ℚ}
use Rattle.dcx_math.specs.Sums.{rat_sum}
use Rattle.dcx_frac.specs.declared.fraction.Frac.{Frac}
use Rattle.dcx_frac.specs.declared.fraction.Passes.{Passes}
use Rattle.dcx_frac.specs.Frac.{value}
use Rattle.dcx_atom.specs.Formed.{sum_in_order}
use Rattle.dcx_atom.proofs.FormedSums.{sum_in_order-one}
use Rattle.dcx_atom.proofs.Totals.{value-sum_in_order}
use Rattle.dcx_fold.proofs.fold_values.folded.Goals as goal

-- nothing is formed of one number
alone : (f : Frac) (x : ℚ) → value f ≡ x → Ok f ≡ sum_in_order (x ∷ [])
alone f x e = subst (λ y. Ok f ≡ sum_in_order (y ∷ [])) e (sym (sum_in_order-one f))

summed : (r : Result Frac Passes) (fs : List Frac) → r ≡ sum_in_order (map value fs) → IfOk r (λ f. value f ≡ rat_sum (map value fs))
summed (Ok f) fs e = value-sum_in_order fs f (sym e)
summed (Err passes) fs e = tt

pub returns-in-Max-clause-answer : goal.returns-in-Max-clause-answer
returns-in-Max-clause-answer c = rw c.in-Max.is (alone c.extreme_of.result _ c.extreme_of.ensures)

pub returns-in-Min-clause-answer : goal.returns-in-Min-clause-answer
returns-in-Min-clause-answer c = rw c.in-Min.is (alone c.extreme_of-in-Min.result _ c.extreme_of-in-Min.ensures)

pub returns-in-Norm1-clause-value : goal.returns-in-Norm1-clause-value
returns-in-Norm1-clause-value c = rw c.in-Norm1.is (summed c.sum_all.result c.args.parts.now c.sum_all.ensures)

pub returns-in-NormInf-clause-answer : goal.returns-in-NormInf-clause-answer
returns-in-NormInf-clause-answer c = rw c.in-NormInf.is (alone c.extreme_of-in-NormInf.result _ c.extreme_of-in-NormInf.ensures)
