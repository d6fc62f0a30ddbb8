-- What each nonlinear call is, and that it keeps the laws: one line for each call.
use Rattle.dcx_atom.specs.Meaning.{Meaning}
use Rattle.dcx_atom.specs.Lawful.{IsLawful}
use Rattle.dcx_elem.specs.Calls.{abs_meaning, abs_lawful, pos_meaning, pos_lawful, neg_meaning, neg_lawful, maximum_meaning, maximum_lawful, minimum_meaning, minimum_lawful}
use Rattle.dcx_fold.specs.Calls.{
  max_of_meaning,
  max_of_lawful,
  min_of_meaning,
  min_of_lawful,
  norm1_meaning,
  norm1_lawful,
  norm_inf_meaning,
  norm_inf_lawful,
  sum_largest_meaning,
  sum_largest_lawful,
  sum_smallest_meaning,
  sum_smallest_lawful,
  cum_max_meaning,
  cum_max_lawful,
}
use Rattle.dcx_call.specs.declared.atoms.AtomCall.{AtomCall}
use Rattle.dcx_call.specs.declared.atoms.AtomCall.TheVariants.{Abs, Maximum, Minimum, Pos, Neg, MaxOf, MinOf, Norm1, NormInf, SumLargest, SumSmallest, CumMax}

-- all that the call is
abbrev pub atom_meaning : AtomCall → Meaning
atom_meaning (Abs x) = abs_meaning
atom_meaning (Maximum x) = maximum_meaning x.count
atom_meaning (Minimum x) = minimum_meaning x.count
atom_meaning (Pos x) = pos_meaning
atom_meaning (Neg x) = neg_meaning
atom_meaning (MaxOf x) = max_of_meaning x.axis
atom_meaning (MinOf x) = min_of_meaning x.axis
atom_meaning (Norm1 x) = norm1_meaning x.axis
atom_meaning (NormInf x) = norm_inf_meaning x.axis
atom_meaning (SumLargest x) = sum_largest_meaning x.k
atom_meaning (SumSmallest x) = sum_smallest_meaning x.k
atom_meaning (CumMax x) = cum_max_meaning

-- it keeps the laws
pub atom_lawful : (call : AtomCall) → IsLawful (atom_meaning call)
atom_lawful (Abs x) = abs_lawful
atom_lawful (Maximum x) = maximum_lawful x.count
atom_lawful (Minimum x) = minimum_lawful x.count
atom_lawful (Pos x) = pos_lawful
atom_lawful (Neg x) = neg_lawful
atom_lawful (MaxOf x) = max_of_lawful x.axis
atom_lawful (MinOf x) = min_of_lawful x.axis
atom_lawful (Norm1 x) = norm1_lawful x.axis
atom_lawful (NormInf x) = norm_inf_lawful x.axis
atom_lawful (SumLargest x) = sum_largest_lawful x.k
atom_lawful (SumSmallest x) = sum_smallest_lawful x.k
atom_lawful (CumMax x) = cum_max_lawful
