-- The laws of operators.
use Rattle.dcx_array.specs.declared.operators.Operation.TheVariants.{Sum, Difference, Product}
use Rattle.dcx_array.proofs.ExactNumbers.{entrywise_exact, divided_exact, matrix_exact, signs_exact, whole_is}
use Rattle.dcx_array.proofs.laws.operators.Goals as goal

pub returns : goal.returns
returns c = record {
  sums = entrywise_exact Sum;
  differences = entrywise_exact Difference;
  products = entrywise_exact Product;
  quotients = divided_exact;
  matrix_products = matrix_exact;
  signs = signs_exact;
  wholes = whole_is;
}
