-- The place fits by what the run holds, so that no product is bounded anew.
use Rattle.std.proofs.Common.{rules}
use Rattle.dcx_shape.proofs.run.Run.place.Goals as goal

pub overflow_cast-result : goal.overflow_cast-result
overflow_cast-result c = search rules

pub overflow_cast-result-2 : goal.overflow_cast-result-2
overflow_cast-result-2 c = search rules

pub overflow_mul-result : goal.overflow_mul-result
overflow_mul-result c = search rules

pub overflow_add-result : goal.overflow_add-result
overflow_add-result c = search rules

pub overflow_cast-result-3 : goal.overflow_cast-result-3
overflow_cast-result-3 c = search rules

pub returns : goal.returns
returns c = search rules
