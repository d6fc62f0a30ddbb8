-- A number below 2 ^ 127 is the same with a sign.
use Rattle.std.proofs.Common.{arith}
use Rattle.std.specs.Int.{w128}
use Rattle.std.proofs.lemmas.Int.{fits_signed_from_abs, to_z_pos}
use Rattle.dcx_std.proofs.whole.signed.Goals as goal

pub overflow_cast-result : goal.overflow_cast-result
overflow_cast-result c = fits_signed_from_abs w128 _ (omega arith)

pub returns : goal.returns
returns c = to_z_pos w128 c.args.number (omega arith)
