-- The array stands behind the others.
use Rattle.dcx_cert_lines.proofs.Slots.{next_put}
use Rattle.dcx_cert_lines.proofs.arrays.read_variable.Goals as goal

pub returns-clause-read : goal.returns-clause-read
returns-clause-read c = record {
  array = c.in_ok-array.array;
  shape = c.in_ok-array.ensures.shape;
  put = next_put c.args.point.now c.put.new.self c.args.named.now.name c.in_ok-name.name c.in_ok-array.array c.requires c.in_ok-name.ensures c.in_ok-put.ensures.ok;
  read = c.in_ok-array.ensures.read;
}
