-- A part that is written at its front leaves what is behind it.
use Rattle.std.proofs.Common.{◌+◌, ◌-◌, length, arith}
use Rattle.std.proofs.lemmas.Slice.{drop-put_mid}
use Rattle.dcx_frac.proofs.text.write_integer.Goals as goal

pub returns-clause-rest : goal.returns-clause-rest
returns-clause-rest c =
    drop-put_mid c.args.at (c.args.at + length c.as_bytes-digits.result.now - c.args.at) c.args.out.now c.copy_from_slice.new.self
    (c.args.at + length c.as_bytes-digits.result.now) (omega arith) (omega arith) (omega arith)
