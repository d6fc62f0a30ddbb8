-- There are as many settings as lines.
use Rattle.std.proofs.Common.{ap, length, arith}
use Rattle.dcx_top.proofs.Reading.{laid_length}
use Rattle.dcx_top.proofs.certifying.read_sections.Goals as goal

pub read_at-requires : goal.read_at-requires
read_at-requires g c =
    let e = ap length c.as_slice.ensures in
    omega (arith, laid_length _ _ _ c.in-Ok.ensures, c.requires.few, e)
