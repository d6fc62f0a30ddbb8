-- By whose rules a node is a number.
use Rattle.std.specs.Prelude.{Bool, true, false}
use Rattle.dcx_convex.specs.Rules.{Rules, Plain, Parametrized}

-- parameters are affine
abbrev pub are_affine : Rules → Bool
are_affine Plain = false
are_affine Parametrized = true
