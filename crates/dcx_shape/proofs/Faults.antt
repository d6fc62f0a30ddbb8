-- What a call that fails for want of memory alone doesn't answer.
use Rattle.std.proofs.Common.{◌≡◌, Result, Ok, Err}
use Rattle.std.specs.Prelude.{IsOkUnless}
use Rattle.dcx_shape.specs.declared.fault.ShapeFault.{ShapeFault}
use Rattle.dcx_shape.specs.declared.fault.ShapeFault.TheVariants.{Memory}

-- only want of memory
pub only_memory : {X : Type 0} (r : Result X ShapeFault) (fault : ShapeFault) → IsOkUnless r Memory → r ≡ Err fault → fault ≡ Memory
only_memory (Ok x) fault u e = absurd (cc)
only_memory (Err f) fault u e = cc
