-- A fraction is 0 exactly where its numerator is.
use Rattle.std.proofs.Common.{of_z, ap}
use Rattle.std.specs.Int.{w128}
use Rattle.std.proofs.lemmas.Bool.{eqb-true, eq-eqb}
use Rattle.dcx_frac.proofs.Bits.{bits_zero}
use Rattle.dcx_frac.proofs.Turns.{zero_num}
use Rattle.dcx_frac.proofs.fraction.Frac.is_zero.Goals as goal

pub returns : goal.returns
returns c =
    let f = c.args.self.now in
    (λ h. (zero_num f).0 (bits_zero f.num f.num_fits (eqb-true _ _ h)), λ z. eq-eqb _ _ (ap (of_z w128) ((zero_num f).1 z)))
