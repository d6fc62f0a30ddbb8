-- Numbers that fit an `i128`, and come back from their bits.
use Rattle.std.proofs.Common.{◌≡◌, ℤ, pos, negsuc, to_z, of_z, to_z-of_z, arith, sym, ap, ◌∙◌}
use Rattle.std.specs.Int.{w128}
use borrow.Author.Differences.{fits_in}
use Rattle.dcx_frac.specs.Fits.{Fits}

-- a number that fits comes back from its bits
pub back : (z : ℤ) → Fits z → to_z w128 (of_z w128 z) ≡ z
back (pos n) h = to_z-of_z (fits_in w128 (pos n) (omega arith))
back (negsuc n) h = to_z-of_z (fits_in w128 (negsuc n) (omega arith))

-- a number with the bits 0 is 0
pub bits_zero : (z : ℤ) → Fits z → of_z w128 z ≡ 0 → z ≡ pos 0
bits_zero z h e = sym (back z h) ∙ ap (to_z w128) e
