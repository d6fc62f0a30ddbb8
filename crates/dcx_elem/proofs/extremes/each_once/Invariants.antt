-- So many arguments are listed.
use Rattle.std.proofs.Common.{◌≡◌, ℕ, map, pos}
use Rattle.dcx_math.specs.Rational.{whole}
use Rattle.dcx_atom.specs.Arrays.{list_below}
use Rattle.dcx_atom.specs.Bounding.{argument_term}
use Rattle.dcx_elem.specs.Rows.{piece_term}
use Rattle.dcx_elem.proofs.extremes.each_once.Given as goal

abbrev pub invariant-loop-argument : goal.invariant-loop-argument
invariant-loop-argument l = (j : ℕ) → map (piece_term j) l.pieces.items ≡ list_below l.argument (λ i. argument_term i j (whole (pos 1)))
