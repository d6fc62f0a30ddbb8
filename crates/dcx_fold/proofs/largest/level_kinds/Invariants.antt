-- The level and so many unknowns have their kind.
use Rattle.std.proofs.Common.{◌≡◌, ◌∷◌, replicate}
use Rattle.dcx_atom.specs.declared.graph.AuxKind.TheVariants.{Free, Nonneg}
use Rattle.dcx_fold.proofs.largest.level_kinds.Given as goal

abbrev pub invariant-loop-unknown : goal.invariant-loop-unknown
invariant-loop-unknown l = l.kinds.items ≡ Free ∷ replicate l._unknown Nonneg
