-- The weights of a certificate by node.
use Rattle.std.specs.Prelude.{ℕ, nat_eq, if◌then◌else◌, List, [], ◌∷◌, Option, Some, None, slice_get}
use Rattle.dcx_frac.specs.declared.fraction.Frac.{Frac}
use Rattle.dcx_cert_sections.specs.declared.weights.NodeWeights.{NodeWeights}

-- the weights that are told of node i, and none where nothing is told of it
abbrev pub weights_at : List NodeWeights → ℕ → List Frac
weights_at [] i = []
weights_at (w ∷ weights) i = if nat_eq w.node.0 i then w.numbers else weights_at weights i

-- ---- by an index: the place of each node's weights among all
-- the numbers that stand there, if any do
abbrev pub numbers_if : Option NodeWeights → List Frac
numbers_if None = []
numbers_if (Some w) = w.numbers

abbrev pub numbers_in : List NodeWeights → Option ℕ → List Frac
numbers_in weights None = []
numbers_in weights (Some place) = numbers_if (slice_get weights place)

abbrev pub indexed_at : (index : List ℕ) → List NodeWeights → ℕ → List Frac
indexed_at index weights i = numbers_in weights (slice_get index i)
