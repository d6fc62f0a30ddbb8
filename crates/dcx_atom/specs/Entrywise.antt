-- Entries that are formed one after the other, up to the first that isn't, and sums of products in order.
use Rattle.std.specs.Prelude.{◌≡◌, ℕ, ◌<◌, List, [], ◌∷◌, map, Result, Ok, Err, IsOk}
use Rattle.dcx_frac.specs.declared.fraction.Frac.{Frac}
use Rattle.dcx_frac.specs.declared.fraction.Passes.{Passes}
use Rattle.dcx_frac.specs.Results.{sum_of, product_of}
use Rattle.dcx_atom.specs.Arrays.{list_below}
use Rattle.dcx_atom.specs.Formed.{and_then}

-- s + x * y, the product formed before it is added
abbrev pub added_product : Frac → Frac × Frac → Result Frac Passes
added_product s f = and_then (product_of f.0 f.1) (sum_of s)

-- s + x1 * y1 + x2 * y2 + .., from the left
abbrev pub products_from : Frac → List (Frac × Frac) → Result Frac Passes
products_from s [] = Ok s
products_from s (f ∷ fs) = and_then (added_product s f) (λ t. products_from t fs)

-- so many entries are formed, each as told
abbrev pub AreFormed : {E : Type 0} → (ℕ → Result Frac E) → ℕ → List Frac → Type 0
AreFormed formed size entries = map Ok entries ≡ list_below size formed

-- the stop is that of the first entry, of so many, that isn't formed
pub record IsFirst {E : Type 0} (formed : ℕ → Result Frac E) (size : ℕ) (stop : E) : Type 0 where
  pub entry : ℕ
  pub within : entry < size
  pub before : (j : ℕ) → j < entry → IsOk (formed j)
  pub here : formed entry ≡ Err stop
