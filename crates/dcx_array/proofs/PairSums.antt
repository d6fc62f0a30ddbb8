-- An entry of a matrix product, pair by pair.
use Rattle.std.specs.Prelude.{◌≡◌, ℕ, zero, suc, ◌+◌, ◌≤◌, [], ◌∷◌, Result, Ok, Err}
use Rattle.std.proofs.Common.{ap, ◌∙◌, subst, arith, inl, inr, sym, ap₂}
use Rattle.std.proofs.lemmas.Bool.{cases_lt}
use Rattle.dcx_frac.specs.declared.fraction.Frac.{Frac}
use Rattle.dcx_frac.specs.declared.fraction.Passes.{Passes}
use Rattle.dcx_shape.specs.Shape.{sides_of}
use Rattle.dcx_shape.specs.Sides.{cols_of}
use Rattle.dcx_atom.specs.declared.array.Array.{Array}
use Rattle.dcx_atom.specs.Arrays.{list_below}
use Rattle.dcx_atom.specs.Formed.{zero_frac, and_then}
use Rattle.dcx_atom.specs.Entrywise.{added_product, products_from}
use Rattle.dcx_atom.proofs.BoundRows.{map-list_below}
use Rattle.dcx_atom.proofs.Lists.{list_below-next}
use Rattle.dcx_atom.proofs.Entrywise.{products_from-append, products_from-stopped}
use Rattle.dcx_affine.specs.declared.pairing.Pair.{Pair}
use Rattle.dcx_affine.specs.Pairing.{product_pair}
use Rattle.dcx_array.specs.Arrays.{entry}
use Rattle.dcx_array.specs.Operators.{product_entry}

-- the factors of pair t of entry k
abbrev pub factors : Array → Array → ℕ → ℕ → Frac × Frac
factors a b k t = (entry a (product_pair (sides_of a.shape) (sides_of b.shape) k t).left, entry b (product_pair (sides_of a.shape) (sides_of b.shape) k t).right)

-- the sum of the first so many products
abbrev pub sum_below : Array → Array → ℕ → ℕ → Result Frac Passes
sum_below a b k t = products_from zero_frac (list_below t (factors a b k))

-- the entry is the sum of all
pub all_products : (a b : Array) (k : ℕ) → product_entry a b k ≡ sum_below a b k (cols_of (sides_of a.shape))
all_products a b k =
    ap (products_from zero_frac) (map-list_below (cols_of (sides_of a.shape)) (product_pair (sides_of a.shape) (sides_of b.shape) k) (λ p. (entry a p.left, entry b p.right)))

-- one more product
pub next_product : (a b : Array) (k t : ℕ) (sum : Frac) → sum_below a b k t ≡ Ok sum → sum_below a b k (t + 1) ≡ added_product sum (factors a b k t)
next_product a b k t sum before =
    ap (products_from zero_frac) (list_below-next t (factors a b k)) ∙ products_from-append zero_frac (list_below t (factors a b k)) (factors a b k t)
    ∙ ap (λ r. and_then r (λ s. added_product s (factors a b k t))) before

-- what the code adds to the sum so far
pub told_product : (a b : Array) (k t : ℕ) (pair : Pair) (x y sum : Frac) (r : Result Frac Passes) → pair ≡ product_pair (sides_of a.shape) (sides_of b.shape) k t →
    x ≡ entry a pair.left → y ≡ entry b pair.right → sum_below a b k t ≡ Ok sum → r ≡ added_product sum (x, y) → sum_below a b k (t + 1) ≡ r
told_product a b k t pair x y sum r is left right before e =
    next_product a b k t sum before
    ∙ ap₂ (λ u v. added_product sum (u, v)) (ap (λ p. entry a p.left) (sym is) ∙ sym left) (ap (λ p. entry b p.right) (sym is) ∙ sym right) ∙ sym e

-- what stops stays stopped
stays : (f : ℕ → Frac × Frac) (passes : Passes) (m n : ℕ) → m ≤ n → products_from zero_frac (list_below m f) ≡ Err passes → products_from zero_frac (list_below n f) ≡ Err passes
stays f passes m zero b e = let none : m ≡ zero = omega arith in subst (λ k. products_from zero_frac (list_below k f) ≡ Err passes) none e
stays f passes m (suc n) b e = elim (cases_lt n m) [
  | inl over ↦ let last : m ≡ suc n = omega arith in subst (λ k. products_from zero_frac (list_below k f) ≡ Err passes) last e
  | inr within ↦ products_from-stopped zero_frac (list_below n f) (f n ∷ []) passes (stays f passes m n within e)
]

pub stopped_product : (a b : Array) (k t : ℕ) (passes : Passes) → t ≤ cols_of (sides_of a.shape) → sum_below a b k t ≡ Err passes → product_entry a b k ≡ Err passes
stopped_product a b k t passes within e = all_products a b k ∙ stays (factors a b k) passes t (cols_of (sides_of a.shape)) within e
