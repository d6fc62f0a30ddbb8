-- Rows that put an unknown beyond fractions of 128 bits have such coefficients.
use Rattle.std.proofs.Common.{ℕ, zero, suc, ◌<◌, arith, List, [], ◌∷◌, ◌++◌, map}
use Rattle.std.specs.List.{AllByRecursion}
use Rattle.dcx_math.specs.Rational.{ℚ}
use Rattle.dcx_frac.specs.Fits.{IsRepresentable}
use Rattle.dcx_atom.specs.declared.flags.Bend.{Bend}
use Rattle.dcx_atom.specs.declared.flags.Bend.TheVariants.{Convex, Concave}
use Rattle.dcx_atom.specs.Arrays.{list_below, joined_below}
use Rattle.dcx_atom.specs.Rows.{RowTerm}
use Rattle.dcx_atom.specs.Bounding.{argument_term, bound_row}
use Rattle.dcx_atom.specs.Fractions.{FitsRowTerm, FitsRow}
use Rattle.dcx_atom.proofs.Fractions.{one_fits, minus_one_fits, negative_fits}

-- ---- lists that are made by places
module _ {A : Type 0} (P : A → Type 0) where
  all_append : (xs ys : List A) → AllByRecursion P xs → AllByRecursion P ys → AllByRecursion P (xs ++ ys)
  all_append [] ys h k = k
  all_append (x ∷ xs) ys h k = (h.0, all_append xs ys h.1 k)

  pub all_below : (n : ℕ) (f : ℕ → A) → ((i : ℕ) → i < n → P (f i)) → AllByRecursion P (list_below n f)
  all_below zero f h = tt
  all_below (suc n) f h = all_append (list_below n f) (f n ∷ []) (all_below n f (λ i b. h i (omega arith))) (h n (omega arith), tt)

  pub all_joined : (n : ℕ) (f : ℕ → List A) → ((i : ℕ) → i < n → AllByRecursion P (f i)) → AllByRecursion P (joined_below n f)
  all_joined zero f h = tt
  all_joined (suc n) f h = all_append (joined_below n f) (f n) (all_joined n f (λ i b. h i (omega arith))) (h n (omega arith))

-- ---- rows that put an unknown beyond a term
pub bound_fits : (bend : Bend) (k : ℕ) (x : RowTerm) → FitsRowTerm x → FitsRow (bound_row bend k x)
bound_fits Convex k x h = (h, (minus_one_fits, tt))
bound_fits Concave k x h = (one_fits, (negative_fits x.coefficient h, tt))

-- beyond multiples of an entry
pub bounds_fit : (bend : Bend) (k i e : ℕ) (qs : List ℚ) → AllByRecursion IsRepresentable qs → AllByRecursion FitsRow (map (λ q. bound_row bend k (argument_term i e q)) qs)
bounds_fit bend k i e [] h = tt
bounds_fit bend k i e (q ∷ qs) h = (bound_fits bend k (argument_term i e q) h.0, bounds_fit bend k i e qs h.1)
