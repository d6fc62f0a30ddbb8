-- The value, the graph and the slopes of the running maximum at its only argument.
use Rattle.std.proofs.Common.{◌≡◌, ℕ, ◌<◌, arith, List, [], ◌∷◌, map, length, get_or, Result, Ok, Err, Some, IsSome, IfSome, IfErr, IsOk, refl, sym, ap, ◌∙◌, subst}
use Rattle.dcx_math.specs.Sums.{rat_at}
use Rattle.dcx_frac.specs.declared.fraction.Frac.{Frac}
use Rattle.dcx_frac.specs.Frac.{value}
use Rattle.dcx_shape.specs.declared.shape.Shape.{Shape}
use Rattle.dcx_shape.specs.declared.shape.Sides.{Sides}
use Rattle.dcx_shape.specs.declared.shape.Sides.TheVariants.{Scalar, Vector, Matrix}
use Rattle.dcx_shape.specs.Shape.{sides_of}
use Rattle.dcx_shape.specs.Sides.{entries_of}
use Rattle.dcx_atom.specs.declared.array.Array.{Array}
use Rattle.dcx_atom.specs.Arrays.{list_below, number_at, numbers_of, array_sides, sides_list, sides_at}
use Rattle.dcx_atom.specs.Formed.{sum_in_order}
use Rattle.dcx_atom.specs.Value.{IsValueOf}
use Rattle.dcx_atom.specs.Steps.{rows_before}
use Rattle.dcx_atom.proofs.Lists.{rat_at-list_below, one_forms}
use Rattle.dcx_fold.specs.Running.{only_vector, greatest_so_far, rows_until, running_meaning}
use Rattle.dcx_fold.proofs.RunningSteps.{before_is}

-- what holds of as many entries as the vector has
pub at_vector : (args : List Sides) (P : ℕ → Type 0) → P (entries_of (sides_at args 0)) → IfSome (only_vector args) (λ s. P (entries_of s))
at_vector [] P h = tt
at_vector (Scalar ∷ []) P h = tt
at_vector (Vector n ∷ []) P h = h
at_vector (Matrix m n ∷ []) P h = tt
at_vector (s ∷ r ∷ rs) P h = tt

pub of_vector : (args : List Sides) (P : ℕ → Type 0) → IsSome (only_vector args) → IfSome (only_vector args) (λ s. P (entries_of s)) → P (entries_of (sides_at args 0))
of_vector [] P some h = cc
of_vector (Scalar ∷ []) P some h = cc
of_vector (Vector n ∷ []) P some h = h
of_vector (Matrix m n ∷ []) P some h = cc
of_vector (s ∷ r ∷ rs) P some h = cc

pub args_are : (args : List Sides) → IsSome (only_vector args) → args ≡ Vector (entries_of (sides_at args 0)) ∷ []
args_are [] some = cc
args_are (Scalar ∷ []) some = cc
args_are (Vector n ∷ []) some = refl
args_are (Matrix m n ∷ []) some = cc
args_are (s ∷ r ∷ rs) some = cc

sides_are : (args : List Sides) → IsSome (only_vector args) → only_vector args ≡ Some (sides_at args 0)
sides_are [] some = cc
sides_are (Scalar ∷ []) some = cc
sides_are (Vector n ∷ []) some = refl
sides_are (Matrix m n ∷ []) some = cc
sides_are (s ∷ r ∷ rs) some = cc

first_array : (args : List Array) (x : Array) → IsSome (only_vector (array_sides args)) → x ≡ get_or args 0 x → sides_at (array_sides args) 0 ≡ sides_of x.shape
first_array [] x some e = cc
first_array (y ∷ ys) x some e = ap (λ (z : Array). sides_of z.shape) (sym e)

first_numbers : (args : List Array) (x : Array) → IsSome (only_vector (array_sides args)) → x ≡ get_or args 0 x → numbers_of args 0 ≡ number_at x.entries
first_numbers [] x some e = cc
first_numbers (y ∷ ys) x some e = ap (λ (z : Array). number_at z.entries) (sym e)

-- the value
pub running_value_is : (args : List Array) (x v : Array) (xs : List Frac) → IsSome (only_vector (array_sides args)) → x ≡ get_or args 0 x → xs ≡ x.entries → v.shape ≡ x.shape →
    map value v.entries ≡ list_below (length xs) (greatest_so_far (number_at xs)) → IsValueOf running_meaning args v
running_value_is args x v xs some e f shape h = record {
  shape = sides_are (array_sides args) some ∙ ap Some (first_array args x some e ∙ ap sides_of (sym shape));
  numbers = there;
  forms = λ j b. subst (λ y. IsOk (sum_in_order (y ∷ []))) (there j b) (one_forms v.entries j (omega (arith, v.full)));
}
  where
    size : entries_of (sides_of v.shape) ≡ length xs
    size = ap (λ (s : Shape). entries_of (sides_of s)) shape ∙ sym x.full ∙ ap length (sym f)

    there : (j : ℕ) → j < entries_of (sides_of v.shape) → number_at v.entries j ≡ greatest_so_far (numbers_of args 0) j
    there j b =
        ap (λ ys. rat_at ys j) h ∙ rat_at-list_below (length xs) (greatest_so_far (number_at xs)) j (subst (λ m. j < m) size b)
        ∙ ap (λ y. greatest_so_far y j) (ap number_at f ∙ sym (first_numbers args x some e))

-- the size of the only shape
pub first_size : (args : List Shape) (x : Shape) (size : ℕ) → IsSome (only_vector (sides_list args)) → x ≡ get_or args 0 x → size ≡ entries_of (sides_of x)
    → size ≡ entries_of (sides_at (sides_list args) 0)
first_size [] x size some e n = cc
first_size (y ∷ ys) x size some e n = n ∙ ap (λ z. entries_of (sides_of z)) e

-- as many weights as rows
pub weights_counted : (args : List Sides) (size : ℕ) (ws : List Frac) → IsSome (only_vector args) → size ≡ entries_of (sides_at args 0)
    → IfSome (only_vector args) (λ s. length ws ≡ rows_before running_meaning args (entries_of s)) →
    length ws ≡ rows_until size
weights_counted args size ws some n h =
    of_vector args (λ m. length ws ≡ rows_before running_meaning args m) some h ∙ before_is args (entries_of (sides_at args 0)) ∙ ap rows_until (sym n)

pub err_at_vector : {A E : Type 0} (args : List Sides) (size : ℕ) (P : List Sides → ℕ → E → Type 0) (r : Result A E) → IsSome (only_vector args) → size ≡ entries_of (sides_at args 0) →
    IfErr r (P (Vector size ∷ []) size) → IfErr r (λ e. IfSome (only_vector args) (λ s. P args (entries_of s) e))
err_at_vector args size P (Ok g) some n h = tt
err_at_vector args size P (Err e) some n h = at_vector args (λ m. P args m e) (subst (λ xs. P xs (entries_of (sides_at args 0)) e) (sym (args_are args some)) (subst (λ m. P (Vector m ∷ []) m e) n h))
