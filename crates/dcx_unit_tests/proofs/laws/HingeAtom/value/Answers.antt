-- The value is the only entry's part above 0.
use Rattle.std.proofs.Common.{◌≡◌, ◌<◌, List, length, [], ◌∷◌, map, get_or, refl, sym, ap, ◌∙◌, subst, Some, IsSome, IsOk, arith, pos}
use Rattle.dcx_math.specs.Rational.{whole, rat_max}
use Rattle.dcx_math.specs.Sums.{rat_at}
use Rattle.dcx_frac.specs.declared.fraction.Frac.{Frac}
use Rattle.dcx_frac.specs.Frac.{value}
use Rattle.dcx_shape.specs.Shape.{sides_of}
use Rattle.dcx_shape.specs.Sides.{entries_of}
use Rattle.dcx_shape.specs.declared.shape.Sides.{Sides}
use Rattle.dcx_shape.specs.declared.shape.Sides.TheVariants.{Scalar, Vector, Matrix}
use Rattle.dcx_atom.specs.declared.array.Array.{Array}
use Rattle.dcx_atom.specs.Arrays.{numbers_of, array_sides, number_at}
use Rattle.dcx_atom.specs.Formed.{sum_in_order}
use Rattle.dcx_atom.specs.Value.{IsValueOf}
use Rattle.dcx_atom.proofs.FormedSums.{sum_in_order-one}
use Rattle.dcx_unit_tests.specs.Hinge.{one_scalar, hinge_meaning}
use Rattle.dcx_unit_tests.proofs.laws.HingeAtom.value.Goals as goal

scalar_is : (args : List Sides) → IsSome (one_scalar args) → one_scalar args ≡ Some Scalar
scalar_is [] h = cc
scalar_is (Scalar ∷ []) h = refl
scalar_is (Vector n ∷ []) h = cc
scalar_is (Matrix m n ∷ []) h = cc
scalar_is (s ∷ r ∷ rs) h = cc

first_is : (s : Sides) (ss : List Sides) → IsSome (one_scalar (s ∷ ss)) → s ≡ Scalar
first_is Scalar [] h = refl
first_is (Vector n) [] h = cc
first_is (Matrix m n) [] h = cc
first_is s (r ∷ rs) h = cc

head_is : (xs : List Frac) (x : Frac) → x ≡ get_or xs 0 x → 0 < length xs → rat_at (map value xs) 0 ≡ value x
head_is [] x e l = absurd (omega arith)
head_is (z ∷ zs) x e l = ap value (sym e)

entry_is : (args : List Array) (a : Array) (x : Frac) → IsSome (one_scalar (array_sides args)) → a ≡ get_or args 0 a → x ≡ get_or a.entries 0 x → numbers_of args 0 0 ≡ value x
entry_is [] a x h e f = cc
entry_is (y ∷ ys) a x h e f =
    let scalar : sides_of a.shape ≡ Scalar = ap (λ z. sides_of z.shape) e ∙ first_is (sides_of y.shape) (array_sides ys) h in
    ap (λ z. number_at z.entries 0) (sym e) ∙ head_is a.entries x f (subst (λ n. 0 < n) (sym (a.full ∙ ap entries_of scalar)) (omega arith))

value_is : (args : List Array) (v : Array) (x f : Frac) → IsSome (one_scalar (array_sides args)) → numbers_of args 0 0 ≡ value x → sides_of v.shape ≡ Scalar → v.entries ≡ f ∷ [] →
    value f ≡ rat_max (value x) (whole (pos 0)) → IsValueOf hinge_meaning args v
value_is args v x f some read shape entries is =
    let there : value f ≡ rat_max (numbers_of args 0 0) (whole (pos 0)) = is ∙ ap (λ n. rat_max n (whole (pos 0))) (sym read) in
    record {
      shape = scalar_is (array_sides args) some ∙ ap Some (sym shape);
      numbers = λ j b. (
          let one : j < 1 = subst (λ s. j < entries_of s) shape b in
          let zero : j ≡ 0 = omega arith in
          ap (number_at v.entries) zero ∙ ap (λ xs. number_at xs 0) entries ∙ there);
      forms = λ j b. subst (λ n. IsOk (sum_in_order (n ∷ []))) there (rw (sum_in_order-one f) refl);
    }

pub returns-in-Ok-clause-ok : goal.returns-in-Ok-clause-ok
returns-in-Ok-clause-ok c =
    let a = c.index-args-0.result in
    let x = c.index-as_slice-0.result in
    value_is c.args.args.now c.in-Ok.array x c.part_above-above.result c.requires
    (entry_is c.args.args.now a x c.requires c.index-args-0.is (c.index-as_slice-0.is ∙ ap (λ xs. get_or xs 0 x) c.as_slice.ensures ∙ ap (λ z. get_or z.entries 0 x) (sym c.index-args-0.is)))
    c.in-Ok.ensures.shape c.in-Ok.ensures.entries c.part_above-above.ensures
