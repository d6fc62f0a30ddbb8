-- Values as the code has them.
use Rattle.std.proofs.Common.{◌≡◌, ℕ, ◌<◌, arith, List, [], ◌∷◌, map, get_or, Some, IsSome, IsOk, sym, ap, subst, ◌∙◌}
use Rattle.dcx_frac.specs.Frac.{value}
use Rattle.dcx_shape.specs.Shape.{sides_of}
use Rattle.dcx_shape.specs.Sides.{entries_of}
use Rattle.dcx_atom.specs.declared.array.Array.{Array}
use Rattle.dcx_atom.specs.Arrays.{array_sides, number_at}
use Rattle.dcx_atom.specs.Formed.{sum_in_order}
use Rattle.dcx_atom.specs.Value.{IsValueOf}
use Rattle.dcx_elem.specs.declared.kinks.Kink.{Kink}
use Rattle.dcx_atom.specs.Bounding.{only}
use Rattle.dcx_elem.specs.Kinks.{kink_at, kink_meaning}
use Rattle.dcx_atom.proofs.Lists.{number_at-map, one_forms}

-- the value, made entry by entry of the only argument
pub kink_value : (p : Kink) (args : List Array) (x v : Array) → IsSome (only (array_sides args)) → x ≡ get_or args 0 x → sides_of v.shape ≡ sides_of x.shape →
    map value v.entries ≡ map (λ y. kink_at p (value y)) x.entries → IsValueOf (kink_meaning p) args v
kink_value p [] x v some e s h = cc
kink_value p (y ∷ []) x v some e s h = record {
  shape = ap (λ (z : Array). Some (sides_of z.shape)) (sym e) ∙ ap Some (sym s);
  numbers = λ j b. there j b;
  forms = λ j b. subst (λ n. IsOk (sum_in_order (n ∷ []))) (there j b) (one_forms v.entries j (omega (arith, v.full)));
}
  where
    there : (j : ℕ) → j < entries_of (sides_of v.shape) → number_at v.entries j ≡ kink_at p (number_at y.entries j)
    there j b =
        number_at-map (kink_at p) x.entries v.entries h j (omega (arith, x.full, ap entries_of s)) ∙ ap (λ (z : Array). kink_at p (number_at z.entries j)) e
kink_value p (y ∷ z ∷ zs) x v some e s h = cc
