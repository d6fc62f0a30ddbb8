-- An array that is there, with the sides of its name.
use Rattle.std.proofs.Common.{◌≡◌, ℕ, List, Bool, Option, Some, None, IsTrue, sym, ap, ◌∙◌, ◌↔◌}
use Rattle.std.specs.Option.{IsSomeAnd}
use Rattle.std.proofs.Props.{props}
use mathlib.Core.Logic.{∥∥₁_elim}
use Rattle.std.proofs.lemmas.Option.{none-some, same_Some}
use Rattle.dcx_shape.specs.declared.shape.Sides.{Sides}
use Rattle.dcx_shape.specs.Shape.{sides_of}
use Rattle.dcx_atom.specs.declared.array.Array.{Array}
use Rattle.dcx_point.specs.Pairs.{Pairs, array_of}
use Rattle.dcx_call.specs.Values.{HasArray}

-- of an array that was looked up
pub has_array : (pairs : Pairs) (name : List ℕ) (sides : Sides) (o : Option Array) → o ≡ array_of pairs name → IsSomeAnd o (λ x. sides_of x.shape ≡ sides) ↔ HasArray pairs name sides
has_array pairs name sides None e = ((λ h. absurd h), (λ h. absurd (none-some h.array (e ∙ h.there))))
has_array pairs name sides (Some x) e =
    ((λ h. record { array = x; there = sym e; shape = h }), (λ h. ap (λ (y : Array). sides_of y.shape) (same_Some x h.array (e ∙ h.there)) ∙ h.shape))

-- there is one array, or none, under a name
pub one_array : {D : Type 0} (given : Pairs) (name : List ℕ) (sides : Sides) (o : Option Array) → array_of given name ≡ o → ∥ D ∥₁ → (D → HasArray given name sides) → HasArray given name sides
one_array given name sides None e d f = absurd (∥∥₁_elim d (hlevel props) (λ x. none-some (f x).array (sym e ∙ (f x).there)))
one_array given name sides (Some a) e d f = record {
  array = a;
  there = e;
  shape = ∥∥₁_elim d (hlevel props) (λ x. ap (λ (b : Array). sides_of b.shape) (same_Some a (f x).array (sym e ∙ (f x).there)) ∙ (f x).shape);
}

-- of a test of it
pub tested : (b : Bool) {P Q : Type 0} → IsTrue b ↔ P → P ↔ Q → IsTrue b ↔ Q
tested b h k = ((λ t. k.0 (h.0 t)), (λ q. h.1 (k.1 q)))
