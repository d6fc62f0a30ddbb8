-- There is a shape exactly of 1 to 20,000 entries, and a product has the sides of the relation.
use Rattle.std.specs.Prelude.{◌≡◌, ◌↔◌, ℕ, zero, suc, nat_eq, Bool, true, false, if◌then◌else◌, Option, Some, None, IsSome, IfSome, Ok}
use Rattle.std.specs.Option.{ok_or}
use Rattle.std.proofs.Common.{refl, sym, ap, ◌∙◌, arith, inl, inr}
use Rattle.std.proofs.lemmas.Bool.{false≢true, eqb-true, eq-eqb, cases_lt}
use Rattle.dcx_shape.specs.declared.shape.Sides.{Sides}
use Rattle.dcx_shape.specs.declared.shape.Sides.TheVariants.{Scalar, Vector, Matrix}
use Rattle.dcx_shape.specs.declared.shape.Shape.{Shape}
use Rattle.dcx_shape.specs.Shape.{sides_of}
use Rattle.dcx_shape.specs.Sides.{entries_of, HasFewEntries}
use Rattle.dcx_shape.specs.Product.{IsProduct}
use Rattle.dcx_array.specs.declared.fault.ArrayFault.{ArrayFault}
use Rattle.dcx_array.specs.Shapes.{dec_few, shape_with, told, size_fault, allowed_shape, multiplied_sides}
use Rattle.dcx_shape.proofs.OneShape.{shape_from_sides}

-- the sides of a shape have that shape
pub shape_with-sides : (c : Shape) → shape_with (sides_of c) ≡ Some c
unfolding shape_with
shape_with-sides c = by (dec_few (sides_of c)) refl
  where
    by : (d : Dec (HasFewEntries (sides_of c))) → dec_few (sides_of c) ≡ d → shape_with (sides_of c) ≡ Some c
    by (yes few) e = rw e (ap Some (shape_from_sides (record { sides = sides_of c; few = few }) c refl))
    by (no none) e = absurd (none c.few)

pub shape_with-is : (s : Sides) (c : Shape) → sides_of c ≡ s → shape_with s ≡ Some c
shape_with-is s c e = ap shape_with (sym e) ∙ shape_with-sides c

-- other sides have none
pub shape_with-none : (s : Sides) → ¬ HasFewEntries s → shape_with s ≡ None
unfolding shape_with
shape_with-none s none = by (dec_few s) refl
  where
    by : (d : Dec (HasFewEntries s)) → dec_few s ≡ d → shape_with s ≡ None
    by (yes few) e = absurd (none few)
    by (no f) e = rw e refl

pub shape_with-back : (s : Sides) (c : Shape) → shape_with s ≡ Some c → sides_of c ≡ s
shape_with-back s c e = by (dec_few s)
  where
    by : Dec (HasFewEntries s) → sides_of c ≡ s
    by (yes few) =
        let own : Shape = record { sides = s; few = few } in
        let is : shape_with s ≡ Some own = shape_with-sides own in
        let same : own ≡ c = cc in
        ap sides_of (sym same)
    by (no f) = let none : shape_with s ≡ None = shape_with-none s f in cc

pub shape_with-few : (s : Sides) → IsSome (shape_with s) ↔ HasFewEntries s
shape_with-few s = ((λ some. by (dec_few s) some), (λ few. rw (shape_with-sides (record { sides = s; few = few })) refl))
  where
    by : Dec (HasFewEntries s) → IsSome (shape_with s) → HasFewEntries s
    by (yes few) some = few
    by (no f) some = absurd (false≢true (rw (shape_with-none s f) at some))

-- a shape that is told where there is one
pub allowed_is : (s : Sides) (o : Option Shape) (fault : ArrayFault) → (IsSome o ↔ HasFewEntries s) → IfSome o (λ c. sides_of c ≡ s) → fault ≡ size_fault (entries_of s) →
    ok_or o fault ≡ allowed_shape s
allowed_is s None fault exists is e = rw (e, shape_with-none s (λ few. false≢true (exists.1 few))) refl
allowed_is s (Some c) fault exists is e = rw (shape_with-is s c is) refl

-- a count that is told is none or too many as the count itself is
pub size_fault-told : (n : ℕ) → size_fault (told n) ≡ size_fault n
size_fault-told zero = refl
size_fault-told (suc n) = elim (cases_lt 4294967295 (suc n)) [
  | inl over ↦ let most : told (suc n) ≡ 4294967295 = omega arith in rw most refl
  | inr within ↦ let same : told (suc n) ≡ suc n = omega arith in ap size_fault same
]

pub allowed_shape-is : (s : Sides) (c : Shape) → sides_of c ≡ s → allowed_shape s ≡ Ok c
allowed_shape-is s c e = rw (shape_with-is s c e) refl

pub allowed_shape-back : (s : Sides) (c : Shape) → allowed_shape s ≡ Ok c → sides_of c ≡ s
allowed_shape-back s c e = by (shape_with s) refl e
  where
    by : (o : Option Shape) → shape_with s ≡ o → ok_or o (size_fault (entries_of s)) ≡ Ok c → sides_of c ≡ s
    by None p q = cc
    by (Some x) p q = let same : x ≡ c = cc in shape_with-back s c (p ∙ ap Some same)

-- ---- products
chosen : (n l : ℕ) (c x : Sides) → ((if nat_eq n l then Some c else None) ≡ Some x) ↔ ((n ≡ l) × (x ≡ c))
chosen n l c x = ((λ e. there (nat_eq n l) refl e), (λ h. rw (eq-eqb n l h.0) (ap Some (sym h.1))))
  where
    there : (b : Bool) → nat_eq n l ≡ b → (if b then Some c else None) ≡ Some x → (n ≡ l) × (x ≡ c)
    there true e p = let same : c ≡ x = cc in (eqb-true n l e, sym same)
    there false e p = cc

no_product : {P : Type 0} (x : Sides) → None ≡ Some x → P
no_product x e = cc

pub product_is : (a b c : Sides) → (multiplied_sides a b ≡ Some c) ↔ IsProduct a b c
product_is Scalar Scalar c = ((λ e. no_product c e), (λ h. absurd h))
product_is Scalar (Vector l) c = ((λ e. no_product c e), (λ h. absurd h))
product_is Scalar (Matrix l p) c = ((λ e. no_product c e), (λ h. absurd h))
product_is (Vector n) Scalar c = ((λ e. no_product c e), (λ h. absurd h))
product_is (Vector n) (Vector l) c = chosen n l Scalar c
product_is (Vector n) (Matrix l p) c = chosen n l (Vector p) c
product_is (Matrix m n) Scalar c = ((λ e. no_product c e), (λ h. absurd h))
product_is (Matrix m n) (Vector l) c = chosen n l (Vector m) c
product_is (Matrix m n) (Matrix l p) c = chosen n l (Matrix m p) c
