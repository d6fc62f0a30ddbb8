-- The shape that a matrix product has is the defined one.
use Rattle.std.proofs.Common.{◌≡◌, ◌↔◌, ℕ, zero, suc, ◌<◌, ◌≤◌, Bool, true, false, nat_eq, nat_le, ◌&&◌, if◌then◌else◌}
use Rattle.std.proofs.Common.{refl, sym, ap, ◌∙◌, subst, Option, Some, None, IsSome, IfSome, option_map, arith}
use Rattle.std.proofs.lemmas.Bool.{eqb-true, eq-eqb}
use Rattle.dcx_shape.specs.declared.shape.Shape.{Shape}
use Rattle.dcx_shape.specs.declared.shape.Sides.{Sides}
use Rattle.dcx_shape.specs.declared.shape.Sides.TheVariants.{Scalar, Vector, Matrix}
use Rattle.dcx_shape.specs.Shape.{sides_of}
use Rattle.dcx_shape.specs.Sides.{cols_of, entries_of, HasFewEntries}
use Rattle.dcx_shape.specs.Product.{IsProduct}
use Rattle.dcx_affine.specs.Places.{limited}
use Rattle.dcx_affine.specs.Pairing.{product_sides}

-- as many entries as an array may have
pub few_of : (c : Sides) → nat_le 1 (entries_of c) && nat_le (entries_of c) 20000 ≡ true → HasFewEntries c
few_of c e = record { some = grind arith; most = grind arith }

few_test : (c : Sides) → HasFewEntries c → nat_le 1 (entries_of c) && nat_le (entries_of c) 20000 ≡ true
few_test c few = let a = few.some in let b = few.most in grind arith

pub limited_is : (c : Sides) → HasFewEntries c → limited c ≡ Some c
limited_is c few = rw (few_test c few) refl

-- there is none
no_shape : (n l : ℕ) (c : Sides) (b d : Bool) → nat_eq n l ≡ b → nat_le 1 (entries_of c) && nat_le (entries_of c) 20000 ≡ d → ¬ ((n ≡ l) × HasFewEntries c) →
    None ≡ (if b then (if d then Some c else None) else None)
no_shape n l c false d e f never = refl
no_shape n l c true false e f never = refl
no_shape n l c true true e f never = absurd (never (eqb-true n l e, few_of c f))

-- a product whose inner sides are n and l, with the sides c
chosen : (n l : ℕ) (c : Sides) (r : Option Shape) → (IsSome r ↔ ((x : Sides) × ((n ≡ l) × (x ≡ c)) × HasFewEntries x)) → IfSome r (λ s. (n ≡ l) × (sides_of s ≡ c)) →
    option_map sides_of r ≡ (if nat_eq n l then limited c else None)
chosen n l c None exists is = no_shape n l c (nat_eq n l) (nat_le 1 (entries_of c) && nat_le (entries_of c) 20000) refl refl
    (λ h. let none = exists.1 (c, (h.0, refl), h.1) in cc)
chosen n l c (Some s) exists is =
    ap Some is.1 ∙ sym (rw (eq-eqb n l is.0) (limited_is c (subst HasFewEntries is.1 s.few)))

pub product_shape : (a b : Sides) (r : Option Shape) → (IsSome r ↔ ((c : Sides) × IsProduct a b c × HasFewEntries c)) → IfSome r (λ s. IsProduct a b (sides_of s)) →
    option_map sides_of r ≡ product_sides a b
product_shape Scalar b None exists is = refl
product_shape Scalar b (Some s) exists is = absurd is
product_shape (Vector n) Scalar None exists is = refl
product_shape (Vector n) Scalar (Some s) exists is = absurd is
product_shape (Vector n) (Vector l) r exists is = chosen n l Scalar r exists is
product_shape (Vector n) (Matrix l p) r exists is = chosen n l (Vector p) r exists is
product_shape (Matrix m n) Scalar None exists is = refl
product_shape (Matrix m n) Scalar (Some s) exists is = absurd is
product_shape (Matrix m n) (Vector l) r exists is = chosen n l (Vector m) r exists is
product_shape (Matrix m n) (Matrix l p) r exists is = chosen n l (Matrix m p) r exists is

-- so an entry of a product is among the first 20,000
within_chosen : (n l : ℕ) (c : Sides) (k : ℕ) → IsSome (if nat_eq n l then limited c else None) → IfSome (if nat_eq n l then limited c else None) (λ s. k < entries_of s) → k < 20000
within_chosen n l c k some h = by (nat_eq n l) (nat_le 1 (entries_of c) && nat_le (entries_of c) 20000) refl some h
  where
    by : (b d : Bool) → nat_le 1 (entries_of c) && nat_le (entries_of c) 20000 ≡ d → IsSome (if b then (if d then Some c else None) else None) →
        IfSome (if b then (if d then Some c else None) else None) (λ s. k < entries_of s) → k < 20000
    by true true e some h = let few = (few_of c e).most in omega (arith, few, h)
    by true false e some h = cc
    by false d e some h = cc

within_scalar : (b : Bool) (k : ℕ) → IsSome (if b then Some Scalar else None) → IfSome (if b then Some Scalar else None) (λ s. k < entries_of s) → k < 20000
within_scalar true k some h = omega (arith, h)
within_scalar false k some h = cc

pub product_entry : (a b : Sides) (k : ℕ) → IsSome (product_sides a b) → IfSome (product_sides a b) (λ s. k < entries_of s) → k < 20000
product_entry Scalar b k some h = cc
product_entry (Vector n) Scalar k some h = cc
product_entry (Vector n) (Vector l) k some h = within_scalar (nat_eq n l) k some h
product_entry (Vector n) (Matrix l p) k some h = within_chosen n l (Vector p) k some h
product_entry (Matrix m n) Scalar k some h = cc
product_entry (Matrix m n) (Vector l) k some h = within_chosen n l (Vector m) k some h
product_entry (Matrix m n) (Matrix l p) k some h = within_chosen n l (Matrix m p) k some h

-- a side has at most as many entries as the array
pub cols_few : (s : Sides) → HasFewEntries s → cols_of s ≤ 20000
cols_few Scalar few = omega arith
cols_few (Vector n) few = few.most
cols_few (Matrix zero n) few = absurd (omega (arith, few.some))
cols_few (Matrix (suc m) n) few = omega (arith, few.most)
