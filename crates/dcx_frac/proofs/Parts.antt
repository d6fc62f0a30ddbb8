-- A fraction is one number in lowest terms: its parts, and what a function that makes one by its parts shows.
use Rattle.std.proofs.Common.{◌≡◌, ℕ, ◌<◌, ◌^◌, ◌↔◌, ℤ, pos, ◌*ℤ◌, ◌<ℤ◌, unsigned_abs, Bool, true, ◌&&◌, refl, sym, ap, ap₂, ◌∙◌, subst, Option, Some, None, IsSome, IfSome}
use Rattle.std.specs.Cmp.{both_ways}
use Rattle.std.specs.Ordering.{int_eq}
use Rattle.std.proofs.lemmas.Bool.{and_parts}
use Rattle.std.proofs.lemmas.Bool.Decides.{Decides-int_eq}
use mathlib.Core.HLevel.{is_prop→PathP}
use native.Mathlib.Bridge.{le_prop}
use native.Mathlib.Nat.{ℕ_set}
use lib.Dec.{T_prop}
use lib.Signed.{lt_z}
use Rattle.dcx_math.specs.Rational.{ℚ, rat_eq}
use Rattle.dcx_math.proofs.Ratios.{IsTrue-rat_eq}
use Rattle.dcx_math.specs.LowestTerms.{IsInLowestTerms}
use Rattle.dcx_math.specs.Divisors.{IsCoprime}
use Rattle.dcx_math.proofs.LowestTerms.{lowest_terms_unique}
use Rattle.dcx_math.proofs.FieldLaws.{≡-from_products}
use Rattle.dcx_frac.specs.declared.fraction.Frac.{Frac}
use Rattle.dcx_frac.specs.Fits.{IsRepresentable, representable, signed}
use Rattle.dcx_frac.specs.Frac.{num_of, den_of, value}
use Rattle.dcx_frac.proofs.Signs.{unsigned_abs-signed}

below_prop : (a b : ℤ) → IsProp (a <ℤ b)
below_prop a b p q = let e = T_prop (lt_z a b) p.lt q.lt in λ i. record { lt = e i }

coprime_prop : (a b : ℕ) → IsProp (IsCoprime a b)
coprime_prop a b = hlevel ℕ_set

-- fractions with equal parts are equal
pub frac_from_parts : (f g : Frac) → num_of f ≡ num_of g → den_of f ≡ den_of g → f ≡ g
frac_from_parts f g n d = λ i. record {
  num = n i;
  den = d i;
  positive = is_prop→PathP (λ j. pos 0 <ℤ d j) (λ j. below_prop (pos 0) (d j)) f.positive g.positive i;
  lowest = is_prop→PathP (λ j. IsCoprime (unsigned_abs (n j)) (unsigned_abs (d j))) (λ j. coprime_prop (unsigned_abs (n j)) (unsigned_abs (d j))) f.lowest g.lowest i;
  num_fits = is_prop→PathP (λ j. unsigned_abs (n j) < 2 ^ 127) (λ j. le_prop) f.num_fits g.num_fits i;
  den_fits = is_prop→PathP (λ j. unsigned_abs (d j) < 2 ^ 127) (λ j. le_prop) f.den_fits g.den_fits i;
}

-- the parts are the number in lowest terms
pub value_lowest : (f : Frac) → IsInLowestTerms (value f) (num_of f) (den_of f)
value_lowest f = record { positive = f.positive; coprime = f.lowest; is = refl }

-- fractions of equal value are equal
pub value_injective : (f g : Frac) → value f ≡ value g → f ≡ g
value_injective f g e =
    let l : IsInLowestTerms (value g) (num_of f) (den_of f) = subst (λ x. IsInLowestTerms x (num_of f) (den_of f)) e (value_lowest f) in
    let p = lowest_terms_unique (value g) (num_of f) (den_of f) (num_of g) (den_of g) l (value_lowest g) in
    frac_from_parts f g p.0 p.1

-- the value of a fraction is representable
pub value_representable : (f : Frac) → IsRepresentable (value f)
value_representable f = representable (value f) (num_of f) (den_of f) (value_lowest f) f.num_fits f.den_fits

-- x = n / d in lowest terms, with a sign, and a fraction that has these parts if they fit
module _ (x : ℚ) (s : Bool) (n d : ℕ) (low : IsInLowestTerms x (signed s n) (pos d)) where
  -- the sizes fit exactly where the number is representable
  pub sizes_fit : IsRepresentable x → (n < 2 ^ 127) × (d < 2 ^ 127)
  sizes_fit h = let k = h.fits (signed s n) (pos d) low in (subst (λ m. m < 2 ^ 127) (unsigned_abs-signed s n) k.0, k.1)

  -- a fraction that is there exactly where the sizes fit is there exactly where the number is representable
  pub exists_exactly : (r : Option Frac) → (IsSome r ↔ ((n < 2 ^ 127) × (d < 2 ^ 127))) → IsSome r ↔ IsRepresentable x
  exists_exactly r h = (
    (λ some. let k = h.0 some in representable x (signed s n) (pos d) low (subst (λ m. m < 2 ^ 127) (sym (unsigned_abs-signed s n)) k.0) k.1),
    (λ rep. h.1 (sizes_fit rep)),
  )

  parts_value : (f : Frac) → num_of f ≡ signed s n → den_of f ≡ pos d → value f ≡ x
  parts_value f en ed =
      ≡-from_products (num_of f) (den_of f) (signed s n) (pos d) f.positive low.positive (ap₂ ◌*ℤ◌ en (sym ed)) ∙ sym low.is

  -- a fraction with these parts has the value
  pub has_value : (r : Option Frac) → IfSome r (λ f. f.num ≡ signed s n) → IfSome r (λ f. f.den ≡ pos d) → IfSome r (λ f. value f ≡ x)
  has_value None en ed = tt
  has_value (Some f) en ed = parts_value f en ed

-- fractions are equal exactly where their parts are
pub same_parts : (f g : Frac) → (int_eq (num_of f) (num_of g) && int_eq (den_of f) (den_of g)) ≡ rat_eq (value f) (value g)
same_parts f g = both_ways (int_eq (num_of f) (num_of g) && int_eq (den_of f) (den_of g)) (rat_eq (value f) (value g)) there back
  where
    there : (int_eq (num_of f) (num_of g) && int_eq (den_of f) (den_of g)) ≡ true → rat_eq (value f) (value g) ≡ true
    there h =
        let parts = and_parts (int_eq (num_of f) (num_of g)) (int_eq (den_of f) (den_of g)) h in
        (IsTrue-rat_eq (value f) (value g)).1 (ap value (frac_from_parts f g ((Decides-int_eq (num_of f) (num_of g)).0 parts.0) ((Decides-int_eq (den_of f) (den_of g)).0 parts.1)))

    back : rat_eq (value f) (value g) ≡ true → (int_eq (num_of f) (num_of g) && int_eq (den_of f) (den_of g)) ≡ true
    back h =
        let e = value_injective f g ((IsTrue-rat_eq (value f) (value g)).0 h) in
        let n = (Decides-int_eq (num_of f) (num_of g)).1 (ap num_of e) in
        let d = (Decides-int_eq (den_of f) (den_of g)).1 (ap den_of e) in
        rw (n, d) refl
