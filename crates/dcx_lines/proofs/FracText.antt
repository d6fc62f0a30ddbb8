-- The bytes of a fraction's text, and that the text determines the fraction.
use Rattle.std.proofs.Common.{◌≡◌, ℕ, pos, Bool, true, false, List, [], ◌∷◌, ◌++◌, refl, sym, ◌∙◌, subst, inl, inr, ◌⊎◌, arith}
use Rattle.std.proofs.lemmas.Bool.Decides.{Decides-int_eq}
use Rattle.std.specs.Ordering.{int_eq}
use Rattle.std.specs.Fmt.{signed_decimal}
use Rattle.std.specs.List.{AllByRecursion}
use Rattle.dcx_frac.specs.declared.fraction.Frac.{Frac}
use Rattle.dcx_frac.specs.Frac.{num_of, den_of}
use Rattle.dcx_frac.specs.Text.{frac_text}
use Rattle.dcx_frac.proofs.Parts.{frac_from_parts}
use Rattle.dcx_lines.specs.Reading.{IsInk, BeginsWithout}
use Rattle.dcx_lines.proofs.Digits.{IsSigned, signed_bytes, signed_injective, bytes_weaker, bytes_append}

-- two fronts that are each ended by a byte that isn't of their kind are equal where the wholes are
pub same_before : (P : ℕ → Type 0) (xs ys r s : List ℕ) → AllByRecursion P xs → AllByRecursion P ys → BeginsWithout P r → BeginsWithout P s → xs ++ r ≡ ys ++ s → (xs ≡ ys) × (r ≡ s)
same_before P [] [] r s own others first second e = (refl, e)
same_before P [] (y ∷ ys) r s own others first second e =
    let begins : first.byte ∷ first.tail ≡ y ∷ (ys ++ s) = sym first.is ∙ e in
    let same : y ≡ first.byte = cc in
    absurd (first.without (subst P same others.0))
same_before P (x ∷ xs) [] r s own others first second e =
    let begins : second.byte ∷ second.tail ≡ x ∷ (xs ++ r) = sym second.is ∙ sym e in
    let same : x ≡ second.byte = cc in
    absurd (second.without (subst P same own.0))
same_before P (x ∷ xs) (y ∷ ys) r s own others first second e =
    let tail : xs ++ r ≡ ys ++ s = cc in
    let rest = same_before P xs ys r s own.1 others.1 first second tail in
    (let a : xs ≡ ys = rest.0 in cc, rest.1)

-- a byte that isn't among those of a list stands in no part of it
pub absent : (P : ℕ → Type 0) (xs ys : List ℕ) (t : ℕ) → AllByRecursion P (xs ++ t ∷ ys) → P t
absent P [] ys t h = h.0
absent P (x ∷ xs) ys t h = absent P xs ys t h.1

-- the text has a `/` exactly where the denominator isn't 1
pub record IsWhole (f : Frac) : Type 0 where
  pub one : den_of f ≡ pos 1
  pub text : frac_text f ≡ signed_decimal (num_of f)

pub record IsQuotient (f : Frac) : Type 0 where
  pub text : frac_text f ≡ signed_decimal (num_of f) ++ 47 ∷ signed_decimal (den_of f)

pub text_cases : (f : Frac) → IsWhole f ⊎ IsQuotient f
text_cases f = by (int_eq (den_of f) (pos 1)) refl
  where
    by : (b : Bool) → int_eq (den_of f) (pos 1) ≡ b → IsWhole f ⊎ IsQuotient f
    by true e = inl (record { one = (Decides-int_eq (den_of f) (pos 1)).0 e; text = rw e refl })
    by false e = inr (record { text = rw e refl })

-- fractions with one text are equal
pub frac_text_injective : (f g : Frac) → frac_text f ≡ frac_text g → f ≡ g
frac_text_injective f g e = by (text_cases f) (text_cases g)
  where
    by : IsWhole f ⊎ IsQuotient f → IsWhole g ⊎ IsQuotient g → f ≡ g
    by (inl a) (inl b) =
        frac_from_parts f g (signed_injective (num_of f) (num_of g) f.num_fits g.num_fits (sym a.text ∙ e ∙ b.text)) (a.one ∙ sym b.one)
    by (inl a) (inr b) =
        let h = subst (AllByRecursion IsSigned) (sym a.text ∙ e ∙ b.text) (signed_bytes (num_of f)) in
        absurd ((absent IsSigned (signed_decimal (num_of g)) (signed_decimal (den_of g)) 47 h).no_slash refl)
    by (inr a) (inl b) =
        let h = subst (AllByRecursion IsSigned) (sym b.text ∙ sym e ∙ a.text) (signed_bytes (num_of g)) in
        absurd ((absent IsSigned (signed_decimal (num_of f)) (signed_decimal (den_of f)) 47 h).no_slash refl)
    by (inr a) (inr b) =
        let slash = λ (xs : List ℕ). let begins : BeginsWithout IsSigned (47 ∷ xs) = record { byte = 47; tail = xs; is = refl; without = λ h. h.no_slash refl } in begins in
        let parts = same_before IsSigned (signed_decimal (num_of f)) (signed_decimal (num_of g)) (47 ∷ signed_decimal (den_of f)) (47 ∷ signed_decimal (den_of g)) (signed_bytes (num_of f))
        (signed_bytes (num_of g)) (slash (signed_decimal (den_of f))) (slash (signed_decimal (den_of g))) (sym a.text ∙ e ∙ b.text) in
        let second : 47 ∷ signed_decimal (den_of f) ≡ 47 ∷ signed_decimal (den_of g) = parts.1 in
        let dens : signed_decimal (den_of f) ≡ signed_decimal (den_of g) = cc in
        frac_from_parts f g (signed_injective (num_of f) (num_of g) f.num_fits g.num_fits parts.0) (signed_injective (den_of f) (den_of g) f.den_fits g.den_fits dens)

ink_from_signed : (c : ℕ) → IsSigned c → IsInk c
ink_from_signed c h = record { above = omega (arith, h.low) }

-- a fraction's text has such bytes alone
pub frac_ink : (f : Frac) → AllByRecursion IsInk (frac_text f)
frac_ink f = by (text_cases f)
  where
    num : AllByRecursion IsInk (signed_decimal (num_of f))
    num = bytes_weaker ink_from_signed (signed_decimal (num_of f)) (signed_bytes (num_of f))

    den : AllByRecursion IsInk (47 ∷ signed_decimal (den_of f))
    den = (record { above = omega arith }, bytes_weaker ink_from_signed (signed_decimal (den_of f)) (signed_bytes (den_of f)))

    by : IsWhole f ⊎ IsQuotient f → AllByRecursion IsInk (frac_text f)
    by (inl a) = subst (AllByRecursion IsInk) (sym a.text) num
    by (inr a) = subst (AllByRecursion IsInk) (sym a.text) (bytes_append IsInk (signed_decimal (num_of f)) (47 ∷ signed_decimal (den_of f)) num den)
