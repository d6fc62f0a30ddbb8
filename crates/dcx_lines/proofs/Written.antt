-- Numbers are read from their own texts.
use Rattle.std.proofs.Common.{◌≡◌, ◌≢◌, ℕ, suc, ◌-◌, ◌^◌, ◌<◌, ◌↔◌, ℤ, pos, negsuc, neg_ℤ, unsigned_abs, List, [], ◌∷◌, ◌++◌, min}
use Rattle.std.proofs.Common.{Option, Some, None, IsSome, IfSome, ◌⊎◌, inl, inr, refl, sym, ap, ap₂, ◌∙◌, subst, arith}
use Rattle.std.proofs.lemmas.Bool.{false≢true}
use Rattle.std.proofs.lemmas.List.{append-nil}
use Rattle.std.specs.Fmt.{decimal, signed_decimal}
use Rattle.std.specs.List.{AllByRecursion}
use Rattle.dcx_math.specs.Rational.{whole, ◌/ℚ◌}
use Rattle.dcx_math.proofs.IntegerLaws.{positive_some}
use Rattle.dcx_math.proofs.FieldLaws.{whole_injective, ratio-*ℚ-whole}
use Rattle.dcx_math.proofs.Products.{/ℚ-unique}
use Rattle.dcx_frac.specs.declared.fraction.Frac.{Frac}
use Rattle.dcx_frac.specs.Fits.{IsRepresentable}
use Rattle.dcx_frac.specs.Frac.{num_of, den_of, value}
use Rattle.dcx_frac.specs.Text.{frac_text}
use Rattle.dcx_frac.proofs.Parts.{value_injective, value_representable}
use Rattle.dcx_lines.specs.Reading.{worth_of, IsNoSlash, BeginsWithout}
use Rattle.dcx_lines.proofs.Digits.{IsDigit, IsSigned, decimal_digits, signed_bytes, bytes_weaker}
use Rattle.dcx_lines.proofs.FracText.{IsWhole, IsQuotient, text_cases}
use Rattle.dcx_lines.proofs.Runs.{Ends, one_run, whole_run}
use Rattle.dcx_lines.proofs.Worth.{worth_decimal}

-- ---- whole numbers
no_sign : (n : ℕ) (ds : List ℕ) → 45 ∷ ds ≡ decimal n → ⊥
no_sign n ds e = let h = subst (AllByRecursion IsDigit) (sym e) (decimal_digits n) in omega (arith, h.0.low)

worth_read : (n w : ℕ) (ds : List ℕ) → n < 2 ^ 127 → ds ≡ decimal n → w ≡ min (worth_of ds) (2 ^ 128 - 1) → w ≡ n
worth_read n w ds small e h =
    let v : worth_of ds ≡ n = ap worth_of e ∙ worth_decimal n (omega arith) in
    omega (arith, v, h, small)

-- digits behind a sign
pub read_below : (z : ℤ) (bytes ds : List ℕ) (w : ℕ) (r : Option ℤ) → unsigned_abs z < 2 ^ 127 → bytes ≡ signed_decimal z → bytes ≡ 45 ∷ ds → w ≡ min (worth_of ds) (2 ^ 128 - 1)
    → (w < 2 ^ 127 → r ≡ Some (neg_ℤ (pos w))) → r ≡ Some z
read_below (pos n) bytes ds w r small e b h read = absurd (no_sign n ds (sym b ∙ e))
read_below (negsuc n) bytes ds w r small e b h read =
    let same : 45 ∷ ds ≡ 45 ∷ decimal (suc n) = sym b ∙ e in
    let tail : ds ≡ decimal (suc n) = cc in
    let is : w ≡ suc n = worth_read (suc n) w ds small tail h in
    read (omega arith) ∙ ap (λ k. Some (neg_ℤ (pos k))) is

-- and without one
pub read_above : (z : ℤ) (bytes : List ℕ) (w : ℕ) (r : Option ℤ) → unsigned_abs z < 2 ^ 127 → bytes ≡ signed_decimal z → ((ds : List ℕ) → bytes ≡ 45 ∷ ds → ⊥)
    → w ≡ min (worth_of bytes) (2 ^ 128 - 1) → (w < 2 ^ 127 → r ≡ Some (pos w)) → r ≡ Some z
read_above (pos n) bytes w r small e b h read =
    let is : w ≡ n = worth_read n w bytes small e h in
    read (omega arith) ∙ ap (λ k. Some (pos k)) is
read_above (negsuc n) bytes w r small e b h read = absurd (b (decimal (suc n)) e)

-- ---- fractions
-- a fraction is the quotient of its parts
quotient_is : (f : Frac) → whole (num_of f) /ℚ whole (den_of f) ≡ value f
quotient_is f =
    /ℚ-unique (whole (num_of f)) (whole (den_of f)) (value f) (λ z. positive_some (den_of f) f.positive (whole_injective (den_of f) (pos 0) z)) (ratio-*ℚ-whole (num_of f) (den_of f) f.positive)

found : (f : Frac) (r : Option Frac) → IsSome r → IfSome r (λ g. value g ≡ value f) → r ≡ Some f
found f None some h = absurd (false≢true some)
found f (Some g) some h = ap Some (value_injective g f h)

-- and it is made of them
pub made : (f : Frac) (n d : ℤ) (r : Option Frac) → n ≡ num_of f → d ≡ den_of f → (IsSome r ↔ ((d ≢ pos 0) × IsRepresentable (whole n /ℚ whole d))) → IfSome r (λ g. value g ≡ whole n /ℚ whole d)
    → r ≡ Some f
made f n d r en ed exists is =
    let same : whole n /ℚ whole d ≡ value f = ap₂ (λ a b. whole a /ℚ whole b) en ed ∙ quotient_is f in
    let some : d ≢ pos 0 = λ z. positive_some (den_of f) f.positive (sym ed ∙ z) in
    found f r (exists.1 (some, subst IsRepresentable (sym same) (value_representable f))) (subst (λ x. IfSome r (λ g. value g ≡ x)) same is)

-- the bytes before the first `/`, and those from it on
pub record HasParts (f : Frac) (front back : List ℕ) : Type 0 where
  pub num : front ≡ signed_decimal (num_of f)
  pub den : (back ≡ 47 ∷ signed_decimal (den_of f)) ⊎ ((back ≡ []) × (den_of f ≡ pos 1))

no_slash : (z : ℤ) → AllByRecursion IsNoSlash (signed_decimal z)
no_slash z = bytes_weaker (λ c (h : IsSigned c). let other : IsNoSlash c = record { other = h.no_slash } in other) (signed_decimal z) (signed_bytes z)

pub parts_of : (f : Frac) (front back : List ℕ) → AllByRecursion IsNoSlash front → Ends IsNoSlash back → front ++ back ≡ frac_text f → HasParts f front back
parts_of f front back h ends e = by (text_cases f)
  where
    by : IsWhole f ⊎ IsQuotient f → HasParts f front back
    by (inl a) =
        let nothing : back ≡ [] = whole_run IsNoSlash front (signed_decimal (num_of f)) back (no_slash (num_of f)) ends (e ∙ a.text) in
        record { num = sym (ap (λ t. front ++ t) nothing ∙ append-nil front) ∙ e ∙ a.text; den = inr (nothing, a.one) }
    by (inr a) =
        let slash : BeginsWithout IsNoSlash (47 ∷ signed_decimal (den_of f)) = record { byte = 47; tail = signed_decimal (den_of f); is = refl; without = λ h. h.other refl } in
        let both = one_run IsNoSlash front (signed_decimal (num_of f)) back (47 ∷ signed_decimal (den_of f)) h (no_slash (num_of f)) ends slash (e ∙ a.text) in
        record { num = both.0; den = inl both.1 }

-- the parts are read one by one, where a `/` stands
pub read_quotient : (f : Frac) (front back den : List ℕ) (n d : Option ℤ) (r : Option Frac) → HasParts f front back → back ≡ 47 ∷ den
    → ((z : ℤ) → unsigned_abs z < 2 ^ 127 → front ≡ signed_decimal z → n ≡ Some z)
    → ((z : ℤ) → unsigned_abs z < 2 ^ 127 → den ≡ signed_decimal z → d ≡ Some z)
    → ((g : Frac) → n ≡ Some (num_of g) → d ≡ Some (den_of g) → r ≡ Some g) → r ≡ Some f
read_quotient f front back den n d r parts slash num lower whole = by parts.den
  where
    by : (back ≡ 47 ∷ signed_decimal (den_of f)) ⊎ ((back ≡ []) × (den_of f ≡ pos 1)) → r ≡ Some f
    by (inl e) =
        let same : den ≡ signed_decimal (den_of f) = cc in
        whole f (num (num_of f) f.num_fits parts.num) (lower (den_of f) f.den_fits same)
    by (inr e) = let none : 47 ∷ den ≡ [] = sym slash ∙ e.0 in absurd (cc)

-- and the upper one alone, where none does
pub read_whole : (f : Frac) (front back : List ℕ) (n : Option ℤ) (r : Option Frac) → HasParts f front back → ((den : List ℕ) → back ≡ 47 ∷ den → ⊥)
    → ((z : ℤ) → unsigned_abs z < 2 ^ 127 → front ≡ signed_decimal z → n ≡ Some z)
    → ((g : Frac) → n ≡ Some (num_of g) → Some (pos 1) ≡ Some (den_of g) → r ≡ Some g) → r ≡ Some f
read_whole f front back n r parts slash num whole = by parts.den
  where
    by : (back ≡ 47 ∷ signed_decimal (den_of f)) ⊎ ((back ≡ []) × (den_of f ≡ pos 1)) → r ≡ Some f
    by (inl e) = absurd (slash (signed_decimal (den_of f)) e)
    by (inr e) = whole f (num (num_of f) f.num_fits parts.num) (ap Some (sym e.1))
