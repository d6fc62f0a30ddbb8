-- Reading a number, step by step.
use Rattle.std.proofs.Common.{◌≡◌, ◌≢◌, ℕ, zero, suc, Bool, true, false, ℤ, pos, negsuc, ◌*ℤ◌, ◌<ℤ◌, List, [], ◌∷◌, Option, Some, None, refl, sym, ap, ◌∙◌, subst}
use Rattle.std.specs.Prelude.{IfNone, IsSome, ◌↔◌}
use Rattle.dcx_math.specs.Rational.{whole, ratio, ◌/ℚ◌}
use Rattle.dcx_math.proofs.Ratios.{ratio-≡-ratio, ratio-one}
use Rattle.dcx_frac.specs.Fits.{IsRepresentable}
use Rattle.dcx_frac.specs.declared.fraction.Frac.{Frac}
use Rattle.dcx_frac.specs.Frac.{value}
use Rattle.dcx_settings.specs.Terminal.{Terminal, digits, decimal, minus, slash}
use Rattle.dcx_settings.specs.Grammar.{integer, point, quotient, Item, Line}
use Rattle.dcx_settings.specs.Machine.{Part, negated, whole_read, divided, complete, Context, number, State, at, number_of, number_read, in_number}
use Rattle.dcx_settings.specs.Meaning.{signed_value}
use Rattle.dcx_frac.proofs.Representable.{representable_quotient}
use Rattle.dcx_settings.proofs.Facts.{not_zero}
use Rattle.dcx_settings.specs.declared.stop.Stop.{Stop}
use Rattle.dcx_settings.specs.declared.stop.Stop.TheVariants.{Memory, At}
use Rattle.dcx_settings.specs.Steps.{IsWhole, StopsAt, read, read_by, Lacks, IsNumberRead, number_from, size_from, digits_from, divisor_from}

module _ (lines : List Line) (is : List Item) (n : List ℕ) (c : Context) where
  -- within a number reading goes on by its part
  pub read_part : (part : Part) (us : List Terminal) → read us (at lines (number is n c part)) ≡ read_by (in_number lines is n c part) us
  read_part part [] = refl
  read_part part (t ∷ ts) = refl

  divisor_goes : (s : Bool) (f d : ℤ) (rest us : List Terminal) → us ≡ digits d ∷ rest → d ≢ pos 0
      → read_by (divisor_from s f lines is n c) us ≡ read_by (number_read lines is n c (number_of s (quotient f d))) rest
  divisor_goes s f d rest us e h = rw (e, not_zero d h) (read_part (complete (number_of s (quotient f d))) rest)

  pub digits_slash : (s : Bool) (f : ℤ) (rest us : List Terminal) → us ≡ slash ∷ rest → read_by (digits_from s f lines is n c) us ≡ read_by (divisor_from s f lines is n c) rest
  digits_slash s f rest us e = rw e (read_part (divided s f) rest)

  digits_end : (s : Bool) (f : ℤ) (us : List Terminal) → Lacks slash us → read_by (digits_from s f lines is n c) us ≡ read_by (number_read lines is n c (number_of s (integer f))) us
  digits_end s f [] h = refl
  digits_end s f (slash ∷ ts) h = absurd (h ts refl)
  digits_end s f (t ∷ ts) h = refl

  pub size_digits : (s : Bool) (f : ℤ) (rest us : List Terminal) → us ≡ digits f ∷ rest → read_by (size_from s lines is n c) us ≡ read_by (digits_from s f lines is n c) rest
  size_digits s f rest us e = rw e (read_part (whole_read s f) rest)

  size_decimal : (s : Bool) (f : Frac) (rest us : List Terminal) → us ≡ decimal f ∷ rest → read_by (size_from s lines is n c) us ≡ read_by (number_read lines is n c (number_of s (point f))) rest
  size_decimal s f rest us e = rw e (read_part (complete (number_of s (point f))) rest)

  pub number_minus : (rest us : List Terminal) → us ≡ minus ∷ rest → read_by (number_from lines is n c) us ≡ read_by (size_from true lines is n c) rest
  number_minus rest us e = rw e (read_part negated rest)

  pub number_plain : (us : List Terminal) → Lacks minus us → read_by (number_from lines is n c) us ≡ read_by (size_from false lines is n c) us
  number_plain [] h = refl
  number_plain (minus ∷ ts) h = absurd (h ts refl)
  number_plain (t ∷ ts) h = refl

-- a quotient is read
pub quotient_read_is : (s : Bool) (f d : ℤ) (x y : Frac) (rest us : List Terminal) → us ≡ digits d ∷ rest → d ≢ pos 0 → value x ≡ whole f /ℚ whole d
    → value y ≡ signed_value s (value x) → IsNumberRead (divisor_from s f) us y rest
quotient_read_is s f d x y rest us e h v w = record {
  number = number_of s (quotient f d);
  good = h;
  value_is = w ∙ ap (signed_value s) v;
  reads = λ lines is n c. divisor_goes lines is n c s f d rest us e h;
}

-- a reading that goes on as another one
pub read_further : (from next : List Line → List Item → List ℕ → Context → Terminal → Option State) (us vs rest : List Terminal) (f : Frac)
    → ((lines : List Line) (is : List Item) (n : List ℕ) (c : Context) → read_by (from lines is n c) us ≡ read_by (next lines is n c) vs)
    → IsNumberRead next vs f rest → IsNumberRead from us f rest
read_further from next us vs rest f e h = record { number = h.number; good = h.good; value_is = h.value_is; reads = λ lines is n c. e lines is n c ∙ h.reads lines is n c }

pub stop_further : (from next : List Line → List Item → List ℕ → Context → Terminal → Option State) (text : List ℕ) (us vs : List Terminal) (e : Stop)
    → ((lines : List Line) (is : List Item) (n : List ℕ) (c : Context) → read_by (from lines is n c) us ≡ read_by (next lines is n c) vs)
    → StopsAt next text vs e → StopsAt from text us e
stop_further from next text us vs Memory e h = tt
stop_further from next text us vs (At rest) e h = λ lines is n c. e lines is n c ∙ h lines is n c

-- the value of a whole number
whole_value : (f : Frac) → IsWhole f → value f ≡ whole f.num
whole_value f h = ratio-unique-one f.num f.den f.positive h.den
  where
    ratio-unique-one : (n d : ℤ) (p : pos 0 <ℤ d) → d ≡ pos 1 → ratio n d p ≡ whole n
    ratio-unique-one n d p e = (ratio-≡-ratio n d n (pos 1) p (record { lt = tt })).1 (ap (λ z. n *ℤ z) (sym e)) ∙ ratio-one n (record { lt = tt })

pub digits_read : (s : Bool) (f y : Frac) (us : List Terminal) → IsWhole f → Lacks slash us → value y ≡ signed_value s (value f) → IsNumberRead (digits_from s f.num) us y us
digits_read s f y us h l v = record {
  number = number_of s (integer f.num);
  good = tt;
  value_is = v ∙ ap (signed_value s) (whole_value f h);
  reads = λ lines is n c. digits_end lines is n c s f.num us l;
}

pub decimal_read : (s : Bool) (f y : Frac) (rest us : List Terminal) → us ≡ decimal f ∷ rest → value y ≡ signed_value s (value f) → IsNumberRead (size_from s) us y rest
decimal_read s f y rest us e v = record {
  number = number_of s (point f);
  good = tt;
  value_is = v;
  reads = λ lines is n c. size_decimal lines is n c s f rest us e;
}

pub none_zero : (o : Option Frac) (f g : Frac) → (IsSome o ↔ ((g.num ≢ pos 0) × IsRepresentable (whole f.num /ℚ whole g.num))) → IfNone o (g.num ≡ pos 0)
none_zero (Some x) f g e = tt
none_zero None f g e = by g.num refl
  where
    there : g.num ≢ pos 0 → ⊥
    there k = let some = e.1 (k, representable_quotient f.num g.num f.num_fits g.num_fits k) in cc

    by : (z : ℤ) → g.num ≡ z → z ≡ pos 0
    by (pos zero) d = refl
    by (pos (suc n)) d = absurd (there (λ k. unlike (sym d ∙ k)))
      where
        unlike : pos (suc n) ≡ pos 0 → ⊥
        unlike z = cc
    by (negsuc n) d = absurd (there (λ k. unlike (sym d ∙ k)))
      where
        unlike : negsuc n ≡ pos 0 → ⊥
        unlike z = cc

-- the same, by other names for the parts
pub none_zero_by : (o : Option Frac) (n d : ℤ) (f g : Frac) → n ≡ f.num → d ≡ g.num → (IsSome o ↔ ((d ≢ pos 0) × IsRepresentable (whole n /ℚ whole d))) → IfNone o (g.num ≡ pos 0)
none_zero_by o n d f g e k i = none_zero o f g
    (subst (λ x. IsSome o ↔ ((g.num ≢ pos 0) × IsRepresentable (whole x /ℚ whole g.num))) e (subst (λ x. IsSome o ↔ ((x ≢ pos 0) × IsRepresentable (whole n /ℚ whole x))) k i))
