-- Numbers: how they are spelled, and their exact values.
use Rattle.std.specs.Prelude.{ℕ, ◌+◌, ◌^◌, pos, Bool, true, false, ◌&&◌, ◌||◌, ◌==◌, nat_le, if◌then◌else◌, List, [], ◌∷◌, ◌++◌, length, drop, Option, Some, None, option_map}
use Rattle.std.specs.List.{take_while}
use Rattle.std.specs.Char.{is_ascii_digit}
use Rattle.std.specs.Str.Parse.{digits_value}
use Rattle.unicode_ident.specs.Ident.{is_xid_continue}
use Rattle.dcx_math.specs.Rational.{ℚ, whole, ◌*ℚ◌, ◌/ℚ◌}
use Rattle.dcx_frac.specs.Fits.{IsRepresentable}
use Rattle.dcx_frac.specs.Results.{frac_of, dec_fits}
use Rattle.dcx_frac.specs.declared.fraction.Frac.{Frac}
use Rattle.dcx_tokens.specs.declared.number.Numeral.{Numeral}
use Rattle.dcx_tokens.specs.Front.{run_of}

-- the digits in front
abbrev pub digits : List ℕ → List ℕ
digits cs = take_while is_ascii_digit cs

-- ---- a point and the digits behind it
abbrev pub fraction_digits : List ℕ → List ℕ
fraction_digits [] = []
fraction_digits (c ∷ cs) = if c == 46 then digits cs else []

abbrev pub fraction_len : List ℕ → ℕ
fraction_len [] = 0
fraction_len (c ∷ cs) = if c == 46 then 1 + run_of is_ascii_digit cs else 0

-- ---- e or E, a sign, and digits
abbrev pub begins_exponent : ℕ → Bool
begins_exponent c = (c == 101) || (c == 69)

abbrev pub exponent_sign_len : List ℕ → ℕ
exponent_sign_len [] = 0
exponent_sign_len (c ∷ cs) = if (c == 43) || (c == 45) then 1 else 0

abbrev pub exponent_digits : List ℕ → List ℕ
exponent_digits [] = []
exponent_digits (c ∷ cs) = if begins_exponent c then digits (drop (exponent_sign_len cs) cs) else []

abbrev pub is_negative : List ℕ → Bool
is_negative [] = false
is_negative (c ∷ []) = false
is_negative (c ∷ d ∷ cs) = begins_exponent c && (d == 45)

-- without a digit there is no exponent
abbrev pub exponent_len : List ℕ → ℕ
exponent_len cs =
    if length (exponent_digits cs) == 0 then 0
    else (1 + exponent_sign_len (drop 1 cs) + length (exponent_digits cs))

-- ---- the whole number
-- its digits before and behind the point, those of its exponent, and how many characters it has
pub record Spelling : Type 0 where
  pub whole : List ℕ
  pub fraction : List ℕ
  pub is_negative : Bool
  pub exponent : List ℕ
  pub len : ℕ

-- how many characters come before the exponent
abbrev pub mantissa_len : List ℕ → ℕ
mantissa_len cs = run_of is_ascii_digit cs + fraction_len (drop (run_of is_ascii_digit cs) cs)

-- the number in front
unfoldable pub spelling_at : List ℕ → Spelling
spelling_at cs =
    let behind = drop (mantissa_len cs) cs in
    record {
      whole = digits cs;
      fraction = fraction_digits (drop (run_of is_ascii_digit cs) cs);
      is_negative = is_negative behind;
      exponent = exponent_digits behind;
      len = mantissa_len cs + exponent_len behind;
    }

-- the same of the code
abbrev pub spelling_of : Numeral → Spelling
spelling_of n = record { whole = n.whole.now; fraction = n.fraction.now; is_negative = n.is_negative; exponent = n.exponent.now; len = n.count }

-- a name character or a point may not follow a number
abbrev pub is_spoiled : List ℕ → Bool
is_spoiled [] = false
is_spoiled (c ∷ cs) = is_xid_continue c || (c == 46)

-- ---- values
-- the digits before and behind the point, over a power of ten for each of those behind it
abbrev pub mantissa : List ℕ → List ℕ → ℚ
mantissa front behind = whole (pos (digits_value 10 (front ++ behind))) /ℚ whole (pos (10 ^ length behind))

abbrev pub power_of_ten : Bool → ℕ → ℚ
power_of_ten false n = whole (pos (10 ^ n))
power_of_ten true n = whole (pos 1) /ℚ whole (pos (10 ^ n))

-- the number that is spelled so
abbrev pub value_of : Spelling → ℚ
value_of s = mantissa s.whole s.fraction *ℚ power_of_ten s.is_negative (digits_value 10 s.exponent)

-- no more than 30 digits before the exponent, which is at most 30 up or down
abbrev pub is_in_limits : Spelling → Bool
is_in_limits s = nat_le (length s.whole + length s.fraction) 30 && nat_le (digits_value 10 s.exponent) 30

-- the fraction of a rational, where its parts in lowest terms are at most 2 ^ 127 - 1
abbrev pub frac_if : (x : ℚ) → Dec (IsRepresentable x) → Option Frac
frac_if x (yes fits) = Some (frac_of x fits)
frac_if x (no wide) = None

unfoldable pub frac_at : ℚ → Option Frac
frac_at x = frac_if x (dec_fits x)

-- the value of a number, within the limits
abbrev pub frac_of_spelling : Spelling → Option Frac
frac_of_spelling s = if is_in_limits s then frac_at (value_of s) else None

-- the value of the number in front and how many characters it has, unless it is malformed or too large
unfoldable pub number_at : List ℕ → Option (Frac × ℕ)
number_at cs =
    let s = spelling_at cs in
    if is_spoiled (drop s.len cs) then None else option_map (λ f. (f, s.len)) (frac_of_spelling s)
