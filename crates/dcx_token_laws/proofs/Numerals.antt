-- A number in front of a text is the same in front of any part of the text that holds it.
use Rattle.std.proofs.Common.{◌≡◌, ℕ, suc, ◌+◌, ◌<◌, ◌≤◌, Bool, true, false, cond, eqb, ◌||◌, List, [], ◌∷◌, ◌++◌, length, take, drop, Option, Some, None, refl, sym, ap, ◌∙◌, subst, arith}
use Rattle.std.specs.Prelude.{option_map}
use Rattle.std.specs.Char.{is_ascii_digit}
use Rattle.std.specs.List.{take_while, prefix_len}
use Rattle.std.proofs.lemmas.List.{take-append-le, drop-append-le, drop-drop, length-drop}
use Rattle.std.proofs.lemmas.List.Sums.{prefix_len-le-length}
use Rattle.std.proofs.Math.Numerals.{one-add}
use Rattle.std.proofs.lemmas.Bool.{eqb-true}
use Rattle.unicode_ident.specs.Ident.{is_xid_continue}
use Rattle.unicode_ident.proofs.IdentLemmas.{is_xid_continue-ascii}
use Rattle.dcx_frac.specs.declared.fraction.Frac.{Frac}
use Rattle.dcx_tokens.specs.Front.{run_of}
use Rattle.dcx_tokens.specs.Number.{digits, fraction_digits, fraction_len, begins_exponent, exponent_sign_len, exponent_digits, is_negative}
use Rattle.dcx_tokens.specs.Number.{exponent_len, Spelling, mantissa_len, spelling_at, is_spoiled, frac_of_spelling, number_at}
use Rattle.dcx_token_laws.proofs.Between.{run_is}
use Rattle.dcx_token_laws.proofs.Basics.{never_both, not_zero}

-- ---- runs
module _ (p : ℕ → Bool) where
  prefix_front : (xs ys : List ℕ) → prefix_len p (xs ++ ys) ≤ length xs → prefix_len p (xs ++ ys) ≡ prefix_len p xs
  prefix_front [] ys h = omega arith
  prefix_front (x ∷ xs) ys h = by (p x) h (prefix_front xs ys)
    where
      by : (b : Bool) → cond b (1 + prefix_len p (xs ++ ys)) 0 ≤ suc (length xs) → (prefix_len p (xs ++ ys) ≤ length xs → prefix_len p (xs ++ ys) ≡ prefix_len p xs) →
          cond b (1 + prefix_len p (xs ++ ys)) 0 ≡ cond b (1 + prefix_len p xs) 0
      by true le more = ap (λ n. 1 + n) (more (omega arith))
      by false le more = refl

  while_front : (xs ys : List ℕ) → prefix_len p (xs ++ ys) ≤ length xs → take_while p (xs ++ ys) ≡ take_while p xs
  while_front xs ys h = ap (λ n. take n (xs ++ ys)) (prefix_front xs ys h) ∙ take-append-le (prefix_len p xs) xs ys (prefix_len-le-length p xs)

  run_front : (xs ys : List ℕ) → run_of p (xs ++ ys) ≤ length xs → take_while p (xs ++ ys) ≡ take_while p xs
  run_front xs ys h = let e = run_is p (xs ++ ys) in while_front xs ys (omega arith)

-- ---- the fraction
pub record IsSameFraction (xs ys : List ℕ) : Type 0 where
  pub len : fraction_len xs ≡ fraction_len ys
  pub ds : fraction_digits xs ≡ fraction_digits ys

no_fraction : (ys : List ℕ) → fraction_len ys ≤ 0 → IsSameFraction ys []
no_fraction [] h = record { len = refl; ds = refl }
no_fraction (y ∷ ys) h = by (eqb y 46) refl h
  where
    by : (b : Bool) → eqb y 46 ≡ b → cond b (1 + run_of is_ascii_digit ys) 0 ≤ 0 → IsSameFraction (y ∷ ys) []
    by true e le = absurd (omega arith)
    by false e le = record { len = rw e refl; ds = rw e refl }

fraction_front : (xs ys : List ℕ) → fraction_len (xs ++ ys) ≤ length xs → IsSameFraction (xs ++ ys) xs
fraction_front [] ys h = no_fraction ys h
fraction_front (x ∷ xs) ys h = by (eqb x 46) refl h
  where
    by : (b : Bool) → eqb x 46 ≡ b → cond b (1 + run_of is_ascii_digit (xs ++ ys)) 0 ≤ suc (length xs) → IsSameFraction (x ∷ (xs ++ ys)) (x ∷ xs)
    by true e le = let same = run_front is_ascii_digit xs ys (omega arith) in record { len = rw e (ap (λ ds. 1 + length ds) same); ds = rw e same }
    by false e le = record { len = rw e refl; ds = rw e refl }

-- ---- the exponent
pub record IsSameExponent (xs ys : List ℕ) : Type 0 where
  pub len : exponent_len xs ≡ exponent_len ys
  pub ds : exponent_digits xs ≡ exponent_digits ys
  pub sign : is_negative xs ≡ is_negative ys

-- e and E are characters of names
pub spoils : (c : ℕ) (cs : List ℕ) → begins_exponent c ≡ true → is_spoiled (c ∷ cs) ≡ true
spoils c cs e = by (eqb c 101) (eqb c 69) refl refl e
  where
    of : (n : ℕ) → n < 128 → c ≡ n → is_xid_continue n ≡ true → is_spoiled (c ∷ cs) ≡ true
    of n small is goes = rw (is, goes) refl

    by : (a b : Bool) → eqb c 101 ≡ a → eqb c 69 ≡ b → (a || b) ≡ true → is_spoiled (c ∷ cs) ≡ true
    by true b ea eb h = of 101 (omega arith) (eqb-true c 101 ea) (is_xid_continue-ascii 101 (omega arith))
    by false true ea eb h = of 69 (omega arith) (eqb-true c 69 eb) (is_xid_continue-ascii 69 (omega arith))
    by false false ea eb h = absurd (cc)

none_negative : (c : ℕ) (cs : List ℕ) → begins_exponent c ≡ false → is_negative (c ∷ cs) ≡ false
none_negative c [] e = refl
none_negative c (d ∷ ds) e = rw e refl

pub no_exponent : (c : ℕ) (cs : List ℕ) → begins_exponent c ≡ false → IsSameExponent (c ∷ cs) []
no_exponent c cs e =
    let none : exponent_digits (c ∷ cs) ≡ [] = rw e refl in
    record { len = ap (λ ds. cond (eqb (length ds) 0) 0 (1 + exponent_sign_len cs + length ds)) none; ds = none; sign = none_negative c cs e }

exponent_none : (ys : List ℕ) → exponent_len ys ≤ 0 → is_spoiled (drop (exponent_len ys) ys) ≡ false → IsSameExponent ys []
exponent_none [] h fine = record { len = refl; ds = refl; sign = refl }
exponent_none (y ∷ ys) h fine = by (begins_exponent y) refl
  where
    whole : is_spoiled (y ∷ ys) ≡ false
    whole = let none : exponent_len (y ∷ ys) ≡ 0 = omega arith in subst (λ n. is_spoiled (drop n (y ∷ ys)) ≡ false) none fine

    by : (b : Bool) → begins_exponent y ≡ b → IsSameExponent (y ∷ ys) []
    by true e = absurd (never_both (is_spoiled (y ∷ ys)) (spoils y ys e) whole)
    by false e = no_exponent y ys e

-- with digits the exponent counts e, its sign and them
pub with_digits : (d : ℕ) (xs ys : List ℕ) (e : ℕ) → begins_exponent e ≡ true
    → exponent_sign_len ((d ∷ xs) ++ ys) + length (digits (drop (exponent_sign_len ((d ∷ xs) ++ ys)) ((d ∷ xs) ++ ys))) ≤ suc (length xs) →
    IsSameExponent (e ∷ d ∷ (xs ++ ys)) (e ∷ d ∷ xs)
with_digits d xs ys e begins le =
    let sign = exponent_sign_len (d ∷ xs) in
    let cut : drop sign ((d ∷ xs) ++ ys) ≡ drop sign (d ∷ xs) ++ ys = drop-append-le sign (d ∷ xs) ys (omega arith) in
    let count = ap (λ zs. length (digits zs)) cut in
    let rest = length-drop sign (d ∷ xs) in
    let same : digits (drop sign ((d ∷ xs) ++ ys)) ≡ digits (drop sign (d ∷ xs)) = ap digits cut ∙ run_front is_ascii_digit (drop sign (d ∷ xs)) ys (omega arith) in
    let ds : exponent_digits (e ∷ d ∷ (xs ++ ys)) ≡ exponent_digits (e ∷ d ∷ xs) = rw begins same in
    record { len = ap (λ zs. cond (eqb (length zs) 0) 0 (1 + sign + length zs)) ds; ds = ds; sign = refl }

exponent_some : (e : ℕ) (xs ys : List ℕ) → begins_exponent e ≡ true → eqb (length (exponent_digits (e ∷ (xs ++ ys)))) 0 ≡ false
    → exponent_len (e ∷ (xs ++ ys)) ≤ suc (length xs) → IsSameExponent (e ∷ (xs ++ ys)) (e ∷ xs)
exponent_some e xs ys begins some le = by xs refl
  where
    ds : exponent_digits (e ∷ (xs ++ ys)) ≡ digits (drop (exponent_sign_len (xs ++ ys)) (xs ++ ys))
    ds = rw begins refl

    len : exponent_len (e ∷ (xs ++ ys)) ≡ 1 + exponent_sign_len (xs ++ ys) + length (exponent_digits (e ∷ (xs ++ ys)))
    len = ap (λ b. cond b 0 (1 + exponent_sign_len (xs ++ ys) + length (exponent_digits (e ∷ (xs ++ ys))))) some

    few : exponent_sign_len (xs ++ ys) + length (digits (drop (exponent_sign_len (xs ++ ys)) (xs ++ ys))) ≤ length xs
    few = let l = len in let d = ap (λ zs. length zs) ds in omega (arith, le, l, d)

    more : 0 < length xs
    more = let d = ap (λ zs. length zs) ds in let n = not_zero (length (exponent_digits (e ∷ (xs ++ ys)))) some in let f = few in omega (arith, d, n, f)

    by : (zs : List ℕ) → zs ≡ xs → IsSameExponent (e ∷ (xs ++ ys)) (e ∷ xs)
    by [] is = let m = more in let l = ap (λ ws. length ws) is in absurd (omega (arith, m, l))
    by (d ∷ zs) is = subst (λ ws. IsSameExponent (e ∷ (ws ++ ys)) (e ∷ ws)) is
        (with_digits d zs ys e begins (subst (λ ws. exponent_sign_len (ws ++ ys) + length (digits (drop (exponent_sign_len (ws ++ ys)) (ws ++ ys))) ≤ length ws) (sym is) few))

exponent_front : (xs ys : List ℕ) → exponent_len (xs ++ ys) ≤ length xs → is_spoiled (drop (exponent_len (xs ++ ys)) (xs ++ ys)) ≡ false → IsSameExponent (xs ++ ys) xs
exponent_front [] ys h fine = exponent_none ys h fine
exponent_front (e ∷ xs) ys h fine = by (begins_exponent e) refl
  where
    none_left : exponent_len (e ∷ (xs ++ ys)) ≡ 0 → begins_exponent e ≡ true → ⊥
    none_left none begins = never_both (is_spoiled (e ∷ (xs ++ ys))) (spoils e (xs ++ ys) begins) (subst (λ n. is_spoiled (drop n (e ∷ (xs ++ ys))) ≡ false) none fine)

    of : begins_exponent e ≡ true → (b : Bool) → eqb (length (exponent_digits (e ∷ (xs ++ ys)))) 0 ≡ b → IsSameExponent (e ∷ (xs ++ ys)) (e ∷ xs)
    of begins true zero = absurd (none_left (ap (λ b. cond b 0 (1 + exponent_sign_len (xs ++ ys) + length (exponent_digits (e ∷ (xs ++ ys))))) zero) begins)
    of begins false some = exponent_some e xs ys begins some h

    by : (b : Bool) → begins_exponent e ≡ b → IsSameExponent (e ∷ (xs ++ ys)) (e ∷ xs)
    by true begins = of begins (eqb (length (exponent_digits (e ∷ (xs ++ ys)))) 0) refl
    by false begins =
        let a = no_exponent e (xs ++ ys) begins in
        let b = no_exponent e xs begins in
        record { len = a.len ∙ sym b.len; ds = a.ds ∙ sym b.ds; sign = a.sign ∙ sym b.sign }

-- ---- the whole number
spoiled_front : (xs ys : List ℕ) → is_spoiled (xs ++ ys) ≡ false → is_spoiled xs ≡ false
spoiled_front [] ys e = refl
spoiled_front (x ∷ xs) ys e = e

-- the number that is spelled so in front, unless something spoils it
abbrev pub number_by : Spelling → List ℕ → Option (Frac × ℕ)
number_by s cs = cond (is_spoiled (drop s.len cs)) None (option_map (λ f. (f, s.len)) (frac_of_spelling s))

pub by_spelling : (cs : List ℕ) → number_at cs ≡ number_by (spelling_at cs) cs
unfolding number_at
by_spelling cs = refl

pub record Told (b : Bool) (len : ℕ) (n : Frac × ℕ) : Type 0 where
  pub fine : b ≡ false
  pub is : n.1 ≡ len

pub told : (b : Bool) (o : Option Frac) (len : ℕ) (n : Frac × ℕ) → cond b None (option_map (λ (f : Frac). (f, len)) o) ≡ Some n → Told b len n
told true o len n e = absurd (let no : ◌≡◌ {A = Option (Frac × ℕ)} None (Some n) = e in cc)
told false None len n e = absurd (let no : ◌≡◌ {A = Option (Frac × ℕ)} None (Some n) = e in cc)
told false (Some f) len n e = record { fine = refl; is = let same : ◌≡◌ {A = Option (Frac × ℕ)} (Some (f, len)) (Some n) = e in cc }

len_is : (cs : List ℕ) → (spelling_at cs).len ≡ mantissa_len cs + exponent_len (drop (mantissa_len cs) cs)
unfolding spelling_at
len_is cs = refl

module _ (xs ys : List ℕ) (short : mantissa_len (xs ++ ys) + exponent_len (drop (mantissa_len (xs ++ ys)) (xs ++ ys)) ≤ length xs)
    (fine : is_spoiled (drop (mantissa_len (xs ++ ys) + exponent_len (drop (mantissa_len (xs ++ ys)) (xs ++ ys))) (xs ++ ys)) ≡ false) where
  same_whole : digits (xs ++ ys) ≡ digits xs
  same_whole = run_front is_ascii_digit xs ys (omega (arith, short))

  same_fraction : IsSameFraction (drop (run_of is_ascii_digit (xs ++ ys)) (xs ++ ys)) (drop (run_of is_ascii_digit xs) xs)
  same_fraction =
      let runs : run_of is_ascii_digit (xs ++ ys) ≡ run_of is_ascii_digit xs = ap (λ zs. length zs) same_whole in
      let cut : drop (run_of is_ascii_digit (xs ++ ys)) (xs ++ ys) ≡ drop (run_of is_ascii_digit xs) xs ++ ys =
      ap (λ n. drop n (xs ++ ys)) runs ∙ drop-append-le (run_of is_ascii_digit xs) xs ys (omega (arith, short, runs)) in
      let rest = length-drop (run_of is_ascii_digit xs) xs in
      let count = ap (λ zs. fraction_len zs) cut in
      subst (λ zs. IsSameFraction zs (drop (run_of is_ascii_digit xs) xs)) (sym cut) (fraction_front (drop (run_of is_ascii_digit xs) xs) ys (omega (arith, short, runs, rest, count)))

  same_mantissa : mantissa_len (xs ++ ys) ≡ mantissa_len xs
  same_mantissa =
      let runs : run_of is_ascii_digit (xs ++ ys) ≡ run_of is_ascii_digit xs = ap (λ zs. length zs) same_whole in
      let f = same_fraction.len in
      omega (arith, runs, f)

  same_exponent : IsSameExponent (drop (mantissa_len (xs ++ ys)) (xs ++ ys)) (drop (mantissa_len xs) xs)
  same_exponent =
      let m = same_mantissa in
      let cut : drop (mantissa_len (xs ++ ys)) (xs ++ ys) ≡ drop (mantissa_len xs) xs ++ ys =
      ap (λ n. drop n (xs ++ ys)) m ∙ drop-append-le (mantissa_len xs) xs ys (omega (arith, short, m)) in
      let rest = length-drop (mantissa_len xs) xs in
      let count = ap (λ zs. exponent_len zs) cut in
      let front = drop-drop (exponent_len (drop (mantissa_len (xs ++ ys)) (xs ++ ys))) (mantissa_len (xs ++ ys)) (xs ++ ys) in
      let behind : is_spoiled (drop (exponent_len (drop (mantissa_len xs) xs ++ ys)) (drop (mantissa_len xs) xs ++ ys)) ≡ false =
      subst (λ zs. is_spoiled (drop (exponent_len zs) zs) ≡ false) cut (ap (λ zs. is_spoiled zs) front ∙ fine) in
      subst (λ zs. IsSameExponent zs (drop (mantissa_len xs) xs)) (sym cut) (exponent_front (drop (mantissa_len xs) xs) ys (omega (arith, short, m, rest, count)) behind)

  same_spelling : spelling_at (xs ++ ys) ≡ spelling_at xs
  unfolding spelling_at
  same_spelling = λ i. record {
    whole = same_whole i;
    fraction = same_fraction.ds i;
    is_negative = same_exponent.sign i;
    exponent = same_exponent.ds i;
    len = same_mantissa i + same_exponent.len i;
  }

pub number_front : (xs ys : List ℕ) (x : Frac) (n : ℕ) → number_at (xs ++ ys) ≡ Some (x, n) → n ≤ length xs → number_at xs ≡ Some (x, n)
number_front xs ys x n e le =
    let s = spelling_at (xs ++ ys) in
    let given = sym (by_spelling (xs ++ ys)) ∙ e in
    let t = told (is_spoiled (drop s.len (xs ++ ys))) (frac_of_spelling s) s.len (x, n) given in
    let len = len_is (xs ++ ys) in
    let is = t.is in
    let short : mantissa_len (xs ++ ys) + exponent_len (drop (mantissa_len (xs ++ ys)) (xs ++ ys)) ≤ length xs = omega (arith, len, is, le) in
    let fine : is_spoiled (drop (mantissa_len (xs ++ ys) + exponent_len (drop (mantissa_len (xs ++ ys)) (xs ++ ys))) (xs ++ ys)) ≡ false =
    subst (λ m. is_spoiled (drop m (xs ++ ys)) ≡ false) len t.fine in
    let cut : drop s.len (xs ++ ys) ≡ drop s.len xs ++ ys = drop-append-le s.len xs ys (omega (arith, is, le)) in
    let also : is_spoiled (drop s.len xs) ≡ false = spoiled_front (drop s.len xs) ys (ap (λ zs. is_spoiled zs) (sym cut) ∙ t.fine) in
    by_spelling xs ∙ ap (λ (z : Spelling). number_by z xs) (sym (same_spelling xs ys short fine))
    ∙ ap (λ b. cond b None (option_map (λ f. (f, s.len)) (frac_of_spelling s))) (also ∙ sym t.fine) ∙ given

-- ---- how many characters a number has
fraction_within : (xs : List ℕ) → fraction_len xs ≤ length xs
fraction_within [] = omega arith
fraction_within (x ∷ xs) = by (eqb x 46)
  where
    by : (b : Bool) → cond b (1 + run_of is_ascii_digit xs) 0 ≤ suc (length xs)
    by true = omega (arith, run_is is_ascii_digit xs, prefix_len-le-length is_ascii_digit xs)
    by false = omega arith

pub sign_within : (xs : List ℕ) → exponent_sign_len xs ≤ length xs
sign_within [] = omega arith
sign_within (x ∷ xs) = by (eqb x 43 || eqb x 45)
  where
    by : (b : Bool) → cond b 1 0 ≤ suc (length xs)
    by true = omega arith
    by false = omega arith

exponent_within : (xs : List ℕ) → exponent_len xs ≤ length xs
exponent_within [] = omega arith
exponent_within (x ∷ xs) = by (begins_exponent x)
  where
    few : exponent_sign_len xs + length (digits (drop (exponent_sign_len xs) xs)) ≤ length xs
    few =
        let sign = sign_within xs in
        let rest = length-drop (exponent_sign_len xs) xs in
        let run = run_is is_ascii_digit (drop (exponent_sign_len xs) xs) in
        let most = prefix_len-le-length is_ascii_digit (drop (exponent_sign_len xs) xs) in
        omega (arith, sign, rest, run, most)

    by : (b : Bool) → cond (eqb (length (cond b (digits (drop (exponent_sign_len xs) xs)) [])) 0) 0
        (1 + exponent_sign_len xs + length (cond b (digits (drop (exponent_sign_len xs) xs)) [])) ≤ suc (length xs)
    by false = omega arith
    by true = of (eqb (length (digits (drop (exponent_sign_len xs) xs))) 0)
      where
        of : (z : Bool) → cond z 0 (1 + exponent_sign_len xs + length (digits (drop (exponent_sign_len xs) xs))) ≤ suc (length xs)
        of true = omega arith
        of false = let f = few in omega (arith, f)

len_within : (cs : List ℕ) → mantissa_len cs + exponent_len (drop (mantissa_len cs) cs) ≤ length cs
len_within cs =
    let run = run_is is_ascii_digit cs in
    let most = prefix_len-le-length is_ascii_digit cs in
    let f = fraction_within (drop (run_of is_ascii_digit cs) cs) in
    let rest = length-drop (run_of is_ascii_digit cs) cs in
    let e = exponent_within (drop (mantissa_len cs) cs) in
    let last = length-drop (mantissa_len cs) cs in
    omega (arith, run, most, f, rest, e, last)

pub count_is : (cs : List ℕ) (x : Frac) (n : ℕ) → number_at cs ≡ Some (x, n) → n ≡ mantissa_len cs + exponent_len (drop (mantissa_len cs) cs)
count_is cs x n e =
    let s = spelling_at cs in
    (told (is_spoiled (drop s.len cs)) (frac_of_spelling s) s.len (x, n) (sym (by_spelling cs) ∙ e)).is ∙ len_is cs

pub number_within : (cs : List ℕ) (x : Frac) (n : ℕ) → number_at cs ≡ Some (x, n) → n ≤ length cs
number_within cs x n e = let count = count_is cs x n e in let w = len_within cs in omega (arith, count, w)

-- a point that begins a number has a digit behind it
pub point_long : (c d : ℕ) (ds : List ℕ) (x : Frac) (n : ℕ) → is_ascii_digit c ≡ false → eqb c 46 ≡ true → is_ascii_digit d ≡ true → number_at (c ∷ d ∷ ds) ≡ Some (x, n) → 1 < n
point_long c d ds x n other point digit e =
    let none : run_of is_ascii_digit (c ∷ d ∷ ds) ≡ 0 = rw other refl in
    let some : run_of is_ascii_digit (d ∷ ds) ≡ suc (run_of is_ascii_digit ds) = rw (digit, one-add) refl in
    let fraction : fraction_len (c ∷ d ∷ ds) ≡ 1 + run_of is_ascii_digit (d ∷ ds) = rw point refl in
    let mantissa : mantissa_len (c ∷ d ∷ ds) ≡ 1 + run_of is_ascii_digit (d ∷ ds) = ap (λ r. r + fraction_len (drop r (c ∷ d ∷ ds))) none ∙ omega (arith, fraction) in
    let count = count_is (c ∷ d ∷ ds) x n e in
    omega (arith, count, mantissa, some)
