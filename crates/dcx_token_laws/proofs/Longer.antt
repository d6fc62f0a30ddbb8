-- A number ends where no name character and no point stands behind it, whatever else does.
use Rattle.std.proofs.Common.{◌≡◌, ℕ, ◌+◌, Bool, true, false, cond, eqb, List, [], ◌∷◌, ◌++◌, length, take, drop, Some, None, refl, sym, ap, ◌∙◌, subst, arith}
use Rattle.std.specs.Prelude.{option_map}
use Rattle.std.specs.Char.{is_ascii_digit}
use Rattle.std.specs.List.{take_while, prefix_len}
use Rattle.std.proofs.Math.Seq.{drop-append_seam}
use Rattle.std.proofs.lemmas.List.{take-append-le, drop-append-le, length-drop}
use Rattle.std.proofs.lemmas.List.Sums.{prefix_len-le-length}
use Rattle.unicode_ident.specs.Ident.{is_xid_continue}
use Rattle.unicode_ident.proofs.IdentLemmas.{is_xid_continue-ascii}
use Rattle.dcx_frac.specs.declared.fraction.Frac.{Frac}
use Rattle.dcx_tokens.specs.Front.{run_of}
use Rattle.dcx_tokens.specs.Number.{digits, begins_exponent, exponent_sign_len, exponent_len, Spelling, mantissa_len, spelling_at, is_spoiled, frac_of_spelling, number_at}
use Rattle.dcx_token_laws.proofs.Between.{run_is}
use Rattle.dcx_token_laws.proofs.Numerals.{spoils, no_exponent, IsSameFraction, IsSameExponent, with_digits, number_by, by_spelling, told, count_is, sign_within}
use Rattle.dcx_token_laws.proofs.Firsts.{digit_small}
use Rattle.dcx_token_laws.proofs.Basics.{never_both}

-- no character of the kind p comes first
abbrev NoneFirst : (ℕ → Bool) → List ℕ → Type 0
NoneFirst p [] = Unit {0}
NoneFirst p (c ∷ cs) = p c ≡ false

module _ (p : ℕ → Bool) where
  prefix_longer : (xs ys : List ℕ) → NoneFirst p ys → prefix_len p (xs ++ ys) ≡ prefix_len p xs
  prefix_longer [] [] h = refl
  prefix_longer [] (y ∷ ys) h = rw h refl
  prefix_longer (x ∷ xs) ys h = ap (λ n. cond (p x) (1 + n) 0) (prefix_longer xs ys h)

  while_longer : (xs ys : List ℕ) → NoneFirst p ys → take_while p (xs ++ ys) ≡ take_while p xs
  while_longer xs ys h = ap (λ n. take n (xs ++ ys)) (prefix_longer xs ys h) ∙ take-append-le (prefix_len p xs) xs ys (prefix_len-le-length p xs)

digit_continues : (c : ℕ) → is_ascii_digit c ≡ true → is_xid_continue c ≡ true
digit_continues c d = is_xid_continue-ascii c (digit_small c d) ∙ rw d refl

-- what isn't spoiled
no_digit : (ys : List ℕ) → is_spoiled ys ≡ false → NoneFirst is_ascii_digit ys
no_digit [] fine = tt
no_digit (y ∷ ys) fine = by (is_ascii_digit y) refl
  where
    by : (b : Bool) → is_ascii_digit y ≡ b → is_ascii_digit y ≡ false
    by true e = absurd (let goes = digit_continues y e in let spoiled : is_spoiled (y ∷ ys) ≡ true = rw goes refl in never_both (is_spoiled (y ∷ ys)) spoiled fine)
    by false e = e

no_point : (y : ℕ) (ys : List ℕ) → is_spoiled (y ∷ ys) ≡ false → eqb y 46 ≡ false
no_point y ys fine = by (is_xid_continue y) (eqb y 46) refl refl
  where
    by : (a b : Bool) → is_xid_continue y ≡ a → eqb y 46 ≡ b → eqb y 46 ≡ false
    by a false ea eb = eb
    by true true ea eb = absurd (let spoiled : is_spoiled (y ∷ ys) ≡ true = rw ea refl in never_both (is_spoiled (y ∷ ys)) spoiled fine)
    by false true ea eb = absurd (let spoiled : is_spoiled (y ∷ ys) ≡ true = rw (ea, eb) refl in never_both (is_spoiled (y ∷ ys)) spoiled fine)

no_e : (y : ℕ) (ys : List ℕ) → is_spoiled (y ∷ ys) ≡ false → begins_exponent y ≡ false
no_e y ys fine = by (begins_exponent y) refl
  where
    by : (b : Bool) → begins_exponent y ≡ b → begins_exponent y ≡ false
    by true e = absurd (never_both (is_spoiled (y ∷ ys)) (spoils y ys e) fine)
    by false e = e

-- ---- the parts
fraction_longer : (zs ys : List ℕ) → is_spoiled ys ≡ false → IsSameFraction (zs ++ ys) zs
fraction_longer [] [] fine = record { len = refl; ds = refl }
fraction_longer [] (y ∷ ys) fine = let no = no_point y ys fine in record { len = rw no refl; ds = rw no refl }
fraction_longer (z ∷ zs) ys fine =
    let same = while_longer is_ascii_digit zs ys (no_digit ys fine) in
    record { len = ap (λ ds. cond (eqb z 46) (1 + length ds) 0) same; ds = ap (λ ds. cond (eqb z 46) ds []) same }

exponent_longer : (zs ys : List ℕ) → is_spoiled ys ≡ false → exponent_len zs ≡ length zs → IsSameExponent (zs ++ ys) zs
exponent_longer [] [] fine whole = record { len = refl; ds = refl; sign = refl }
exponent_longer [] (y ∷ ys) fine whole = no_exponent y ys (no_e y ys fine)
exponent_longer (e ∷ zs) ys fine whole = by (begins_exponent e) refl zs refl
  where
    by : (b : Bool) → begins_exponent e ≡ b → (ws : List ℕ) → ws ≡ zs → IsSameExponent (e ∷ (zs ++ ys)) (e ∷ zs)
    by false begins ws is = absurd (let none = (no_exponent e zs begins).len in omega (arith, none, whole))
    by true begins [] is = absurd (let none : exponent_len (e ∷ []) ≡ 0 = rw begins refl in let all = ap (λ us. exponent_len (e ∷ us)) is in omega (arith, none, all, whole))
    by true begins (d ∷ ws) is =
        let sign = exponent_sign_len (d ∷ ws) in
        let few = sign_within (d ∷ ws) in
        let cut : drop sign ((d ∷ ws) ++ ys) ≡ drop sign (d ∷ ws) ++ ys = drop-append-le sign (d ∷ ws) ys few in
        let same : digits (drop sign ((d ∷ ws) ++ ys)) ≡ digits (drop sign (d ∷ ws)) = ap digits cut ∙ while_longer is_ascii_digit (drop sign (d ∷ ws)) ys (no_digit ys fine) in
        let count = ap (λ us. length us) same in
        let run = run_is is_ascii_digit (drop sign (d ∷ ws)) in
        let most = prefix_len-le-length is_ascii_digit (drop sign (d ∷ ws)) in
        let rest = length-drop sign (d ∷ ws) in
        subst (λ us. IsSameExponent (e ∷ (us ++ ys)) (e ∷ us)) is (with_digits d ws ys e begins (omega (arith, count, run, most, rest, few)))

-- ---- the whole number
module _ (xs ys : List ℕ) (fine : is_spoiled ys ≡ false) (whole : mantissa_len xs + exponent_len (drop (mantissa_len xs) xs) ≡ length xs) where
  same_digits : digits (xs ++ ys) ≡ digits xs
  same_digits = while_longer is_ascii_digit xs ys (no_digit ys fine)

  same_fraction : IsSameFraction (drop (run_of is_ascii_digit (xs ++ ys)) (xs ++ ys)) (drop (run_of is_ascii_digit xs) xs)
  same_fraction =
      let runs : run_of is_ascii_digit (xs ++ ys) ≡ run_of is_ascii_digit xs = ap (λ zs. length zs) same_digits in
      let cut : drop (run_of is_ascii_digit (xs ++ ys)) (xs ++ ys) ≡ drop (run_of is_ascii_digit xs) xs ++ ys =
      ap (λ n. drop n (xs ++ ys)) runs ∙ drop-append-le (run_of is_ascii_digit xs) xs ys (omega (arith, whole)) in
      subst (λ zs. IsSameFraction zs (drop (run_of is_ascii_digit xs) xs)) (sym cut) (fraction_longer (drop (run_of is_ascii_digit xs) xs) ys fine)

  same_mantissa : mantissa_len (xs ++ ys) ≡ mantissa_len xs
  same_mantissa =
      let runs : run_of is_ascii_digit (xs ++ ys) ≡ run_of is_ascii_digit xs = ap (λ zs. length zs) same_digits in
      let f = same_fraction.len in
      omega (arith, runs, f)

  same_exponent : IsSameExponent (drop (mantissa_len (xs ++ ys)) (xs ++ ys)) (drop (mantissa_len xs) xs)
  same_exponent =
      let cut : drop (mantissa_len (xs ++ ys)) (xs ++ ys) ≡ drop (mantissa_len xs) xs ++ ys =
      ap (λ n. drop n (xs ++ ys)) same_mantissa ∙ drop-append-le (mantissa_len xs) xs ys (omega (arith, whole)) in
      let rest = length-drop (mantissa_len xs) xs in
      subst (λ zs. IsSameExponent zs (drop (mantissa_len xs) xs)) (sym cut) (exponent_longer (drop (mantissa_len xs) xs) ys fine (omega (arith, whole, rest)))

  same_spelling : spelling_at (xs ++ ys) ≡ spelling_at xs
  unfolding spelling_at
  same_spelling = λ i. record {
    whole = same_digits i;
    fraction = same_fraction.ds i;
    is_negative = same_exponent.sign i;
    exponent = same_exponent.ds i;
    len = same_mantissa i + same_exponent.len i;
  }

pub number_longer : (xs ys : List ℕ) (x : Frac) → number_at xs ≡ Some (x, length xs) → is_spoiled ys ≡ false → number_at (xs ++ ys) ≡ Some (x, length xs)
number_longer xs ys x e fine =
    let s = spelling_at xs in
    let given = sym (by_spelling xs) ∙ e in
    let t = told (is_spoiled (drop s.len xs)) (frac_of_spelling s) s.len (x, length xs) given in
    let whole = sym (count_is xs x (length xs) e) in
    let behind : drop s.len (xs ++ ys) ≡ ys = ap (λ n. drop n (xs ++ ys)) (sym t.is) ∙ drop-append_seam xs ys in
    by_spelling (xs ++ ys) ∙ ap (λ (z : Spelling). number_by z (xs ++ ys)) (same_spelling xs ys fine whole)
    ∙ ap (λ b. cond b None (option_map (λ f. (f, s.len)) (frac_of_spelling s))) (ap (λ zs. is_spoiled zs) behind ∙ fine ∙ sym t.fine) ∙ given
