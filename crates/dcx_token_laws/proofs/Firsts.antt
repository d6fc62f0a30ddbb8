-- The first character tells names, numbers, texts and signs of two characters apart.
use Rattle.std.proofs.Common.{◌≡◌, ℕ, ◌<◌, ◌≤◌, Bool, true, false, cond, eqb, ◌||◌, ◌&&◌, List, [], ◌∷◌, Some, refl, sym, ap, ◌∙◌, subst, arith}
use Rattle.std.specs.Prelude.{not, nat_lt, nat_eq, codes}
use Rattle.std.specs.List.{list_all}
use Rattle.std.specs.Char.{is_ascii_digit, is_ascii_alphabetic}
use Rattle.std.specs.Int.{is_in_range}
use Rattle.std.specs.Cmp.Lexicographic.{pointwise}
use Rattle.std.proofs.lemmas.Bool.{ltb-true, eqb-true, ne_eqb, and_parts}
use Rattle.std.proofs.lemmas.Bool.Decides.{nat_tests}
use Rattle.std.proofs.lemmas.Option.{none-some, same_Some}
use Prim.Native.String.{String}
use Rattle.unicode_ident.proofs.IdentLemmas.{is_xid_start-ascii}
use Rattle.dcx_tokens.specs.declared.token.Symbol.{Symbol}
use Rattle.dcx_tokens.specs.Front.{is_quote, begins_name, begins_number, long_signs, short_signs, sign_of, long_sign, short_sign, sign_len}

-- a character of ASCII that begins no name, no number and no text
abbrev pub is_plain : ℕ → Bool
is_plain c = nat_lt c 128 && (not (is_ascii_alphabetic c || eqb c 95) && (not (is_ascii_digit c) && (not (eqb c 46) && not (is_quote c))))

-- ---- signs
-- a test that the first character of each spelling passes
module _ (test : ℕ → Bool) where
  abbrev first_passes : List ℕ → Bool
  first_passes [] = true
  first_passes (x ∷ xs) = test x

  text_passes : (c : ℕ) (cs xs : List ℕ) → first_passes xs ≡ true → pointwise nat_eq (c ∷ cs) xs ≡ true → test c ≡ true
  text_passes c cs [] all e = absurd (cc)
  text_passes c cs (x ∷ xs) all e = subst (λ y. test y ≡ true) (sym (eqb-true c x (and_parts (nat_eq c x) (pointwise nat_eq cs xs) e).0)) all

  sign_passes : (signs : List (String × Symbol)) (c : ℕ) (cs : List ℕ) (s : Symbol) → list_all (λ (p : String × Symbol). first_passes (codes p.0)) signs ≡ true
      → sign_of signs (c ∷ cs) ≡ Some s → test c ≡ true
  sign_passes [] c cs s all e = absurd (none-some s e)
  sign_passes (p ∷ ps) c cs s all e = by (pointwise nat_eq (c ∷ cs) (codes p.0)) refl e
      (sign_passes ps c cs s (and_parts (first_passes (codes p.0)) (list_all (λ (p : String × Symbol). first_passes (codes p.0)) ps) all).1)
    where
      by : (b : Bool) → pointwise nat_eq (c ∷ cs) (codes p.0) ≡ b → cond b (Some p.1) (sign_of ps (c ∷ cs)) ≡ Some s → (sign_of ps (c ∷ cs) ≡ Some s → test c ≡ true) → test c ≡ true
      by true is h more = text_passes c cs (codes p.0) (and_parts (first_passes (codes p.0)) (list_all (λ (p : String × Symbol). first_passes (codes p.0)) ps) all).0 is
      by false is h more = more h

pub long_plain : (c d : ℕ) (s : Symbol) → long_sign c d ≡ Some s → is_plain c ≡ true
long_plain c d s e = sign_passes is_plain long_signs c (d ∷ []) s refl e

-- how many characters the signs of a list have
signs_len : (signs : List (String × Symbol)) (cs : List ℕ) (s : Symbol) (n : ℕ) → list_all (λ (p : String × Symbol). nat_eq (sign_len p.1) n) signs ≡ true → sign_of signs cs ≡ Some s → sign_len s ≡ n
signs_len [] cs s n all e = absurd (none-some s e)
signs_len (p ∷ ps) cs s n all e =
    by (pointwise nat_eq cs (codes p.0)) e (signs_len ps cs s n (and_parts (nat_eq (sign_len p.1) n) (list_all (λ (p : String × Symbol). nat_eq (sign_len p.1) n) ps) all).1)
  where
    by : (b : Bool) → cond b (Some p.1) (sign_of ps cs) ≡ Some s → (sign_of ps cs ≡ Some s → sign_len s ≡ n) → sign_len s ≡ n
    by true h more = ap sign_len (sym (same_Some p.1 s h)) ∙ eqb-true (sign_len p.1) n (and_parts (nat_eq (sign_len p.1) n) (list_all (λ (p : String × Symbol). nat_eq (sign_len p.1) n) ps) all).0
    by false h more = more h

pub long_len : (c d : ℕ) (s : Symbol) → long_sign c d ≡ Some s → sign_len s ≡ 2
long_len c d s e = signs_len long_signs (c ∷ d ∷ []) s 2 refl e

pub short_len : (c : ℕ) (s : Symbol) → short_sign c ≡ Some s → sign_len s ≡ 1
short_len c s e = signs_len short_signs (c ∷ []) s 1 refl e

-- ---- names
pub name_ascii : (c : ℕ) → c < 128 → begins_name c ≡ true → (is_ascii_alphabetic c || eqb c 95) ≡ true
name_ascii c h e = ap (λ b. b || eqb c 95) (sym (is_xid_start-ascii c h)) ∙ e

not_plain : (c : ℕ) → is_plain c ≡ true → (is_ascii_alphabetic c || eqb c 95) ≡ true → ⊥
not_plain c p e = by (nat_lt c 128) (is_ascii_alphabetic c || eqb c 95) p e
  where
    by : (a b : Bool) → (a && (not b && (not (is_ascii_digit c) && (not (eqb c 46) && not (is_quote c))))) ≡ true → b ≡ true → ⊥
    by true true h k = cc
    by true false h k = cc
    by false b h k = cc

pub name_not_plain : (c : ℕ) → begins_name c ≡ true → is_plain c ≡ true → ⊥
name_not_plain c e p =
    let small = ltb-true c 128 (and_parts (nat_lt c 128) (not (is_ascii_alphabetic c || eqb c 95) && (not (is_ascii_digit c) && (not (eqb c 46) && not (is_quote c)))) p).0 in
    not_plain c p (name_ascii c small e)

-- ---- numbers
pub number_char : (c : ℕ) (cs : List ℕ) → begins_number c cs ≡ true → (is_ascii_digit c || eqb c 46) ≡ true
number_char c [] e = by (is_ascii_digit c) e
  where
    by : (b : Bool) → b ≡ true → (b || eqb c 46) ≡ true
    by true h = refl
    by false h = absurd (cc)
number_char c (d ∷ ds) e = by (is_ascii_digit c) (eqb c 46) (is_ascii_digit d) e
  where
    by : (a b f : Bool) → (a || (b && f)) ≡ true → (a || b) ≡ true
    by true b f h = refl
    by false true f h = refl
    by false false f h = h

pub number_not_plain : (c : ℕ) (cs : List ℕ) → begins_number c cs ≡ true → is_plain c ≡ true → ⊥
number_not_plain c cs e p = by (nat_lt c 128) (is_ascii_alphabetic c || eqb c 95) (is_ascii_digit c) (eqb c 46) (number_char c cs e) p
  where
    by : (a b f g : Bool) → (f || g) ≡ true → (a && (not b && (not f && (not g && not (is_quote c))))) ≡ true → ⊥
    by true true f g h k = cc
    by true false true g h k = cc
    by true false false true h k = cc
    by true false false false h k = cc
    by false b f g h k = cc

below_range : (c low high : ℕ) → c < low → is_in_range low high c ≡ false
below_range c low high h = grind (arith, nat_tests)

pub in_range : (c low high : ℕ) → is_in_range low high c ≡ true → (low ≤ c) × (c ≤ high)
in_range c low high e = (grind (arith, nat_tests), grind (arith, nat_tests))

pub digit_small : (c : ℕ) → is_ascii_digit c ≡ true → c < 128
digit_small c e = let r = in_range c 48 57 e in let high = r.1 in omega (arith, high)

-- no letter, no underscore and no quote
record IsOther (c : ℕ) : Type 0 where
  small : c < 128
  name : (is_ascii_alphabetic c || eqb c 95) ≡ false
  quote : is_quote c ≡ false

digit_other : (c : ℕ) → 48 ≤ c → c ≤ 57 → IsOther c
digit_other c low high =
    let upper = below_range c 65 90 (omega arith) in
    let lower = below_range c 97 122 (omega arith) in
    let line = ne_eqb c 95 (omega arith) in
    let single = ne_eqb c 39 (omega arith) in
    let double = ne_eqb c 34 (omega arith) in
    record { small = omega arith; name = rw (upper, lower, line) refl; quote = rw (single, double) refl }

number_small : (c : ℕ) → (is_ascii_digit c || eqb c 46) ≡ true → IsOther c
number_small c e = by (is_ascii_digit c) (eqb c 46) refl refl e
  where
    by : (a b : Bool) → is_ascii_digit c ≡ a → eqb c 46 ≡ b → (a || b) ≡ true → IsOther c
    by true b ea eb h = let r = in_range c 48 57 ea in digit_other c r.0 r.1
    by false true ea eb h = subst IsOther (sym (eqb-true c 46 eb)) (record { small = omega arith; name = refl; quote = refl })
    by false false ea eb h = absurd (cc)

pub name_not_number : (c : ℕ) (cs : List ℕ) → begins_name c ≡ true → begins_number c cs ≡ true → ⊥
name_not_number c cs n d =
    let small = number_small c (number_char c cs d) in
    let no = sym (name_ascii c small.small n) ∙ small.name in cc

pub number_not_quote : (c : ℕ) (cs : List ℕ) → begins_number c cs ≡ true → is_quote c ≡ true → ⊥
number_not_quote c cs d q = let small = number_small c (number_char c cs d) in let no = sym q ∙ small.quote in cc

-- ---- texts
pub quote_not_plain : (c : ℕ) → is_quote c ≡ true → is_plain c ≡ true → ⊥
quote_not_plain c q p = by (nat_lt c 128) (is_ascii_alphabetic c || eqb c 95) (is_ascii_digit c) (eqb c 46) (is_quote c) q p
  where
    by : (a b f g i : Bool) → i ≡ true → (a && (not b && (not f && (not g && not i)))) ≡ true → ⊥
    by true true f g i h k = cc
    by true false true g i h k = cc
    by true false false true i h k = cc
    by true false false false true h k = cc
    by true false false false false h k = cc
    by false b f g i h k = cc

quote_small : (c : ℕ) → is_quote c ≡ true → (c < 128) × ((is_ascii_alphabetic c || eqb c 95) ≡ false)
quote_small c e = by (eqb c 39) (eqb c 34) refl refl e
  where
    of : (n : ℕ) → c ≡ n → (n < 128) × ((is_ascii_alphabetic n || eqb n 95) ≡ false) → (c < 128) × ((is_ascii_alphabetic c || eqb c 95) ≡ false)
    of n is h = subst (λ m. (m < 128) × ((is_ascii_alphabetic m || eqb m 95) ≡ false)) (sym is) h

    by : (a b : Bool) → eqb c 39 ≡ a → eqb c 34 ≡ b → (a || b) ≡ true → (c < 128) × ((is_ascii_alphabetic c || eqb c 95) ≡ false)
    by true b ea eb h = of 39 (eqb-true c 39 ea) (omega arith, refl)
    by false true ea eb h = of 34 (eqb-true c 34 eb) (omega arith, refl)
    by false false ea eb h = absurd (cc)

pub name_not_quote : (c : ℕ) → begins_name c ≡ true → is_quote c ≡ true → ⊥
name_not_quote c n q = let small = quote_small c q in let no = sym (name_ascii c small.0 n) ∙ small.1 in cc

-- ---- signs of one character
-- a character that begins no name, is no digit and begins no text
abbrev pub is_mark : ℕ → Bool
is_mark c = not (is_ascii_digit c) && (not (is_quote c) && (nat_lt c 128 && not (is_ascii_alphabetic c || eqb c 95)))

short_mark : (c : ℕ) (s : Symbol) → short_sign c ≡ Some s → is_mark c ≡ true
short_mark c s e = sign_passes is_mark short_signs c [] s refl e

not_true : (b : Bool) → not b ≡ true → b ≡ true → ⊥
not_true true e f = cc
not_true false e f = cc

module _ (c : ℕ) (s : Symbol) (short : short_sign c ≡ Some s) where
  pub short_not_digit : is_ascii_digit c ≡ true → ⊥
  short_not_digit e = not_true (is_ascii_digit c) (and_parts (not (is_ascii_digit c)) (not (is_quote c) && (nat_lt c 128 && not (is_ascii_alphabetic c || eqb c 95))) (short_mark c s short)).0 e

  rest : (not (is_quote c) && (nat_lt c 128 && not (is_ascii_alphabetic c || eqb c 95))) ≡ true
  rest = (and_parts (not (is_ascii_digit c)) (not (is_quote c) && (nat_lt c 128 && not (is_ascii_alphabetic c || eqb c 95))) (short_mark c s short)).1

  pub short_not_quote : is_quote c ≡ true → ⊥
  short_not_quote e = not_true (is_quote c) (and_parts (not (is_quote c)) (nat_lt c 128 && not (is_ascii_alphabetic c || eqb c 95)) rest).0 e

  pub short_not_name : begins_name c ≡ true → ⊥
  short_not_name e =
      let last = (and_parts (not (is_quote c)) (nat_lt c 128 && not (is_ascii_alphabetic c || eqb c 95)) rest).1 in
      let small = ltb-true c 128 (and_parts (nat_lt c 128) (not (is_ascii_alphabetic c || eqb c 95)) last).0 in
      not_true (is_ascii_alphabetic c || eqb c 95) (and_parts (nat_lt c 128) (not (is_ascii_alphabetic c || eqb c 95)) last).1 (name_ascii c small e)
