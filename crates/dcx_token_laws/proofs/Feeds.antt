-- No token holds a line feed, so it ends on the line on which it begins.
use Rattle.std.proofs.Common.{◌≡◌, ◌≢◌, ℕ, ◌+◌, Bool, true, false, cond, eqb, ◌||◌, ◌&&◌, List, [], ◌∷◌, length, take, drop, Option, Some, None, refl, sym, ap, ◌∙◌, subst, arith}
use Rattle.std.specs.Prelude.{IsTrue, not, nat_eq, codes, option_map}
use Rattle.std.specs.Char.{is_ascii_digit}
use Rattle.std.specs.Cmp.Lexicographic.{pointwise}
use Rattle.std.specs.List.{All, list_all, prefix_len}
use Rattle.std.proofs.Math.Numerals.{one-add}
use Rattle.std.proofs.Math.Seq.{take-add}
use Rattle.std.proofs.lemmas.Bool.Decides.{nat_tests}
use Rattle.std.proofs.lemmas.List.Elements.{All-nil, All-cons, All-append, All-weaker}
use Rattle.std.proofs.lemmas.Bool.{eqb-true, eqb-false, and_parts}
use Rattle.std.proofs.lemmas.Option.{none-some, same_Some}
use Prim.Native.String.{String}
use Rattle.unicode_ident.specs.Ident.{is_xid_continue}
use Rattle.unicode_ident.proofs.IdentLemmas.{is_xid_continue-ascii}
use Rattle.dcx_frac.specs.declared.fraction.Frac.{Frac}
use Rattle.dcx_tokens.specs.declared.token.Symbol.{Symbol}
use Rattle.dcx_tokens.specs.declared.token.TokenKind.{TokenKind}
use Rattle.dcx_tokens.specs.Front.{run_of, ends_line, long_signs, sign_of, long_sign, short_sign, or_else, sign_at, sign_len}
use Rattle.dcx_tokens.specs.Number.{digits, fraction_len, begins_exponent, exponent_sign_len, exponent_len, mantissa_len, number_at}
use Rattle.dcx_tokens.specs.Quoted.{up_to_quote}
use Rattle.dcx_token_laws.proofs.Between.{run_passes, run_is}
use Rattle.dcx_token_laws.proofs.Firsts.{long_len, short_len}
use Rattle.dcx_token_laws.proofs.Numerals.{count_is}
use Rattle.dcx_token_laws.proofs.Steps.{IsToken, name, number, text, sign}
use Rattle.dcx_token_laws.proofs.Basics.{never_both}
use Rattle.dcx_token_laws.proofs.Quotes.{one_more}

abbrev pub HasNoFeed : List ℕ → Type 0
HasNoFeed cs = All (λ c. c ≢ 10) cs

none : HasNoFeed []
none = All-nil (λ c. c ≢ 10)

one : (c : ℕ) → c ≢ 10 → HasNoFeed (c ∷ [])
one c h = All-cons (λ d. d ≢ 10) c [] h none

-- what is tested isn't a line feed, where a line feed fails the test
passes_other : (p : ℕ → Bool) → p 10 ≡ false → (c : ℕ) → p c ≡ true → c ≢ 10
passes_other p fails c e is = never_both (p c) e (ap p is ∙ fails)

run_feeds : (p : ℕ → Bool) → p 10 ≡ false → (cs : List ℕ) → HasNoFeed (take (prefix_len p cs) cs)
run_feeds p fails cs = All-weaker (λ d. IsTrue (p d)) (λ d. d ≢ 10) (passes_other p fails) (take (prefix_len p cs) cs) (run_passes p cs)

-- one after another
joined : (n m : ℕ) (cs : List ℕ) → HasNoFeed (take n cs) → HasNoFeed (take m (drop n cs)) → HasNoFeed (take (n + m) cs)
joined n m cs a b = subst HasNoFeed (sym (take-add n m cs)) (All-append (λ c. c ≢ 10) (take n cs) (take m (drop n cs)) a b)

first : (c n : ℕ) (cs : List ℕ) → c ≢ 10 → HasNoFeed (take n cs) → HasNoFeed (take (1 + n) (c ∷ cs))
first c n cs h more = rw one-add (All-cons (λ d. d ≢ 10) c (take n cs) h more)

-- ---- numbers
digits_feeds : (cs : List ℕ) → HasNoFeed (take (run_of is_ascii_digit cs) cs)
digits_feeds cs = subst (λ n. HasNoFeed (take n cs)) (sym (run_is is_ascii_digit cs)) (run_feeds is_ascii_digit refl cs)

fraction_feeds : (cs : List ℕ) → HasNoFeed (take (fraction_len cs) cs)
fraction_feeds [] = none
fraction_feeds (c ∷ cs) = by (eqb c 46) refl
  where
    by : (b : Bool) → eqb c 46 ≡ b → HasNoFeed (take (cond b (1 + run_of is_ascii_digit cs) 0) (c ∷ cs))
    by true e = first c (run_of is_ascii_digit cs) cs (passes_other (λ d. eqb d 46) refl c e) (digits_feeds cs)
    by false e = none

sign_feeds : (cs : List ℕ) → HasNoFeed (take (exponent_sign_len cs) cs)
sign_feeds [] = none
sign_feeds (c ∷ cs) = by (eqb c 43 || eqb c 45) refl
  where
    by : (b : Bool) → (eqb c 43 || eqb c 45) ≡ b → HasNoFeed (take (cond b 1 0) (c ∷ cs))
    by true e = one c (passes_other (λ d. eqb d 43 || eqb d 45) refl c e)
    by false e = none

exponent_feeds : (cs : List ℕ) → HasNoFeed (take (exponent_len cs) cs)
exponent_feeds [] = none
exponent_feeds (c ∷ cs) = by (begins_exponent c) refl
  where
    of : (z : Bool) → begins_exponent c ≡ true → HasNoFeed (take (cond z 0 (1 + exponent_sign_len cs + run_of is_ascii_digit (drop (exponent_sign_len cs) cs))) (c ∷ cs))
    of true e = none
    of false e =
        let rest = joined (exponent_sign_len cs) (run_of is_ascii_digit (drop (exponent_sign_len cs) cs)) cs (sign_feeds cs) (digits_feeds (drop (exponent_sign_len cs) cs)) in
        let count : 1 + exponent_sign_len cs + run_of is_ascii_digit (drop (exponent_sign_len cs) cs)
        ≡ 1 + (exponent_sign_len cs + run_of is_ascii_digit (drop (exponent_sign_len cs) cs)) = omega arith in
        subst (λ n. HasNoFeed (take n (c ∷ cs))) (sym count) (first c (exponent_sign_len cs + run_of is_ascii_digit (drop (exponent_sign_len cs) cs)) cs (passes_other begins_exponent refl c e) rest)

    by : (b : Bool) → begins_exponent c ≡ b → HasNoFeed (take (cond (eqb (length (cond b (digits (drop (exponent_sign_len cs) cs)) [])) 0) 0
        (1 + exponent_sign_len cs + length (cond b (digits (drop (exponent_sign_len cs) cs)) []))) (c ∷ cs))
    by true e = of (eqb (length (digits (drop (exponent_sign_len cs) cs))) 0) e
    by false e = none

number_feeds : (cs : List ℕ) (x : Frac) (n : ℕ) → number_at cs ≡ Some (x, n) → HasNoFeed (take n cs)
number_feeds cs x n e =
    let mantissa = joined (run_of is_ascii_digit cs) (fraction_len (drop (run_of is_ascii_digit cs) cs)) cs (digits_feeds cs) (fraction_feeds (drop (run_of is_ascii_digit cs) cs)) in
    subst (λ m. HasNoFeed (take m cs)) (sym (count_is cs x n e)) (joined (mantissa_len cs) (exponent_len (drop (mantissa_len cs) cs)) cs mantissa (exponent_feeds (drop (mantissa_len cs) cs)))

-- ---- names
goes_on : is_xid_continue 10 ≡ false
goes_on = is_xid_continue-ascii 10 (omega arith)

name_feeds : (c : ℕ) (cs : List ℕ) (n : ℕ) → c ≢ 10 → n ≡ 1 + run_of is_xid_continue cs → HasNoFeed (take n (c ∷ cs))
name_feeds c cs n h count =
    subst (λ m. HasNoFeed (take m (c ∷ cs))) (sym (count ∙ ap (λ m. 1 + m) (run_is is_xid_continue cs))) (first c (prefix_len is_xid_continue cs) cs h (run_feeds is_xid_continue goes_on cs))

-- ---- texts
quote_feeds : (quote : ℕ) (is_taken : Bool) (cs : List ℕ) (n : ℕ) → up_to_quote quote is_taken cs ≡ Some n → HasNoFeed (take n cs)
quote_feeds quote is_taken [] n e = absurd (none-some n e)
quote_feeds quote is_taken (c ∷ cs) n e = by (eqb c 10) refl is_taken (eqb c quote) e (λ b m. quote_feeds quote b cs m)
  where
    counted : (b : Bool) → eqb c 10 ≡ false → option_map (λ m. 1 + m) (up_to_quote quote b cs) ≡ Some n
        → ((b : Bool) (m : ℕ) → up_to_quote quote b cs ≡ Some m → HasNoFeed (take m cs)) → HasNoFeed (take n (c ∷ cs))
    counted b f h more = let m = one_more (up_to_quote quote b cs) n h in subst (λ i. HasNoFeed (take i (c ∷ cs))) (sym m.is) (first c m.count cs (eqb-false c 10 f) (more b m.count m.was))

    by : (l : Bool) → eqb c 10 ≡ l → (t q : Bool)
        → cond l None (cond t (option_map (λ m. 1 + m) (up_to_quote quote false cs)) (cond q (Some 1) (option_map (λ m. 1 + m) (up_to_quote quote (eqb c 92) cs)))) ≡ Some n →
        ((b : Bool) (m : ℕ) → up_to_quote quote b cs ≡ Some m → HasNoFeed (take m cs)) → HasNoFeed (take n (c ∷ cs))
    by true f t q h more = absurd (none-some n h)
    by false f true q h more = counted false f h more
    by false f false true h more = subst (λ i. HasNoFeed (take i (c ∷ cs))) (same_Some 1 n h) (one c (eqb-false c 10 f))
    by false f false false h more = counted (eqb c 92) f h more

-- ---- signs
-- the second character is no line feed
abbrev second_fine : List ℕ → Bool
second_fine [] = true
second_fine (x ∷ []) = true
second_fine (x ∷ y ∷ ys) = not (eqb y 10)

other_feed : (c : ℕ) → not (eqb c 10) ≡ true → c ≢ 10
other_feed c e = grind (arith, nat_tests)

text_second : (c d : ℕ) (xs : List ℕ) → second_fine xs ≡ true → pointwise nat_eq (c ∷ d ∷ []) xs ≡ true → d ≢ 10
text_second c d [] all e = absurd (cc)
text_second c d (x ∷ []) all e = absurd (let gone : false ≡ true = (and_parts (nat_eq c x) false e).1 in cc)
text_second c d (x ∷ y ∷ ys) all e =
    let same = eqb-true d y (and_parts (nat_eq d y) (pointwise nat_eq [] ys) (and_parts (nat_eq c x) (nat_eq d y && pointwise nat_eq [] ys) e).1).0 in
    subst (λ z. z ≢ 10) (sym same) (other_feed y all)

sign_second : (signs : List (String × Symbol)) (c d : ℕ) (s : Symbol) → list_all (λ (p : String × Symbol). second_fine (codes p.0)) signs ≡ true → sign_of signs (c ∷ d ∷ []) ≡ Some s → d ≢ 10
sign_second [] c d s all e = absurd (none-some s e)
sign_second (p ∷ ps) c d s all e = by (pointwise nat_eq (c ∷ d ∷ []) (codes p.0)) refl e
    (sign_second ps c d s (and_parts (second_fine (codes p.0)) (list_all (λ (p : String × Symbol). second_fine (codes p.0)) ps) all).1)
  where
    by : (b : Bool) → pointwise nat_eq (c ∷ d ∷ []) (codes p.0) ≡ b → cond b (Some p.1) (sign_of ps (c ∷ d ∷ [])) ≡ Some s → (sign_of ps (c ∷ d ∷ []) ≡ Some s → d ≢ 10) → d ≢ 10
    by true is h more = text_second c d (codes p.0) (and_parts (second_fine (codes p.0)) (list_all (λ (p : String × Symbol). second_fine (codes p.0)) ps) all).0 is
    by false is h more = more h

sign_feeds_at : (c : ℕ) (cs : List ℕ) (s : Symbol) → c ≢ 10 → sign_at c cs ≡ Some s → HasNoFeed (take (sign_len s) (c ∷ cs))
unfolding sign_at
sign_feeds_at c [] s h e = subst (λ n. HasNoFeed (take n (c ∷ []))) (sym (short_len c s e)) (one c h)
sign_feeds_at c (d ∷ ds) s h e = by (long_sign c d) refl e
  where
    by : (o : Option Symbol) → long_sign c d ≡ o → or_else o (short_sign c) ≡ Some s → HasNoFeed (take (sign_len s) (c ∷ d ∷ ds))
    by (Some t) is f =
        let long : long_sign c d ≡ Some s = is ∙ ap (λ (u : Symbol). Some u) (same_Some t s f) in
        subst (λ n. HasNoFeed (take n (c ∷ d ∷ ds))) (sym (long_len c d s long)) (All-cons (λ z. z ≢ 10) c (d ∷ []) h (one d (sign_second long_signs c d s refl long)))
    by None is f = subst (λ n. HasNoFeed (take n (c ∷ d ∷ ds))) (sym (short_len c s f)) (one c h)

-- ---- all
pub not_end : (c : ℕ) (cs : List ℕ) → ends_line c cs ≡ false → c ≢ 10
not_end c [] e = eqb-false c 10 e
not_end c (d ∷ ds) e = by (eqb c 10) refl e
  where
    by : (b : Bool) → eqb c 10 ≡ b → (b || (eqb c 13 && eqb d 10)) ≡ false → c ≢ 10
    by true is h = absurd (cc)
    by false is h = eqb-false c 10 is

pub token_feeds : (c : ℕ) (cs : List ℕ) (k : TokenKind) (n : ℕ) → ends_line c cs ≡ false → IsToken c cs k n → HasNoFeed (take n (c ∷ cs))
token_feeds c cs k n l (name b count is) = name_feeds c cs n (not_end c cs l) count
token_feeds c cs k n l (number x b d e same) = number_feeds (c ∷ cs) x n e
token_feeds c cs k n l (text m b d q e count same) = subst (λ i. HasNoFeed (take i (c ∷ cs))) (sym count) (first c m cs (not_end c cs l) (quote_feeds c false cs m e))
token_feeds c cs k n l (sign s b d q e count same) = subst (λ i. HasNoFeed (take i (c ∷ cs))) (sym count) (sign_feeds_at c cs s (not_end c cs l) e)
