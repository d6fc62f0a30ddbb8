-- The characters of a token spell it, and no more of them would spell one.
use Rattle.std.proofs.Common.{◌≡◌, ℕ, zero, suc, ◌+◌, ◌<◌, Bool, true, false, cond, eqb, ◌||◌, ◌&&◌, List, [], ◌∷◌, ◌++◌, length}
use Rattle.std.proofs.Common.{take, drop, Option, Some, None, refl, sym, ap, ◌∙◌, subst, append_assoc, arith, length-append}
use Rattle.std.specs.Prelude.{IsTrue}
use Rattle.std.specs.Char.{is_ascii_digit}
use Rattle.std.specs.List.{All, prefix_len}
use Rattle.std.proofs.Math.Numerals.{one-add}
use Rattle.std.proofs.lemmas.List.{take-append-drop, length-take-le}
use Rattle.std.proofs.lemmas.List.Elements.{All-nil, All-cons, All-head, All-tail}
use Rattle.std.proofs.lemmas.Option.{same_Some}
use Rattle.unicode_ident.specs.Ident.{is_xid_continue}
use Rattle.dcx_frac.specs.declared.fraction.Frac.{Frac}
use Rattle.dcx_tokens.specs.declared.token.Keyword.{Keyword}
use Rattle.dcx_tokens.specs.declared.token.Symbol.{Symbol}
use Rattle.dcx_tokens.specs.declared.token.TokenKind.{TokenKind}
use Rattle.dcx_tokens.specs.declared.token.TokenKind.TheVariants as kind
use Rattle.dcx_tokens.specs.Front.{run_of, is_quote, begins_name, begins_number, long_sign, short_sign, or_else, sign_at, sign_len}
use Rattle.dcx_tokens.specs.Lexeme.{kind_if}
use Rattle.dcx_tokens.specs.Number.{number_at}
use Rattle.dcx_tokens.specs.Quoted.{up_to_quote}
use Rattle.dcx_tokens.specs.Word.{keyword_of}
use Rattle.dcx_token_laws.specs.Words.{IsIdentifier, IsNumber, IsQuoted, IsSign, IsWord, IsLongest}
use Rattle.dcx_token_laws.proofs.Between.{run_passes, run_is}
use Rattle.dcx_token_laws.proofs.Firsts.{is_plain, long_plain, long_len, short_len, name_not_plain, name_not_number, name_not_quote, number_not_plain, number_not_quote, quote_not_plain}
use Rattle.dcx_tokens.proofs.Kept.{sign_some}
use Rattle.dcx_tokens.proofs.Lengths.{number_some}
use Rattle.dcx_token_laws.proofs.Numerals.{number_front, number_within, point_long}
use Rattle.dcx_token_laws.proofs.Quotes.{quote_front, quote_some}
use Rattle.dcx_token_laws.proofs.Steps.{IsToken, name, number, text, sign}
use Rattle.dcx_token_laws.proofs.Basics.{head_is, never_both, right_nil}

-- ---- where a run ends
run_stops : (p : ℕ → Bool) (cs more rest : List ℕ) → drop (prefix_len p cs) cs ≡ more ++ rest → All (λ d. IsTrue (p d)) more → more ≡ []
run_stops p cs [] rest e h = refl
run_stops p [] (x ∷ xs) rest e h = absurd (let no : ◌≡◌ {A = List ℕ} [] (x ∷ (xs ++ rest)) = e in cc)
run_stops p (c ∷ cs) (x ∷ xs) rest e h = by (p c) refl e (λ f. run_stops p cs (x ∷ xs) rest f h)
  where
    by : (b : Bool) → p c ≡ b → drop (cond b (1 + prefix_len p cs) 0) (c ∷ cs) ≡ x ∷ (xs ++ rest) → (drop (prefix_len p cs) cs ≡ x ∷ (xs ++ rest) → x ∷ xs ≡ []) → x ∷ xs ≡ []
    by true is f more = more (sym (ap (λ n. drop n (c ∷ cs)) (one-add (prefix_len p cs))) ∙ f)
    by false is f more = absurd (never_both (p c) (subst (λ d. p d ≡ true) (sym (head_is c x cs (xs ++ rest) f)) (All-head (λ d. IsTrue (p d)) x xs h)) is)

pub all_left : (P : ℕ → Type 0) (xs ys : List ℕ) → All P (xs ++ ys) → All P xs
all_left P [] ys h = All-nil P
all_left P (x ∷ xs) ys h = All-cons P x xs (All-head P x (xs ++ ys) h) (all_left P xs ys (All-tail P x (xs ++ ys) h))

pub all_right : (P : ℕ → Type 0) (xs ys : List ℕ) → All P (xs ++ ys) → All P ys
all_right P [] ys h = h
all_right P (x ∷ xs) ys h = all_right P xs ys (All-tail P x (xs ++ ys) h)

-- ---- each kind
-- a name
identifier : (c : ℕ) (cs : List ℕ) (n : ℕ) → begins_name c ≡ true → n ≡ suc (prefix_len is_xid_continue cs) → IsIdentifier (take n (c ∷ cs))
identifier c cs n b count = rw count (b, run_passes is_xid_continue cs)

word_is : (w : List ℕ) (o : Option Keyword) → IsIdentifier w → keyword_of w ≡ o → IsWord (kind_if o) w
word_is w (Some k) h e = (h, e)
word_is w None h e = (h, e)

name_count : (cs : List ℕ) (n : ℕ) → n ≡ 1 + run_of is_xid_continue cs → n ≡ suc (prefix_len is_xid_continue cs)
name_count cs n count = count ∙ ap (λ m. 1 + m) (run_is is_xid_continue cs) ∙ one-add (prefix_len is_xid_continue cs)

-- a number
pub digit_begins : (c : ℕ) (cs : List ℕ) → is_ascii_digit c ≡ true → begins_number c cs ≡ true
digit_begins c [] e = e
digit_begins c (d ∷ ds) e = rw e refl

front_begins : (c : ℕ) (cs : List ℕ) (x : Frac) (m : ℕ) → begins_number c cs ≡ true → number_at (c ∷ cs) ≡ Some (x, suc m) → begins_number c (take m cs) ≡ true
front_begins c [] x m d e = by m
  where
    by : (i : ℕ) → begins_number c (take i []) ≡ true
    by zero = d
    by (suc i) = d
front_begins c (d ∷ ds) x m begins e = by (is_ascii_digit c) (eqb c 46) (is_ascii_digit d) refl refl refl begins
  where
    of : (i : ℕ) → 1 < suc i → begins_number c (take i (d ∷ ds)) ≡ true
    of zero h = absurd (omega arith)
    of (suc i) h = begins

    by : (a b f : Bool) → is_ascii_digit c ≡ a → eqb c 46 ≡ b → is_ascii_digit d ≡ f → (a || (b && f)) ≡ true → begins_number c (take m (d ∷ ds)) ≡ true
    by true b f ea eb ef h = digit_begins c (take m (d ∷ ds)) ea
    by false true true ea eb ef h = of m (point_long c d ds x (suc m) ea eb ef e)
    by false true false ea eb ef h = absurd (cc)
    by false false f ea eb ef h = absurd (cc)

number_of : (c : ℕ) (cs : List ℕ) (x : Frac) (m : ℕ) → begins_number c cs ≡ true → number_at (c ∷ cs) ≡ Some (x, suc m) → IsNumber x (c ∷ take m cs)
number_of c cs x m d e =
    let within = number_within (c ∷ cs) x (suc m) e in
    let whole : (c ∷ take m cs) ++ drop m cs ≡ c ∷ cs = ap (λ xs. c ∷ xs) (take-append-drop m cs) in
    let len : length (take m cs) ≡ m = length-take-le m cs (omega (arith, within)) in
    (front_begins c cs x m d e, number_front (c ∷ take m cs) (drop m cs) x (suc m) (ap (λ xs. number_at xs) whole ∙ e) (omega (arith, len)) ∙ ap (λ i. Some (x, suc i)) (sym len))

number_is : (c : ℕ) (cs : List ℕ) (x : Frac) (n : ℕ) → begins_number c cs ≡ true → number_at (c ∷ cs) ≡ Some (x, n) → IsNumber x (take n (c ∷ cs))
number_is c cs x zero d e = absurd (let some = number_some c cs (x, zero) d e in omega (arith, some))
number_is c cs x (suc m) d e = number_of c cs x m d e

-- a text
text_is : (c : ℕ) (cs : List ℕ) (m : ℕ) → is_quote c ≡ true → up_to_quote c false cs ≡ Some m → IsQuoted (c ∷ take m cs)
text_is c cs m q e =
    let within = (quote_some c false cs m e).1 in
    let whole = take-append-drop m cs in
    let len : length (take m cs) ≡ m = length-take-le m cs within in
    (q, quote_front c false (take m cs) (drop m cs) m (ap (λ xs. up_to_quote c false xs) whole ∙ e) (omega (arith, len)) ∙ ap (λ n. Some n) (sym len))

-- a sign
sign_cases : (c : ℕ) (cs : List ℕ) (s : Symbol) → sign_at c cs ≡ Some s → IsSign s (take (sign_len s) (c ∷ cs))
unfolding sign_at
sign_cases c [] s e = subst (λ n. IsSign s (take n (c ∷ []))) (sym (short_len c s e)) e
sign_cases c (d ∷ ds) s e = by (long_sign c d) refl e
  where
    by : (o : Option Symbol) → long_sign c d ≡ o → or_else o (short_sign c) ≡ Some s → IsSign s (take (sign_len s) (c ∷ d ∷ ds))
    by (Some t) is h =
        let long : long_sign c d ≡ Some s = is ∙ ap (λ (u : Symbol). Some u) (same_Some t s h) in
        subst (λ n. IsSign s (take n (c ∷ d ∷ ds))) (sym (long_len c d s long)) long
    by None is h = subst (λ n. IsSign s (take n (c ∷ d ∷ ds))) (sym (short_len c s h)) h

pub is_word : (c : ℕ) (cs : List ℕ) (k : TokenKind) (n : ℕ) → IsToken c cs k n → IsWord k (take n (c ∷ cs))
is_word c cs k n (name b count is) =
    let w = take n (c ∷ cs) in
    subst (λ j. IsWord j w) (sym is) (word_is w (keyword_of w) (identifier c cs n b (name_count cs n count)) refl)
is_word c cs k n (number x b d e same) = subst (λ j. IsWord j (take n (c ∷ cs))) (sym same) (number_is c cs x n d e)
is_word c cs k n (text m b d q e count same) =
    subst (λ j. IsWord j (take n (c ∷ cs))) (sym same) (subst (λ i. IsQuoted (take i (c ∷ cs))) (sym (count ∙ one-add m)) (text_is c cs m q e))
is_word c cs k n (sign s b d q e count same) =
    subst (λ j. IsWord j (take n (c ∷ cs))) (sym same) (subst (λ i. IsSign s (take i (c ∷ cs))) (sym count) (sign_cases c cs s e))

-- ---- no more of the text would spell a token
none_left : (xs ys : List ℕ) (m : ℕ) → length xs ≡ m → length (xs ++ ys) ≡ m → ys ≡ []
none_left xs [] m a b = refl
none_left xs (y ∷ ys) m a b = let l = length-append xs (y ∷ ys) in absurd (omega (arith, a, b, l))

-- a sign of two characters would begin with another character
no_sign : (c : ℕ) (s : Symbol) (us xs ys : List ℕ) → us ≡ xs ++ ys → IsSign s (c ∷ us) → (is_plain c ≡ true → ⊥) → ys ≡ []
no_sign c s [] xs ys e h n = right_nil xs ys (sym e)
no_sign c s (d ∷ []) xs ys e h n = absurd (n (long_plain c d s h))
no_sign c s (d ∷ f ∷ us) xs ys e h n = absurd h

-- what begins a number begins one with more behind
pub begins_more : (c : ℕ) (us rest : List ℕ) → begins_number c us ≡ true → begins_number c (us ++ rest) ≡ true
begins_more c [] rest e = digit_begins c rest e
begins_more c (d ∷ us) rest e = e

module _ (c : ℕ) (cs : List ℕ) (m : ℕ) (more rest : List ℕ) (split : drop m cs ≡ more ++ rest) where
  whole : (take m cs ++ more) ++ rest ≡ cs
  whole = append_assoc (take m cs) more rest ∙ ap (λ xs. take m cs ++ xs) (sym split) ∙ take-append-drop m cs

  identifier_ends : m ≡ prefix_len is_xid_continue cs → IsIdentifier (c ∷ (take m cs ++ more)) → more ≡ []
  identifier_ends is h =
      run_stops is_xid_continue cs more rest (ap (λ i. drop i cs) (sym is) ∙ split) (all_right (λ d. IsTrue (is_xid_continue d)) (take m cs) more h.1)

  name_ends : (k : TokenKind) → begins_name c ≡ true → m ≡ prefix_len is_xid_continue cs → IsWord k (c ∷ (take m cs ++ more)) → more ≡ []
  name_ends kind.Name b is h = identifier_ends is h.0
  name_ends (kind.Keyword w) b is h = identifier_ends is h.0
  name_ends (kind.Number x) b is h = absurd (name_not_number c (take m cs ++ more) b h.0)
  name_ends kind.Text b is h = absurd (name_not_quote c b h.0)
  name_ends (kind.Sign s) b is h = no_sign c s (take m cs ++ more) (take m cs) more refl h (name_not_plain c b)
  name_ends kind.Newline b is h = absurd h
  name_ends kind.Indent b is h = absurd h
  name_ends kind.Dedent b is h = absurd h

  same_number : (x y : Frac) (i j : ℕ) → ◌≡◌ {A = Option (Frac × ℕ)} (Some (x, i)) (Some (y, j)) → i ≡ j
  same_number x y i j e = ap (λ (o : Option (Frac × ℕ)). counted o) e
    where
      counted : Option (Frac × ℕ) → ℕ
      counted None = 0
      counted (Some p) = p.1

  numeral_ends : (x y : Frac) → number_at (c ∷ cs) ≡ Some (x, suc m) → IsNumber y (c ∷ (take m cs ++ more)) → more ≡ []
  numeral_ends x y e h =
      let within = number_within (c ∷ cs) x (suc m) e in
      let len : length (take m cs) ≡ m = length-take-le m cs (omega (arith, within)) in
      let longer = length-append (take m cs) more in
      let all : (c ∷ (take m cs ++ more)) ++ rest ≡ c ∷ cs = ap (λ xs. c ∷ xs) whole in
      let same = number_front (c ∷ (take m cs ++ more)) rest x (suc m) (ap (λ xs. number_at xs) all ∙ e) (omega (arith, len, longer)) in
      let count = same_number y x (length (c ∷ (take m cs ++ more))) (suc m) (sym h.1 ∙ same) in
      none_left (take m cs) more m len (omega (arith, count))

  number_ends : (k : TokenKind) (x : Frac) → begins_name c ≡ false → begins_number c cs ≡ true → number_at (c ∷ cs) ≡ Some (x, suc m) → IsWord k (c ∷ (take m cs ++ more)) → more ≡ []
  number_ends kind.Name x b d e h = absurd (never_both (begins_name c) h.0.0 b)
  number_ends (kind.Keyword w) x b d e h = absurd (never_both (begins_name c) h.0.0 b)
  number_ends (kind.Number y) x b d e h = numeral_ends x y e h
  number_ends kind.Text x b d e h = absurd (number_not_quote c cs d h.0)
  number_ends (kind.Sign s) x b d e h = no_sign c s (take m cs ++ more) (take m cs) more refl h (number_not_plain c cs d)
  number_ends kind.Newline x b d e h = absurd h
  number_ends kind.Indent x b d e h = absurd h
  number_ends kind.Dedent x b d e h = absurd h

  no_number : begins_number c cs ≡ false → begins_number c (take m cs ++ more) ≡ true → ⊥
  no_number d h = never_both (begins_number c cs) (ap (λ xs. begins_number c xs) (sym whole) ∙ begins_more c (take m cs ++ more) rest h) d

  same_count : (i j : ℕ) → ◌≡◌ {A = Option ℕ} (Some i) (Some j) → i ≡ j
  same_count i j e = cc

  quoted_ends : up_to_quote c false cs ≡ Some m → IsQuoted (c ∷ (take m cs ++ more)) → more ≡ []
  quoted_ends e h =
      let within = (quote_some c false cs m e).1 in
      let len : length (take m cs) ≡ m = length-take-le m cs within in
      let longer = length-append (take m cs) more in
      let same = quote_front c false (take m cs ++ more) rest m (ap (λ xs. up_to_quote c false xs) whole ∙ e) (omega (arith, len, longer)) in
      none_left (take m cs) more m len (same_count (length (take m cs ++ more)) m (sym h.1 ∙ same))

  text_ends : (k : TokenKind) → begins_name c ≡ false → begins_number c cs ≡ false → is_quote c ≡ true → up_to_quote c false cs ≡ Some m → IsWord k (c ∷ (take m cs ++ more)) → more ≡ []
  text_ends kind.Name b d q e h = absurd (never_both (begins_name c) h.0.0 b)
  text_ends (kind.Keyword w) b d q e h = absurd (never_both (begins_name c) h.0.0 b)
  text_ends (kind.Number y) b d q e h = absurd (no_number d h.0)
  text_ends kind.Text b d q e h = quoted_ends e h
  text_ends (kind.Sign s) b d q e h = no_sign c s (take m cs ++ more) (take m cs) more refl h (quote_not_plain c q)
  text_ends kind.Newline b d q e h = absurd h
  text_ends kind.Indent b d q e h = absurd h
  text_ends kind.Dedent b d q e h = absurd h

  long_at : (d : ℕ) (ds : List ℕ) (s t : Symbol) → long_sign c d ≡ Some t → sign_at c (d ∷ ds) ≡ Some s → t ≡ s
  unfolding sign_at
  long_at d ds s t long e = let same : ◌≡◌ {A = Option Symbol} (Some t) (Some s) = ap (λ o. or_else o (short_sign c)) (sym long) ∙ e in cc

  two_signs : (us : List ℕ) (s t : Symbol) → us ≡ take m cs ++ more → us ++ rest ≡ cs → suc m ≡ sign_len s → sign_at c cs ≡ Some s → IsSign t (c ∷ us) → more ≡ []
  two_signs [] s t is all count e h = right_nil (take m cs) more (sym is)
  two_signs (d ∷ []) s t is all count e h =
      let same = long_at d rest s t h (ap (λ xs. sign_at c xs) all ∙ e) in
      let two = long_len c d t h in
      let also = ap sign_len same in
      let one : m ≡ 1 = omega (arith, count, two, also) in
      let few = ap (λ xs. length xs) is in
      let some = ap (λ xs. length xs) all in
      let len : length (take m cs) ≡ m = length-take-le m cs (omega (arith, one, some)) in
      none_left (take m cs) more m len (omega (arith, few, one))
  two_signs (d ∷ f ∷ us) s t is all count e h = absurd h

  sign_ends : (k : TokenKind) (s : Symbol) → begins_name c ≡ false → begins_number c cs ≡ false → is_quote c ≡ false → suc m ≡ sign_len s → sign_at c cs ≡ Some s
      → IsWord k (c ∷ (take m cs ++ more)) → more ≡ []
  sign_ends kind.Name s b d q count e h = absurd (never_both (begins_name c) h.0.0 b)
  sign_ends (kind.Keyword w) s b d q count e h = absurd (never_both (begins_name c) h.0.0 b)
  sign_ends (kind.Number y) s b d q count e h = absurd (no_number d h.0)
  sign_ends kind.Text s b d q count e h = absurd (never_both (is_quote c) h.0 q)
  sign_ends (kind.Sign t) s b d q count e h = two_signs (take m cs ++ more) s t refl whole count e h
  sign_ends kind.Newline s b d q count e h = absurd h
  sign_ends kind.Indent s b d q count e h = absurd h
  sign_ends kind.Dedent s b d q count e h = absurd h

-- a token has characters
longest_at : (c : ℕ) (cs : List ℕ) (n m : ℕ) → n ≡ suc m → IsLongest (c ∷ take m cs) (drop m cs) → IsLongest (take n (c ∷ cs)) (drop n (c ∷ cs))
longest_at c cs n m count h = subst (λ i. IsLongest (take i (c ∷ cs)) (drop i (c ∷ cs))) (sym count) h

number_longest : (c : ℕ) (cs : List ℕ) (x : Frac) (n : ℕ) → begins_name c ≡ false → begins_number c cs ≡ true → number_at (c ∷ cs) ≡ Some (x, n) → IsLongest (take n (c ∷ cs)) (drop n (c ∷ cs))
number_longest c cs x zero b d e = absurd (let some = number_some c cs (x, zero) d e in omega (arith, some))
number_longest c cs x (suc m) b d e = λ more rest k split h. number_ends c cs m more rest split k x b d e h

sign_longest : (c : ℕ) (cs : List ℕ) (s : Symbol) (n : ℕ) → begins_name c ≡ false → begins_number c cs ≡ false → is_quote c ≡ false → n ≡ sign_len s → sign_at c cs ≡ Some s
    → IsLongest (take n (c ∷ cs)) (drop n (c ∷ cs))
sign_longest c cs s zero b d q count e = absurd (let some = sign_some s in omega (arith, some, count))
sign_longest c cs s (suc m) b d q count e = λ more rest k split h. sign_ends c cs m more rest split k s b d q count e h

pub is_longest : (c : ℕ) (cs : List ℕ) (k : TokenKind) (n : ℕ) → IsToken c cs k n → IsLongest (take n (c ∷ cs)) (drop n (c ∷ cs))
is_longest c cs k n (name b count is) =
    longest_at c cs n (prefix_len is_xid_continue cs) (name_count cs n count) (λ more rest j split h. name_ends c cs (prefix_len is_xid_continue cs) more rest split j b refl h)
is_longest c cs k n (number x b d e same) = number_longest c cs x n b d e
is_longest c cs k n (text m b d q e count same) = longest_at c cs n m (count ∙ one-add m) (λ more rest j split h. text_ends c cs m more rest split j b d q e h)
is_longest c cs k n (sign s b d q e count same) = sign_longest c cs s n b d q count e
