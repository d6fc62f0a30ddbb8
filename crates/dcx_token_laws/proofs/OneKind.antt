-- Characters spell a token of one kind at most, and none where the first is a blank, # or of a line end.
use Rattle.std.proofs.Common.{◌≡◌, ℕ, true, false, List, [], ◌∷◌, length, Option, Some, refl, sym, ap, ◌∙◌, subst, arith}
use Rattle.std.proofs.lemmas.Option.{none-some, same_Some}
use Rattle.dcx_frac.specs.declared.fraction.Frac.{Frac}
use Rattle.dcx_tokens.specs.declared.token.Symbol.{Symbol}
use Rattle.dcx_tokens.specs.declared.token.TokenKind.{TokenKind}
use Rattle.dcx_tokens.specs.declared.token.TokenKind.TheVariants as kind
use Rattle.dcx_tokens.specs.Front.{is_quote, begins_name, begins_number, long_sign, short_sign}
use Rattle.dcx_token_laws.specs.Words.{IsSign, IsWord}
use Rattle.dcx_token_laws.proofs.Firsts.{long_plain, name_ascii, name_not_plain, name_not_number, name_not_quote, number_not_plain}
use Rattle.dcx_token_laws.proofs.Firsts.{number_not_quote, quote_not_plain, short_not_digit, short_not_quote, short_not_name}

-- ---- one kind
sign_not_name : (s : Symbol) (c : ℕ) (xs : List ℕ) → IsSign s (c ∷ xs) → begins_name c ≡ true → ⊥
sign_not_name s c [] h b = short_not_name c s h b
sign_not_name s c (d ∷ []) h b = name_not_plain c b (long_plain c d s h)
sign_not_name s c (d ∷ e ∷ xs) h b = h

pub sign_not_number : (s : Symbol) (c : ℕ) (xs : List ℕ) → IsSign s (c ∷ xs) → begins_number c xs ≡ true → ⊥
sign_not_number s c [] h b = short_not_digit c s h b
sign_not_number s c (d ∷ []) h b = number_not_plain c (d ∷ []) b (long_plain c d s h)
sign_not_number s c (d ∷ e ∷ xs) h b = h

pub sign_not_quote : (s : Symbol) (c : ℕ) (xs : List ℕ) → IsSign s (c ∷ xs) → is_quote c ≡ true → ⊥
sign_not_quote s c [] h b = short_not_quote c s h b
sign_not_quote s c (d ∷ []) h b = quote_not_plain c b (long_plain c d s h)
sign_not_quote s c (d ∷ e ∷ xs) h b = h

same_sign : (s t : Symbol) (c : ℕ) (xs : List ℕ) → IsSign s (c ∷ xs) → IsSign t (c ∷ xs) → s ≡ t
same_sign s t c [] h i = same_Some s t (sym h ∙ i)
same_sign s t c (d ∷ []) h i = same_Some s t (sym h ∙ i)
same_sign s t c (d ∷ e ∷ xs) h i = absurd h

same_value : (x y : Frac) (n m : ℕ) → ◌≡◌ {A = Option (Frac × ℕ)} (Some (x, n)) (Some (y, m)) → x ≡ y
same_value x y n m e = ap (λ (p : Frac × ℕ). p.0) (same_Some (x, n) (y, m) e)

pub one_kind : (c : ℕ) (xs : List ℕ) (j k : TokenKind) → IsWord j (c ∷ xs) → IsWord k (c ∷ xs) → j ≡ k
one_kind c xs kind.Name kind.Name h i = refl
one_kind c xs kind.Name (kind.Keyword w) h i = absurd (none-some w (sym h.1 ∙ i.1))
one_kind c xs kind.Name (kind.Number x) h i = absurd (name_not_number c xs h.0.0 i.0)
one_kind c xs kind.Name kind.Text h i = absurd (name_not_quote c h.0.0 i.0)
one_kind c xs kind.Name (kind.Sign s) h i = absurd (sign_not_name s c xs i h.0.0)
one_kind c xs (kind.Keyword w) kind.Name h i = absurd (none-some w (sym i.1 ∙ h.1))
one_kind c xs (kind.Keyword v) (kind.Keyword w) h i = ap kind.Keyword (same_Some v w (sym h.1 ∙ i.1))
one_kind c xs (kind.Keyword w) (kind.Number x) h i = absurd (name_not_number c xs h.0.0 i.0)
one_kind c xs (kind.Keyword w) kind.Text h i = absurd (name_not_quote c h.0.0 i.0)
one_kind c xs (kind.Keyword w) (kind.Sign s) h i = absurd (sign_not_name s c xs i h.0.0)
one_kind c xs (kind.Number x) kind.Name h i = absurd (name_not_number c xs i.0.0 h.0)
one_kind c xs (kind.Number x) (kind.Keyword w) h i = absurd (name_not_number c xs i.0.0 h.0)
one_kind c xs (kind.Number x) (kind.Number y) h i = ap kind.Number (same_value x y (length (c ∷ xs)) (length (c ∷ xs)) (sym h.1 ∙ i.1))
one_kind c xs (kind.Number x) kind.Text h i = absurd (number_not_quote c xs h.0 i.0)
one_kind c xs (kind.Number x) (kind.Sign s) h i = absurd (sign_not_number s c xs i h.0)
one_kind c xs kind.Text kind.Name h i = absurd (name_not_quote c i.0.0 h.0)
one_kind c xs kind.Text (kind.Keyword w) h i = absurd (name_not_quote c i.0.0 h.0)
one_kind c xs kind.Text (kind.Number x) h i = absurd (number_not_quote c xs i.0 h.0)
one_kind c xs kind.Text kind.Text h i = refl
one_kind c xs kind.Text (kind.Sign s) h i = absurd (sign_not_quote s c xs i h.0)
one_kind c xs (kind.Sign s) kind.Name h i = absurd (sign_not_name s c xs h i.0.0)
one_kind c xs (kind.Sign s) (kind.Keyword w) h i = absurd (sign_not_name s c xs h i.0.0)
one_kind c xs (kind.Sign s) (kind.Number x) h i = absurd (sign_not_number s c xs h i.0)
one_kind c xs (kind.Sign s) kind.Text h i = absurd (sign_not_quote s c xs h i.0)
one_kind c xs (kind.Sign s) (kind.Sign t) h i = ap kind.Sign (same_sign s t c xs h i)
one_kind c xs kind.Newline k h i = absurd h
one_kind c xs kind.Indent k h i = absurd h
one_kind c xs kind.Dedent k h i = absurd h
one_kind c xs j kind.Newline h i = absurd i
one_kind c xs j kind.Indent h i = absurd i
one_kind c xs j kind.Dedent h i = absurd i

-- ---- no token begins so
-- what begins no token
record IsGap (c : ℕ) : Type 0 where
  name : begins_name c ≡ true → ⊥
  number : (xs : List ℕ) → begins_number c xs ≡ true → ⊥
  quote : is_quote c ≡ true → ⊥
  short : (s : Symbol) → short_sign c ≡ Some s → ⊥
  long : (d : ℕ) (s : Symbol) → long_sign c d ≡ Some s → ⊥

no_sign : (c : ℕ) → IsGap c → (s : Symbol) (xs : List ℕ) → IsSign s (c ∷ xs) → ⊥
no_sign c gap s [] h = gap.short s h
no_sign c gap s (d ∷ []) h = gap.long d s h
no_sign c gap s (d ∷ e ∷ xs) h = h

no_word : (c : ℕ) → IsGap c → (k : TokenKind) (xs : List ℕ) → IsWord k (c ∷ xs) → ⊥
no_word c gap kind.Name xs h = gap.name h.0.0
no_word c gap (kind.Keyword w) xs h = gap.name h.0.0
no_word c gap (kind.Number x) xs h = gap.number xs h.0
no_word c gap kind.Text xs h = gap.quote h.0
no_word c gap (kind.Sign s) xs h = no_sign c gap s xs h
no_word c gap kind.Newline xs h = h
no_word c gap kind.Indent xs h = h
no_word c gap kind.Dedent xs h = h

false_true : false ≡ true → ⊥
false_true e = cc

number_32 : (xs : List ℕ) → begins_number 32 xs ≡ true → ⊥
number_32 [] e = false_true e
number_32 (x ∷ xs) e = false_true e

number_9 : (xs : List ℕ) → begins_number 9 xs ≡ true → ⊥
number_9 [] e = false_true e
number_9 (x ∷ xs) e = false_true e

number_35 : (xs : List ℕ) → begins_number 35 xs ≡ true → ⊥
number_35 [] e = false_true e
number_35 (x ∷ xs) e = false_true e

number_10 : (xs : List ℕ) → begins_number 10 xs ≡ true → ⊥
number_10 [] e = false_true e
number_10 (x ∷ xs) e = false_true e

number_13 : (xs : List ℕ) → begins_number 13 xs ≡ true → ⊥
number_13 [] e = false_true e
number_13 (x ∷ xs) e = false_true e

gap_32 : IsGap 32
gap_32 = record { name = λ e. false_true (name_ascii 32 (omega arith) e); number = number_32; quote = false_true; short = none-some; long = λ d. none-some }

gap_9 : IsGap 9
gap_9 = record { name = λ e. false_true (name_ascii 9 (omega arith) e); number = number_9; quote = false_true; short = none-some; long = λ d. none-some }

gap_35 : IsGap 35
gap_35 = record { name = λ e. false_true (name_ascii 35 (omega arith) e); number = number_35; quote = false_true; short = none-some; long = λ d. none-some }

gap_10 : IsGap 10
gap_10 = record { name = λ e. false_true (name_ascii 10 (omega arith) e); number = number_10; quote = false_true; short = none-some; long = λ d. none-some }

gap_13 : IsGap 13
gap_13 = record { name = λ e. false_true (name_ascii 13 (omega arith) e); number = number_13; quote = false_true; short = none-some; long = λ d. none-some }

-- a blank, # or a character of a line end
pub data IsBetweenTokens (c : ℕ) : Type 0 where
  space : c ≡ 32 → IsBetweenTokens c
  tab : c ≡ 9 → IsBetweenTokens c
  hash : c ≡ 35 → IsBetweenTokens c
  feed : c ≡ 10 → IsBetweenTokens c
  return : c ≡ 13 → IsBetweenTokens c

is_gap : (c : ℕ) → IsBetweenTokens c → IsGap c
is_gap c (space e) = subst IsGap (sym e) gap_32
is_gap c (tab e) = subst IsGap (sym e) gap_9
is_gap c (hash e) = subst IsGap (sym e) gap_35
is_gap c (feed e) = subst IsGap (sym e) gap_10
is_gap c (return e) = subst IsGap (sym e) gap_13

pub no_token : (c : ℕ) → IsBetweenTokens c → (k : TokenKind) (xs : List ℕ) → IsWord k (c ∷ xs) → ⊥
no_token c between k xs h = no_word c (is_gap c between) k xs h
