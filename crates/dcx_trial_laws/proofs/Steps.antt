-- What the step that reads a piece leaves.
use Rattle.std.proofs.Common.{◌≡◌, ℕ, ◌+◌, ◌-◌, ◌^◌, ◌<◌, pos, Bool, true, false, cond, eqb, ◌&&◌, List, [], ◌∷◌, ◌++◌, length, take, decimal, append-nil}
use Rattle.std.proofs.Common.{one-add, length-append, Option, Some, None, is_none, refl, ap, ◌∙◌, subst, arith}
use Rattle.std.specs.Prelude.{Result, Ok}
use Rattle.std.specs.List.{list_all}
use Rattle.std.specs.Str.Parse.{AllDigits}
use Rattle.std.proofs.Math.Seq.{take-append_seam}
use Rattle.std.proofs.lemmas.Bool.Decides.{nat_tests}
use Rattle.std.proofs.lemmas.List.{length-take}
use Rattle.std.proofs.lemmas.Fmt.{decimal_is_IsNumeral}
use Rattle.std.proofs.lemmas.Bool.{and_parts}
use Rattle.unicode_ident.specs.Ident.{is_xid_continue}
use Rattle.dcx_math.specs.Rational.{whole}
use Rattle.dcx_atom.specs.Formed.{frac_at}
use Rattle.dcx_shape.specs.declared.place.Place.{Place}
use Rattle.dcx_tokens.specs.declared.fault.ReadFault.{ReadFault}
use Rattle.dcx_tokens.specs.declared.token.Keyword.{Keyword}
use Rattle.dcx_tokens.specs.declared.token.Symbol.{Symbol}
use Rattle.dcx_tokens.specs.declared.token.Token.{Token}
use Rattle.dcx_tokens.specs.declared.token.TokenKind.{TokenKind}
use Rattle.dcx_tokens.specs.declared.token.TokenKind.TheVariants as kind
use Rattle.dcx_tokens.specs.Front.{run_of, is_blank, is_quote, begins_number, ends_line, long_sign, short_sign, or_else, sign_at, sign_front, front_at}
use Rattle.dcx_tokens.specs.Layout.{opens, closes}
use Rattle.dcx_tokens.specs.Laws.{brackets_behind}
use Rattle.dcx_tokens.specs.Lexeme.{kind_if, word_kind, number_or, token_at}
use Rattle.dcx_tokens.specs.Number.{number_at}
use Rattle.dcx_tokens.specs.Word.{keyword_of}
use Rattle.dcx_tokens.specs.Position.{moved_over}
use Rattle.dcx_tokens.specs.State.{State, start as first_state, Answer, and_then, put, is_full, dedented, line_begun, nested, nested_by, led, token_read, step}
use Rattle.dcx_tokens.proofs.Kept.{token_next, line_next}
use Rattle.dcx_token_laws.proofs.Basics.{feed_ends}
use Rattle.dcx_token_laws.proofs.Firsts.{short_len}
use Rattle.dcx_token_laws.proofs.Spelled.{digit_begins}
use Rattle.dcx_token_laws.proofs.Steps.{line_end_front, blank_front, name_front, number_front, sign_front_is, name_token, number_token, sign_token}
use Rattle.dcx_trial_laws.proofs.Numbers.{number_is}
use Rattle.dcx_trial_laws.proofs.Pieces.{Spot, next_of, further, begins_token, is_single, begins_word, word_goes_on, ends_word, ends_number}
use Rattle.dcx_trial_laws.proofs.Tests.{type_of, Position, Front, front_is, no_line_end, one_is, moved_single, run_none, run_word, word_begins}
use Rattle.dcx_trial_laws.proofs.Tests.{no_word_begins, is_digit, digit_is, digits_single, unspoiled, no_number}

-- how far a line is read: it has a token, or nothing stands in it
abbrev pub Line : Type 0
Line = type_of first_state.line

-- the line of a token
abbrev begun_line : Line
begun_line = (dedented first_state 0).line

abbrev pub line_at : Bool → Line
line_at true = begun_line
line_at false = first_state.line

-- no indentation stands
abbrev pub state_at : List Token → List Place → ℕ → Spot → State
state_at ts bs o s = record { tokens = ts; indents = []; brackets = bs; line = line_at s.begun; at = record { offset = o; place = s.place } }

abbrev pub token_from : TokenKind → ℕ → ℕ → Place → Token
token_from k o n p = record { kind = k; start = o; end = o + n; place = p }

-- the same spot with its line begun
abbrev pub started : Spot → ℕ → Spot
started s depth = record { depth = depth; begun = true; place = s.place }

-- ---- tokens
-- what a token leaves behind which the text is read up to a position
abbrev after : List Token → List Place → ℕ → Spot → (depth : ℕ) → TokenKind → Position → (count : ℕ) → Answer ℕ
after ts bs o s depth k x count = (
  record {
    tokens = ts ++ record { kind = k; start = o; end = x.offset; place = s.place } ∷ [];
    indents = [];
    brackets = bs;
    line = begun_line;
    at = x;
  },
  Ok count,
)

-- the same where it has so many characters of one byte
abbrev pub token_left : List Token → List Place → ℕ → Spot → (depth : ℕ) → TokenKind → (n : ℕ) → Answer ℕ
token_left ts bs o s depth k n = (state_at (ts ++ token_from k o n s.place ∷ []) bs (o + n) (record { depth = depth; begun = true; place = further s.place n }), Ok n)

abbrev word_told : List ℕ → ℕ → Result (TokenKind × ℕ) ReadFault
word_told x m = Ok (word_kind x, m)

abbrev sign_told : Symbol → ℕ → Result (TokenKind × ℕ) ReadFault
sign_told symbol m = Ok (kind.Sign symbol, m)

-- what so many blanks behind the first leave
abbrev blanks_left : List Token → List Place → ℕ → (depth : ℕ) → Place → List ℕ → ℕ → Answer ℕ
blanks_left ts bs o depth place rest m = (
  record {
    tokens = ts;
    indents = [];
    brackets = bs;
    line = led begun_line (take (1 + m) (32 ∷ rest));
    at = moved_over (record { offset = o; place = place }) (take (1 + m) (32 ∷ rest));
  },
  Ok (1 + m),
)

module _ (ts : List Token) (bs : List Place) (o : ℕ) (s : Spot) where
  abbrev begun_with : List Token → Answer (Unit {0})
  begun_with xs = (state_at xs bs o (started s s.depth), Ok tt)

  begins : line_begun (state_at ts bs o s) ≡ (state_at ts bs o (started s s.depth), Ok tt)
  begins = by s.begun
    where
      by : (b : Bool) → line_begun (state_at ts bs o (record { depth = s.depth; begun = b; place = s.place })) ≡ (state_at ts bs o (started s s.depth), Ok tt)
      by true = refl
      by false = ap begun_with (append-nil ts)

  -- a token of one kind, of characters of one byte
  token_step : (front : Front) (c : ℕ) (cs w : List ℕ) (k : TokenKind) (bs' : List Place) (depth : ℕ)
      → token_at s.place front c cs ≡ Ok (k, length w) → take (length w) (c ∷ cs) ≡ w
      → nested (state_at ts bs o (started s s.depth)) k ≡ (state_at ts bs' o (started s depth), Ok tt) → list_all is_single w ≡ true
      → token_read (state_at ts bs o s) front c cs ≡ token_left ts bs' o s depth k (length w)
  token_step front c cs w k bs' depth told took nest single =
      ap (λ (a : Answer (Unit {0})). and_then a (line_next front c cs)) begins
      ∙ ap (λ (r : Result (TokenKind × ℕ) ReadFault). and_then (state_at ts bs o (started s s.depth), r) (token_next c cs)) told
      ∙ ap (λ (a : Answer (Unit {0})). and_then {B = ℕ} a (λ v _. (put v k (take (length w) (c ∷ cs)), Ok (length w)))) nest
      ∙ ap (λ (x : List ℕ). after ts bs' o s depth k (moved_over (record { offset = o; place = s.place }) x) (length w)) took
      ∙ ap (λ (x : Position). after ts bs' o s depth k x (length w)) (moved_single w (record { offset = o; place = s.place }) single)

  -- ---- words
  nested_word : (u : State) (found : Option Keyword) → nested u (kind_if found) ≡ (u, Ok tt)
  nested_word u (Some k) = refl
  nested_word u None = refl

  pub word_step : (c : ℕ) (w rest : List ℕ) → begins_token c ≡ true → begins_word c ≡ true → list_all word_goes_on w ≡ true → list_all is_single (c ∷ w) ≡ true
      → ends_word (next_of rest) ≡ true → step (state_at ts bs o s) c (w ++ rest) ≡ token_left ts bs o s s.depth (word_kind (c ∷ w)) (length (c ∷ w))
  word_step c w rest first begins goes single ends =
      let f = front_is c first in
      let small = (one_is c (and_parts (is_single c) (list_all is_single w) single).0).small in
      let l = no_line_end c (w ++ rest) f in
      let n = word_begins c small begins in
      let count : 1 + run_of is_xid_continue (w ++ rest) ≡ length (c ∷ w) = ap (λ m. 1 + m) (run_word w rest goes ends) ∙ one-add (length w) in
      let took = take-append_seam (c ∷ w) rest in
      let told : token_at s.place (front_at c (w ++ rest)) c (w ++ rest) ≡ Ok (word_kind (c ∷ w), length (c ∷ w)) =
      name_token s.place c (w ++ rest) l f.no_blank f.no_hash n ∙ ap (λ m. word_told (take m (c ∷ (w ++ rest))) m) count ∙ ap (λ x. word_told x (length (c ∷ w))) took in
      name_front (state_at ts bs o s) c (w ++ rest) l f.no_blank f.no_hash n
      ∙ token_step (front_at c (w ++ rest)) c (w ++ rest) (c ∷ w) (word_kind (c ∷ w)) bs s.depth told took
      (nested_word (state_at ts bs o (started s s.depth)) (keyword_of (c ∷ w))) single

  -- ---- numbers
  pub number_step : (k : ℕ) (c : ℕ) (w rest : List ℕ) → k < 2 ^ 64 → decimal k ≡ c ∷ w → ends_number (next_of rest) ≡ true
      → step (state_at ts bs o s) c (w ++ rest) ≡ token_left ts bs o s s.depth (kind.Number (frac_at (whole (pos k)))) (length (c ∷ w))
  number_step k c w rest small is ends =
      let all = subst (AllDigits 10) is (decimal_is_IsNumeral k small).0.1 in
      let d = digit_is c (is_digit c all.0) in
      let f = d.front in
      let l = no_line_end c (w ++ rest) f in
      let n = no_word_begins c d.small d.no_word in
      let b = digit_begins c (w ++ rest) d.digit in
      let found : number_at ((c ∷ w) ++ rest) ≡ Some (frac_at (whole (pos k)), length (c ∷ w)) =
      subst (λ (ds : List ℕ). number_at (ds ++ rest) ≡ Some (frac_at (whole (pos k)), length ds)) is (number_is k small rest (unspoiled rest ends)) in
      let told : token_at s.place (front_at c (w ++ rest)) c (w ++ rest) ≡ Ok (kind.Number (frac_at (whole (pos k))), length (c ∷ w)) =
      number_token s.place c (w ++ rest) l f.no_blank f.no_hash n b ∙ ap (number_or s.place) found in
      number_front (state_at ts bs o s) c (w ++ rest) l f.no_blank f.no_hash n b
      ∙ token_step (front_at c (w ++ rest)) c (w ++ rest) (c ∷ w) (kind.Number (frac_at (whole (pos k)))) bs s.depth told (take-append_seam (c ∷ w) rest) refl (digits_single (c ∷ w) all)

  -- ---- signs
  -- the brackets that are open behind a sign
  abbrev pub brackets_by : (opens closes : Bool) → List Place
  brackets_by opens closes = cond opens (bs ++ s.place ∷ []) (cond closes (take (length bs - 1) bs) bs)

  not_full : length bs ≡ s.depth → s.depth < 64 → is_full (state_at ts bs o (started s s.depth)) ≡ false
  not_full depth room = grind (arith, nat_tests, depth, room)

  nested_sign : (symbol : Symbol) → length bs ≡ s.depth → s.depth < 64
      → nested (state_at ts bs o (started s s.depth)) (kind.Sign symbol) ≡ (state_at ts (brackets_by (opens symbol) (closes symbol)) o (started s (brackets_behind s.depth (kind.Sign symbol))), Ok tt)
  nested_sign symbol depth room = by (opens symbol) (closes symbol) refl refl
    where
      by : (a b : Bool) → opens symbol ≡ a → closes symbol ≡ b → nested_by (state_at ts bs o (started s s.depth)) symbol
          ≡ (state_at ts (brackets_by (opens symbol) (closes symbol)) o (started s s.depth), Ok tt)
      by true b ea eb = rw (ea, not_full depth room) refl
      by false true ea eb = rw (ea, eb) refl
      by false false ea eb = rw (ea, eb) refl

  pub depth_by : (symbol : Symbol) → length bs ≡ s.depth → length (brackets_by (opens symbol) (closes symbol)) ≡ brackets_behind s.depth (kind.Sign symbol)
  depth_by symbol depth = by (opens symbol) (closes symbol)
    where
      by : (a b : Bool) → length (brackets_by a b) ≡ cond a (s.depth + 1) (cond b (s.depth - 1) s.depth)
      by true b = omega (arith, depth, length-append bs (s.place ∷ []))
      by false true = omega (arith, depth, length-take (length bs - 1) bs)
      by false false = depth

  alone : (c : ℕ) (rest : List ℕ) (symbol : Symbol) → short_sign c ≡ Some symbol → is_none (long_sign c (next_of rest)) ≡ true → sign_at c rest ≡ Some symbol
  unfolding sign_at
  alone c [] symbol is none = is
  alone c (d ∷ ds) symbol is none = by (long_sign c d) none
    where
      by : (found : Option Symbol) → is_none found ≡ true → or_else found (short_sign c) ≡ Some symbol
      by (Some x) e = absurd (cc)
      by None e = is

  pub sign_step : (c : ℕ) (rest : List ℕ) (symbol : Symbol) → begins_token c ≡ true → begins_word c ≡ false → is_single c ≡ true → begins_number c (next_of rest ∷ []) ≡ false
      → is_quote c ≡ false → short_sign c ≡ Some symbol → is_none (long_sign c (next_of rest)) ≡ true → length bs ≡ s.depth → s.depth < 64
      → step (state_at ts bs o s) c rest ≡ token_left ts (brackets_by (opens symbol) (closes symbol)) o s (brackets_behind s.depth (kind.Sign symbol)) (kind.Sign symbol) 1
  sign_step c rest symbol first no_word single no_digit no_quote is none depth room =
      let f = front_is c first in
      let l = no_line_end c rest f in
      let told : token_at s.place (sign_front (Some symbol)) c rest ≡ Ok (kind.Sign symbol, 1) = sign_token s.place c rest symbol ∙ ap (sign_told symbol) (short_len c symbol is) in
      sign_front_is (state_at ts bs o s) c rest (Some symbol) l f.no_blank f.no_hash (no_word_begins c (one_is c single).small no_word) (no_number c rest no_digit) no_quote
      (alone c rest symbol is none)
      ∙ token_step (sign_front (Some symbol)) c rest (c ∷ []) (kind.Sign symbol) (brackets_by (opens symbol) (closes symbol)) (brackets_behind s.depth (kind.Sign symbol)) told refl
      (nested_sign symbol depth room) (ap (λ b. b && true) single)

-- ---- between tokens
module _ (ts : List Token) (bs : List Place) (o depth : ℕ) (place : Place) where
  pub blank_step : (rest : List ℕ) → is_blank (next_of rest) ≡ false
      → step (state_at ts bs o (record { depth = depth; begun = true; place = place })) 32 rest
      ≡ (state_at ts bs (o + 1) (record { depth = depth; begun = true; place = further place 1 }), Ok 1)
  blank_step rest other = blank_front (state_at ts bs o (record { depth = depth; begun = true; place = place })) 32 rest (ends rest) refl
      ∙ ap (blanks_left ts bs o depth place rest) (run_none is_blank rest other)
    where
      ends : (cs : List ℕ) → ends_line 32 cs ≡ false
      ends [] = refl
      ends (d ∷ ds) = refl

  abbrev pub next_line : Place
  next_line = record { line = place.line + 1; column = 1 }

  pub line_end_step : (rest : List ℕ) → length bs ≡ depth → eqb depth 0 ≡ true
      → step (state_at ts bs o (record { depth = depth; begun = true; place = place })) 10 rest
      ≡ (state_at (ts ++ token_from kind.Newline o 1 place ∷ []) bs (o + 1) (record { depth = depth; begun = false; place = next_line }), Ok 1)
  line_end_step rest is none = line_end_front (state_at ts bs o (record { depth = depth; begun = true; place = place })) 10 rest (feed_ends rest) ∙ rw (is, none) refl
