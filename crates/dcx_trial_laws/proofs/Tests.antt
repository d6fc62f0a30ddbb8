-- What the tests on pieces tell of the characters.
use Rattle.std.proofs.Common.{◌≡◌, ℕ, suc, ◌+◌, ◌<◌, Bool, true, false, eqb, not, ◌&&◌, ◌||◌, List, [], ◌∷◌, ◌++◌, length, add-zero, one-add, None, refl, sym, ap, ap₂, ◌∙◌, arith}
use Rattle.std.specs.Prelude.{nat_lt}
use Rattle.std.specs.List.{list_all}
use Rattle.std.specs.Char.{is_ascii_digit, digit_value}
use Rattle.std.specs.Str.Parse.{AllDigits}
use Rattle.std.proofs.lemmas.Bool.Decides.{nat_tests}
use Rattle.std.proofs.lemmas.Str.Parse.{digit_from_value}
use Rattle.std.proofs.lemmas.Bool.{and_parts, not-true}
use Rattle.unicode_ident.specs.Ident.{is_xid_continue}
use Rattle.unicode_ident.proofs.IdentLemmas.{is_xid_start-ascii, is_xid_continue-ascii}
use Rattle.dcx_tokens.specs.Front.{run_of, is_blank, begins_name, begins_number, ends_line, sign_front}
use Rattle.dcx_tokens.specs.Number.{is_spoiled}
use Rattle.dcx_tokens.specs.Position.{start_of_text, moved_over, next_at}
use Rattle.dcx_trial_laws.proofs.Pieces.{next_of, further, begins_token, is_single, begins_word, continues_word, word_goes_on, ends_word, ends_number}

-- ---- the first character of a token
pub record IsFront (c : ℕ) : Type 0 where
  pub no_feed : eqb c 10 ≡ false
  pub no_return : eqb c 13 ≡ false
  pub no_blank : is_blank c ≡ false
  pub no_hash : eqb c 35 ≡ false

pub front_is : (c : ℕ) → begins_token c ≡ true → IsFront c
front_is c e =
    let one = and_parts (not (eqb c 10)) (not (eqb c 13) && (not (is_blank c) && not (eqb c 35))) e in
    let two = and_parts (not (eqb c 13)) (not (is_blank c) && not (eqb c 35)) one.1 in
    let three = and_parts (not (is_blank c)) (not (eqb c 35)) two.1 in
    record { no_feed = not-true (eqb c 10) one.0; no_return = not-true (eqb c 13) two.0; no_blank = not-true (is_blank c) three.0; no_hash = not-true (eqb c 35) three.1 }

pub no_line_end : (c : ℕ) (cs : List ℕ) → IsFront c → ends_line c cs ≡ false
no_line_end c [] f = f.no_feed
no_line_end c (d ∷ ds) f = ap₂ (λ a b. a || (b && eqb d 10)) f.no_feed f.no_return

-- ---- characters of one byte
pub record IsOne (c : ℕ) : Type 0 where
  pub small : c < 128
  pub test : nat_lt c 128 ≡ true
  pub no_feed : eqb c 10 ≡ false

pub one_is : (c : ℕ) → is_single c ≡ true → IsOne c
one_is c e =
    let h = and_parts (nat_lt c 128) (not (eqb c 10)) e in
    let t = h.0 in
    record { small = grind (arith, nat_tests, t); test = t; no_feed = not-true (eqb c 10) h.1 }

-- the type of a value; what a position and a front of a text are has no name outside their crate
abbrev pub type_of : {A : Type 0} → A → Type 0
type_of {A} x = A

abbrev pub Position : Type 0
Position = type_of start_of_text

abbrev pub Front : Type 0
Front = type_of (sign_front None)

next_single : (at : Position) (c : ℕ) → IsOne c → next_at at c ≡ record { offset = at.offset + 1; place = further at.place 1 }
next_single at c h = rw (h.test, h.no_feed) refl

pub moved_single : (cs : List ℕ) (at : Position) → list_all is_single cs ≡ true → moved_over at cs ≡ record { offset = at.offset + length cs; place = further at.place (length cs) }
moved_single [] at e = λ i. record { offset = sym (add-zero at.offset) i; place = record { line = at.place.line; column = sym (add-zero at.place.column) i } }
moved_single (c ∷ cs) at e =
    let h = and_parts (is_single c) (list_all is_single cs) e in
    let o : at.offset + 1 + length cs ≡ at.offset + suc (length cs) = omega arith in
    let p : at.place.column + 1 + length cs ≡ at.place.column + suc (length cs) = omega arith in
    ap (λ (x : Position). moved_over x cs) (next_single at c (one_is c h.0))
    ∙ moved_single cs (record { offset = at.offset + 1; place = further at.place 1 }) h.1
    ∙ (λ i. record { offset = o i; place = record { line = at.place.line; column = p i } })

-- ---- runs of characters
pub run_none : (p : ℕ → Bool) (cs : List ℕ) → p (next_of cs) ≡ false → run_of p cs ≡ 0
run_none p [] e = refl
run_none p (c ∷ cs) e = rw e refl

pub word_begins : (c : ℕ) → c < 128 → begins_word c ≡ true → begins_name c ≡ true
word_begins c small e = ap (λ b. b || eqb c 95) (is_xid_start-ascii c small) ∙ e

pub no_word_begins : (c : ℕ) → c < 128 → begins_word c ≡ false → begins_name c ≡ false
no_word_begins c small e = ap (λ b. b || eqb c 95) (is_xid_start-ascii c small) ∙ e

small_is : (c : ℕ) → nat_lt c 128 ≡ true → c < 128
small_is c t = grind (arith, nat_tests, t)

goes_on : (c : ℕ) → word_goes_on c ≡ true → is_xid_continue c ≡ true
goes_on c e = let h = and_parts (nat_lt c 128) (continues_word c) e in is_xid_continue-ascii c (small_is c h.0) ∙ h.1

pub stops_word : (d : ℕ) → ends_word d ≡ true → is_xid_continue d ≡ false
stops_word d e = let h = and_parts (nat_lt d 128) (not (continues_word d)) e in is_xid_continue-ascii d (small_is d h.0) ∙ not-true (continues_word d) h.1

pub run_word : (w rest : List ℕ) → list_all word_goes_on w ≡ true → ends_word (next_of rest) ≡ true → run_of is_xid_continue (w ++ rest) ≡ length w
run_word [] rest all e = run_none is_xid_continue rest (stops_word (next_of rest) e)
run_word (c ∷ w) rest all e =
    let h = and_parts (word_goes_on c) (list_all word_goes_on w) all in
    rw (goes_on c h.0, one-add) (ap suc (run_word w rest h.1 e))

-- ---- digits
pub is_digit : (c : ℕ) → digit_value c < 10 → is_ascii_digit c ≡ true
is_digit c h = let k = digit_from_value c h in grind (arith, nat_tests, k)

pub record IsDigit (c : ℕ) : Type 0 where
  pub front : IsFront c
  pub small : c < 128
  pub single : is_single c ≡ true
  pub no_word : begins_word c ≡ false
  pub digit : is_ascii_digit c ≡ true

no_feed_digit : (c : ℕ) → is_ascii_digit c ≡ true → eqb c 10 ≡ false
no_feed_digit c e = grind (arith, nat_tests, e)

no_return_digit : (c : ℕ) → is_ascii_digit c ≡ true → eqb c 13 ≡ false
no_return_digit c e = grind (arith, nat_tests, e)

no_blank_digit : (c : ℕ) → is_ascii_digit c ≡ true → is_blank c ≡ false
no_blank_digit c e = grind (arith, nat_tests, e)

no_hash_digit : (c : ℕ) → is_ascii_digit c ≡ true → eqb c 35 ≡ false
no_hash_digit c e = grind (arith, nat_tests, e)

no_word_digit : (c : ℕ) → is_ascii_digit c ≡ true → begins_word c ≡ false
no_word_digit c e = grind (arith, nat_tests, e)

small_digit : (c : ℕ) → is_ascii_digit c ≡ true → nat_lt c 128 ≡ true
small_digit c e = grind (arith, nat_tests, e)

pub digit_is : (c : ℕ) → is_ascii_digit c ≡ true → IsDigit c
digit_is c e =
    let f = no_feed_digit c e in
    record {
      front = record { no_feed = f; no_return = no_return_digit c e; no_blank = no_blank_digit c e; no_hash = no_hash_digit c e };
      small = small_is c (small_digit c e);
      single = ap₂ (λ a b. a && not b) (small_digit c e) f;
      no_word = no_word_digit c e;
      digit = e;
    }

pub digits_single : (ds : List ℕ) → AllDigits 10 ds → list_all is_single ds ≡ true
digits_single [] all = refl
digits_single (c ∷ cs) all = ap₂ ◌&&◌ (digit_is c (is_digit c all.0)).single (digits_single cs all.1)

pub unspoiled : (rest : List ℕ) → ends_number (next_of rest) ≡ true → is_spoiled rest ≡ false
unspoiled [] e = refl
unspoiled (d ∷ ds) e =
    let h = and_parts (ends_word d) (not (eqb d 46)) e in
    ap₂ ◌||◌ (stops_word d h.0) (not-true (eqb d 46) h.1)

-- a character begins no number where it begins none in front of the next one
pub no_number : (c : ℕ) (rest : List ℕ) → begins_number c (next_of rest ∷ []) ≡ false → begins_number c rest ≡ false
no_number c [] e = by (is_ascii_digit c) e
  where
    by : (b : Bool) → (b || (eqb c 46 && false)) ≡ false → b ≡ false
    by true h = absurd (cc)
    by false h = refl
no_number c (d ∷ ds) e = e
