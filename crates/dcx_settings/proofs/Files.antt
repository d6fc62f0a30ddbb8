-- Settings files: where digits are divided by 0, where lines begin, and why bytes are refused.
use Rattle.std.proofs.Common.{◌≡◌, ℕ, zero, suc, ◌+◌, ◌-◌, ◌<◌, ◌≤◌, Bool, true, false, List, [], ◌∷◌, ◌++◌, map, length, take, drop, Option, None, Result, Ok}
use Rattle.std.proofs.Common.{Err, refl, sym, ap, ◌∙◌, subst, arith, append_assoc, length-append, ⊎_elim, IsTrue, ◌⊎◌}
use Rattle.std.specs.Prelude.{◌↔◌, ⊤}
use Rattle.std.proofs.Math.Seq.{drop-append_seam, take-length}
use Rattle.std.proofs.lemmas.List.{length-map, take-append-drop, drop-map, length-drop}
use Rattle.dcx_shape.specs.declared.place.Place.{Place}
use Rattle.dcx_tokens.specs.declared.fault.ReadFault.{ReadFault}
use Rattle.dcx_tokens.specs.declared.fault.ReadFault.TheVariants as fault
use Rattle.dcx_tokens.specs.declared.token.Token.{Token}
use Rattle.dcx_tokens.specs.File.{IsText}
use Rattle.dcx_tokens.specs.Reading.{IsLexed}
use Rattle.dcx_settings.specs.declared.settings.SettingItem.{SettingItem}
use Rattle.dcx_settings.specs.Terminal.{Terminal, comma, semicolon, close_square, newline, terminals, terminal_of}
use Rattle.dcx_settings.specs.Grammar.{Size, integer, point, quotient, size_text, sign_text, Number, number_text, Value, one, row, matrix, preceded, separated}
use Rattle.dcx_settings.specs.Grammar.{bracketed, row_text, value_text, Item, item_text, Line, nothing, items, line_text, settings_text, Every}
use Rattle.dcx_settings.specs.Reading.{IsUnexpected}
use Rattle.dcx_settings.specs.Meaning.{AreLinesOf, AreSettings}
use Rattle.dcx_settings.specs.File.{place_at, BeginsDividedByZero, DividesByZero, NeverDividesByZero, FirstDividesByZero, HasFault, divided, behind_line}
use Rattle.dcx_settings.specs.File.{AreNoSettings, unexpected, too_many, IsTokensReading, HasAllTokens, IsRefused, no_tokens, no_settings, most_settings}
use Rattle.dcx_settings.specs.File.{IsSettingsReading}

-- ---- lines
-- a token inside a line
abbrev IsInner : Terminal → Type 0
IsInner newline = ⊥
IsInner _ = ⊤

every_append : (xs ys : List Terminal) → Every IsInner xs → Every IsInner ys → Every IsInner (xs ++ ys)
every_append [] ys h k = k
every_append (x ∷ xs) ys h k = (h.0, every_append xs ys h.1 k)

-- the first line end stands behind inner tokens
behind_inner : (xs us : List Terminal) → Every IsInner xs → behind_line (xs ++ newline ∷ us) ≡ us
behind_inner [] us h = refl
behind_inner (newline ∷ xs) us h = absurd h.0
behind_inner (t ∷ xs) us h = behind_inner xs us h.1

inner_sign : (s : Bool) → Every IsInner (sign_text s)
inner_sign true = (tt, tt)
inner_sign false = tt

inner_size : (x : Size) → Every IsInner (size_text x)
inner_size (integer n) = (tt, tt)
inner_size (point x) = (tt, tt)
inner_size (quotient n d) = (tt, (tt, (tt, tt)))

inner_number : (x : Number) → Every IsInner (number_text x)
inner_number x = every_append (sign_text x.is_negative) (size_text x.size) (inner_sign x.is_negative) (inner_size x.size)

module _ {A : Type 0} (text : A → List Terminal) (inner : (a : A) → Every IsInner (text a)) (by : Terminal) (between : IsInner by) where
  inner_preceded : (xs : List A) → Every IsInner (preceded by (map text xs))
  inner_preceded [] = tt
  inner_preceded (x ∷ xs) = (between, every_append (text x) (preceded by (map text xs)) (inner x) (inner_preceded xs))

  inner_separated : (xs : List A) → Every IsInner (separated by (map text xs))
  inner_separated [] = tt
  inner_separated (x ∷ xs) = every_append (text x) (preceded by (map text xs)) (inner x) (inner_preceded xs)

inner_bracketed : (texts : List (List Terminal)) → Every IsInner (separated comma texts) → Every IsInner (bracketed texts)
inner_bracketed texts h = (tt, every_append (separated comma texts) (close_square ∷ []) h (tt, tt))

inner_row : (xs : List Number) → Every IsInner (row_text xs)
inner_row xs = inner_bracketed (map number_text xs) (inner_separated number_text inner_number comma tt xs)

inner_value : (v : Value) → Every IsInner (value_text v)
inner_value (one x) = inner_number x
inner_value (row xs) = inner_row xs
inner_value (matrix rows) = inner_bracketed (map row_text rows) (inner_separated row_text inner_row comma tt rows)

inner_item : (i : Item) → Every IsInner (item_text i)
inner_item i = (tt, (tt, inner_value i.value))

behind-line_text : (line : Line) (us : List Terminal) → behind_line (line_text line ++ us) ≡ us
behind-line_text nothing us = refl
behind-line_text (items is) us =
    let text = separated semicolon (map item_text is) in
    ap behind_line (append_assoc text (newline ∷ []) us) ∙ behind_inner text us (inner_separated item_text inner_item semicolon tt is)

-- one line further
pub next_line : (lines : List Line) (i : ℕ) → behind_line (settings_text (drop i lines)) ≡ settings_text (drop (suc i) lines)
next_line [] zero = refl
next_line (line ∷ lines) zero = behind-line_text line (settings_text lines)
next_line [] (suc i) = refl
next_line (line ∷ lines) (suc i) = next_line lines i

settings_text-append : (xs ys : List Line) → settings_text (xs ++ ys) ≡ settings_text xs ++ settings_text ys
settings_text-append [] ys = refl
settings_text-append (x ∷ xs) ys = ap (λ us. line_text x ++ us) (settings_text-append xs ys) ∙ sym (append_assoc (line_text x) (settings_text xs) (settings_text ys))

-- the lines up to the n-th and those behind it have all tokens
pub parts_of_lines : (lines : List Line) (n : ℕ) → length (settings_text lines) ≡ length (settings_text (take n lines)) + length (settings_text (drop n lines))
parts_of_lines lines n =
    ap (λ ls. length (settings_text ls)) (sym (take-append-drop n lines))
    ∙ ap length (settings_text-append (take n lines) (drop n lines))
    ∙ length-append (settings_text (take n lines)) (settings_text (drop n lines))

-- as many lines as settings
pub length-lines : (lines : List Line) (settings : List (List SettingItem)) → AreLinesOf lines settings → length lines ≡ length settings
length-lines [] [] h = refl
length-lines (l ∷ ls) (s ∷ ss) h = ap (λ k. suc k) (length-lines ls ss h.1)
length-lines [] (s ∷ ss) h = absurd h
length-lines (l ∷ ls) [] h = absurd h

-- ---- division by 0
false_is : (b : Bool) → b ≡ false → IsTrue b → ⊥
false_is b e h = cc

-- the slice from i on
slice_from : (ts : List Token) (i : ℕ) → take (length ts - i) (drop i ts) ≡ drop i ts
slice_from ts i = ap (λ n. take n (drop i ts)) (sym (length-drop i ts)) ∙ take-length (drop i ts)

from_here : (text : List ℕ) (ts : List Token) (i : ℕ) → terminals text (take (length ts - i) (drop i ts)) ≡ drop i (terminals text ts)
from_here text ts i = ap (terminals text) (slice_from ts i) ∙ sym (drop-map (terminal_of text) i ts)

pub before_or_from : (i j : ℕ) → (j < i) ⊎ (i ≤ j)
before_or_from i j = grind arith

-- digits are divided by 0 from here on, and nowhere before
pub first_at : (text : List ℕ) (ts : List Token) (i : ℕ) (b : Bool) → IsTrue b ↔ BeginsDividedByZero (terminals text (take (length ts - i) (drop i ts))) → b ≡ true
    → ((j : ℕ) → j < i → DividesByZero (terminals text ts) j → ⊥) → FirstDividesByZero (terminals text ts) i
first_at text ts i b h e none = record {
  divides = subst BeginsDividedByZero (from_here text ts i) (h.0 e);
  first = λ j d. ⊎_elim (λ l. absurd (none j l d)) (λ g. g) (before_or_from i j);
}

-- nor here
pub none_at : (text : List ℕ) (ts : List Token) (i : ℕ) (b : Bool) → IsTrue b ↔ BeginsDividedByZero (terminals text (take (length ts - i) (drop i ts))) → b ≡ false
    → ((j : ℕ) → j < i → DividesByZero (terminals text ts) j → ⊥) → (j : ℕ) → j < i + 1 → DividesByZero (terminals text ts) j → ⊥
none_at text ts i b h e none j l d = ⊎_elim (λ k. none j k d) (λ k. here (omega (arith, k, l))) (before_or_from i j)
  where
    here : j ≡ i → ⊥
    here k = false_is b e (h.1 (subst BeginsDividedByZero (ap (λ n. drop n (terminals text ts)) k ∙ sym (from_here text ts i)) d))

-- ---- tokens
-- the rest is what stands behind as many tokens as are in front of it
pub unexpected_at : (text : List ℕ) (ts rest : List Token) (place : Place) → IsUnexpected (terminals text ts) (terminals text rest)
    → place ≡ place_at text ts (length ts - length rest) → AreNoSettings text ts (fault.Unexpected place)
unexpected_at text ts rest place u e =
    let all = length-map ts (terminal_of text) in
    let left = length-map rest (terminal_of text) in
    let sum : length (terminals text ts) ≡ length u.front + length (terminals text rest) = ap length u.parts ∙ length-append u.front (terminals text rest) in
    let index : length u.front ≡ length ts - length rest = omega (arith, all, left, sum) in
    let behind : terminals text rest ≡ drop (length ts - length rest) (terminals text ts) =
    sym (drop-append_seam u.front (terminals text rest)) ∙ sym (ap (drop (length u.front)) u.parts) ∙ ap (λ i. drop i (terminals text ts)) index in
    unexpected (length ts - length rest) (subst (IsUnexpected (terminals text ts)) behind u) (ap fault.Unexpected e)

pub too_many_at : (text : List ℕ) (ts : List Token) (settings : List (List SettingItem)) (index : ℕ) (place : Place) → AreSettings (terminals text ts) settings → most_settings < length settings
    → ((lines : List Line) → settings_text lines ≡ terminals text ts → index ≡ length (settings_text (take most_settings lines))) → place ≡ place_at text ts index
    → AreNoSettings text ts (fault.TooLong place)
too_many_at text ts settings index place h many behind e =
    let l = length-lines h.lines settings h.lines_are in
    too_many h.lines h.spelled (omega (arith, l, many)) (ap fault.TooLong (e ∙ ap (place_at text ts) (behind h.lines h.spelled.text)))

pub divided_at : (text bytes : List ℕ) (ts us : List Token) (end : Option ReadFault) (i : ℕ) (place : Place) → bytes ≡ text → us ≡ ts
    → FirstDividesByZero (terminals bytes us) i → place ≡ place_at text us i → HasFault text ts end (fault.BadNumber place)
divided_at text bytes ts us end i place e d h p =
    let here = subst (λ xs. FirstDividesByZero (terminals text xs) i) d (subst (λ b. FirstDividesByZero (terminals b us) i) e h) in
    divided i here (ap fault.BadNumber (p ∙ ap (λ xs. place_at text xs i) d))

-- ---- files
refused : (bytes : List ℕ) (f : ReadFault) → IsRefused bytes f → IsSettingsReading bytes (Err f)
refused bytes fault.Memory h = tt
refused bytes f h = h

-- a fault of the tokens is that of the bytes
pub tokens_refused : (bytes text : List ℕ) (ts : List Token) (end : Option ReadFault) (f : ReadFault) → text ≡ bytes → IsText bytes → IsLexed text ts end
    → HasFault text ts end f → IsSettingsReading bytes (Err f)
tokens_refused bytes text ts end f e h l k =
    refused bytes f (no_tokens ts end (record { text = h; lexed = subst (λ b. IsLexed b ts end) e l }) (subst (λ b. HasFault b ts end f) e k))

by_answer : (bytes : List ℕ) (ts : List Token) (r : Result (List (List SettingItem)) ReadFault) → HasAllTokens bytes ts → IsTokensReading bytes ts r → IsSettingsReading bytes r
by_answer bytes ts (Ok settings) h k = record { tokens = ts; all = h; settings_are = k }
by_answer bytes ts (Err fault.Memory) h k = tt
by_answer bytes ts (Err f) h k = no_settings ts h k

-- and so is what all tokens are read as
pub tokens_read : (bytes text : List ℕ) (ts us : List Token) (end : Option ReadFault) (r : Result (List (List SettingItem)) ReadFault) → text ≡ bytes → IsText bytes → IsLexed text ts end
    → (end ≡ None) × NeverDividesByZero (terminals text ts) → us ≡ ts → IsTokensReading text us r → IsSettingsReading bytes r
tokens_read bytes text ts us end r e h l n d k =
    let lexed : IsLexed bytes ts None = subst (λ o. IsLexed bytes ts o) n.0 (subst (λ b. IsLexed b ts end) e l) in
    let all : HasAllTokens bytes ts = record { tokens = record { text = h; lexed = lexed }; never = subst (λ b. NeverDividesByZero (terminals b ts)) e n.1 } in
    by_answer bytes ts r all (subst (λ xs. IsTokensReading bytes xs r) d (subst (λ b. IsTokensReading b us r) e k))
