-- The names of a settings file have no line feed, and so the names of its settings have none.
use Rattle.std.proofs.Common.{◌≡◌, ℕ, Bool, true, false, cond, ◌&&◌, List, [], ◌∷◌, ◌++◌, map, IsUtf8, refl, sym, subst}
use Rattle.std.specs.Prelude.{⊤}
use Rattle.std.specs.List.{AllByRecursion, list_all, slice_range}
use Rattle.std.specs.Char.{is_ascii_digit}
use Rattle.dcx_frac.specs.declared.fraction.Frac.{Frac}
use Rattle.dcx_atom.specs.declared.array.Array.{Array}
use Rattle.dcx_point.specs.Pairs.{Pairs, same_name, names_of, with_array}
use Rattle.dcx_tokens.specs.declared.token.Symbol.{Symbol}
use Rattle.dcx_tokens.specs.declared.token.Symbol.TheVariants as symbols
use Rattle.dcx_tokens.specs.declared.token.Token.{Token}
use Rattle.dcx_tokens.specs.declared.token.TokenKind.{TokenKind}
use Rattle.dcx_tokens.specs.declared.token.TokenKind.TheVariants as kind
use Rattle.dcx_settings.specs.declared.settings.SettingItem.{SettingItem}
use Rattle.dcx_settings.specs.Terminal.{Terminal, name, digits, decimal, semicolon, newline, is_whole, sign_terminal, number_terminal, kind_terminal, terminals}
use Rattle.dcx_settings.specs.Grammar.{Item, Line, nothing, items, item_text, preceded, separated, line_text, settings_text}
use Rattle.dcx_settings.specs.Meaning.{AreItemsOf, IsLineOf, AreLinesOf}
use Rattle.dcx_settings.specs.File.{SpellSettings}
use Rattle.dcx_overlay.specs.Settings.{LaidOver, AreLaidOver}
use Rattle.dcx_report.proofs.OneLine.{IsLine}
use Rattle.dcx_run_laws.proofs.Tokens.{IsLineIfName, names_are_lines}

-- ---- terminals
-- a name that the grammar sees has no line feed
abbrev IsFine : Terminal → Type 0
IsFine (name bytes) = IsLine bytes
IsFine _ = ⊤

abbrev AreFine : List Terminal → Type 0
AreFine us = AllByRecursion IsFine us

symbol_fine : (s : Symbol) → IsFine (sign_terminal s)
symbol_fine symbols.Plus = tt
symbol_fine symbols.Minus = tt
symbol_fine symbols.Star = tt
symbol_fine symbols.Slash = tt
symbol_fine symbols.At = tt
symbol_fine symbols.Percent = tt
symbol_fine symbols.StarStar = tt
symbol_fine symbols.SlashSlash = tt
symbol_fine symbols.Less = tt
symbol_fine symbols.Greater = tt
symbol_fine symbols.LessEqual = tt
symbol_fine symbols.GreaterEqual = tt
symbol_fine symbols.EqualEqual = tt
symbol_fine symbols.NotEqual = tt
symbol_fine symbols.Equal = tt
symbol_fine symbols.PlusEqual = tt
symbol_fine symbols.MinusEqual = tt
symbol_fine symbols.StarEqual = tt
symbol_fine symbols.SlashEqual = tt
symbol_fine symbols.OpenRound = tt
symbol_fine symbols.CloseRound = tt
symbol_fine symbols.OpenSquare = tt
symbol_fine symbols.CloseSquare = tt
symbol_fine symbols.OpenCurly = tt
symbol_fine symbols.CloseCurly = tt
symbol_fine symbols.Comma = tt
symbol_fine symbols.Colon = tt
symbol_fine symbols.Dot = tt
symbol_fine symbols.Semicolon = tt

number_fine : (f : Frac) (bytes : List ℕ) → IsFine (number_terminal f bytes)
number_fine f bytes = by (is_whole f && list_all is_ascii_digit bytes)
  where
    by : (b : Bool) → IsFine (cond b (digits f.num) (decimal f))
    by true = tt
    by false = tt

kind_fine : (k : TokenKind) (bytes : List ℕ) → (k ≡ kind.Name → IsLine bytes) → IsFine (kind_terminal k bytes)
kind_fine kind.Name bytes h = h refl
kind_fine (kind.Keyword k) bytes h = tt
kind_fine (kind.Number f) bytes h = number_fine f bytes
kind_fine kind.Text bytes h = tt
kind_fine (kind.Sign s) bytes h = symbol_fine s
kind_fine kind.Newline bytes h = tt
kind_fine kind.Indent bytes h = tt
kind_fine kind.Dedent bytes h = tt

terminals_fine : (text : List ℕ) (utf8 : IsUtf8 text) (ts : List Token) → AllByRecursion (IsLineIfName text utf8) ts → AreFine (terminals text ts)
terminals_fine text utf8 [] h = tt
terminals_fine text utf8 (t ∷ ts) h = (kind_fine t.kind (slice_range text t.start t.end) h.0, terminals_fine text utf8 ts h.1)

parts : (us vs : List Terminal) → AreFine (us ++ vs) → AreFine us × AreFine vs
parts [] vs h = (tt, h)
parts (u ∷ us) vs h = let rest = parts us vs h.1 in ((h.0, rest.0), rest.1)

-- ---- lines
abbrev HaveLines : List Item → Type 0
HaveLines is = AllByRecursion (λ i. IsLine i.called) is

later_lines : (is : List Item) → AreFine (preceded semicolon (map item_text is)) → HaveLines is
later_lines [] h = tt
later_lines (i ∷ is) h = let p = parts (item_text i) (preceded semicolon (map item_text is)) h.1 in (p.0.0, later_lines is p.1)

all_lines : (is : List Item) → AreFine (separated semicolon (map item_text is)) → HaveLines is
all_lines [] h = tt
all_lines (i ∷ is) h = let p = parts (item_text i) (preceded semicolon (map item_text is)) h in (p.0.0, later_lines is p.1)

-- a name of a line has no line feed
abbrev pub AreNamedOnLines : List SettingItem → Type 0
AreNamedOnLines line = AllByRecursion (λ x. IsLine x.name) line

items_named : (is : List Item) (line : List SettingItem) → AreItemsOf is line → HaveLines is → AreNamedOnLines line
items_named [] [] are h = tt
items_named [] (x ∷ line) are h = absurd are
items_named (i ∷ is) [] are h = absurd are
items_named (i ∷ is) (x ∷ line) are h = (subst IsLine (sym are.0.name_is) h.0, items_named is line are.1 h.1)

line_named : (l : Line) (line : List SettingItem) → IsLineOf l line → AreFine (line_text l) → AreNamedOnLines line
line_named nothing line is h = subst AreNamedOnLines (sym is) tt
line_named (items is) line are h = items_named is line are (all_lines is (parts (separated semicolon (map item_text is)) (newline ∷ []) h).0)

lines_named : (ls : List Line) (lines : List (List SettingItem)) → AreLinesOf ls lines → AreFine (settings_text ls) → AllByRecursion AreNamedOnLines lines
lines_named [] [] are h = tt
lines_named [] (x ∷ lines) are h = absurd are
lines_named (l ∷ ls) [] are h = absurd are
lines_named (l ∷ ls) (x ∷ lines) are h = let p = parts (line_text l) (settings_text ls) h in (line_named l x are.0 p.0, lines_named ls lines are.1 p.1)

pub file_lines : (bytes : List ℕ) (lines : List (List SettingItem)) → SpellSettings bytes lines → AllByRecursion AreNamedOnLines lines
file_lines bytes lines h =
    let utf8 = h.all.tokens.text.utf8 in
    let fine = terminals_fine bytes utf8 h.tokens (names_are_lines bytes utf8 h.tokens h.all.tokens.lexed) in
    let are = h.settings_are.spelled in
    lines_named are.lines lines are.lines_are (subst AreFine (sym are.spelled.text) fine)

-- ---- settings
-- the names of each setting have no line feed
abbrev pub AreLines : List Pairs → Type 0
AreLines ss = AllByRecursion (λ s. AllByRecursion IsLine (names_of s)) ss

with_line : (ps : Pairs) (n : List ℕ) (a : Array) → AllByRecursion IsLine (names_of ps) → IsLine n → AllByRecursion IsLine (names_of (with_array ps n a))
with_line [] n a h k = (k, tt)
with_line (p ∷ ps) n a h k = by (same_name n p.0) (with_line ps n a h.1 k)
  where
    by : (b : Bool) → AllByRecursion IsLine (names_of (with_array ps n a)) → AllByRecursion IsLine (names_of (cond b ((p.0, a) ∷ ps) (p ∷ with_array ps n a)))
    by true rest = h
    by false rest = (h.0, rest)

laid_lines : (s : Pairs) (line : List SettingItem) (t : Pairs) → LaidOver s line t → AllByRecursion IsLine (names_of s) → AreNamedOnLines line → AllByRecursion IsLine (names_of t)
laid_lines s [] t is h k = subst (λ x. AllByRecursion IsLine (names_of x)) (sym is) h
laid_lines s (x ∷ line) t (a, has, more) h k = laid_lines (with_array s x.name a) line t more (with_line s x.name a h k.0) k.1

pub all_laid_lines : (s : Pairs) (lines : List (List SettingItem)) (ts : List Pairs) → AreLaidOver s lines ts → AllByRecursion IsLine (names_of s) → AllByRecursion AreNamedOnLines lines → AreLines ts
all_laid_lines s [] [] laid h k = tt
all_laid_lines s [] (t ∷ ts) laid h k = absurd laid
all_laid_lines s (line ∷ lines) [] laid h k = absurd laid
all_laid_lines s (line ∷ lines) (t ∷ ts) laid h k = (laid_lines s line t laid.0 h k.0, all_laid_lines s lines ts laid.1 h k.1)
