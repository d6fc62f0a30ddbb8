-- What stands at the front of a text: a line end, blanks, a comment or a token.
use Rattle.std.specs.Prelude.{ℕ, ◌+◌, ◌-◌, Bool, ◌&&◌, ◌||◌, ◌==◌, not, nat_lt, if◌then◌else◌, List, [], ◌∷◌, length, slice_index, Option, Some, None, ◌≤◌, IsTrue, nat_eq, codes}
use Rattle.std.specs.List.{take_while, list_any}
use Rattle.std.specs.Char.{is_ascii_digit}
use Rattle.std.specs.Cmp.Lexicographic.{pointwise}
use Prim.Native.String.{String}
use Rattle.unicode_ident.specs.Ident.{is_xid_start}
use Rattle.dcx_tokens.specs.declared.token.Symbol.{Symbol}
use Rattle.dcx_tokens.specs.declared.token.Symbol.TheVariants as symbol
use Rattle.dcx_tokens.specs.declared.front.Front.{Front}
use Rattle.dcx_tokens.specs.declared.front.Front.TheVariants as fronts

-- how many characters pass, from the front on
abbrev pub run_of : (ℕ → Bool) → List ℕ → ℕ
run_of passes cs = length (take_while passes cs)

-- ---- characters, by their codes
-- a space or a tab
abbrev pub is_blank : ℕ → Bool
is_blank c = (c == 32) || (c == 9)

-- a tab is among the characters
abbrev pub tab_among : List ℕ → Bool
tab_among cs = list_any (λ c. c == 9) cs

-- any character but LF
abbrev pub is_not_line_feed : ℕ → Bool
is_not_line_feed c = not (c == 10)

-- ' or "
abbrev pub is_quote : ℕ → Bool
is_quote c = (c == 39) || (c == 34)

-- XID_Start or _
abbrev pub begins_name : ℕ → Bool
begins_name c = is_xid_start c || (c == 95)

-- ---- line ends and comments
-- LF, or CR with LF behind it
abbrev pub ends_line : ℕ → List ℕ → Bool
ends_line c [] = c == 10
ends_line c (d ∷ ds) = (c == 10) || ((c == 13) && (d == 10))

-- how many characters a line end has that begins with c
abbrev pub line_end_len : ℕ → ℕ
line_end_len c = if c == 13 then 2 else 1

-- of the first count characters the last is a CR, and LF comes behind it
abbrev pub is_before_line_feed : List ℕ → ℕ → Bool
is_before_line_feed cs count = nat_lt 0 count && nat_lt count (length cs) && (slice_index cs (count - 1) == 13)

-- how many characters come before the end of the line, LF or CR LF
abbrev pub up_to_line_end : List ℕ → ℕ
up_to_line_end cs = let count = run_of is_not_line_feed cs in if is_before_line_feed cs count then count - 1 else count

-- ---- numbers and signs
-- a digit, or a point with a digit behind it
abbrev pub begins_number : ℕ → List ℕ → Bool
begins_number c [] = is_ascii_digit c
begins_number c (d ∷ ds) = is_ascii_digit c || ((c == 46) && is_ascii_digit d)

-- the signs of two characters
abbrev pub long_signs : List (String × Symbol)
long_signs =
    ("**", symbol.StarStar) ∷ ("//", symbol.SlashSlash) ∷ ("<=", symbol.LessEqual) ∷ (">=", symbol.GreaterEqual) ∷ ("==", symbol.EqualEqual)
    ∷ ("!=", symbol.NotEqual) ∷ ("+=", symbol.PlusEqual) ∷ ("-=", symbol.MinusEqual) ∷ ("*=", symbol.StarEqual) ∷ ("/=", symbol.SlashEqual) ∷ []

-- the signs of one character
abbrev pub short_signs : List (String × Symbol)
short_signs =
    ("+", symbol.Plus) ∷ ("-", symbol.Minus) ∷ ("*", symbol.Star) ∷ ("/", symbol.Slash) ∷ ("@", symbol.At) ∷ ("%", symbol.Percent)
    ∷ ("<", symbol.Less) ∷ (">", symbol.Greater) ∷ ("=", symbol.Equal) ∷ ("(", symbol.OpenRound) ∷ (")", symbol.CloseRound)
    ∷ ("[", symbol.OpenSquare) ∷ ("]", symbol.CloseSquare) ∷ ("{", symbol.OpenCurly) ∷ ("}", symbol.CloseCurly)
    ∷ (",", symbol.Comma) ∷ (":", symbol.Colon) ∷ (".", symbol.Dot) ∷ (";", symbol.Semicolon) ∷ []

-- the sign that is spelled so
abbrev pub sign_of : List (String × Symbol) → List ℕ → Option Symbol
sign_of [] cs = None
sign_of (s ∷ signs) cs = if pointwise nat_eq cs (codes s.0) then Some s.1 else sign_of signs cs

abbrev pub long_sign : ℕ → ℕ → Option Symbol
long_sign c d = sign_of long_signs (c ∷ d ∷ [])

abbrev pub short_sign : ℕ → Option Symbol
short_sign c = sign_of short_signs (c ∷ [])

-- the first of two, where there is one
abbrev pub or_else : Option Symbol → Option Symbol → Option Symbol
or_else (Some s) t = Some s
or_else None t = t

-- the longest sign that fits
unfoldable pub sign_at : ℕ → List ℕ → Option Symbol
sign_at c [] = short_sign c
sign_at c (d ∷ ds) = or_else (long_sign c d) (short_sign c)

-- how many characters a sign has
abbrev pub sign_len : Symbol → ℕ
sign_len symbol.StarStar = 2
sign_len symbol.SlashSlash = 2
sign_len symbol.LessEqual = 2
sign_len symbol.GreaterEqual = 2
sign_len symbol.EqualEqual = 2
sign_len symbol.NotEqual = 2
sign_len symbol.PlusEqual = 2
sign_len symbol.MinusEqual = 2
sign_len symbol.StarEqual = 2
sign_len symbol.SlashEqual = 2
sign_len _ = 1

-- a sign, or a character that begins no token
abbrev pub sign_front : Option Symbol → Front
sign_front (Some s) = fronts.Sign s
sign_front None = fronts.Other

-- what stands at the front of c and the characters behind it
unfoldable pub front_at : ℕ → List ℕ → Front
front_at c cs =
    if ends_line c cs then fronts.LineEnd
    else (if is_blank c then fronts.Blank
    else (if c == 35 then fronts.Comment
    else (if begins_name c then fronts.Name
    else (if begins_number c cs then fronts.Number
    else (if is_quote c then fronts.Text
    else sign_front (sign_at c cs))))))

-- there are characters enough for what stands in front, and a number has a digit
abbrev pub HasEnough : Front → ℕ → List ℕ → Type 0
HasEnough (fronts.Sign symbol) c cs = sign_len symbol ≤ 1 + length cs
HasEnough fronts.LineEnd c cs = line_end_len c ≤ 1 + length cs
HasEnough fronts.Number c cs = IsTrue (begins_number c cs)
HasEnough _ c cs = Unit {0}
