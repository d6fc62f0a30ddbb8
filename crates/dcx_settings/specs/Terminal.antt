-- The tokens as the grammar of settings sees them.
use Rattle.std.specs.Prelude.{ℕ, ℤ, Bool, ◌&&◌, List, map, pos, int_le, if◌then◌else◌}
use Rattle.std.specs.Ordering.{int_eq}
use Rattle.std.specs.Char.{is_ascii_digit}
use Rattle.std.specs.List.{list_all, slice_range}
use Rattle.dcx_frac.specs.declared.fraction.Frac.{Frac}
use Rattle.dcx_tokens.specs.declared.token.Symbol.{Symbol}
use Rattle.dcx_tokens.specs.declared.token.Symbol.TheVariants as symbol
use Rattle.dcx_tokens.specs.declared.token.Token.{Token}
use Rattle.dcx_tokens.specs.declared.token.TokenKind.{TokenKind}
use Rattle.dcx_tokens.specs.declared.token.TokenKind.TheVariants as kind

pub data Terminal : Type 0 where
  name : List ℕ → Terminal
  -- a number of digits alone, and any other
  digits : ℤ → Terminal
  decimal : Frac → Terminal
  minus : Terminal
  slash : Terminal
  equal : Terminal
  comma : Terminal
  semicolon : Terminal
  open_square : Terminal
  close_square : Terminal
  open_curly : Terminal
  close_curly : Terminal
  newline : Terminal
  -- no rule takes it
  other : Terminal

abbrev pub sign_terminal : Symbol → Terminal
sign_terminal symbol.Minus = minus
sign_terminal symbol.Slash = slash
sign_terminal symbol.Equal = equal
sign_terminal symbol.Comma = comma
sign_terminal symbol.Semicolon = semicolon
sign_terminal symbol.OpenSquare = open_square
sign_terminal symbol.CloseSquare = close_square
sign_terminal symbol.OpenCurly = open_curly
sign_terminal symbol.CloseCurly = close_curly
sign_terminal _ = other

-- digits alone write a whole number of at least 0
abbrev pub is_whole : Frac → Bool
is_whole f = int_eq f.den (pos 1) && int_le (pos 0) f.num

abbrev pub number_terminal : Frac → List ℕ → Terminal
number_terminal f bytes = if is_whole f && list_all is_ascii_digit bytes then digits f.num else decimal f

abbrev pub kind_terminal : TokenKind → List ℕ → Terminal
kind_terminal kind.Name bytes = name bytes
kind_terminal (kind.Number f) bytes = number_terminal f bytes
kind_terminal (kind.Sign s) bytes = sign_terminal s
kind_terminal kind.Newline bytes = newline
kind_terminal _ bytes = other

-- a token, by what the text says between the ends of its span
abbrev pub terminal_of : List ℕ → Token → Terminal
terminal_of text t = kind_terminal t.kind (slice_range text t.start t.end)

abbrev pub terminals : List ℕ → List Token → List Terminal
terminals text ts = map (terminal_of text) ts
