-- What the grammar sees in a token.
use Rattle.std.specs.Prelude.{true, false, Option, Some, None}
use Rattle.dcx_tokens.specs.declared.token.TokenKind.{TokenKind}
use Rattle.dcx_tokens.specs.declared.token.TokenKind.TheVariants as kinds
use Rattle.dcx_tokens.specs.declared.token.Keyword.{Keyword}
use Rattle.dcx_tokens.specs.declared.token.Keyword.TheVariants as words
use Rattle.dcx_tokens.specs.declared.token.Symbol.{Symbol}
use Rattle.dcx_tokens.specs.declared.token.Symbol.TheVariants as symbols
use Rattle.dcx_syntax.specs.declared.tree.Comparison.TheVariants as comparisons
use Rattle.dcx_syntax.specs.declared.tree.Sign.TheVariants as signs
use Rattle.dcx_syntax.specs.declared.tree.Scaling.TheVariants as scalings
use Rattle.dcx_syntax.specs.declared.bracket.Bracket.TheVariants.{Round, Square, Curly}
use Rattle.dcx_read.specs.declared.role.Role.{Role}
use Rattle.dcx_read.specs.declared.role.Role.TheVariants as roles
use Rattle.dcx_read.specs.declared.role.Mark.{Mark}
use Rattle.dcx_read.specs.declared.role.Mark.TheVariants as marks

abbrev pub keyword_role_of : Keyword → Role
keyword_role_of words.Import = roles.Import
keyword_role_of words.As = roles.As
keyword_role_of words.For = roles.For
keyword_role_of words.In = roles.In
keyword_role_of words.True = roles.Truth true
keyword_role_of words.False = roles.Truth false
keyword_role_of words.None = roles.None
keyword_role_of words.Print = roles.Print
keyword_role_of words.Other = roles.Other

abbrev pub symbol_role_of : Symbol → Role
symbol_role_of symbols.Plus = roles.Signs signs.Plus
symbol_role_of symbols.Minus = roles.Signs signs.Minus
symbol_role_of symbols.Star = roles.Scales scalings.Times
symbol_role_of symbols.Slash = roles.Scales scalings.Over
symbol_role_of symbols.At = roles.Scales scalings.Matmul
symbol_role_of symbols.StarStar = roles.Power
symbol_role_of symbols.LessEqual = roles.Compares comparisons.AtMost
symbol_role_of symbols.GreaterEqual = roles.Compares comparisons.AtLeast
symbol_role_of symbols.EqualEqual = roles.Compares comparisons.Equal
symbol_role_of symbols.Less = roles.Compares comparisons.Less
symbol_role_of symbols.Greater = roles.Compares comparisons.Greater
symbol_role_of symbols.NotEqual = roles.Compares comparisons.NotEqual
symbol_role_of symbols.Equal = roles.Equal
symbol_role_of symbols.PlusEqual = roles.PlusEqual
symbol_role_of symbols.OpenRound = roles.Opens Round
symbol_role_of symbols.CloseRound = roles.Closes Round
symbol_role_of symbols.OpenSquare = roles.Opens Square
symbol_role_of symbols.CloseSquare = roles.Closes Square
symbol_role_of symbols.OpenCurly = roles.Opens Curly
symbol_role_of symbols.CloseCurly = roles.Closes Curly
symbol_role_of symbols.Comma = roles.Comma
symbol_role_of symbols.Colon = roles.Colon
symbol_role_of symbols.Dot = roles.Dot
symbol_role_of s = roles.Other

abbrev pub role_of : TokenKind → Role
role_of kinds.Name = roles.Name
role_of (kinds.Keyword k) = keyword_role_of k
role_of (kinds.Number n) = roles.Number n
role_of kinds.Text = roles.Text
role_of (kinds.Sign s) = symbol_role_of s
role_of kinds.Newline = roles.Newline
role_of kinds.Indent = roles.Indent
role_of kinds.Dedent = roles.Dedent

abbrev pub role_with : Mark → Role
role_with (marks.Opens b) = roles.Opens b
role_with (marks.Closes b) = roles.Closes b
role_with marks.Power = roles.Power
role_with marks.PlusEqual = roles.PlusEqual
role_with marks.Import = roles.Import
role_with marks.For = roles.For
role_with marks.Print = roles.Print
role_with marks.As = roles.As
role_with marks.In = roles.In
role_with marks.Dot = roles.Dot
role_with marks.Comma = roles.Comma
role_with marks.Colon = roles.Colon
role_with marks.Equal = roles.Equal
role_with marks.Newline = roles.Newline
role_with marks.Indent = roles.Indent
role_with marks.Dedent = roles.Dedent

abbrev pub mark_of : Role → Option Mark
mark_of (roles.Opens b) = Some (marks.Opens b)
mark_of (roles.Closes b) = Some (marks.Closes b)
mark_of roles.Power = Some marks.Power
mark_of roles.PlusEqual = Some marks.PlusEqual
mark_of roles.Import = Some marks.Import
mark_of roles.For = Some marks.For
mark_of roles.Print = Some marks.Print
mark_of roles.As = Some marks.As
mark_of roles.In = Some marks.In
mark_of roles.Dot = Some marks.Dot
mark_of roles.Comma = Some marks.Comma
mark_of roles.Colon = Some marks.Colon
mark_of roles.Equal = Some marks.Equal
mark_of roles.Newline = Some marks.Newline
mark_of roles.Indent = Some marks.Indent
mark_of roles.Dedent = Some marks.Dedent
mark_of r = None
