-- The words that no name may be.
use Rattle.std.specs.Prelude.{ℕ, Bool, ◌||◌, if◌then◌else◌, List, Option, Some, None, nat_eq, codes}
use Rattle.std.specs.Cmp.Lexicographic.{pointwise}
use Prim.Native.String.{String}
use Rattle.dcx_tokens.specs.declared.token.Keyword.{Keyword}
use Rattle.dcx_tokens.specs.declared.token.Keyword.TheVariants as keyword

-- the characters are those of the text
abbrev pub is_text : List ℕ → String → Bool
is_text cs text = pointwise nat_eq cs (codes text)

-- the keywords of Python that no rule of the grammar takes
abbrev pub is_other_word : List ℕ → Bool
is_other_word cs =
    is_text cs "and" || is_text cs "assert" || is_text cs "async" || is_text cs "await" || is_text cs "break" || is_text cs "class" || is_text cs "continue"
    || is_text cs "def" || is_text cs "del" || is_text cs "elif" || is_text cs "else" || is_text cs "except" || is_text cs "finally" || is_text cs "from"
    || is_text cs "global" || is_text cs "if" || is_text cs "is" || is_text cs "lambda" || is_text cs "nonlocal" || is_text cs "not" || is_text cs "or"
    || is_text cs "pass" || is_text cs "raise" || is_text cs "return" || is_text cs "try" || is_text cs "while" || is_text cs "with" || is_text cs "yield"

-- the keyword that a word is
unfoldable pub keyword_of : List ℕ → Option Keyword
keyword_of cs =
    if is_text cs "import" then Some keyword.Import
    else (if is_text cs "as" then Some keyword.As
    else (if is_text cs "for" then Some keyword.For
    else (if is_text cs "in" then Some keyword.In
    else (if is_text cs "True" then Some keyword.True
    else (if is_text cs "False" then Some keyword.False
    else (if is_text cs "None" then Some keyword.None
    else (if is_text cs "print" then Some keyword.Print
    else (if is_other_word cs then Some keyword.Other
    else None))))))))
