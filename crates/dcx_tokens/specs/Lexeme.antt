-- One token: what stands at the front of a text, the longest that fits, and how many characters it has.
use Rattle.std.specs.Prelude.{ℕ, ◌+◌, List, ◌∷◌, take, false, Option, Some, None, Result, Ok, Err}
use Rattle.unicode_ident.specs.Ident.{is_xid_continue}
use Rattle.dcx_shape.specs.declared.place.Place.{Place}
use Rattle.dcx_frac.specs.declared.fraction.Frac.{Frac}
use Rattle.dcx_tokens.specs.declared.fault.ReadFault.{ReadFault}
use Rattle.dcx_tokens.specs.declared.fault.ReadFault.TheVariants as fault
use Rattle.dcx_tokens.specs.declared.front.Front.{Front}
use Rattle.dcx_tokens.specs.declared.front.Front.TheVariants as fronts
use Rattle.dcx_tokens.specs.declared.token.Keyword.{Keyword}
use Rattle.dcx_tokens.specs.declared.token.TokenKind.{TokenKind}
use Rattle.dcx_tokens.specs.declared.token.TokenKind.TheVariants as kind
use Rattle.dcx_tokens.specs.Front.{run_of, sign_len}
use Rattle.dcx_tokens.specs.Number.{number_at}
use Rattle.dcx_tokens.specs.Quoted.{up_to_quote}
use Rattle.dcx_tokens.specs.Word.{keyword_of}

-- a keyword, or else a name
abbrev pub kind_if : Option Keyword → TokenKind
kind_if (Some keyword) = kind.Keyword keyword
kind_if None = kind.Name

abbrev pub word_kind : List ℕ → TokenKind
word_kind cs = kind_if (keyword_of cs)

-- a name goes on as long as its characters do; cs stands behind the first of all
abbrev pub word_token_of : List ℕ → List ℕ → TokenKind × ℕ
word_token_of all cs = let n = 1 + run_of is_xid_continue cs in (word_kind (take n all), n)

abbrev pub number_or : Place → Option (Frac × ℕ) → Result (TokenKind × ℕ) ReadFault
number_or place (Some n) = Ok (kind.Number n.0, n.1)
number_or place None = Err (fault.BadNumber place)

abbrev pub number_token_of : Place → List ℕ → Result (TokenKind × ℕ) ReadFault
number_token_of place all = number_or place (number_at all)

abbrev pub text_or : Place → Option ℕ → Result (TokenKind × ℕ) ReadFault
text_or place (Some n) = Ok (kind.Text, 1 + n)
text_or place None = Err (fault.Unclosed place)

abbrev pub text_token_of : Place → ℕ → List ℕ → Result (TokenKind × ℕ) ReadFault
text_token_of place quote cs = text_or place (up_to_quote quote false cs)

-- the token that begins with c, where cs stands behind it, or what is wrong with it
unfoldable pub token_at : Place → Front → ℕ → List ℕ → Result (TokenKind × ℕ) ReadFault
token_at place fronts.Name c cs = Ok (word_token_of (c ∷ cs) cs)
token_at place fronts.Number c cs = number_token_of place (c ∷ cs)
token_at place fronts.Text c cs = text_token_of place c cs
token_at place (fronts.Sign symbol) c cs = Ok (kind.Sign symbol, sign_len symbol)
token_at place fronts.LineEnd c cs = Err (fault.BadChar place)
token_at place fronts.Blank c cs = Err (fault.BadChar place)
token_at place fronts.Comment c cs = Err (fault.BadChar place)
token_at place fronts.Other c cs = Err (fault.BadChar place)
