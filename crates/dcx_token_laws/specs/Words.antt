-- How the tokens that have characters are spelled, each alone.
use Rattle.std.specs.Prelude.{◌≡◌, ℕ, false, IsTrue, List, [], ◌∷◌, ◌++◌, length, Some, None}
use Rattle.std.specs.List.{All}
use Rattle.unicode_ident.specs.Ident.{is_xid_continue}
use Rattle.dcx_frac.specs.declared.fraction.Frac.{Frac}
use Rattle.dcx_tokens.specs.declared.token.Symbol.{Symbol}
use Rattle.dcx_tokens.specs.declared.token.TokenKind.{TokenKind}
use Rattle.dcx_tokens.specs.declared.token.TokenKind.TheVariants as kind
use Rattle.dcx_tokens.specs.Front.{is_quote, begins_name, begins_number, long_sign, short_sign}
use Rattle.dcx_tokens.specs.Number.{number_at}
use Rattle.dcx_tokens.specs.Quoted.{up_to_quote}
use Rattle.dcx_tokens.specs.Word.{keyword_of}

-- a character that begins a name, and then such as go on with one
abbrev pub IsIdentifier : List ℕ → Type 0
IsIdentifier [] = ⊥
IsIdentifier (c ∷ cs) = IsTrue (begins_name c) × All (λ d. IsTrue (is_xid_continue d)) cs

-- a number of this value, from the first character to the last
abbrev pub IsNumber : Frac → List ℕ → Type 0
IsNumber x [] = ⊥
IsNumber x (c ∷ cs) = IsTrue (begins_number c cs) × (number_at (c ∷ cs) ≡ Some (x, length (c ∷ cs)))

-- a quote, and what follows up to the one that closes it, which comes last
abbrev pub IsQuoted : List ℕ → Type 0
IsQuoted [] = ⊥
IsQuoted (c ∷ cs) = IsTrue (is_quote c) × (up_to_quote c false cs ≡ Some (length cs))

-- a sign of one character or of two
abbrev pub IsSign : Symbol → List ℕ → Type 0
IsSign s [] = ⊥
IsSign s (c ∷ []) = short_sign c ≡ Some s
IsSign s (c ∷ d ∷ []) = long_sign c d ≡ Some s
IsSign s (c ∷ d ∷ e ∷ cs) = ⊥

-- the characters spell a token of this kind
abbrev pub IsWord : TokenKind → List ℕ → Type 0
IsWord kind.Name cs = IsIdentifier cs × (keyword_of cs ≡ None)
IsWord (kind.Keyword keyword) cs = IsIdentifier cs × (keyword_of cs ≡ Some keyword)
IsWord (kind.Number x) cs = IsNumber x cs
IsWord kind.Text cs = IsQuoted cs
IsWord (kind.Sign symbol) cs = IsSign symbol cs
IsWord kind.Newline cs = ⊥
IsWord kind.Indent cs = ⊥
IsWord kind.Dedent cs = ⊥

-- no token of any kind is spelled by these characters with more of what stands behind them
abbrev pub IsLongest : List ℕ → List ℕ → Type 0
IsLongest cs behind = (more rest : List ℕ) (k : TokenKind) → behind ≡ more ++ rest → IsWord k (cs ++ more) → more ≡ []
