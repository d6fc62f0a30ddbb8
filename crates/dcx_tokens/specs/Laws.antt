-- The laws of tokens, as the clauses of the law functions say them.
use Rattle.std.specs.Prelude.{◌≡◌, ◌⊎◌, ℕ, ◌+◌, ◌-◌, ◌<◌, ◌≤◌, if◌then◌else◌, List, [], ◌∷◌, length, Option, Some, None}
use Rattle.std.specs.List.{All}
use Rattle.std.specs.Str.{IsUtf8}
use Rattle.dcx_tokens.specs.declared.fault.ReadFault.{ReadFault}
use Rattle.dcx_tokens.specs.declared.fault.ReadFault.TheVariants as fault
use Rattle.dcx_tokens.specs.declared.token.Token.{Token}
use Rattle.dcx_tokens.specs.declared.token.TokenKind.{TokenKind}
use Rattle.dcx_tokens.specs.declared.token.TokenKind.TheVariants as kind
use Rattle.dcx_tokens.specs.File.{IsText, IsNoText}
use Rattle.dcx_tokens.specs.Layout.{opens, closes}
use Rattle.dcx_tokens.specs.Reading.{IsLexed}

-- bytes are a text, or none for one reason
pub record HasOneText : Type 0 where
  pub apart : (bytes : List ℕ) (f : ReadFault) → IsText bytes → IsNoText bytes f → ⊥
  pub one : (bytes : List ℕ) (f g : ReadFault) → IsNoText bytes f → IsNoText bytes g → f ≡ g

-- a text has one list of tokens and at most one first fault
abbrev pub HasOneReading : Type 0
HasOneReading = (text : List ℕ) (ts us : List Token) (f g : Option ReadFault) → IsLexed text ts f → IsLexed text us g → (ts ≡ us) × (f ≡ g)

-- a fault of the tokens: a character, a number, an open text or bracket, an indentation, or too many open at once
abbrev pub IsOfTokens : ReadFault → Type 0
IsOfTokens (fault.BadChar place) = Unit {0}
IsOfTokens (fault.BadNumber place) = Unit {0}
IsOfTokens (fault.Unclosed place) = Unit {0}
IsOfTokens (fault.Indent place) = Unit {0}
IsOfTokens (fault.TooDeep place) = Unit {0}
IsOfTokens _ = ⊥

-- the first fault of a text is one of its tokens
abbrev pub HasFaultsOfTokens : Type 0
HasFaultsOfTokens = (text : List ℕ) (ts : List Token) (f : ReadFault) → IsLexed text ts (Some f) → IsOfTokens f

-- ---- spans
-- the spans of the tokens stand one behind the other, from the byte low on and up to the byte high
abbrev pub AreInOrder : ℕ → List Token → ℕ → Type 0
AreInOrder low [] high = low ≤ high
AreInOrder low (t ∷ ts) high = (low ≤ t.start) × (t.start ≤ t.end) × AreInOrder t.end ts high

-- a token has bytes, but for an indentation, its end, and the line end that is supplied at the end of the text
abbrev pub HasBytesAs : TokenKind → ℕ → Token → Type 0
HasBytesAs kind.Indent total t = t.start ≡ t.end
HasBytesAs kind.Dedent total t = t.start ≡ t.end
HasBytesAs kind.Newline total t = (t.start < t.end) ⊎ ((t.start ≡ total) × (t.end ≡ total))
HasBytesAs _ total t = t.start < t.end

abbrev pub HasBytes : ℕ → Token → Type 0
HasBytes total t = HasBytesAs t.kind total t

-- the spans of a text's tokens are in order and inside the text
pub record HasSpans : Type 0 where
  pub order : (text : List ℕ) (ts : List Token) (f : Option ReadFault) → IsUtf8 text → IsLexed text ts f → AreInOrder 0 ts (length text)
  pub bytes : (text : List ℕ) (ts : List Token) (f : Option ReadFault) → IsUtf8 text → IsLexed text ts f → All (HasBytes (length text)) ts

-- ---- brackets and indentations
-- how many brackets are open behind a token, where n were
abbrev pub brackets_behind : ℕ → TokenKind → ℕ
brackets_behind n (kind.Sign symbol) = if opens symbol then n + 1 else (if closes symbol then n - 1 else n)
brackets_behind n _ = n

-- how many indentations are
abbrev pub blocks_behind : ℕ → TokenKind → ℕ
blocks_behind n kind.Indent = n + 1
blocks_behind n kind.Dedent = n - 1
blocks_behind n _ = n

-- the end of an indentation has one to end
abbrev pub EndsOne : ℕ → TokenKind → Type 0
EndsOne n kind.Dedent = 0 < n
EndsOne n _ = Unit {0}

-- behind no token more than 64 are open together, where so many brackets and blocks were
abbrev pub StaysShallow : ℕ → ℕ → List Token → Type 0
StaysShallow brackets blocks [] = brackets + blocks ≤ 64
StaysShallow brackets blocks (t ∷ ts) =
    (brackets + blocks ≤ 64) × EndsOne blocks t.kind × StaysShallow (brackets_behind brackets t.kind) (blocks_behind blocks t.kind) ts

-- how many are open behind all tokens
abbrev pub brackets_left : ℕ → List Token → ℕ
brackets_left n [] = n
brackets_left n (t ∷ ts) = brackets_left (brackets_behind n t.kind) ts

abbrev pub blocks_left : ℕ → List Token → ℕ
blocks_left n [] = n
blocks_left n (t ∷ ts) = blocks_left (blocks_behind n t.kind) ts

-- never more than 64 are open together; without a fault each bracket is closed and each indentation has its end
pub record NestsTokens : Type 0 where
  pub shallow : (text : List ℕ) (ts : List Token) (f : Option ReadFault) → IsUtf8 text → IsLexed text ts f → StaysShallow 0 0 ts
  pub closed : (text : List ℕ) (ts : List Token) → IsUtf8 text → IsLexed text ts None → (brackets_left 0 ts ≡ 0) × (blocks_left 0 ts ≡ 0)
