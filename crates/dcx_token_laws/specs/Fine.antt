-- A text without a fault, told of the text and its tokens.
use Rattle.std.specs.Prelude.{◌≡◌, ◌⊎◌, ℕ, IsFalse, List, [], ◌∷◌, ◌++◌, None}
use Rattle.std.specs.Str.{chars}
use Rattle.dcx_frac.specs.declared.fraction.Frac.{Frac}
use Rattle.dcx_tokens.specs.declared.token.Token.{Token}
use Rattle.dcx_tokens.specs.declared.token.TokenKind.TheVariants as kind
use Rattle.dcx_tokens.specs.Front.{tab_among}
use Rattle.dcx_tokens.specs.Laws.{brackets_left, StaysShallow}
use Rattle.dcx_tokens.specs.Number.{is_spoiled}
use Rattle.dcx_tokens.specs.Reading.{IsLexed}
use Rattle.dcx_token_laws.specs.Cut.{AreBlanks, Spans, Cut}
use Rattle.dcx_token_laws.specs.Lines.{IsOfWords, AreLines}

-- ---- numbers, and the blanks that lead lines
-- the first column, or behind a line feed
abbrev pub StartsLine : List ℕ → Type 0
StartsLine cs = (cs ≡ []) ⊎ ((before : List ℕ) × (cs ≡ before ++ 10 ∷ []))

-- behind the characters front and the tokens ts a line begins, outside brackets, and nothing but these blanks stands in it
pub record IsLedBy (blanks : List ℕ) (ts : List Token) (front : List ℕ) : Type 0 where
  pub before : List ℕ
  pub parts : front ≡ before ++ blanks
  pub starts : StartsLine before
  pub are : AreBlanks blanks
  pub outside : brackets_left 0 ts ≡ 0

-- behind the tokens before stands the token t, and behind the characters front those of it, and then those of behind
pub record StandsThere (cs : List ℕ) (ts before : List Token) (t : Token) (front behind : List ℕ) : Type 0 where
  pub word : List ℕ
  pub after : List Token
  pub among : ts ≡ before ++ t ∷ after
  pub parts : cs ≡ front ++ word ++ behind
  pub spans : Spans t front word

-- neither a name character nor a point stands right behind a number
abbrev pub NumbersEnd : List ℕ → List Token → Type 0
NumbersEnd cs ts = (before : List Token) (t : Token) (front behind : List ℕ) (x : Frac) → StandsThere cs ts before t front behind → t.kind ≡ kind.Number x → IsFalse (is_spoiled behind)

-- no tab is among the blanks that lead a line with a token
abbrev pub SpacesLead : List ℕ → List Token → Type 0
SpacesLead cs ts = (before : List Token) (t : Token) (front behind blanks : List ℕ) → StandsThere cs ts before t front behind → IsOfWords t.kind
    → IsLedBy blanks before front → IsFalse (tab_among blanks)

-- ---- a part of a text, and the whole
-- up to the characters rest, which stand behind those of front, the text is cut into these tokens, with some more they are those of
-- lines, no more than 64 brackets and blocks are open together behind any of them, and numbers end and lines begin as they must
pub record IsFineUpTo (text : List ℕ) (ts : List Token) (front rest : List ℕ) : Type 0 where
  pub parts : chars text ≡ front ++ rest
  pub cut : Cut [] (chars text) ts rest
  pub lines : (more : List Token) × AreLines [] (ts ++ more)
  pub shallow : StaysShallow 0 0 ts
  pub numbers : NumbersEnd (chars text) ts
  pub spaces : SpacesLead (chars text) ts

-- so is the whole of it, and the tokens are those of lines
pub record IsFine (text : List ℕ) (ts : List Token) : Type 0 where
  pub cut : Cut [] (chars text) ts []
  pub lines : AreLines [] ts
  pub shallow : StaysShallow 0 0 ts
  pub numbers : NumbersEnd (chars text) ts
  pub spaces : SpacesLead (chars text) ts

-- a text has no fault, and these are its tokens, exactly where that is so
pub record FineTextsAreRead : Type 0 where
  pub fine_is_read : (text : List ℕ) (ts : List Token) → IsFine text ts → IsLexed text ts None
  pub read_is_fine : (text : List ℕ) (ts : List Token) → IsLexed text ts None → IsFine text ts
