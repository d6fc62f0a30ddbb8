-- What each fault of the tokens says of the text, at its place; in front of it nothing is wrong.
use Rattle.std.specs.Prelude.{◌≡◌, ◌⊎◌, ℕ, ◌+◌, ◌<◌, IsTrue, IsFalse, List, [], ◌∷◌, ◌++◌, length, take, ◌-◌, Some}
use Rattle.std.specs.List.{All}
use Rattle.std.specs.Str.{chars}
use Rattle.dcx_frac.specs.declared.fraction.Frac.{Frac}
use Rattle.dcx_shape.specs.declared.place.Place.{Place}
use Rattle.dcx_tokens.specs.declared.fault.ReadFault.TheVariants as fault
use Rattle.dcx_tokens.specs.declared.token.Symbol.{Symbol}
use Rattle.dcx_tokens.specs.declared.token.Token.{Token}
use Rattle.dcx_tokens.specs.declared.token.TokenKind.{TokenKind}
use Rattle.dcx_tokens.specs.declared.token.TokenKind.TheVariants as kind
use Rattle.dcx_tokens.specs.Front.{is_quote, begins_number, tab_among}
use Rattle.dcx_tokens.specs.Laws.{brackets_behind, brackets_left, blocks_left}
use Rattle.dcx_tokens.specs.Layout.{opens}
use Rattle.dcx_tokens.specs.Number.{is_spoiled}
use Rattle.dcx_tokens.specs.Reading.{IsLexed}
use Rattle.dcx_token_laws.specs.Cut.{IsBetween, place_behind}
use Rattle.dcx_token_laws.specs.Fine.{IsLedBy, IsFineUpTo}
use Rattle.dcx_token_laws.specs.Lines.{depth_of, StandsAt, Turns}
use Rattle.dcx_token_laws.specs.Words.{IsNumber, IsQuoted, IsWord}

-- ---- lines
-- the depths of the blocks that are open behind a token, outermost first
abbrev pub blocks_with : List ℕ → ℕ → TokenKind → List ℕ
blocks_with blocks depth kind.Indent = blocks ++ depth ∷ []
blocks_with blocks depth kind.Dedent = take (length blocks - 1) blocks
blocks_with blocks depth _ = blocks

-- and behind all tokens
abbrev pub open_blocks : List ℕ → List Token → List ℕ
open_blocks blocks [] = blocks
open_blocks blocks (t ∷ ts) = open_blocks (blocks_with blocks (depth_of t) t.kind) ts

-- where what comes behind the characters front is the first on its line, no tab is among the blanks that lead it, and the innermost block has
-- its depth: the marks of the line are the last of the tokens ts
abbrev pub LineFollows : List Token → List ℕ → Type 0
LineFollows ts front = (blanks : List ℕ) → IsLedBy blanks ts front → IsFalse (tab_among blanks) × StandsAt (open_blocks [] ts) (length blanks)

-- ---- 2: characters
-- c is spelled in no token and in nothing between tokens, where the characters rest stand behind it, nor does it open a text
pub record BeginsNothing (c : ℕ) (rest : List ℕ) : Type 0 where
  pub no_word : (k : TokenKind) (word behind : List ℕ) → c ∷ rest ≡ word ++ behind → IsWord k word → ⊥
  pub no_between : (cs behind : List ℕ) → c ∷ rest ≡ cs ++ behind → IsBetween cs behind → cs ≡ []
  pub no_number : IsFalse (begins_number c rest)
  pub no_text : IsFalse (is_quote c)

abbrev pub BadCharsBeginNothing : Type 0
BadCharsBeginNothing = (text : List ℕ) (ts : List Token) (p : Place) → IsLexed text ts (Some (fault.BadChar p)) →
    (front : List ℕ) × (c : ℕ) × (rest : List ℕ) × IsFineUpTo text ts front (c ∷ rest) × (p ≡ place_behind front) × BeginsNothing c rest

-- ---- 3: numbers
-- a digit, or a point with one behind it, and each number that is spelled there has a name character or a point right behind it
pub record BeginsBadNumber (c : ℕ) (rest : List ℕ) : Type 0 where
  pub begins : IsTrue (begins_number c rest)
  pub none : (x : Frac) (word behind : List ℕ) → c ∷ rest ≡ word ++ behind → IsNumber x word → IsTrue (is_spoiled behind)

abbrev pub BadNumbersAreNone : Type 0
BadNumbersAreNone = (text : List ℕ) (ts : List Token) (p : Place) → IsLexed text ts (Some (fault.BadNumber p)) →
    (front : List ℕ) × (c : ℕ) × (rest : List ℕ) × IsFineUpTo text ts front (c ∷ rest) × (p ≡ place_behind front) × LineFollows ts front × BeginsBadNumber c rest

-- ---- 4: texts and brackets that aren't closed
-- a quote, with which no text is spelled
pub record OpensText (c : ℕ) (rest : List ℕ) : Type 0 where
  pub quote : IsTrue (is_quote c)
  pub none : (word behind : List ℕ) → c ∷ rest ≡ word ++ behind → IsQuoted word → ⊥

abbrev pub IsOpener : TokenKind → Type 0
IsOpener (kind.Sign symbol) = IsTrue (opens symbol)
IsOpener _ = ⊥

-- a bracket is open behind each of the tokens, where n were in front of them
abbrev pub StaysOpen : ℕ → List Token → Type 0
StaysOpen n [] = Unit {0}
StaysOpen n (t ∷ ts) = (0 < brackets_behind n t.kind) × StaysOpen (brackets_behind n t.kind) ts

-- the bracket at this place is the innermost that is left open: none of the tokens behind it closes it, and what they open they close
pub record IsLeftOpen (ts : List Token) (p : Place) : Type 0 where
  pub before : List Token
  pub opener : Token
  pub behind : List Token
  pub among : ts ≡ before ++ opener ∷ behind
  pub opens_one : IsOpener opener.kind
  pub place : opener.place ≡ p
  pub stays : StaysOpen 1 behind
  pub innermost : brackets_left 1 behind ≡ 1

-- a text is not closed on its line, or the text has no characters more and a bracket is left open
abbrev pub UnclosedAreOpen : Type 0
UnclosedAreOpen = (text : List ℕ) (ts : List Token) (p : Place) → IsLexed text ts (Some (fault.Unclosed p)) →
    ((front : List ℕ) × (c : ℕ) × (rest : List ℕ) × IsFineUpTo text ts front (c ∷ rest) × (p ≡ place_behind front) × LineFollows ts front × OpensText c rest)
    ⊎ (IsFineUpTo text ts (chars text) [] × IsLeftOpen ts p)

-- ---- 5: indentations
-- a token is spelled there, or a number or a text begins, which may be malformed
abbrev pub BeginsToken : ℕ → List ℕ → Type 0
BeginsToken c rest = ((k : TokenKind) × (word : List ℕ) × (behind : List ℕ) × (c ∷ rest ≡ word ++ behind) × IsWord k word) ⊎ IsTrue (begins_number c rest) ⊎ IsTrue (is_quote c)

-- a tab stands among the blanks, or no marks make a line of this depth follow
abbrev pub DoesNotFollow : List ℕ → List Token → Type 0
DoesNotFollow blanks ts = IsTrue (tab_among blanks) ⊎ ((marks : List TokenKind) (after : List ℕ) → Turns (open_blocks [] ts) (length blanks) marks after → ⊥)

abbrev pub IndentsDoNotFollow : Type 0
IndentsDoNotFollow = (text : List ℕ) (ts : List Token) (p : Place) → IsLexed text ts (Some (fault.Indent p)) →
    (front : List ℕ) × (c : ℕ) × (rest : List ℕ) × (blanks : List ℕ) × IsFineUpTo text ts front (c ∷ rest) × (p ≡ place_behind front) × BeginsToken c rest
    × IsLedBy blanks ts front × DoesNotFollow blanks ts

-- ---- 7: more than 64 are open
-- a bracket opens there
abbrev pub OpensBracket : ℕ → Type 0
OpensBracket c = (symbol : Symbol) × IsTrue (opens symbol) × IsWord (kind.Sign symbol) (c ∷ [])

-- or a line that is deeper than each block that is open
abbrev pub BeginsBlock : ℕ → List ℕ → List Token → List ℕ → Type 0
BeginsBlock c rest ts front = (blanks : List ℕ) × BeginsToken c rest × IsLedBy blanks ts front × IsFalse (tab_among blanks) × All (λ d. d < length blanks) (open_blocks [] ts)

-- there are 64 already
abbrev pub TooDeepAreAbove64 : Type 0
TooDeepAreAbove64 = (text : List ℕ) (ts : List Token) (p : Place) → IsLexed text ts (Some (fault.TooDeep p)) →
    (front : List ℕ) × (c : ℕ) × (rest : List ℕ) × IsFineUpTo text ts front (c ∷ rest) × (p ≡ place_behind front) × (brackets_left 0 ts + blocks_left 0 ts ≡ 64)
    × ((LineFollows ts front × OpensBracket c) ⊎ BeginsBlock c rest ts front)
