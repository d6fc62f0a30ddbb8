-- A text cut into stretches: its tokens in their places, and between them blanks, comments and line ends alone.
use Rattle.std.specs.Prelude.{◌≡◌, ◌⊎◌, ℕ, IsTrue, IsFalse, List, [], ◌∷◌, ◌++◌, Option, None}
use Rattle.std.specs.List.{All}
use Rattle.std.specs.Str.{chars}
use Rattle.dcx_shape.specs.declared.place.Place.{Place}
use Rattle.dcx_tokens.specs.declared.fault.ReadFault.{ReadFault}
use Rattle.dcx_tokens.specs.declared.token.Token.{Token}
use Rattle.dcx_tokens.specs.declared.token.TokenKind.{TokenKind}
use Rattle.dcx_tokens.specs.declared.token.TokenKind.TheVariants as kind
use Rattle.dcx_tokens.specs.Front.{is_blank, ends_line}
use Rattle.dcx_tokens.specs.Position.{bytes_of, start_of_text, moved_over, line_behind}
use Rattle.dcx_tokens.specs.Reading.{IsLexed}
use Rattle.dcx_token_laws.specs.Words.{IsWord, IsLongest}

-- ---- what may stand between tokens
abbrev pub AreBlanks : List ℕ → Type 0
AreBlanks cs = All (λ c. IsTrue (is_blank c)) cs

-- LF, or CR LF
abbrev pub IsLineEnd : List ℕ → Type 0
IsLineEnd cs = (cs ≡ 10 ∷ []) ⊎ (cs ≡ 13 ∷ 10 ∷ [])

-- nothing comes next, or a line end
abbrev pub EndsLine : List ℕ → Type 0
EndsLine [] = Unit {0}
EndsLine (c ∷ cs) = IsTrue (ends_line c cs)

-- no line end begins in the characters, where those others stand behind
abbrev pub HasNoLineEnd : List ℕ → List ℕ → Type 0
HasNoLineEnd [] behind = Unit {0}
HasNoLineEnd (c ∷ cs) behind = IsFalse (ends_line c (cs ++ behind)) × HasNoLineEnd cs behind

-- # and the rest of its line
abbrev pub IsComment : List ℕ → List ℕ → Type 0
IsComment [] behind = ⊥
IsComment (c ∷ cs) behind = (c ≡ 35) × HasNoLineEnd cs behind × EndsLine behind

abbrev pub IsBetween : List ℕ → List ℕ → Type 0
IsBetween cs behind = AreBlanks cs ⊎ IsComment cs behind ⊎ IsLineEnd cs

-- ---- tokens in their places
-- the place behind these characters, where a text begins with them
abbrev pub place_behind : List ℕ → Place
place_behind front = (moved_over start_of_text front).place

-- the token spans the characters cs, which stand behind those of front
pub record Spans (t : Token) (front cs : List ℕ) : Type 0 where
  pub place : t.place ≡ place_behind front
  pub start : t.start ≡ bytes_of front
  pub end : t.end ≡ bytes_of (front ++ cs)

-- an indentation, or the end of one
abbrev pub IsMark : TokenKind → Type 0
IsMark kind.Indent = Unit {0}
IsMark kind.Dedent = Unit {0}
IsMark _ = ⊥

-- marks of a line, in front of its first token
abbrev pub AreMarks : List ℕ → List Token → Type 0
AreMarks front marks = All (λ m. IsMark m.kind × Spans m front []) marks

-- the end of an indentation at the end of a text: it stands on the line behind the last
pub record IsLast (t : Token) (front : List ℕ) : Type 0 where
  pub kind : t.kind ≡ kind.Dedent
  pub place : t.place ≡ line_behind (place_behind front)
  pub start : t.start ≡ bytes_of front
  pub end : t.end ≡ bytes_of front

-- Cut front cs ts rest: the characters cs, which stand behind those of front, are those of the tokens ts and of what stands
-- between them, up to the characters rest
pub data Cut : List ℕ → List ℕ → List Token → List ℕ → Type 0 where
  ended : {front rest : List ℕ} → Cut front rest [] rest
  -- a fault stands in front, in the first token of a line perhaps, whose marks are read
  stopped : {front : List ℕ} {marks : List Token} (c : ℕ) (rest : List ℕ) → AreMarks front marks → Cut front (c ∷ rest) marks (c ∷ rest)
  -- blanks, a comment or a line end
  between : {front behind : List ℕ} {ts : List Token} {rest : List ℕ} (cs : List ℕ) →
      IsBetween cs behind → Cut (front ++ cs) behind ts rest → Cut front (cs ++ behind) ts rest
  -- a token that has characters of its own, as many as can be, behind the marks of its line where it is the first
  word : {front behind : List ℕ} {t : Token} {ts : List Token} {rest : List ℕ} (marks : List Token) (cs : List ℕ) →
      AreMarks front marks → IsWord t.kind cs → IsLongest cs behind → Spans t front cs → Cut (front ++ cs) behind ts rest → Cut front (cs ++ behind) (marks ++ t ∷ ts) rest
  -- a line end that ends a line
  line_end : {front behind : List ℕ} {t : Token} {ts : List Token} {rest : List ℕ} (cs : List ℕ) →
      t.kind ≡ kind.Newline → IsLineEnd cs → Spans t front cs → Cut (front ++ cs) behind ts rest → Cut front (cs ++ behind) (t ∷ ts) rest
  -- a line end that is missing at the end of the text
  supplied : {front : List ℕ} {t : Token} {ts : List Token} {rest : List ℕ} →
      t.kind ≡ kind.Newline → Spans t front [] → Cut front [] ts rest → Cut front [] (t ∷ ts) rest
  last : {front : List ℕ} {t : Token} {ts : List Token} {rest : List ℕ} → IsLast t front → Cut front [] ts rest → Cut front [] (t ∷ ts) rest

-- a text is cut into its tokens and what stands between them: the whole of it, or what comes before a fault
abbrev pub TextsAreCut : Type 0
TextsAreCut = (text : List ℕ) (ts : List Token) (f : Option ReadFault) → IsLexed text ts f → (rest : List ℕ) × Cut [] (chars text) ts rest × (f ≡ None → rest ≡ [])
