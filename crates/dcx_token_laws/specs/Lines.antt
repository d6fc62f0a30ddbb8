-- Lines, and what their depths make: Python's rule, said of tokens.
use Rattle.std.specs.Prelude.{◌≡◌, ◌⊎◌, ℕ, ◌-◌, ◌<◌, List, [], ◌∷◌, ◌++◌, length, map, replicate, None}
use Rattle.std.specs.List.{All}
use Rattle.dcx_tokens.specs.declared.token.Token.{Token}
use Rattle.dcx_tokens.specs.declared.token.TokenKind.{TokenKind}
use Rattle.dcx_tokens.specs.declared.token.TokenKind.TheVariants as kind
use Rattle.dcx_tokens.specs.Laws.{brackets_behind, brackets_left}
use Rattle.dcx_tokens.specs.Reading.{IsLexed}

-- a kind of token that has characters of its own
abbrev pub IsOfWords : TokenKind → Type 0
IsOfWords kind.Newline = ⊥
IsOfWords kind.Indent = ⊥
IsOfWords kind.Dedent = ⊥
IsOfWords _ = Unit {0}

-- how far a token stands from the first column
abbrev pub depth_of : Token → ℕ
depth_of t = t.place.column - 1

abbrev pub kinds : List Token → List TokenKind
kinds ts = map (λ t. t.kind) ts

-- the innermost of the blocks that are open has this depth; without a block it is 0
abbrev pub StandsAt : List ℕ → ℕ → Type 0
StandsAt blocks depth = ((blocks ≡ []) × (depth ≡ 0)) ⊎ ((outer : List ℕ) × (blocks ≡ outer ++ depth ∷ []))

-- Turns blocks depth marks after: a line of this depth, where blocks of these depths are open, outermost first, has these
-- marks in front, and then those blocks are open
pub data Turns : List ℕ → ℕ → List TokenKind → List ℕ → Type 0 where
  -- it is deeper than all: one more block
  deeper : {blocks : List ℕ} {depth : ℕ} → 0 < depth → All (λ d. d < depth) blocks → Turns blocks depth (kind.Indent ∷ []) (blocks ++ depth ∷ [])
  -- or it stands where a block that is open does, and those that are deeper end
  back : {stay : List ℕ} {depth : ℕ} (gone : List ℕ) → StandsAt stay depth → All (λ d. depth < d) gone → Turns (stay ++ gone) depth (replicate (length gone) kind.Dedent) stay

-- IsTogether row brackets ts: behind a token of this row of the text, with so many brackets open, each of the tokens stands on
-- the row of the one in front of it, or a bracket is open between them
abbrev pub IsTogether : ℕ → ℕ → List Token → Type 0
IsTogether row brackets [] = Unit {0}
IsTogether row brackets (t ∷ ts) = ((t.place.line ≡ row) ⊎ (0 < brackets)) × IsTogether t.place.line (brackets_behind brackets t.kind) ts

-- AreLines blocks ts: the tokens ts are those of lines, where blocks of these depths are open
pub data AreLines : List ℕ → List Token → Type 0 where
  -- behind the last line all blocks end
  ended : {blocks : List ℕ} {ts : List Token} → kinds ts ≡ replicate (length blocks) kind.Dedent → AreLines blocks ts
  -- A line: the marks that its depth makes, in the place of its first token, its tokens, at least one, whose brackets are
  -- all closed, and its end; it goes over several rows of the text only inside brackets. Then come other lines.
  line : {blocks after : List ℕ} (marks : List Token) (first : Token) (more : List Token) (end : Token) (ts : List Token) →
      Turns blocks (depth_of first) (kinds marks) after → All (λ m. m.place ≡ first.place) marks → All (λ t. IsOfWords t.kind) (first ∷ more) →
      brackets_left 0 (first ∷ more) ≡ 0 → IsTogether first.place.line (brackets_behind 0 first.kind) (more ++ end ∷ []) → end.kind ≡ kind.Newline → AreLines after ts
      → AreLines blocks (marks ++ first ∷ more ++ end ∷ ts)

-- the tokens of a text without a fault are those of lines
abbrev pub TextsAreLines : Type 0
TextsAreLines = (text : List ℕ) (ts : List Token) → IsLexed text ts None → AreLines [] ts
