-- A text as words, numbers, signs, blanks and line ends, one behind another.
use Rattle.std.specs.Prelude.{ℕ, ◌+◌, ◌^◌, Bool, true, false, not, ◌&&◌, ◌||◌, ◌==◌, nat_lt, List, [], ◌∷◌, ◌++◌, length, is_some, is_none, decimal, Option, Some, None}
use Rattle.std.specs.List.{list_all}
use Rattle.std.specs.Char.{is_ascii_alphabetic, is_ascii_alphanumeric}
use Rattle.dcx_shape.specs.declared.place.Place.{Place}
use Rattle.dcx_tokens.specs.declared.token.Symbol.{Symbol}
use Rattle.dcx_tokens.specs.declared.token.TokenKind.TheVariants as kind
use Rattle.dcx_tokens.specs.Front.{is_blank, is_quote, begins_number, long_sign, short_sign}
use Rattle.dcx_tokens.specs.Laws.{brackets_behind}

pub data Piece : Type 0 where
  word : List ℕ → Piece
  number : ℕ → Piece
  -- of one character
  sign : ℕ → Piece
  blank : Piece
  line_end : Piece

abbrev pub spelled : Piece → List ℕ
spelled (word w) = w
spelled (number k) = decimal k
spelled (sign c) = c ∷ []
spelled blank = 32 ∷ []
spelled line_end = 10 ∷ []

-- the pieces in front of the rest
abbrev pub joined : List Piece → List ℕ → List ℕ
joined [] rest = rest
joined (p ∷ ps) rest = spelled p ++ joined ps rest

-- ---- where a piece stands
-- how many brackets are open, whether the line has a token, and the place
pub record Spot : Type 0 where
  pub depth : ℕ
  pub begun : Bool
  pub place : Place

abbrev pub further : Place → ℕ → Place
further p n = record { line = p.line; column = p.column + n }

abbrev pub moved_by : Spot → ℕ → Spot
moved_by s n = record { depth = s.depth; begun = true; place = further s.place n }

abbrev pub depth_behind : ℕ → Option Symbol → ℕ
depth_behind n None = n
depth_behind n (Some symbol) = brackets_behind n (kind.Sign symbol)

abbrev pub behind : Spot → Piece → Spot
behind s (word w) = moved_by s (length w)
behind s (number k) = moved_by s (length (decimal k))
behind s (sign c) = record { depth = depth_behind s.depth (short_sign c); begun = true; place = further s.place 1 }
behind s blank = moved_by s 1
behind s line_end = record { depth = s.depth; begun = false; place = record { line = s.place.line + 1; column = 1 } }

abbrev pub behind_all : Spot → List Piece → Spot
behind_all s [] = s
behind_all s (p ∷ ps) = behind_all (behind s p) ps

-- ---- what keeps a piece apart from what stands behind it
-- the first of the characters, and a line end where there is none
abbrev pub next_of : List ℕ → ℕ
next_of [] = 10
next_of (d ∷ ds) = d

-- no line end, no blank and no comment begins with it
abbrev pub begins_token : ℕ → Bool
begins_token c = not (c == 10) && (not (c == 13) && (not (is_blank c) && not (c == 35)))

-- of ASCII, and no line feed
abbrev pub is_single : ℕ → Bool
is_single c = nat_lt c 128 && not (c == 10)

abbrev pub begins_word : ℕ → Bool
begins_word c = is_ascii_alphabetic c || (c == 95)

abbrev pub continues_word : ℕ → Bool
continues_word c = is_ascii_alphanumeric c || (c == 95)

abbrev pub word_goes_on : ℕ → Bool
word_goes_on c = nat_lt c 128 && continues_word c

abbrev pub ends_word : ℕ → Bool
ends_word d = nat_lt d 128 && not (continues_word d)

abbrev pub ends_number : ℕ → Bool
ends_number d = ends_word d && not (d == 46)

-- a sign that is no part of a longer one
abbrev pub is_sign : ℕ → ℕ → Bool
is_sign c d = is_some (short_sign c) && is_none (long_sign c d)

-- the piece is read alone there, in front of a character
abbrev pub fits : Spot → Piece → (next : ℕ) → Bool
fits s (word []) d = false
fits s (word (c ∷ w)) d = begins_token c && (begins_word c && (list_all word_goes_on w && (list_all is_single (c ∷ w) && ends_word d)))
fits s (number k) d = nat_lt k (2 ^ 64) && ends_number d
fits s (sign c) d = begins_token c && (not (begins_word c) && (is_single c && (not (begins_number c (d ∷ [])) && (not (is_quote c) && (is_sign c d && nat_lt s.depth 64)))))
fits s blank d = s.begun && not (is_blank d)
fits s line_end d = s.begun && (s.depth == 0)

-- all of them are, in front of the rest
abbrev pub all_fit : Spot → List Piece → List ℕ → Bool
all_fit s [] rest = true
all_fit s (p ∷ ps) rest = fits s p (next_of (joined ps rest)) && all_fit (behind s p) ps rest
