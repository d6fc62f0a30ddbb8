-- Places in a text: lines from 1 by LF, columns in bytes from 1.
use Rattle.std.specs.Prelude.{ℕ, ◌+◌, ◌≤◌, ◌==◌, if◌then◌else◌, List, [], ◌∷◌, sum_by}
use Rattle.std.specs.Char.{len_utf8}
use Rattle.std.specs.Str.{chars}
use Rattle.dcx_shape.specs.declared.place.Place.{Place}
use Rattle.dcx_tokens.specs.declared.position.Position.{Position}

-- the length of the characters in UTF-8
abbrev pub bytes_of : List ℕ → ℕ
bytes_of cs = sum_by len_utf8 cs

abbrev pub start_of_text : Position
start_of_text = record { offset = 0; place = record { line = 1; column = 1 } }

-- LF begins the next line; any other character moves on by its bytes
abbrev pub next_place : Place → ℕ → Place
next_place p c = if c == 10 then record { line = p.line + 1; column = 1 } else record { line = p.line; column = p.column + len_utf8 c }

-- behind a character
abbrev pub next_at : Position → ℕ → Position
next_at at c = record { offset = at.offset + len_utf8 c; place = next_place at.place c }

-- behind characters
abbrev pub moved_over : Position → List ℕ → Position
moved_over at [] = at
moved_over at (c ∷ cs) = moved_over (next_at at c) cs

-- the first column of the line behind the last, where a text ends at this place: its last line end may be missing
abbrev pub line_behind : Place → Place
line_behind p = if p.column == 1 then p else record { line = p.line + 1; column = 1 }

-- behind a whole text
abbrev pub position_behind : List ℕ → Position
position_behind text = moved_over start_of_text (chars text)

-- where the end of a text stands
abbrev pub end_of : List ℕ → Place
end_of text = line_behind (position_behind text).place

-- the line and the column are no further than the bytes in front allow
pub record IsInText (at : Position) : Type 0 where
  pub line : 1 ≤ at.place.line
  pub column : 1 ≤ at.place.column
  pub bytes : at.place.line + at.place.column ≤ at.offset + 2
