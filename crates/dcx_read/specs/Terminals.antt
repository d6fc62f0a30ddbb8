-- What the grammar sees in the tokens of a text.
use Rattle.std.specs.Prelude.{ℕ, List, map}
use Rattle.std.specs.List.{slice_range}
use Rattle.dcx_shape.specs.declared.place.Place.{Place}
use Rattle.dcx_tokens.specs.declared.token.Token.{Token}
use Rattle.dcx_syntax.specs.declared.tree.Named.{Named}
use Rattle.dcx_syntax.specs.Terminal.{
  Terminal,
  opens,
  closes,
  plain,
  name,
  number,
  text,
  truth,
  none,
  compares,
  signs,
  scales,
  power,
  plus_equal,
  import,
  for,
  print,
  as_word,
  in_word,
  dot,
  comma,
  colon,
  equal,
  newline,
  indent,
  dedent,
  other,
}
use Rattle.dcx_read.specs.declared.role.Role.{Role}
use Rattle.dcx_read.specs.declared.role.Role.TheVariants as roles
use Rattle.dcx_read.specs.Role.{role_of}

abbrev pub terminal : Role → List ℕ → Place → Terminal
terminal (roles.Opens b) bytes place = opens b place
terminal (roles.Closes b) bytes place = closes b
terminal roles.Name bytes place = plain (name bytes place)
terminal (roles.Number n) bytes place = plain (number n place)
terminal roles.Text bytes place = plain (text bytes place)
terminal (roles.Truth b) bytes place = plain (truth b place)
terminal roles.None bytes place = plain (none place)
terminal (roles.Compares c) bytes place = plain (compares c place)
terminal (roles.Signs s) bytes place = plain (signs s place)
terminal (roles.Scales s) bytes place = plain (scales s place)
terminal roles.Power bytes place = plain (power place)
terminal roles.PlusEqual bytes place = plain (plus_equal place)
terminal roles.Import bytes place = plain (import place)
terminal roles.For bytes place = plain (for place)
terminal roles.Print bytes place = plain (print place)
terminal roles.As bytes place = plain as_word
terminal roles.In bytes place = plain in_word
terminal roles.Dot bytes place = plain dot
terminal roles.Comma bytes place = plain comma
terminal roles.Colon bytes place = plain colon
terminal roles.Equal bytes place = plain equal
terminal roles.Newline bytes place = plain newline
terminal roles.Indent bytes place = plain indent
terminal roles.Dedent bytes place = plain dedent
terminal roles.Other bytes place = plain other

-- what the text says between the ends of a token's span
abbrev pub spelled : List ℕ → Token → List ℕ
spelled source t = slice_range source t.start t.end

-- the name that a token is
abbrev pub named_by : List ℕ → Token → Named
named_by source t = record { name = spelled source t; place = t.place }

abbrev pub terminal_of : List ℕ → Token → Terminal
terminal_of source t = terminal (role_of t.kind) (spelled source t) t.place

abbrev pub terminals : List ℕ → List Token → List Terminal
terminals source ts = map (terminal_of source) ts
