-- The text of a file: which bytes are one, and why others are none.
use Rattle.std.specs.Prelude.{◌≡◌, ℕ, ◌≤◌, ◌<◌, List, length, take}
use Rattle.std.specs.Str.{IsUtf8, IsValidUpTo}
use Rattle.dcx_shape.specs.declared.place.Place.{Place}
use Rattle.dcx_tokens.specs.declared.fault.ReadFault.{ReadFault}
use Rattle.dcx_tokens.specs.declared.fault.ReadFault.TheVariants as fault
use Rattle.dcx_tokens.specs.Position.{start_of_text, position_behind}

-- the most bytes of a file
abbrev pub most_bytes : ℕ
most_bytes = 1048576

-- UTF-8, and not too long
pub record IsText (bytes : List ℕ) : Type 0 where
  pub short : length bytes ≤ most_bytes
  pub utf8 : IsUtf8 bytes

-- the first byte that isn't UTF-8 stands there: behind the longest front that is
pub record IsFirstBadByte (bytes : List ℕ) (place : Place) : Type 0 where
  pub count : ℕ
  pub valid : IsValidUpTo bytes count
  pub place_is : place ≡ (position_behind (take count bytes)).place

-- why bytes are no text: first their length counts, then the first byte that isn't UTF-8
abbrev pub IsNoText : List ℕ → ReadFault → Type 0
IsNoText bytes (fault.TooLong place) = (most_bytes < length bytes) × (place ≡ start_of_text.place)
IsNoText bytes (fault.NotText place) = (length bytes ≤ most_bytes) × IsFirstBadByte bytes place
IsNoText bytes _ = ⊥
