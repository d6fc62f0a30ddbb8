-- The settings of a file: what its bytes spell, or why they are refused.
use Rattle.std.specs.Prelude.{◌≡◌, ⊤, ℕ, ◌<◌, ◌≤◌, ℤ, pos, List, [], ◌∷◌, length, take, drop, slice_get, Option, Some, None, Result, Ok, Err}
use Rattle.dcx_shape.specs.declared.place.Place.{Place}
use Rattle.dcx_tokens.specs.declared.fault.ReadFault.{ReadFault}
use Rattle.dcx_tokens.specs.declared.fault.ReadFault.TheVariants as fault
use Rattle.dcx_tokens.specs.declared.token.Token.{Token}
use Rattle.dcx_tokens.specs.File.{IsText, IsNoText}
use Rattle.dcx_tokens.specs.Position.{end_of}
use Rattle.dcx_tokens.specs.Reading.{IsLexed}
use Rattle.dcx_settings.specs.declared.settings.SettingItem.{SettingItem}
use Rattle.dcx_settings.specs.Terminal.{Terminal, digits, slash, newline, terminals}
use Rattle.dcx_settings.specs.Grammar.{Line, settings_text}
use Rattle.dcx_settings.specs.Reading.{AreSpelled, IsUnexpected}
use Rattle.dcx_settings.specs.Meaning.{AreSettings}

-- the most settings of a file
abbrev pub most_settings : ℕ
most_settings = 1000

-- ---- places
abbrev pub place_or_end : List ℕ → Option Token → Place
place_or_end text (Some t) = t.place
place_or_end text None = end_of text

-- the place of token i; behind all tokens, that of the end of the text
abbrev pub place_at : List ℕ → List Token → ℕ → Place
place_at text ts i = place_or_end text (slice_get ts i)

-- ---- division by 0
-- digits, a slash and digits of value 0 are first
pub record BeginsDividedByZero (us : List Terminal) : Type 0 where
  pub number : ℤ
  pub rest : List Terminal
  pub tokens_are : us ≡ digits number ∷ slash ∷ digits (pos 0) ∷ rest

-- they stand from token i on
abbrev pub DividesByZero : List Terminal → ℕ → Type 0
DividesByZero us i = BeginsDividedByZero (drop i us)

abbrev pub NeverDividesByZero : List Terminal → Type 0
NeverDividesByZero us = (i : ℕ) → DividesByZero us i → ⊥

-- for the first time
pub record FirstDividesByZero (us : List Terminal) (i : ℕ) : Type 0 where
  pub divides : DividesByZero us i
  pub first : (j : ℕ) → DividesByZero us j → i ≤ j

-- the fault of tokens that a reading from left to right meets first: digits that are divided by 0, or the fault where the
-- tokens end
pub data HasFault (text : List ℕ) (ts : List Token) (end : Option ReadFault) (f : ReadFault) : Type 0 where
  divided : (i : ℕ) → FirstDividesByZero (terminals text ts) i → f ≡ fault.BadNumber (place_at text ts i) → HasFault text ts end f
  ended : NeverDividesByZero (terminals text ts) → end ≡ Some f → HasFault text ts end f

-- ---- lines
-- what stands behind the first line end
abbrev pub behind_line : List Terminal → List Terminal
behind_line [] = []
behind_line (newline ∷ us) = us
behind_line (t ∷ us) = behind_line us

-- why all tokens of a text are refused
pub data AreNoSettings (text : List ℕ) (ts : List Token) (f : ReadFault) : Type 0 where
  -- no settings go on with token i, or end there
  unexpected : (i : ℕ) → IsUnexpected (terminals text ts) (drop i (terminals text ts)) → f ≡ fault.Unexpected (place_at text ts i) → AreNoSettings text ts f
  -- there are too many; the first too many begins there
  too_many : (lines : List Line) → AreSpelled (terminals text ts) lines → most_settings < length lines
      → f ≡ fault.TooLong (place_at text ts (length (settings_text (take most_settings lines)))) → AreNoSettings text ts f

-- the tokens spell these settings, and not too many
pub record AreFewSettings (tokens : List Terminal) (settings : List (List SettingItem)) : Type 0 where
  pub spelled : AreSettings tokens settings
  pub few : length settings ≤ most_settings

-- what reading all tokens of a text answers; want of memory is free
abbrev pub IsTokensReading : List ℕ → List Token → Result (List (List SettingItem)) ReadFault → Type 0
IsTokensReading text ts (Ok settings) = AreFewSettings (terminals text ts) settings
IsTokensReading text ts (Err fault.Memory) = ⊤
IsTokensReading text ts (Err f) = AreNoSettings text ts f

-- ---- files
-- the tokens of the bytes, and the fault where they end, if any
pub record HasTokens (bytes : List ℕ) (ts : List Token) (end : Option ReadFault) : Type 0 where
  pub text : IsText bytes
  pub lexed : IsLexed bytes ts end

-- the tokens of the bytes, which have no fault
pub record HasAllTokens (bytes : List ℕ) (ts : List Token) : Type 0 where
  pub tokens : HasTokens bytes ts None
  pub never : NeverDividesByZero (terminals bytes ts)

-- why the bytes are refused: they are no text, or its tokens have a fault, or they spell no settings
pub data IsRefused (bytes : List ℕ) (f : ReadFault) : Type 0 where
  no_text : IsNoText bytes f → IsRefused bytes f
  no_tokens : (ts : List Token) (end : Option ReadFault) → HasTokens bytes ts end → HasFault bytes ts end f → IsRefused bytes f
  no_settings : (ts : List Token) → HasAllTokens bytes ts → AreNoSettings bytes ts f → IsRefused bytes f

-- the bytes spell these settings
pub record SpellSettings (bytes : List ℕ) (settings : List (List SettingItem)) : Type 0 where
  pub tokens : List Token
  pub all : HasAllTokens bytes tokens
  pub settings_are : AreFewSettings (terminals bytes tokens) settings

-- what reading a file answers; want of memory is free
abbrev pub IsSettingsReading : List ℕ → Result (List (List SettingItem)) ReadFault → Type 0
IsSettingsReading bytes (Ok settings) = SpellSettings bytes settings
IsSettingsReading bytes (Err fault.Memory) = ⊤
IsSettingsReading bytes (Err f) = IsRefused bytes f
