-- What parsing means: the tree of the tokens, or the first token that no script goes on with; and the one order of refusals.
use Rattle.std.specs.Prelude.{◌≡◌, ◌-◌, ⊤, ℕ, List, [], ◌∷◌, ◌++◌, length, drop, Some, None, Result, Ok, Err}
use Rattle.dcx_shape.specs.declared.place.Place.{Place}
use Rattle.dcx_tokens.specs.declared.fault.ReadFault.{ReadFault}
use Rattle.dcx_tokens.specs.declared.fault.ReadFault.TheVariants as fault
use Rattle.dcx_tokens.specs.declared.token.Token.{Token}
use Rattle.dcx_tokens.specs.File.{IsText, IsNoText}
use Rattle.dcx_tokens.specs.Position.{end_of}
use Rattle.dcx_tokens.specs.Reading.{IsLexed}
use Rattle.dcx_read.specs.declared.front.Stop.{Stop}
use Rattle.dcx_read.specs.declared.front.Stop.TheVariants as stops
use Rattle.dcx_syntax.specs.declared.tree.Script.{Script}
use Rattle.dcx_read.specs.Terminals.{terminals}
use Rattle.dcx_syntax.specs.Statements.{Lines, trimmed_all}
use Rattle.dcx_syntax.specs.View.{script_view}
use Rattle.dcx_read.specs.Whole.{IsScript, IsUnexpected}

-- the script is the tree of these tokens of the text, where what its calls of print print isn't kept
pub record IsTree (text : List ℕ) (tokens : List Token) (script : Script) : Type 0 where
  pub tree : Lines
  pub spelled : IsScript (terminals text tokens) tree
  pub kept : script_view script ≡ trimmed_all tree

-- where the first of these tokens stands, or the end where there is none
abbrev pub first_place : List Token → (end : Place) → Place
first_place [] end = end
first_place (t ∷ ts) end = t.place

-- some script begins with the tokens before this place, and none goes on with the token that stands there
pub record IsUnexpectedAt (text : List ℕ) (tokens : List Token) (end place : Place) : Type 0 where
  pub before : List Token
  pub rest : List Token
  pub parts : tokens ≡ before ++ rest
  pub unexpected : IsUnexpected (terminals text tokens) (terminals text rest)
  pub at : place ≡ first_place rest end

-- the tree of the tokens, or the tokens from the first unexpected one on; want of memory is free
abbrev pub ReadsScript : List ℕ → List Token → Result Script Stop → Type 0
ReadsScript text tokens (Ok script) = IsTree text tokens script
ReadsScript text tokens (Err stops.Memory) = ⊤
ReadsScript text tokens (Err (stops.At rest)) = IsUnexpected (terminals text tokens) (terminals text rest.now)

-- the fault that a stop is: at the first token of what is left
abbrev pub stop_fault : Stop → List Token → (end : Place) → ReadFault
stop_fault stops.Memory tokens end = fault.Memory
stop_fault (stops.At rest) tokens end = fault.Unexpected (first_place (drop (length tokens - length rest.now) tokens) end)

-- the tree of the tokens, or the first of them that is unexpected; want of memory is free
abbrev pub Parses : List ℕ → List Token → (end : Place) → Result Script ReadFault → Type 0
Parses text tokens end (Ok script) = IsTree text tokens script
Parses text tokens end (Err (fault.Unexpected place)) = IsUnexpectedAt text tokens end place
Parses text tokens end (Err fault.Memory) = ⊤
Parses text tokens end (Err f) = ⊥

-- a text with these tokens up to its end
pub record HasTokens (bytes : List ℕ) (tokens : List Token) : Type 0 where
  pub text : IsText bytes
  pub lexed : IsLexed bytes tokens None

-- why there are no tokens to parse: the bytes are no text, or this is the first fault of its tokens
pub data HasNoTokens (bytes : List ℕ) (f : ReadFault) : Type 0 where
  no_text : IsNoText bytes f → HasNoTokens bytes f
  no_tokens : (tokens : List Token) → IsText bytes → IsLexed bytes tokens (Some f) → HasNoTokens bytes f

-- What reading a script answers, in the one order of refusals: the bytes are no text; the first fault of the tokens; the
-- first token that is unexpected. Want of memory is free.
abbrev pub IsReading : List ℕ → Result Script ReadFault → Type 0
IsReading bytes (Ok script) = (tokens : List Token) × (HasTokens bytes tokens × IsTree bytes tokens script)
IsReading bytes (Err (fault.Unexpected place)) = (tokens : List Token) × (HasTokens bytes tokens × IsUnexpectedAt bytes tokens (end_of bytes) place)
IsReading bytes (Err fault.Memory) = ⊤
IsReading bytes (Err f) = HasNoTokens bytes f
