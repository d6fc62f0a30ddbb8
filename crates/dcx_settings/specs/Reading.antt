-- What reading settings means: the lines that the tokens spell, or the first token that begins none.
use Rattle.std.specs.Prelude.{◌≡◌, ⊤, ℕ, List, [], ◌∷◌, ◌++◌}
use Rattle.dcx_settings.specs.Terminal.{Terminal, terminals}
use Rattle.dcx_settings.specs.declared.stop.Stop.{Stop}
use Rattle.dcx_settings.specs.declared.stop.Stop.TheVariants.{Memory, At}
use Rattle.dcx_settings.specs.Grammar.{Line, settings_text, Every, IsGoodLine}

-- these good lines are spelled by the tokens
pub record AreSpelled (tokens : List Terminal) (lines : List Line) : Type 0 where
  pub good : Every IsGoodLine lines
  pub text : settings_text lines ≡ tokens

-- the text goes on behind the front with the first token of the rest, or ends there as the rest does
abbrev pub GoesOn : (text front rest : List Terminal) → Type 0
GoesOn text front [] = text ≡ front
GoesOn text front (t ∷ rest) = (more : List Terminal) × (text ≡ front ++ t ∷ more)

-- some good lines begin with the tokens before the rest, and none go on with the first token of the rest
pub record IsUnexpected (tokens rest : List Terminal) : Type 0 where
  pub front : List Terminal
  pub parts : tokens ≡ front ++ rest
  pub lines : List Line
  pub good : Every IsGoodLine lines
  pub more : List Terminal
  pub begun : settings_text lines ≡ front ++ more
  pub never : (others : List Line) → Every IsGoodLine others → GoesOn (settings_text others) front rest → ⊥

-- reading stops there for good reason; want of memory is free
abbrev pub StopsUnexpected : List ℕ → List Terminal → Stop → Type 0
StopsUnexpected text tokens Memory = ⊤
StopsUnexpected text tokens (At rest) = IsUnexpected tokens (terminals text rest.now)
