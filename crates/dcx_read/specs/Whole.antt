-- Scripts as whole texts: the one tree that the terminals spell, or the first of them that goes on no text.
use Rattle.std.specs.Prelude.{◌≡◌, List, [], ◌∷◌, ◌++◌}
use Rattle.dcx_syntax.specs.Terminal.{Terminal}
use Rattle.dcx_syntax.specs.Statements.{Lines, lines_text}

-- the text goes on after the front with the first terminal of the rest, or ends there as the rest does
abbrev pub GoesOn : (text front rest : List Terminal) → Type 0
GoesOn text front [] = text ≡ front
GoesOn text front (u ∷ rest) = (more : List Terminal) × (text ≡ front ++ u ∷ more)

-- Some script begins with the terminals before the rest, and none goes on with the rest's first terminal; where the
-- rest is empty, all of them begin a script and are none.
pub record IsUnexpected (us rest : List Terminal) : Type 0 where
  pub front : List Terminal
  pub parts : us ≡ front ++ rest
  pub tree : Lines
  pub more : List Terminal
  pub begun : lines_text tree ≡ front ++ more
  pub never : (x : Lines) → GoesOn (lines_text x) front rest → ⊥

-- the script that the terminals spell
pub record IsScript (us : List Terminal) (x : Lines) : Type 0 where
  pub spelled : lines_text x ≡ us
  pub only : (y : Lines) → lines_text y ≡ us → y ≡ x
