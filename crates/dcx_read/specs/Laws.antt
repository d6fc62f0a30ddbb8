-- The laws of the grammar, as the clauses of the law functions say them.
use Rattle.std.specs.Prelude.{◌≡◌, ◌⊎◌, List}
use Rattle.dcx_syntax.specs.Terminal.{Terminal}
use Rattle.dcx_syntax.specs.Statements.{Lines, lines_text}
use Rattle.dcx_read.specs.Whole.{IsUnexpected, IsScript}

-- Terminals have at most one tree; they have one, or a first of them that goes on no script, and not both.
pub record HoldsForScripts : Type 0 where
  pub one : (x y : Lines) → lines_text x ≡ lines_text y → x ≡ y
  pub decided : (us : List Terminal) → ((x : Lines) × IsScript us x) ⊎ ((rest : List Terminal) × IsUnexpected us rest)
  pub apart : (us rest : List Terminal) (x : Lines) → IsUnexpected us rest → lines_text x ≡ us → ⊥
