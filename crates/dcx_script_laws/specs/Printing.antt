-- What stands in a `print` has no meaning.
use Rattle.std.specs.Prelude.{◌≡◌, ℕ, List}
use Rattle.dcx_tokens.specs.declared.token.Token.{Token}
use Rattle.dcx_syntax.specs.declared.tree.Script.{Script}
use Rattle.dcx_syntax.specs.Statements.{Lines, trimmed_all}
use Rattle.dcx_syntax.specs.View.{script_view}
use Rattle.dcx_read.specs.Parses.{IsTree}
use Rattle.dcx_script_values.specs.Values.{State}
use Rattle.dcx_elab.specs.Statements.{lines_mean}
use Rattle.dcx_elab.specs.Meaning.{meaning}

-- lines do the same without what their calls of `print` print, and so do scripts; and a script that was read, of which that
-- isn't kept, means what the tree of its tokens means
pub record HoldsForPrints : Type 0 where
  pub lines : (ls : Lines) (s : State) → lines_mean (trimmed_all ls) s ≡ lines_mean ls s
  pub scripts : (ls : Lines) → meaning (trimmed_all ls) ≡ meaning ls
  pub read : (text : List ℕ) (tokens : List Token) (script : Script) (parsed : IsTree text tokens script) → meaning (script_view script) ≡ meaning parsed.tree
