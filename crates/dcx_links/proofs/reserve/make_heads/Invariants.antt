-- There are so many heads, and none leads anywhere.
use Rattle.std.proofs.Common.{◌≡◌, ℕ, length}
use Rattle.dcx_links.specs.Lines.{none}
use Rattle.dcx_links.specs.Cells.{head_at}
use Rattle.dcx_links.proofs.reserve.make_heads.Given as goal

abbrev pub invariant-loop-i : goal.invariant-loop-i
invariant-loop-i l = record {
  count : length l.heads.items ≡ l._i;
  none : (k : ℕ) → head_at l.heads.items k ≡ none;
}
