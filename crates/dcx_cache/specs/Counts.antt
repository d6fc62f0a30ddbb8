-- How many steps a session counts.
use Rattle.std.specs.Prelude.{◌≡◌, ℕ, ◌+◌, ◌*◌, ◌≤◌, length}
use Rattle.dcx_tree.specs.declared.problem.Problem.{Problem}
use Rattle.dcx_cache.specs.Programs.{HasMap}

-- how many steps are counted for so many settings: one for each node, where the problem has a map; and else at most as many, and as
-- many again at each setting
pub record Counts (p : Problem) (settings : ℕ) (old new : ℕ) : Type 0 where
  pub mapped : HasMap p → new ≡ old + length p.tree
  pub anew : new ≤ old + length p.tree + settings * length p.tree

-- no more are counted: where memory is wanting before all settings are done
pub record CountsNoMore (p : Problem) (settings : ℕ) (old new : ℕ) : Type 0 where
  pub mapped : HasMap p → new ≤ old + length p.tree
  pub anew : new ≤ old + length p.tree + settings * length p.tree
