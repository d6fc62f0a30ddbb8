-- The columns that a session keeps from setting to setting: the basic columns of its last optimal answer.
use Rattle.std.specs.Prelude.{◌≡◌, ⊤, ℕ, ◌-◌, List, length, take, Option, Some, None, Result, Ok, Err}
use Rattle.dcx_tab.specs.Table.{Table}
use Rattle.dcx_chained.specs.Tables.{table_of}
use Rattle.dcx_warm.specs.Install.{AreApart}
use Rattle.dcx_answer.specs.declared.answer.Answer.{Answer}
use Rattle.dcx_answer.specs.declared.answer.Answer.TheVariants.{Optimal, Infeasible, Unbounded}
use Rattle.dcx_answer.specs.declared.stop.Stop.{Stop}
use Rattle.dcx_cache.specs.declared.session.Last.{Last}

-- the basic columns of a tableau, row by row, without those of its last two rows, which are z and w
abbrev pub basic_columns : Table → List ℕ
basic_columns t = take (length t.rows - 2) t.basis

-- what is kept after an answer that is read at a tableau: the basic columns there if it is optimal, and else what was kept before
abbrev pub columns_after : Option (List ℕ) → Answer → Table → Option (List ℕ)
columns_after before (Optimal number point duals) t = Some (basic_columns t)
columns_after before (Infeasible duals gap) t = before
columns_after before (Unbounded point ray bound slope) t = before

-- columns that are to be kept anew, or else those that were kept before
abbrev pub kept_or : Option (List ℕ) → Option (List ℕ) → Option (List ℕ)
kept_or (Some anew) before = Some anew
kept_or None before = before

-- what is kept after an end that is shown so: a stop leaves what was kept before
abbrev pub Keeps : Option (List ℕ) → Result Answer Stop → Option Last → Option (List ℕ) → Type 0
Keeps before (Ok a) (Some last) after = after ≡ columns_after before a (table_of last.solved.tableau)
Keeps before (Ok a) None after = ⊥
Keeps before (Err stop) last after = after ≡ before

-- no column stands twice
abbrev pub HoldsApart : Option (List ℕ) → Type 0
HoldsApart (Some columns) = AreApart columns
HoldsApart None = ⊤
