-- What a session answers at a setting from the columns that it keeps: where the warm run from them ends optimal and its answer is
-- read, that answer, and else what it answers without them.
use Rattle.std.specs.Prelude.{◌≡◌, ◌≢◌, ⊤, ℕ, Bool, true, false, List, [], ◌∷◌, Option, Some, None, Result, Ok, Err}
use Rattle.dcx_frac.specs.declared.fraction.Frac.{Frac}
use Rattle.dcx_point.specs.Pairs.{Pairs}
use Rattle.dcx_tree.specs.declared.problem.Problem.{Problem}
use Rattle.dcx_answer.specs.declared.answer.Answer.{Answer}
use Rattle.dcx_answer.specs.declared.site.Site.{Site}
use Rattle.dcx_answer.specs.declared.stop.Stop.{Stop}
use Rattle.dcx_answer.specs.declared.stop.Stop.TheVariants as why
use Rattle.dcx_fit.specs.Fit.{FitsParameters}
use Rattle.dcx_tab.specs.declared.program.Program as tab
use Rattle.dcx_chained.specs.Tables.{table_of}
use Rattle.dcx_std.specs.Solutions.{HasKinds}
use Rattle.dcx_lp_solve.specs.declared.solving.Solved.{Solved}
use Rattle.dcx_lp_solve.specs.declared.warming.WarmEnd.{WarmEnd}
use Rattle.dcx_lp_solve.specs.Warm.{IsWarmSolved, with_end}
use Rattle.dcx_graph.specs.Program.{Program}
use Rattle.dcx_graph.specs.Answers.{rows_of, IsRead, PassesAt}
use Rattle.dcx_cache.specs.declared.session.Last.{Last}
use Rattle.dcx_cache.specs.declared.rewarming.Warmed.{Warmed}
use Rattle.dcx_cache.specs.Programs.{HasMap, SessionGives}
use Rattle.dcx_cache.specs.Answers.{IsAnswerOf, Stops}
use Rattle.dcx_cache.specs.Columns.{columns_after}

-- ---- one setting
-- the problem has a map, the setting fits the parameters, this is the session's program there, which names unknowns of its own alone,
-- its rows are solved by the warm run from these columns, with at most so many pivots, and the answer is read from that
pub record IsWarmAnswer (p : Problem) (setting : Pairs) (limit : ℕ) (columns : List ℕ) (q : Program Frac) (s : Solved) (a : Answer) : Type 0 where
  pub mapped : HasMap p
  pub fits : FitsParameters p.parameters setting
  pub program : SessionGives p setting (Ok q)
  pub known : HasKinds (rows_of q)
  pub is_solved : IsWarmSolved limit columns (rows_of q) s
  pub read : IsRead p q.kinds s.answer a

-- from what is kept, if it is any
abbrev pub IsWarm : Problem → Pairs → ℕ → Option (List ℕ) → Program Frac → Solved → Answer → Type 0
IsWarm p setting limit (Some columns) q s a = IsWarmAnswer p setting limit columns q s a
IsWarm p setting limit None q s a = ⊥

abbrev pub NeverWarm : Problem → Pairs → ℕ → Option (List ℕ) → Type 0
NeverWarm p setting limit before = (q : Program Frac) (s : Solved) (a : Answer) → ¬ (IsWarm p setting limit before q s a)

-- by the warm run; or, where there is no such answer, as without the columns
abbrev pub IsAnsweredBy : Problem → Pairs → ℕ → Option (List ℕ) → Bool → Program Frac → Solved → Answer → Type 0
IsAnsweredBy p setting limit before true q s a = IsWarm p setting limit before q s a
IsAnsweredBy p setting limit before false q s a = NeverWarm p setting limit before × IsAnswerOf p setting limit q s a

-- the setting is answered so, and from the tableau of the answer come the columns that are kept then
pub record IsWarmedTo (p : Problem) (setting : Pairs) (limit : ℕ) (before : Option (List ℕ)) (w : Warmed) (after : Option (List ℕ)) (q : Program Frac) (s : Solved) : Type 0 where
  pub answer : IsAnsweredBy p setting limit before w.kept q s w.answer
  pub columns : after ≡ columns_after before w.answer (table_of s.tableau)

-- the setting is stopped, as without the columns: there is no warm answer, want of memory aside, and what was kept stays
pub record IsStoppedWarm (p : Problem) (setting : Pairs) (limit : ℕ) (before : Option (List ℕ)) (stop : Stop) (after : Option (List ℕ)) : Type 0 where
  pub stops : Stops p setting limit stop
  pub never : stop ≢ why.Memory → NeverWarm p setting limit before
  pub columns : after ≡ before

-- how a setting ends from what is kept before, and what is kept after
abbrev pub WarmAnswers : Problem → Pairs → ℕ → Option (List ℕ) → Result Warmed Stop → Option (List ℕ) → Type 0
WarmAnswers p setting limit before (Ok w) after = (q : Program Frac) × (s : Solved) × IsWarmedTo p setting limit before w after q s
WarmAnswers p setting limit before (Err stop) after = IsStoppedWarm p setting limit before stop after

-- ---- what is shown then
-- the answer was found so, and the program is the kept one at the setting exactly where one is kept
pub record IsFoundWarm (p : Problem) (setting : Pairs) (limit : ℕ) (before : Option (List ℕ)) (cached : Bool) (w : Warmed) (after : Option (List ℕ)) (l : Last) : Type 0 where
  pub answer : IsWarmedTo p setting limit before w after l.reduced.program l.solved
  pub from_map : l.reduced.from_map ≡ cached

abbrev pub ShowsWarm : Problem → Pairs → ℕ → Option (List ℕ) → Bool → Warmed → Option (List ℕ) → Option Last → Type 0
ShowsWarm p setting limit before cached w after (Some l) = IsFoundWarm p setting limit before cached w after l
ShowsWarm p setting limit before cached w after None = ⊥

-- ---- settings one after another
-- each ends so, from what the one before it left
abbrev pub WarmAnswersAll : Problem → ℕ → Option (List ℕ) → List Pairs → List (Result Warmed Stop) → Type 0
WarmAnswersAll p limit before [] [] = ⊤
WarmAnswersAll p limit before (s ∷ ss) (r ∷ rs) = (after : Option (List ℕ)) × WarmAnswers p s limit before r after × WarmAnswersAll p limit after ss rs
WarmAnswersAll p limit before [] (r ∷ rs) = ⊥
WarmAnswersAll p limit before (s ∷ ss) [] = ⊥

-- ---- parts of the way
-- what is read back from the end of the warm run: an answer, or a multiplier passes
abbrev pub ReadsBack : Problem → Program Frac → WarmEnd → Option (Answer × WarmEnd) → Type 0
ReadsBack p q e (Some (a, f)) = (f ≡ e) × IsRead p q.kinds e.answer a
ReadsBack p q e None = (site : Site) × PassesAt p e.answer site

-- how a setting ends whose program, and the scaled program of whose rows, is known
abbrev pub ReadsWarm : Problem → Pairs → ℕ → List ℕ → Program Frac → tab.Program → Option (Answer × WarmEnd) → Type 0
ReadsWarm p setting limit columns q i (Some (a, e)) = IsWarmAnswer p setting limit columns q (with_end i e) a
ReadsWarm p setting limit columns q i None = NeverWarm p setting limit (Some columns)
