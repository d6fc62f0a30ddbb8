-- The laws of sessions' answers, fresh and warm: right, one at a setting, and of one status and value.
use Rattle.std.specs.Prelude.{◌≡◌, ◌≢◌, ⊤, ℕ, ◌+◌, ◌^◌, ◌<◌, List, [], ◌∷◌, length, Option, Result, Ok, Err}
use Rattle.dcx_frac.specs.Frac.{value}
use Rattle.dcx_point.specs.Pairs.{Pairs}
use Rattle.dcx_tree.specs.declared.problem.Problem.{Problem}
use Rattle.dcx_convex.specs.Nodes.{Setting}
use Rattle.dcx_tree.specs.Meaning.{IsAccepted, IsFitting, setting_of}
use Rattle.dcx_answer.specs.declared.answer.Answer.{Answer}
use Rattle.dcx_answer.specs.declared.answer.Answer.TheVariants.{Optimal, Infeasible, Unbounded}
use Rattle.dcx_answer.specs.declared.stop.Stop.{Stop}
use Rattle.dcx_answer.specs.declared.stop.Stop.TheVariants as why
use Rattle.dcx_frac.specs.declared.fraction.Frac.{Frac}
use Rattle.dcx_tab.specs.declared.program.Program as tab
use Rattle.dcx_std.specs.IntegerRows.{IsMade}
use Rattle.dcx_graph.specs.Program.{Program}
use Rattle.dcx_graph.specs.Answers.{rows_of, IsSameAnswer}
use Rattle.dcx_right.specs.Answers.{IsRightFor}
use Rattle.dcx_cache.specs.declared.rewarming.Warmed.{Warmed}
use Rattle.dcx_cache.specs.Programs.{SessionGives}
use Rattle.dcx_cache.specs.Answers.{Answers}
use Rattle.dcx_cache.specs.Warm.{WarmAnswers, WarmAnswersAll}

-- where a setting is answered, it fits, and the answer is right for the problem there
abbrev pub AnswersAreRight : Type 0
AnswersAreRight = (p : Problem) (setting : Pairs) (limit : ℕ) (a : Answer) → IsAccepted p → Answers p setting limit (Ok a) →
    IsFitting p setting × IsRightFor p (setting_of p setting) a

-- ---- one answer
-- two ends of a setting are one: the same answer, but for what its arrays hold past their ends, or the same stop; want of memory is
-- free
abbrev pub AreOneEnd : Problem → Result Answer Stop → Result Answer Stop → Type 0
AreOneEnd p (Ok a) (Ok b) = IsSameAnswer p a b
AreOneEnd p (Err stop) (Err other) = stop ≢ why.Memory → other ≢ why.Memory → stop ≡ other
AreOneEnd p (Ok a) (Err stop) = stop ≡ why.Memory
AreOneEnd p (Err stop) (Ok a) = stop ≡ why.Memory

-- a setting has one end
abbrev pub HasOneEnd : Type 0
HasOneEnd = (p : Problem) (setting : Pairs) (limit : ℕ) (r s : Result Answer Stop) → IsAccepted p → Answers p setting limit r → Answers p setting limit s → AreOneEnd p r s

-- ---- limits
-- a limit that stops the run on a program is small: its scaled program, whose columns are counted with the artificials, bounds it
pub record BoundsLimit (p : Problem) (setting : Pairs) (limit : ℕ) : Type 0 where
  pub program : Program Frac
  pub gives : SessionGives p setting (Ok program)
  pub integer : tab.Program
  pub made : IsMade (rows_of program) integer
  pub small : limit < 2 ^ (length integer.columns + 1) + length integer.rows

abbrev pub LimitsAreSmall : Type 0
LimitsAreSmall = (p : Problem) (setting : Pairs) (limit count : ℕ) → Answers p setting limit (Err (why.PivotLimit count)) → BoundsLimit p setting limit

-- ---- two right answers
-- the answers are of one kind, with one value where they are optimal
abbrev pub Agree : Answer → Answer → Type 0
Agree (Optimal v x m) (Optimal w y n) = value v ≡ value w
Agree (Infeasible m g) (Infeasible n h) = ⊤
Agree (Unbounded x d b e) (Unbounded y c a f) = ⊤
Agree _ _ = ⊥

-- however they were found, as from a map and from a fresh reduction
abbrev pub RightAnswersAgree : Type 0
RightAnswersAgree = (p : Problem) (s : Setting) (a b : Answer) → IsRightFor p s a → IsRightFor p s b → Agree a b

-- ---- from the columns of an earlier answer
-- where a setting is answered from what is kept, it fits, and the answer is right for the problem there
abbrev pub WarmAnswersAreRight : Type 0
WarmAnswersAreRight = (p : Problem) (setting : Pairs) (limit : ℕ) (before : Option (List ℕ)) (w : Warmed) (after : Option (List ℕ)) → IsAccepted p → WarmAnswers p setting limit before (Ok w) after →
    IsFitting p setting × IsRightFor p (setting_of p setting) w.answer

-- and it is of one kind with what a fresh solve answers, with one value, whatever limits both have
abbrev pub WarmAnswersAgree : Type 0
WarmAnswersAgree = (p : Problem) (setting : Pairs) (limit other : ℕ) (before : Option (List ℕ)) (w : Warmed) (after : Option (List ℕ)) (a : Answer) → IsAccepted p →
    WarmAnswers p setting limit before (Ok w) after → Answers p setting other (Ok a) → Agree w.answer a

-- a setting that is answered without the columns is answered with them, or memory runs out
abbrev pub AnsweredStaysAnswered : Type 0
AnsweredStaysAnswered = (p : Problem) (setting : Pairs) (limit : ℕ) (before : Option (List ℕ)) (stop : Stop) (after : Option (List ℕ)) (a : Answer) → IsAccepted p →
    WarmAnswers p setting limit before (Err stop) after → Answers p setting limit (Ok a) → stop ≡ why.Memory

-- two ends of a setting from what is kept are one: the same answer, warm or not, or the same stop; want of memory is free
abbrev pub AreOneWarmEnd : Problem → Result Warmed Stop → Result Warmed Stop → Type 0
AreOneWarmEnd p (Ok v) (Ok w) = (v.kept ≡ w.kept) × IsSameAnswer p v.answer w.answer
AreOneWarmEnd p (Err stop) (Err other) = stop ≢ why.Memory → other ≢ why.Memory → stop ≡ other
AreOneWarmEnd p (Ok v) (Err stop) = stop ≡ why.Memory
AreOneWarmEnd p (Err stop) (Ok w) = stop ≡ why.Memory

-- so is what is kept after both, where there was memory
abbrev pub EndsWithMemory : Result Warmed Stop → Type 0
EndsWithMemory (Ok w) = ⊤
EndsWithMemory (Err stop) = stop ≢ why.Memory

pub record IsOneStep (p : Problem) (r s : Result Warmed Stop) (after later : Option (List ℕ)) : Type 0 where
  pub ends : AreOneWarmEnd p r s
  pub columns : EndsWithMemory r → EndsWithMemory s → after ≡ later

-- a setting has one end from what is kept, and one of what is kept then
abbrev pub HasOneWarmEnd : Type 0
HasOneWarmEnd = (p : Problem) (setting : Pairs) (limit : ℕ) (before : Option (List ℕ)) (r s : Result Warmed Stop) (after later : Option (List ℕ)) → IsAccepted p →
    WarmAnswers p setting limit before r after → WarmAnswers p setting limit before s later → IsOneStep p r s after later

-- the ends are one, one after the other, until memory runs out at a setting
abbrev pub AreOneWarmEnds : Problem → List (Result Warmed Stop) → List (Result Warmed Stop) → Type 0
AreOneWarmEnds p [] [] = ⊤
AreOneWarmEnds p (r ∷ rs) (s ∷ ss) = AreOneWarmEnd p r s × (EndsWithMemory r → EndsWithMemory s → AreOneWarmEnds p rs ss)
AreOneWarmEnds p [] (s ∷ ss) = ⊥
AreOneWarmEnds p (r ∷ rs) [] = ⊥

-- settings have one list of ends from what is kept at first
abbrev pub HaveOneWarmEnds : Type 0
HaveOneWarmEnds = (p : Problem) (limit : ℕ) (before : Option (List ℕ)) (settings : List Pairs) (rs ss : List (Result Warmed Stop)) → IsAccepted p →
    WarmAnswersAll p limit before settings rs → WarmAnswersAll p limit before settings ss → AreOneWarmEnds p rs ss
