-- A session as contracts see it.
use Rattle.std.specs.Prelude.{◌≡◌, ℕ, Bool, List, Option, Some, None}
use Rattle.dcx_point.specs.Pairs.{Pairs}
use Rattle.dcx_tree.specs.declared.problem.Problem.{Problem}
use Rattle.dcx_tree.specs.Meaning.{IsAccepted}
use Rattle.dcx_rules.specs.Verdicts.{Findings, IsVerdictOf}
use Rattle.dcx_answer.specs.declared.answer.Answer.{Answer}
use Rattle.dcx_linear.specs.declared.param_form.ParamForm.{ParamForm}
use Rattle.dcx_graph.specs.Reduced.{Reduction}
use Rattle.dcx_cache.specs.declared.session.Last.{Last}
use Rattle.dcx_cache.specs.Programs.{IsMapOf, HasMap}
use Rattle.dcx_cache.specs.Answers.{IsAnswerOf}
use Rattle.dcx_cache.specs.Columns.{HoldsApart}

-- the problem, whether the program with affine coefficients is kept, how the last answer was found, where there is one, and the
-- basic columns of the last optimal answer, where there was one
pub record State : Type 0 where
  pub problem : Problem
  pub cached : Bool
  pub last : Option Last
  pub columns : Option (List ℕ)

-- ---- what is always so
-- the program with affine coefficients is kept exactly where the problem has one
abbrev pub KeepsMap : Problem → Option (Reduction ParamForm) → Type 0
KeepsMap p (Some map) = IsMapOf p map.program
KeepsMap p None = ¬ HasMap p

-- the rules accept the problem, this is its verdict, and no column is kept twice
pub record IsKept (p : Problem) (v : Findings) (map : Option (Reduction ParamForm)) (columns : Option (List ℕ)) : Type 0 where
  pub accepted : IsAccepted p
  pub verdict : IsVerdictOf p v
  pub maps : KeepsMap p map
  pub apart : HoldsApart columns

-- ---- the last answer
-- the answer was found so, and the program is the kept one at the setting exactly where one is kept
pub record IsFound (p : Problem) (setting : Pairs) (limit : ℕ) (cached : Bool) (a : Answer) (l : Last) : Type 0 where
  pub answer : IsAnswerOf p setting limit l.reduced.program l.solved a
  pub from_map : l.reduced.from_map ≡ cached

abbrev pub Shows : Problem → Pairs → ℕ → Bool → Answer → Option Last → Type 0
Shows p setting limit cached a (Some l) = IsFound p setting limit cached a l
Shows p setting limit cached a None = ⊥
