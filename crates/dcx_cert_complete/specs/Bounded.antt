-- A stated number bounds the coefficients at the start, with the weighted rows of the graphs, from below.
use Rattle.std.specs.Prelude.{◌≡◌, ℕ, Bool, true, false, List, length, Option}
use Rattle.dcx_math.specs.Rational.{ℚ, ◌+ℚ◌, ◌≤ℚ◌}
use Rattle.dcx_frac.specs.declared.fraction.Frac.{Frac}
use Rattle.dcx_frac.specs.declared.fraction.Passes.{Passes}
use Rattle.dcx_atom.specs.declared.array.Array.{Array}
use Rattle.dcx_atom.specs.Arrays.{numbers_of}
use Rattle.dcx_atom.specs.Rows.{Filling}
use Rattle.dcx_convex.specs.Nodes.{Numbers, Point, Setting}
use Rattle.dcx_convex.specs.Answers.{lagrangian_of, penalty_of}
use Rattle.dcx_tree.specs.declared.problem.Problem.{Problem}
use Rattle.dcx_tree.specs.Meaning.{names_in, convex_problem, IsInDomain}
use Rattle.dcx_answer.specs.declared.cert_fault.CertFault.{CertFault}
use Rattle.dcx_answer.specs.declared.cert_fault.CertFault.TheVariants as faults
use Rattle.dcx_cert_complete.specs.Families.{IsFamily, AreFilled, AreWeighed, rows_below}

-- the fault tells an operation that passes 128 bits
abbrev pub IsWide : CertFault → Type 0
IsWide f = (passes : Passes) × (f ≡ faults.Wide passes)

-- the coefficients at the start over arrays of the nodes: the Lagrangian, or without the objective the penalty
abbrev pub started : Bool → Problem → List Array → (ℕ → Numbers) → ℚ
started true p duals f = lagrangian_of (convex_problem p) (numbers_of duals) f
started false p duals f = penalty_of (convex_problem p) (numbers_of duals) f

-- there are arrays of the nodes at each point of the domain and all unknowns of their kinds, the weights are at least 0, and v is at
-- most the coefficients at the start with the weighted rows, at all of them
pub record BoundsPrograms (p : Problem) (s : Setting) (duals : List Array) (weights : ℕ → List Frac) (with_objective : Bool) (v : ℚ) (values : List (Option Array)) : Type 0 where
  pub families : (x : Point) → IsInDomain p x → (t : ℕ → Filling) → AreFilled p.tree values t → (g : ℕ → Numbers) × IsFamily (names_in p) p.tree s values x t g
  pub weighed : AreWeighed p.tree values weights
  pub bound : (x : Point) → IsInDomain p x → (t : ℕ → Filling) → AreFilled p.tree values t → (g : ℕ → Numbers) → IsFamily (names_in p) p.tree s values x t g →
      v ≤ℚ started with_objective p duals g +ℚ rows_below p.tree values weights (length p.tree) g t
