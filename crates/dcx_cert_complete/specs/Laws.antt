-- The laws by which what is built is accepted: of dual graphs, of bounds, of forms and rays, and of certificates.
use Rattle.std.specs.Prelude.{◌⊎◌, ℕ, Bool, List, Option, Ok}
use Rattle.dcx_math.specs.Rational.{ℚ}
use Rattle.dcx_frac.specs.declared.fraction.Frac.{Frac}
use Rattle.dcx_frac.specs.Frac.{value}
use Rattle.dcx_atom.specs.declared.array.Array.{Array}
use Rattle.dcx_point.specs.Pairs.{Pairs}
use Rattle.dcx_call.specs.declared.atoms.AtomCall.{AtomCall}
use Rattle.dcx_call.specs.Atoms.{atom_meaning}
use Rattle.dcx_tree.specs.declared.problem.Problem.{Problem}
use Rattle.dcx_tree.specs.Meaning.{convex_problem, setting_of, IsAccepted, Fits, IsUnbounded}
use Rattle.dcx_cert_collect.specs.Multipliers.{AreDuals}
use Rattle.dcx_cert_sections.specs.declared.weights.NodeWeights.{NodeWeights}
use Rattle.dcx_answer.specs.declared.cert_fault.CertFault.{CertFault}
use Rattle.dcx_cert_bound.specs.Fixed.{AreFixedValues}
use Rattle.dcx_cert_bound.specs.Weights.{weights_at}
use Rattle.dcx_cert_bound.specs.Checks.{bound_checks}
use Rattle.dcx_convex.specs.Nodes.{Setting, Point}
use Rattle.dcx_convex.specs.Rules.{Rules}
use Rattle.dcx_right.specs.Rays.{IsRay}
use Rattle.dcx_unknowns.specs.Equations.{Forms, AllStand}
use Rattle.dcx_fit.specs.Fit.{FitsParameters}
use Rattle.dcx_cert_sections.specs.declared.cert.Cert.{Cert}
use Rattle.dcx_answer.specs.declared.answer.Answer.{Answer}
use Rattle.dcx_lp_answer.specs.declared.answer.LpAnswer.{LpAnswer}
use Rattle.dcx_std.specs.Solutions.{HasKinds}
use Rattle.dcx_lp_solve.specs.declared.solving.Solved.{Solved}
use Rattle.dcx_graph.specs.Program.{Program}
use Rattle.dcx_graph.specs.Correct.{ReducesNumbers}
use Rattle.dcx_graph.specs.Answers.{rows_of, IsAnswered, IsRead}
use Rattle.dcx_cert_build.specs.Built.{IsBuilt}
use Rattle.dcx_cache.specs.Programs.{SessionGives}
use Rattle.dcx_cache.specs.Answers.{IsAnswerOf}
use Rattle.dcx_cache.specs.Warm.{IsWarmAnswer}
use Rattle.dcx_cert_check.specs.Checks.{checks_of}
use Rattle.dcx_atom.specs.Duality.{HasDualGraph}
use Rattle.dcx_atom.specs.Fractions.{HasFractionSlopes}
use Rattle.dcx_cert_complete.specs.Bounded.{IsWide, BoundsPrograms}
use Rattle.dcx_cert_complete.specs.Rows.{BoundsForms, AreRowWeights}
use Rattle.dcx_cert_complete.specs.Programs.{HasForms}
use Rattle.dcx_cert_complete.specs.Certified.{IsCertified}

-- of each nonlinear call the slopes are those of the weighted rows, and weights that let no unknown lower coefficients times results
-- meet the conditions of slopes, which are fractions where no step stops
pub record AtomsHaveDualGraphs : Type 0 where
  pub graphs : (m : AtomCall) → HasDualGraph (atom_meaning m)
  pub fractions : (m : AtomCall) → HasFractionSlopes (atom_meaning m)

-- where multipliers and weights bound the program of an accepted problem at a setting that fits, the bound checks pass, or an operation
-- passes 128 bits
abbrev pub BoundsFailWide : Type 0
BoundsFailWide =
    (p : Problem) (setting : Pairs) (duals : List Array) (weights : List NodeWeights) (with_objective : Bool) (stated : Frac) → IsAccepted p → Fits p (setting_of p setting) → AreDuals p duals →
    ((values : List (Option Array)) → AreFixedValues p setting values → BoundsPrograms p (setting_of p setting) duals (weights_at weights) with_objective (value stated) values) →
    (f : CertFault) → (bound_checks p setting duals weights with_objective stated).fails f → IsWide f

-- where a program's forms meet the equations of the nodes, and its rows' multipliers are the weights, what bounds the program at all
-- unknowns of their kinds bounds it at all points and unknowns of the graphs
abbrev pub FormsBoundPrograms : Type 0
FormsBoundPrograms =
    (rules : Rules) (p : Problem) (setting : Pairs) (values : List (Option Array)) (forms : Forms) (duals : List Array) (weights : ℕ → List Frac) (with_objective : Bool) (v : ℚ) (m : ℕ → ℚ)
    (first : ℕ)
    → AreFixedValues p setting values → AllStand rules p (setting_of p setting) forms → AreRowWeights rules p values weights m first →
    BoundsForms rules p (setting_of p setting) forms duals with_objective v m first → BoundsPrograms p (setting_of p setting) duals weights with_objective v values

-- the program that a session solves at a setting that fits is the linear program of forms of the nodes
abbrev pub SessionProgramsHaveForms : Type 0
SessionProgramsHaveForms = (p : Problem) (setting : Pairs) (q : Program Frac) → IsAccepted p → FitsParameters p.parameters setting → SessionGives p setting (Ok q) → HasForms p (setting_of p setting) q

-- a ray along which an accepted problem is unbounded leaves neither the domain nor, by the steepness of their sides, the constraints,
-- and the steepness of the minimized objective is at most minus the slope
abbrev pub UnboundedGoesByRays : Type 0
UnboundedGoesByRays = (p : Problem) → IsAccepted p → (s : Setting) → Fits p s → (x d : Point) (b e : ℚ) → IsUnbounded p s x d b e → IsRay (convex_problem p) s x d b e

-- a program of whose answers certificates are built: that of a session at the setting, or the one that the problem is reduced to there,
-- whether it has a map or not
abbrev pub IsProgramThere : Problem → Pairs → Program Frac → Type 0
IsProgramThere p setting q = SessionGives p setting (Ok q) ⊎ ReducesNumbers p setting (Ok q)

-- the certificate that is built of an answer is accepted, or an operation passes 128 bits: its checks fail with nothing else
pub record BuiltIsCertified : Type 0 where
  -- however the answer of the rows was found: the setting fits, the program is one of the problem there and names unknowns of its own
  -- alone, the answer is right for its integer rows, and this is read from it
  pub rows : (p : Problem) (setting : Pairs) (q : Program Frac) (lp : LpAnswer) (a : Answer) (cert : Cert) → IsAccepted p → FitsParameters p.parameters setting → IsProgramThere p setting q
      → HasKinds (rows_of q)
      → IsAnswered p (setting_of p setting) q lp → IsRead p q.kinds lp a → IsBuilt p setting q.origins lp a cert → IsCertified (checks_of p setting cert)
  -- the answer of a session
  pub solved : (p : Problem) (setting : Pairs) (limit : ℕ) (q : Program Frac) (s : Solved) (a : Answer) (cert : Cert) → IsAccepted p → IsAnswerOf p setting limit q s a
      → IsBuilt p setting q.origins s.answer a cert
      → IsCertified (checks_of p setting cert)
  -- and from the columns that it keeps
  pub warm : (p : Problem) (setting : Pairs) (limit : ℕ) (columns : List ℕ) (q : Program Frac) (s : Solved) (a : Answer) (cert : Cert) → IsAccepted p → IsWarmAnswer p setting limit columns q s a →
      IsBuilt p setting q.origins s.answer a cert → IsCertified (checks_of p setting cert)
