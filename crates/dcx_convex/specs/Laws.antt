-- The main statements, as the clauses of the laws say them.
use Rattle.std.specs.Prelude.{◌≡◌, ◌⊎◌, ℕ, ◌<◌, IsTrue, List, [], ◌∷◌, ◌++◌, Some, length, pos}
use Rattle.dcx_math.specs.Rational.{ℚ, whole, ◌≤ℚ◌, ◌<ℚ◌}
use Rattle.dcx_shape.specs.declared.shape.Sides.{Sides}
use Rattle.dcx_atom.specs.declared.flags.Bend.{Bend}
use Rattle.dcx_atom.specs.Signs.{HasSign, IsBeyond}
use Rattle.dcx_atom.specs.Meaning.{Meaning}
use Rattle.dcx_atom.specs.Laws as atom
use Rattle.dcx_atom.specs.Linear as linear
use Rattle.dcx_atom.specs.Linear.{LinearMeaning}
use Rattle.dcx_convex.specs.Calls.{IsLawful}
use Rattle.dcx_convex.specs.Atoms.{atom_call, linear_call}
use Rattle.dcx_convex.specs.Pairs.{Pair, product_call, quotient_call}
use Rattle.dcx_convex.specs.Nodes.{Node, Attribute, AreRenumbered, Numbers, Point, Setting, IsOrdered, Tells, value_by, value_at, IsInDomain, Fits, AreLawful}
use Rattle.dcx_convex.specs.Rules.{Rules, Parametrized, Judgement, judgement_by, judgement_at, is_bent}
use Rattle.dcx_convex.specs.Problems.{Problem, IsReached, accepted_by, IsAccepted, IsConvex, objective_at, IsFeasible}
use Rattle.dcx_convex.specs.Answers.{Multipliers, AreMultipliers, penalty_of, lagrangian_of, IsOptimal, IsInfeasible, IsUnbounded}
use Rattle.dcx_convex.specs.Reductions.{IsWellFormed, StandForNodes, Unknowns, Reduced, IsReduction, IsRightOptimal, IsRightInfeasible, IsRightUnbounded}
use Rattle.dcx_convex.specs.Certificates.{Coefficients, Slopes, HasSides, MayReach, IsInDualCone, IsCertificate, total}

-- the calls that there are keep the laws of calls: nonlinear ones and linear ones whose meaning keeps its own laws, products and quotients
pub record CallsAreLawful : Type 0 where
  pub atoms : (m : Meaning) → atom.KeepsSign m → atom.KeepsTrend m → atom.IsBent m → (args : List Sides) (sides : Sides) → m.shape args ≡ Some sides →
      IsLawful (atom_call m args sides) (length args)
  pub linear_calls : (m : LinearMeaning) → linear.IsLinear m → linear.KeepsSign m → linear.KeepsTrend m → (args : List Sides) (sides : Sides) → m.shape args ≡ Some sides →
      IsLawful (linear_call m args sides) (length args)
  pub products : (size : ℕ) (pairs : ℕ → List Pair) (count : ℕ) → IsLawful (product_call size pairs) count
  pub quotients : (size : ℕ) (pairs : ℕ → List Pair) (count : ℕ) → IsLawful (quotient_call size pairs) count

-- where arguments stand before their nodes, values and judgements are what each node's rule tells from those of its arguments, and nothing else is
pub record IsToldNodeByNode (nodes : List Node) : Type 0 where
  pub values : (s : Setting) (x : Point) → Tells (value_by s x) nodes (value_at nodes s x)
  pub one_value : (s : Setting) (x : Point) (f : ℕ → Numbers) → Tells (value_by s x) nodes f → (i : ℕ) → i < length nodes → f i ≡ value_at nodes s x i
  pub judgements : (rules : Rules) → Tells (judgement_by rules) nodes (judgement_at rules nodes)
  pub one_judgement : (rules : Rules) (f : ℕ → Judgement) → Tells (judgement_by rules) nodes f → (i : ℕ) → i < length nodes → f i ≡ judgement_at rules nodes i

abbrev pub NodesAreTold : Type 0
NodesAreTold = (nodes : List Node) → IsOrdered nodes → IsToldNodeByNode nodes

-- nodes under new positions have the same values and judgements
pub record RenumberedAreSame (before : List Node) (old : ℕ → ℕ) (after : List Node) : Type 0 where
  pub values : (s : Setting) (x : Point) (i : ℕ) → i < length after → value_at after s x i ≡ value_at before s x (old i)
  pub judgements : (rules : Rules) (i : ℕ) → i < length after → judgement_at rules after i ≡ judgement_at rules before (old i)

abbrev pub RenumberingChangesNothing : Type 0
RenumberingChangesNothing = (before after : List Node) (old : ℕ → ℕ) → IsOrdered before → IsOrdered after → AreRenumbered before old after → RenumberedAreSame before old after

-- a node that is added at the end changes no earlier one
abbrev pub PushingChangesNothing : Type 0
PushingChangesNothing = (nodes : List Node) (n : Node) → IsOrdered (nodes ++ n ∷ []) → RenumberedAreSame (nodes ++ n ∷ []) (λ i. i) nodes

-- the sign of a node is true of its value, at every fitting setting and every point of the domain
abbrev pub SignsAreTrue : Type 0
SignsAreTrue = (rules : Rules) (nodes : List Node) → AreLawful nodes → (s : Setting) → Fits nodes s → (x : Point) → IsInDomain nodes x →
    (i j : ℕ) → HasSign (judgement_at rules nodes i).sign (value_at nodes s x i j)

-- an accepted problem is convex at every fitting setting
abbrev pub AcceptedIsConvex : Type 0
AcceptedIsConvex = (p : Problem) → AreLawful p.nodes → IsAccepted p → (s : Setting) → Fits p.nodes s → IsConvex p s

-- at one setting no two kinds of answers hold together, and two optimal answers have one value
pub record AnswersAgree (p : Problem) (s : Setting) : Type 0 where
  pub one_value : (v w : ℚ) (x y : Point) (m n : Multipliers) → IsOptimal p s v x m → IsOptimal p s w y n → v ≡ w
  pub not_infeasible : (v g : ℚ) (x : Point) (m n : Multipliers) → IsOptimal p s v x m → ¬ IsInfeasible p s n g
  pub not_unbounded : (v b e : ℚ) (x y d : Point) (m : Multipliers) → IsOptimal p s v x m → ¬ IsUnbounded p s y d b e
  pub not_both : (g b e : ℚ) (x d : Point) (m : Multipliers) → IsInfeasible p s m g → ¬ IsUnbounded p s x d b e

-- what is accepted where parameters are affine is accepted
abbrev pub DppIsAccepted : Type 0
DppIsAccepted = (p : Problem) → IsTrue (accepted_by Parametrized p) → IsAccepted p

-- a node that reaches no variable has one value at all points
abbrev pub ConstantsAreFixed : Type 0
ConstantsAreFixed = (rules : Rules) (nodes : List Node) (s : Setting) (x y : Point) (i : ℕ) → IsTrue (judgement_at rules nodes i).fixed →
    value_at nodes s x i ≡ value_at nodes s y i

-- in an accepted problem each node that is reached is convex or concave, as the rules say
abbrev pub ReachedAreBent : Type 0
ReachedAreBent = (rules : Rules) (p : Problem) → IsOrdered p.nodes → IsTrue (accepted_by rules p) → (i : ℕ) → IsReached p i →
    IsTrue (judgement_at rules p.nodes i).convex ⊎ IsTrue (judgement_at rules p.nodes i).concave

-- where the rows of a reduced program hold, what stands for a node is beyond its value, as far as the rules say: at least
-- the value of a convex node, and at most that of a concave one
abbrev pub FormsAreBeyond : Type 0
FormsAreBeyond = (rules : Rules) (nodes : List Node) → IsOrdered nodes → AreLawful nodes → (s : Setting) → Fits nodes s → (x : Point) → IsInDomain nodes x →
    (f : ℕ → Numbers) → StandForNodes rules nodes s x f → (i : ℕ) → i < length nodes → (bend : Bend) → IsTrue (is_bent bend (judgement_at rules nodes i)) →
    (j : ℕ) → IsBeyond bend (value_at nodes s x i j) (f i j)

-- answers that are right for a reduced program of an accepted problem are answers of the problem, with the multipliers of its constraints alone
pub record AnswersMapBack (rules : Rules) (p : Problem) (s : Setting) (r : Reduced) : Type 0 where
  pub optimal : (v : ℚ) (u : Unknowns) (m : Multipliers) (w : ℕ → ℚ) → IsRightOptimal p r v u m w → IsOptimal p s v (r.point u) m
  pub infeasible : (m : Multipliers) (w : ℕ → ℚ) (g : ℚ) → IsRightInfeasible p r m w g → IsInfeasible p s m g
  pub unbounded : (u d : Unknowns) (b e : ℚ) → IsRightUnbounded p r u d b e → IsUnbounded p s (r.point u) (r.point d) b e

abbrev pub ReductionsMapBack : Type 0
ReductionsMapBack = (rules : Rules) (p : Problem) → AreLawful p.nodes → IsWellFormed p → IsTrue (accepted_by rules p) → (s : Setting) → Fits p.nodes s →
    (r : Reduced) → IsReduction rules p s r → AnswersMapBack rules p s r

-- what a certificate shows: a feasible point whose value is at most the total is optimal; and where the total without the
-- objective is above 0, no point is feasible. Nothing is asked of the calls but their slopes
pub record CertificatesShow (p : Problem) (s : Setting) : Type 0 where
  pub optimal : (v : ℚ) (x : Point) (m : Multipliers) (c : Coefficients) (g : Slopes) → IsFeasible p s x → objective_at p s x ≡ v → AreMultipliers p m →
      IsCertificate p.nodes s (lagrangian_of p m) c g → v ≤ℚ total p.nodes s c → IsOptimal p s v x m
  pub infeasible : (m : Multipliers) (gap : ℚ) (c : Coefficients) (g : Slopes) → whole (pos 0) <ℚ gap → AreMultipliers p m →
      IsCertificate p.nodes s (penalty_of p m) c g → gap ≤ℚ total p.nodes s c → IsInfeasible p s m gap

abbrev pub CertifiedIsAnswered : Type 0
CertifiedIsAnswered = (p : Problem) → IsOrdered p.nodes → (s : Setting) → CertificatesShow p s

-- coefficients that may reach a variable, by the test for its attribute, are in the dual cone
abbrev pub TestedAreInDualCone : Type 0
TestedAreInDualCone = (attribute : Attribute) (sides : Sides) (c : Numbers) → HasSides attribute sides → MayReach attribute sides c → IsInDualCone attribute sides c
