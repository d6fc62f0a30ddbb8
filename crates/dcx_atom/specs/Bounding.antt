-- Rows that put one unknown beyond some terms, conditions on the sum of their weights, and a shape of one argument: what
-- nonlinear calls share.
use Rattle.std.specs.Prelude.{◌≡◌, ℕ, zero, suc, ◌<◌, List, [], ◌∷◌, ◌++◌, map, replicate, slice_index_or, Option, Some, None, pos, negsuc}
use Rattle.std.proofs.Common.{ap}
use Rattle.dcx_math.specs.Rational.{ℚ, whole, neg_ℚ}
use Rattle.dcx_frac.specs.declared.fraction.Frac.{Frac}
use Rattle.dcx_shape.specs.declared.shape.Sides.{Sides}
use Rattle.dcx_atom.specs.declared.flags.Bend.{Bend}
use Rattle.dcx_atom.specs.declared.flags.Bend.TheVariants.{Convex, Concave}
use Rattle.dcx_atom.specs.declared.graph.AuxKind.{AuxKind}
use Rattle.dcx_atom.specs.declared.graph.AuxKind.TheVariants.{Free, Nonneg}
use Rattle.dcx_atom.specs.declared.graph.Operand.TheVariants.{Argument, Aux}
use Rattle.dcx_atom.specs.Rows.{RowTerm, Row, Form}
use Rattle.dcx_atom.specs.Arrays.{number_at}
use Rattle.dcx_atom.specs.Formed.{total, number}
use Rattle.dcx_atom.specs.Meaning.{Meaning, Relation, at_most, equal, Condition}
use Rattle.dcx_atom.specs.Steps.{Step, test, is_weight, entry_stop, weights_of}

-- q times entry e of argument i
abbrev pub argument_term : ℕ → ℕ → ℚ → RowTerm
argument_term i e q = record { operand = Argument i e; coefficient = q }

-- q times unknown k
abbrev pub unknown_term : ℕ → ℚ → RowTerm
unknown_term k q = record { operand = Aux k; coefficient = q }

-- the row that holds where unknown k is beyond the term: at or above it for a convex call, at or below it for a concave one
abbrev pub bound_row : Bend → ℕ → RowTerm → Row
bound_row Convex k x = x ∷ unknown_term k (whole (negsuc 0)) ∷ []
bound_row Concave k x = unknown_term k (whole (pos 1)) ∷ record { operand = x.operand; coefficient = neg_ℚ x.coefficient } ∷ []

-- x as a convex call counts it, and -x as a concave one does
abbrev pub outward : Bend → ℚ → ℚ
outward Convex x = x
outward Concave x = neg_ℚ x

-- unknown k alone
abbrev pub unknown_form : ℕ → Form
unknown_form k = record { aux = k; coefficient = whole (pos 1) } ∷ []

-- the sides of the only argument
abbrev pub only : List Sides → Option Sides
only [] = None
only (s ∷ []) = Some s
only (s ∷ r ∷ rs) = None

-- it is the only argument
pub only_is : (args : List Sides) (s : Sides) → only args ≡ Some s → args ≡ s ∷ []
only_is [] s e = cc
only_is (r ∷ []) s e = let f : r ≡ s = cc in ap (λ x. x ∷ []) f
only_is (q ∷ r ∷ rs) s e = cc

-- a free unknown has no sign
pub free_kinds : (n k : ℕ) → slice_index_or (replicate n Free) k Free ≡ Nonneg → ⊥
free_kinds zero k e = cc
free_kinds (suc n) zero e = cc
free_kinds (suc n) (suc k) e = free_kinds n k e

-- how the weights of rows on one unknown are to stand to its coefficient: a free unknown could lower any excess or lack
abbrev pub total_relation : AuxKind → Relation
total_relation Nonneg = at_most
total_relation Free = equal

-- these weights of rows on one unknown sum to at most c where it is at least 0, and to c where it is free
abbrev pub total_condition : AuxKind → ℚ → List ℚ → Condition
total_condition kind c ws = record { left = total ws; relation = total_relation kind; right = number c }

-- each weight is tested, and then their sum
abbrev pub total_steps : AuxKind → ℚ → List ℚ → List Step
total_steps kind c ws = map (λ w. test (is_weight w)) ws ++ test (total_condition kind c ws) ∷ []

-- no entry of the result has a stop
abbrev pub HaveNoStop : Meaning → List Sides → ℕ → List Frac → List Frac → Type 0
HaveNoStop m args size cs ws = (j : ℕ) → j < size → entry_stop m args (number_at cs) (weights_of m args ws) j ≡ None
