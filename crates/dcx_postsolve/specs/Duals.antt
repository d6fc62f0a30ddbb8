-- The multipliers of constraints, array by array, as they are formed.
use Rattle.std.specs.Prelude.{◌≡◌, ⊤, ℕ, List, [], ◌∷◌, ◌++◌, map, take, drop, sum_by, Result, Ok, Some, slice_get}
use Rattle.dcx_math.specs.Rational.{ℚ}
use Rattle.dcx_frac.specs.declared.fraction.Frac.{Frac}
use Rattle.dcx_frac.specs.declared.fraction.Passes.{Passes}
use Rattle.dcx_frac.specs.Frac.{value}
use Rattle.dcx_shape.specs.Shape.{sides_of}
use Rattle.dcx_atom.specs.declared.array.Array.{Array}
use Rattle.dcx_tree.specs.declared.constraint.Constraint.{Constraint}
use Rattle.dcx_tree.specs.declared.constraint.Kind.{Kind}
use Rattle.dcx_tree.specs.declared.constraint.Kind.TheVariants as relations
use Rattle.dcx_linear.specs.declared.row.RowKind.{RowKind}
use Rattle.dcx_linear.specs.declared.row.RowKind.TheVariants.{AtMost, Equal}
use Rattle.dcx_lp_answer.specs.declared.answer.LpStatus.{LpStatus}
use Rattle.dcx_lp_answer.specs.declared.answer.RowNote.{RowNote}
use Rattle.dcx_lp_answer.specs.Multipliers.{multiplier_of}
use Rattle.dcx_unknowns.specs.Layout.{constraint_rows}

-- what the rows of a constraint of this kind say of their forms
abbrev pub row_kind : Kind → RowKind
row_kind relations.AtMost = AtMost
row_kind relations.Equal = Equal

-- where an answer has this status: the multipliers of the rows of a constraint, of whose rows these notes are the first
abbrev pub row_multipliers : LpStatus → Constraint → List RowNote → List (Result Frac Passes)
row_multipliers status c notes = map (multiplier_of status (row_kind c.kind)) (take (constraint_rows c) notes)

-- the multipliers of the rows of constraints, in order
abbrev pub all_multipliers : LpStatus → List Constraint → List RowNote → List (Result Frac Passes)
all_multipliers status [] notes = []
all_multipliers status (c ∷ cs) notes = row_multipliers status c notes ++ all_multipliers status cs (drop (constraint_rows c) notes)

-- the array has the shape of the constraint, and the multipliers of its rows
pub record IsDual (status : LpStatus) (c : Constraint) (notes : List RowNote) (x : Array) : Type 0 where
  pub shape : sides_of x.shape ≡ sides_of c.shape
  pub numbers : map Ok x.entries ≡ row_multipliers status c notes

-- each array has those of its constraint
abbrev pub AreDuals : LpStatus → List Constraint → List RowNote → List Array → Type 0
AreDuals status [] notes [] = ⊤
AreDuals status [] notes (x ∷ xs) = ⊥
AreDuals status (c ∷ cs) notes [] = ⊥
AreDuals status (c ∷ cs) notes (x ∷ xs) = IsDual status c notes x × AreDuals status cs (drop (constraint_rows c) notes) xs

-- the array of a constraint is added to others
pub record AddsDual (status : LpStatus) (c : Constraint) (notes : List RowNote) (before after : List Array) : Type 0 where
  pub array : Array
  pub is : IsDual status c notes array
  pub added : after ≡ before ++ array ∷ []

-- the number of the first row of constraint k
abbrev pub first_row : List Constraint → ℕ → ℕ
first_row constraints k = sum_by constraint_rows (take k constraints)

-- the number is the multiplier of this row, which is formed
pub record IsRowMultiplier (status : LpStatus) (kind : Kind) (notes : List RowNote) (row : ℕ) (m : ℚ) : Type 0 where
  pub note : RowNote
  pub noted : slice_get notes row ≡ Some note
  pub number : Frac
  pub formed : multiplier_of status (row_kind kind) note ≡ Ok number
  pub is : m ≡ value number
