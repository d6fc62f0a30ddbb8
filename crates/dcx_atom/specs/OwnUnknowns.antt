-- Graphs that speak of no unknowns but their own, of which there are as many as kinds.
use Rattle.std.specs.Prelude.{◌≡◌, ℕ, ◌<◌, List, [], ◌∷◌, Some, length}
use Rattle.dcx_shape.specs.declared.shape.Sides.{Sides}
use Rattle.dcx_shape.specs.Sides.{entries_of}
use Rattle.dcx_atom.specs.declared.graph.Operand.{Operand}
use Rattle.dcx_atom.specs.declared.graph.Operand.TheVariants.{Argument, Aux}
use Rattle.dcx_atom.specs.Rows.{Row, Form}
use Rattle.dcx_atom.specs.Meaning.{Meaning}

-- an operand is an argument, or one of the first n unknowns
abbrev pub IsOwn : ℕ → Operand → Type 0
IsOwn n (Argument i e) = Unit {0}
IsOwn n (Aux k) = k < n

-- the same of each term of a row, of each row, and of each term of a result
abbrev pub AreOwnTerms : ℕ → Row → Type 0
AreOwnTerms n [] = Unit {0}
AreOwnTerms n (x ∷ row) = IsOwn n x.operand × AreOwnTerms n row

abbrev pub AreOwnRows : ℕ → List Row → Type 0
AreOwnRows n [] = Unit {0}
AreOwnRows n (row ∷ rows) = AreOwnTerms n row × AreOwnRows n rows

abbrev pub IsOwnForm : ℕ → Form → Type 0
IsOwnForm n [] = Unit {0}
IsOwnForm n (x ∷ form) = (x.aux < n) × IsOwnForm n form

-- the rows and the results of a value of so many entries speak of the call's own unknowns
pub record UsesOwn (m : Meaning) (args : List Sides) (size : ℕ) : Type 0 where
  pub rows : (j : ℕ) → j < size → AreOwnRows (length (m.kinds args)) (m.rows args j)
  pub results : (j : ℕ) → j < size → IsOwnForm (length (m.kinds args)) (m.result args j)

-- those of each value that the call has
abbrev pub HasOwnUnknowns : Meaning → Type 0
HasOwnUnknowns m = (args : List Sides) (sides : Sides) → m.shape args ≡ Some sides → UsesOwn m args (entries_of sides)
