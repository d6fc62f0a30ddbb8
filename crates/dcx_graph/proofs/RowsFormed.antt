-- Rows of constraints that are formed one after the other.
use Rattle.std.proofs.Common.{◌≡◌, ℕ, ◌+◌, ◌<◌, List, [], ◌∷◌, ◌++◌, length, Option, Result, Ok, Err, get_or, sym, subst}
use Rattle.std.proofs.lemmas.Option.{slice_get-get_or}
use Rattle.dcx_frac.specs.declared.fraction.Frac.{Frac}
use Rattle.dcx_frac.specs.declared.fraction.Passes.{Passes}
use Rattle.dcx_linear.specs.declared.change.Change.{Change}
use Rattle.dcx_linear.specs.declared.form.Form.{Form}
use Rattle.dcx_linear.specs.declared.row.Row.{Row}
use Rattle.dcx_linear.specs.declared.row.RowKind.TheVariants.{AtMost}
use Rattle.dcx_entries.specs.Forming.{FormsEach}
use Rattle.dcx_entries.proofs.Each.{each_more, each_stops}
use Rattle.dcx_graph.specs.declared.constraint.ConstraintEntry.{ConstraintEntry}
use Rattle.dcx_graph.specs.Program.{AtRow, EntryRow, RowOf, EntryRows}

module _ {C : Type 0} (of_number : Frac → C) (number_of : C → Option Frac) (Sums : C → C → Result C Passes → Type 0) (Changes : Change → C → Result C Passes → Type 0)
    (forms : List (List (Form C))) (xs : List ConstraintEntry) where
  abbrev Own : ConstraintEntry → Result (Row C) Passes → Type 0
  Own = EntryRow of_number number_of Sums Changes forms

  abbrev Of : ℕ → Result (Row C) (ℕ × Passes) → Type 0
  Of = RowOf of_number number_of Sums Changes forms xs

  module _ (i : ℕ) (d : ConstraintEntry) (lt : i < length xs) (rows : List (Row C)) where
    -- a row is formed
    pub row_more : (row : Row C) (more : List (Row C)) → more ≡ rows ++ row ∷ [] → AtRow i (Own (get_or xs i d)) (Ok row) → FormsEach Of i (Ok rows) → FormsEach Of (i + 1) (Ok more)
    row_more row more e f h = subst (λ l. FormsEach Of (i + 1) (Ok l)) (sym e) (each_more Of i rows row h (get_or xs i d, slice_get-get_or xs i d lt, f))

    -- or an operation of it passes
    pub row_stops : (s : ℕ × Passes) → AtRow i (Own (get_or xs i d)) (Err s) → FormsEach Of i (Ok rows) → EntryRows of_number number_of Sums Changes forms xs (Err s)
    row_stops s f h = each_stops Of (length xs) i rows s h lt (get_or xs i d, slice_get-get_or xs i d lt, f)

-- what is read past the end
abbrev pub none : ConstraintEntry
none = record { constraint = 0; entry = 0; kind = AtMost; left = record { 0 = 0 }; right = record { 0 = 0 } }
