-- The unknowns and the parameters of which forms speak.
use Rattle.std.specs.Prelude.{◌≡◌, ℕ, ◌<◌, ◌≤◌, List, map, Some, slice_get, slice_index_or}
use Rattle.std.specs.List.{All}
use Rattle.dcx_shape.specs.Shape.{sides_of}
use Rattle.dcx_shape.specs.Sides.{entries_of}
use Rattle.dcx_tree.specs.declared.problem.Problem.{Problem}
use Rattle.dcx_linear.specs.declared.param_term.ParamTerm.{ParamTerm}
use Rattle.dcx_linear.specs.declared.param_form.ParamForm.{ParamForm}
use Rattle.dcx_linear.specs.declared.form.Form.{Form}
use Rattle.dcx_linear.specs.declared.form.FormTerm.{FormTerm}
use Rattle.dcx_linear.specs.Widths.{form_width}
use Rattle.dcx_entries.specs.declared.entries.EntryForms.{EntryForms}
use Rattle.dcx_entries.specs.Nodes.{Table}

-- what is so of the form of an entry, and of each of its rows
pub record OfEntry {C : Type 0} (P : Form C → Type 0) (e : EntryForms C) : Type 0 where
  pub form : P e.form
  pub rows : (k : ℕ) (f : Form C) → slice_get e.rows k ≡ Some f → P f

-- the same of each entry of each node
abbrev pub OfTable : {C : Type 0} → (Form C → Type 0) → Table C → Type 0
OfTable P table = (i j : ℕ) (es : List (EntryForms _)) (e : EntryForms _) → slice_get table i ≡ Some es → slice_get es j ≡ Some e → OfEntry P e

-- no unknown from number n on
abbrev pub IsNarrow : {C : Type 0} → ℕ → Form C → Type 0
IsNarrow n f = form_width f ≤ n

-- a listed entry is one of the parameter that is declared at its position, under its name
pub record IsKnownTerm (p : Problem) (t : ParamTerm) : Type 0 where
  pub name : slice_get (map (λ q. q.name) p.parameters) t.position ≡ Some t.name
  pub entry : t.entry < slice_index_or (map (λ q. entries_of (sides_of q.shape)) p.parameters) t.position 0

abbrev pub IsKnownNumber : Problem → ParamForm → Type 0
IsKnownNumber p c = All (IsKnownTerm p) c.terms

-- so is each that the constant or a coefficient lists
abbrev pub IsKnown : Problem → Form ParamForm → Type 0
IsKnown p f = IsKnownNumber p f.constant × All (λ (t : FormTerm ParamForm). IsKnownNumber p t.coefficient) f.terms
