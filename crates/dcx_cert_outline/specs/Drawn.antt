-- The outline of a problem: what its certificates show of it.
use Rattle.std.specs.Prelude.{◌≡◌, ◌<◌, ℕ, Bool, true, false, slice_index_or, if◌then◌else◌, List, [], ◌∷◌, length, map, Option, Some, None, slice_get}
use Rattle.std.specs.List.{flat_map, range_with_len}
use Rattle.dcx_shape.specs.Sides.{entries_of}
use Rattle.dcx_atom.specs.Steps.{rows_before}
use Rattle.dcx_convex.specs.Certificates.{is_fixed}
use Rattle.dcx_call.specs.declared.call.Call.{Call}
use Rattle.dcx_call.specs.declared.call.Call.TheVariants as calls
use Rattle.dcx_call.specs.Atoms.{atom_meaning}
use Rattle.dcx_tree.specs.declared.problem.Problem.{Problem}
use Rattle.dcx_tree.specs.Nodes.{Node, arg_sides}
use Rattle.dcx_tree.specs.Meaning.{convex_problem}
use Rattle.dcx_cert_sections.specs.Shown.{Outline}

-- an atom, with the number of rows of its graph
abbrev pub call_atoms : List Node → ℕ → Node → Call → List (ℕ × ℕ)
call_atoms nodes i n (calls.Variable v) = []
call_atoms nodes i n (calls.Parameter q) = []
call_atoms nodes i n (calls.Constant x) = []
call_atoms nodes i n (calls.Atom m) = (i, rows_before (atom_meaning m) (arg_sides nodes n) (entries_of n.sides)) ∷ []
call_atoms nodes i n (calls.Linear l) = []
call_atoms nodes i n (calls.Pairing q) = []

abbrev pub atoms_if : List Node → ℕ → Option Node → List (ℕ × ℕ)
atoms_if nodes i None = []
atoms_if nodes i (Some n) = call_atoms nodes i n n.call

-- node i, where it is an atom that has a variable below it
abbrev pub atoms_at : Problem → ℕ → List (ℕ × ℕ)
atoms_at p i = if is_fixed (convex_problem p).nodes i then [] else atoms_if p.tree i (slice_get p.tree i)

-- what certificates show of a problem
abbrev pub problem_outline : Problem → Outline
problem_outline p = record {
  parameters = map (λ q. (q.name, q.shape)) p.parameters;
  variables = map (λ v. (v.name, v.shape)) p.variables;
  constraints = map (λ c. c.shape) p.constraints;
  atoms = flat_map (atoms_at p) (range_with_len 0 (length p.tree));
}

-- whether a call has no variable below it, where it is told whether its arguments all have none
abbrev pub fixed_call : Call → Bool → Bool
fixed_call (calls.Variable v) args = false
fixed_call (calls.Parameter q) args = true
fixed_call (calls.Constant x) args = true
fixed_call (calls.Atom m) args = args
fixed_call (calls.Linear l) args = args
fixed_call (calls.Pairing q) args = args

-- the marks are those of the first nodes that have no variable below them
pub record AreFixed (p : Problem) (marks : List Bool) (count : ℕ) : Type 0 where
  pub counted : length marks ≡ count
  pub each : (i : ℕ) → i < count → slice_index_or marks i false ≡ is_fixed (convex_problem p).nodes i
