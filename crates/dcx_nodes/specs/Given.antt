-- What must be given, so that the nodes of a problem can be formed.
use Rattle.std.specs.Prelude.{◌≡◌, ℕ, ◌+◌, ◌<◌, ◌^◌, Bool, true, false, List, [], length, Some}
use Rattle.dcx_shape.specs.Shape.{sides_of}
use Rattle.dcx_shape.specs.Sides.{entries_of}
use Rattle.dcx_point.specs.Pairs.{Pairs}
use Rattle.dcx_arena.specs.Nodes.{IsNode, call_at}
use Rattle.dcx_call.specs.declared.atoms.AtomCall.{AtomCall}
use Rattle.dcx_call.specs.declared.attribute.Variable.{Variable}
use Rattle.dcx_call.specs.declared.call.Call.{Call}
use Rattle.dcx_call.specs.declared.call.Call.TheVariants as calls
use Rattle.dcx_call.specs.Values.{IsGiven}
use Rattle.dcx_tree.specs.declared.problem.Problem.{Problem}
use Rattle.dcx_tree.specs.Nodes.{Node}
use Rattle.dcx_unknowns.specs.Unknowns.{variable_unknowns, AreFirstsOf}
use Rattle.dcx_unknowns.specs.Layout.{marked, aux_below, kinds_with}

-- the entries of a parameter may be asked for
abbrev pub IsReadable : (Pairs → List ℕ → ℕ → Type 0) → Pairs → Call → Type 0
IsReadable can_read setting (calls.Variable v) = Unit {0}
IsReadable can_read setting (calls.Parameter q) = (j : ℕ) → j < entries_of (sides_of q.shape) → can_read setting q.name j
IsReadable can_read setting (calls.Constant x) = Unit {0}
IsReadable can_read setting (calls.Atom m) = Unit {0}
IsReadable can_read setting (calls.Linear l) = Unit {0}
IsReadable can_read setting (calls.Pairing p) = Unit {0}

-- the setting has what each node takes that isn't marked as reduced; no point is given
abbrev pub NumbersAreGiven : Problem → List Bool → Pairs → Type 0
NumbersAreGiven p reduced setting = (i : ℕ) (n : Node) → IsNode p.tree i n → marked reduced i ≡ false → IsGiven n.call setting []

-- the entries of each parameter that is marked as reduced may be asked for
abbrev pub ParametersAreReadable : (Pairs → List ℕ → ℕ → Type 0) → Problem → List Bool → Pairs → Type 0
ParametersAreReadable can_read p reduced setting = (i : ℕ) (n : Node) → IsNode p.tree i n → marked reduced i ≡ true → IsReadable can_read setting n.call

-- there are fewer than 2^32 unknowns
abbrev pub HasFewUnknowns : Problem → List Bool → Type 0
HasFewUnknowns p reduced = length (kinds_with p (marked reduced)) < 2 ^ 32

-- all of it
pub record IsReady (can_read : Pairs → List ℕ → ℕ → Type 0) (p : Problem) (reduced fixed : List Bool) (setting : Pairs) (firsts : List ℕ) : Type 0 where
  pub reduced_counted : length reduced ≡ length p.tree
  pub fixed_counted : length fixed ≡ length p.tree
  pub few : HasFewUnknowns p reduced
  pub numbers : NumbersAreGiven p reduced setting
  pub readable : ParametersAreReadable can_read p reduced setting
  pub begin : AreFirstsOf p.variables firsts

-- the first auxiliary unknown of node i, where it is told which nodes are reduced
abbrev pub first_marked : Problem → List Bool → ℕ → ℕ
first_marked p reduced i = variable_unknowns p.variables + length (aux_below p.tree (marked reduced) i)

-- node i is an atom
abbrev pub IsAtom : List Node → ℕ → Type 0
IsAtom nodes i = (m : AtomCall) × (call_at nodes i ≡ Some (calls.Atom m))
