-- What is told of the nodes of a problem before they are formed.
use Rattle.std.specs.Prelude.{◌≡◌, ℕ, ◌<◌, Bool, not, List, [], length, Option, slice_index_or}
use Rattle.std.specs.List.{list_all}
use Rattle.dcx_frac.specs.declared.fraction.Frac.{Frac}
use Rattle.dcx_convex.specs.Rules.{Rules, Plain, judgement_at}
use Rattle.dcx_tree.specs.declared.problem.Problem.{Problem}
use Rattle.dcx_tree.specs.Meaning.{convex_problem}
use Rattle.dcx_unknowns.specs.Layout.{marked, AreReduced}
use Rattle.dcx_linear.specs.declared.form.Form.{Form}
use Rattle.dcx_entries.specs.declared.scaling.Side.{Side}
use Rattle.dcx_entries.specs.Nodes.{has_numbers}

-- the marks are those of the nodes that reach no variable
abbrev pub AreFixed : Problem → List Bool → Type 0
AreFixed p marks = (i : ℕ) → i < length p.tree → marked marks i ≡ (judgement_at Plain (convex_problem p).nodes i).fixed

-- one list marks the nodes that are reduced by the rules, and the other those that reach no variable
pub record AreMarks (rules : Rules) (p : Problem) (reduced fixed : List Bool) : Type 0 where
  pub reduces : AreReduced rules p reduced
  pub fixes : AreFixed p fixed

-- what is told of the node that stands at `a` and has these forms
abbrev pub side_marked : {C : Type 0} → (C → Option Frac) → List Bool → List Bool → List (List (Form C)) → ℕ → Side
side_marked number_of reduced fixed forms a = record {
  number = not (marked reduced a);
  fixed = marked fixed a;
  numbers = list_all (has_numbers number_of) (slice_index_or forms a []);
}
