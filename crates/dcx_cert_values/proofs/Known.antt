-- Each variable and parameter of a problem is among its names, and has an array where setting and point give one.
use Rattle.std.proofs.Common.{◌≡◌, ℕ, true, List, Some, slice_get, refl, ap, ◌∙◌}
use Rattle.std.proofs.Props.{props}
use Rattle.std.specs.List.{list_any}
use mathlib.Core.Logic.{∥∥₁_map, ∥∥₁_elim}
use Rattle.dcx_shape.specs.Shape.{sides_of}
use Rattle.dcx_point.specs.Pairs.{Pairs, same_name, array_of}
use Rattle.dcx_point.proofs.Puts.{same_name-refl, same_name-true}
use Rattle.dcx_arena.specs.Nodes.{IsNode}
use Rattle.dcx_call.specs.declared.attribute.Variable.{Variable}
use Rattle.dcx_call.specs.declared.attribute.Parameter.{Parameter}
use Rattle.dcx_call.specs.declared.call.Call.{Call}
use Rattle.dcx_call.specs.declared.call.Call.TheVariants as calls
use Rattle.dcx_call.specs.Values.{HasArray, IsGiven}
use Rattle.dcx_call.proofs.Given.{one_array}
use Rattle.dcx_tree.specs.declared.problem.Problem.{Problem}
use Rattle.dcx_tree.specs.Nodes.{Node}
use Rattle.dcx_tree.specs.Problems.{IsListed}
use Rattle.dcx_tree.specs.Meaning.{names_in}
use Rattle.dcx_tree.specs.Values.{IsNamed, AreNamed}
use Rattle.dcx_tree.proofs.Sublists.{contains_at, any_at, at_any}
use Rattle.dcx_tree.proofs.Values.{listed_named}
use Rattle.dcx_cert_values.specs.Forming.{GivesParameters, GivesVariables}
use Rattle.dcx_math.proofs.Lists.{holds_at}

-- ---- names
-- a name that stands somewhere is found
found : {D : Type 0} (names : List (List ℕ)) (name : List ℕ) → ∥ D ∥₁ → (D → (k : ℕ) × (slice_get names k ≡ Some name)) → (k : ℕ) × (slice_get names k ≡ Some name)
found names name d at =
    let test : list_any (λ n. same_name n name) names ≡ true = ∥∥₁_elim d (hlevel props) (λ x. at_any (λ n. same_name n name) names (at x).0 name (at x).1 (same_name-refl name)) in
    let (k, x, there, same) = any_at (λ n. same_name n name) names test in
    (k, there ∙ ap Some (same_name-true x name same))

module _ (p : Problem) where
  -- ---- of a call that is listed
  named_call : (call : Call) → ∥ IsListed p.variables p.parameters call ∥₁ → IsNamed (names_in p) call
  named_call (calls.Variable v) l = found (names_in p).variables v.name l (λ x. listed_named p.variables p.parameters (calls.Variable v) x)
  named_call (calls.Parameter q) l = found (names_in p).parameters q.name l (λ x. listed_named p.variables p.parameters (calls.Parameter q) x)
  named_call (calls.Constant x) l = tt
  named_call (calls.Atom m) l = tt
  named_call (calls.Linear m) l = tt
  named_call (calls.Pairing m) l = tt

  -- each leaf is among the names
  pub all_named : (i : ℕ) → AreNamed p.tree (names_in p) i
  all_named i j n r at = named_call n.call (∥∥₁_map p.declared (λ d. d.listed j n at))

  module _ (setting : Pairs) (parameters : GivesParameters p setting) where
    parameter_given : (q : Parameter) → ∥ IsListed p.variables p.parameters (calls.Parameter q) ∥₁ → HasArray setting q.name (sides_of q.shape)
    parameter_given q l = one_array setting q.name (sides_of q.shape) (array_of setting q.name) refl l
        (λ x. let (k, at) = contains_at p.parameters q x in holds_at (λ (r : Parameter). HasArray setting r.name (sides_of r.shape)) p.parameters k q parameters at)

    given_call : (point : Pairs) → GivesVariables p point → (call : Call) → ∥ IsListed p.variables p.parameters call ∥₁ → IsGiven call setting point
    given_call point variables (calls.Variable v) l = one_array point v.name (sides_of v.shape) (array_of point v.name) refl l
        (λ x. let (k, at) = contains_at p.variables v x in holds_at (λ (w : Variable). HasArray point w.name (sides_of w.shape)) p.variables k v variables at)
    given_call point variables (calls.Parameter q) l = parameter_given q l
    given_call point variables (calls.Constant x) l = tt
    given_call point variables (calls.Atom m) l = tt
    given_call point variables (calls.Linear m) l = tt
    given_call point variables (calls.Pairing m) l = tt

    -- each leaf is given
    pub all_given : (point : Pairs) → GivesVariables p point → (i : ℕ) (n : Node) → IsNode p.tree i n → IsGiven n.call setting point
    all_given point variables i n at = given_call point variables n.call (∥∥₁_map p.declared (λ d. d.listed i n at))

    fixed_call : (point : Pairs) (call : Call) → ((v : Variable) → call ≡ calls.Variable v → ⊥) → ∥ IsListed p.variables p.parameters call ∥₁ → IsGiven call setting point
    fixed_call point (calls.Variable v) none l = absurd (none v refl)
    fixed_call point (calls.Parameter q) none l = parameter_given q l
    fixed_call point (calls.Constant x) none l = tt
    fixed_call point (calls.Atom m) none l = tt
    fixed_call point (calls.Linear m) none l = tt
    fixed_call point (calls.Pairing m) none l = tt

    -- each leaf that is no variable is given, whatever the point
    pub no_variable_given : (point : Pairs) (i : ℕ) (n : Node) → IsNode p.tree i n → ((v : Variable) → n.call ≡ calls.Variable v → ⊥) → IsGiven n.call setting point
    no_variable_given point i n at none = fixed_call point n.call none (∥∥₁_map p.declared (λ d. d.listed i n at))
