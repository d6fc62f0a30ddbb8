-- A setting that fits has an array for each parameter, wherever that stands.
use Rattle.std.proofs.Common.{ℕ, List, refl}
use mathlib.Core.Logic.{∥∥₁_map}
use Rattle.dcx_shape.specs.Shape.{sides_of}
use Rattle.dcx_point.specs.Pairs.{Pairs, array_of}
use Rattle.dcx_call.specs.declared.attribute.Parameter.{Parameter}
use Rattle.dcx_call.specs.declared.call.Call.{Call}
use Rattle.dcx_call.specs.declared.call.Call.TheVariants as calls
use Rattle.dcx_call.specs.Values.{HasArray}
use Rattle.dcx_call.proofs.Given.{one_array}
use Rattle.dcx_convex.specs.Rules.{Plain}
use Rattle.dcx_tree.specs.declared.problem.Problem.{Problem}
use Rattle.dcx_tree.specs.Problems.{IsListed}
use Rattle.dcx_tree.proofs.Sublists.{contains_at}
use Rattle.dcx_fit.specs.Fit.{IsMet, FitsParameters}
use Rattle.dcx_math.proofs.Lists.{holds_at}
use Rattle.dcx_graph.specs.Reducing.{IsGivenFor, ParametersAreGiven}
use Rattle.dcx_graph.specs.Fixed.{HaveArrays}

module _ (p : Problem) (setting : Pairs) (fits : FitsParameters p.parameters setting) where
  pub have_arrays : HaveArrays p setting
  have_arrays = λ k e lt. (fits.met k e lt).shaped

  has_array : (q : Parameter) → ∥ IsListed p.variables p.parameters (calls.Parameter q) ∥₁ → HasArray setting q.name (sides_of q.shape)
  has_array q l = one_array setting q.name (sides_of q.shape) (array_of setting q.name) refl l (λ there.
      let (k, at) = contains_at p.parameters q there in (holds_at (IsMet setting) p.parameters k q fits.met at).shaped)

  given_for : (can_read : Pairs → List ℕ → ℕ → Type 0) (call : Call) → ∥ IsListed p.variables p.parameters call ∥₁ → IsGivenFor Plain can_read setting call
  given_for can_read (calls.Variable v) l = tt
  given_for can_read (calls.Parameter q) l = has_array q l
  given_for can_read (calls.Constant x) l = tt
  given_for can_read (calls.Atom m) l = tt
  given_for can_read (calls.Linear m) l = tt
  given_for can_read (calls.Pairing m) l = tt

  pub parameters_are_given : (can_read : Pairs → List ℕ → ℕ → Type 0) → ParametersAreGiven Plain can_read p setting
  parameters_are_given can_read i n at = given_for can_read n.call (∥∥₁_map p.declared (λ d. d.listed i n at))
