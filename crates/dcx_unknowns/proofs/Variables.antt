-- Points of unknowns: they are told by the unknowns of the variables, and a node of a variable is one that is declared.
use Rattle.std.proofs.Common.{◌≡◌, ℕ, ◌+◌, ◌<◌, List, Option, Some, None, option_map, refl, sym, ap, ◌∙◌, subst}
use Rattle.std.proofs.Props.{props}
use Rattle.std.proofs.Math.Logic.{∥∥₁_elim}
use Rattle.std.proofs.lemmas.Option.{slice_get_within, get_or_from_slice_get}
use Rattle.dcx_math.proofs.Orders.{≡ℚ_prop}
use Rattle.dcx_shape.specs.declared.shape.Sides.{Sides}
use Rattle.dcx_shape.specs.Shape.{sides_of}
use Rattle.dcx_shape.specs.Sides.{entries_of}
use Rattle.dcx_arena.specs.Nodes.{IsNode}
use Rattle.dcx_convex.specs.Nodes.{Numbers, Point, Setting, value_by}
use Rattle.dcx_call.specs.declared.attribute.Variable.{Variable}
use Rattle.dcx_call.specs.declared.call.Call.{Call}
use Rattle.dcx_call.specs.declared.call.Call.TheVariants as calls
use Rattle.dcx_tree.specs.declared.problem.Problem.{Problem}
use Rattle.dcx_tree.specs.Nodes.{Node, number_in, head_of}
use Rattle.dcx_tree.specs.Problems.{IsListed, AreDeclared}
use Rattle.dcx_tree.specs.Meaning.{names_in}
use Rattle.dcx_tree.proofs.Sublists.{contains_at}
use Rattle.dcx_linear.specs.FormTerms.{Unknowns}
use Rattle.dcx_unknowns.specs.Own.{own_before, source_of}
use Rattle.dcx_unknowns.specs.Unknowns.{demanded, sides_in, owners, variable_unknowns, first_unknown, unknown_from, number_at, array_from, point_at}
use Rattle.dcx_call.specs.Attributes.{IsSquare, AreSquare}
use Rattle.dcx_unknowns.specs.Laws.{IsVariable, AreAlike}
use Rattle.dcx_unknowns.proofs.Sources.{source_own}
use Rattle.dcx_unknowns.proofs.Owners.{are_numbered}
use Rattle.dcx_unknowns.proofs.Domains.{number_is}
use Rattle.dcx_unknowns.proofs.CallEntries.{first_same}

-- ---- unknowns of variables
module _ (vs : List Variable) (square : AreSquare vs) (u w : Unknowns) (same : (n : ℕ) → n < variable_unknowns vs → u n ≡ w n) where
  number_same : (k : ℕ) (v : Variable) → IsVariable vs k v → (e : ℕ) → e < entries_of (sides_in v) → (o : Option ℕ) → source_of (demanded v) (sides_in v) e ≡ o →
      number_at u (option_map (λ j. first_unknown vs k + own_before (demanded v) (sides_in v) j) o) ≡ number_at w (option_map (λ j. first_unknown vs k + own_before (demanded v) (sides_in v) j) o)
  number_same k v at e lt None is = refl
  number_same k v at e lt (Some j) is =
      let here : IsSquare v = subst IsSquare (get_or_from_slice_get vs k v v at) (square k v (slice_get_within vs k v at)) in
      let own = source_own (demanded v) (sides_in v) e j here lt is in
      let n = first_unknown vs k + own_before (demanded v) (sides_in v) j in
      same n (slice_get_within (owners vs) n _ ((are_numbered vs).owner k v j at (record { within = own.0; own = own.1 })))

  -- points of unknowns that are the same of the variables are alike
  pub point_local : AreAlike vs (point_at vs u) (point_at vs w)
  point_local k v at e lt =
      let first = first_unknown vs k in
      ap (λ o. array_from u first o e) at
      ∙ first_same (entries_of (sides_in v)) (λ j. number_at u (unknown_from first v j)) (λ j. number_at w (unknown_from first v j)) e
      (λ b. number_same k v at e b (source_of (demanded v) (sides_in v) e) refl)
      ∙ sym (ap (λ o. array_from w first o e) at)

-- ---- nodes of variables
-- two points have the same entries of the variable that a call names
abbrev pub AreSameAt : Problem → Point → Point → Call → Type 0
AreSameAt p x y (calls.Variable v) =
    (e : ℕ) → e < entries_of (sides_of v.shape) → x (number_in (names_in p).variables v.name) e ≡ y (number_in (names_in p).variables v.name) e
AreSameAt p x y (calls.Parameter q) = Unit {0}
AreSameAt p x y (calls.Constant c) = Unit {0}
AreSameAt p x y (calls.Atom m) = Unit {0}
AreSameAt p x y (calls.Linear l) = Unit {0}
AreSameAt p x y (calls.Pairing q) = Unit {0}

module _ (p : Problem) (x y : Point) where
  same_prop : (call : Call) → IsProp (AreSameAt p x y call)
  same_prop (calls.Variable v) = hlevel ≡ℚ_prop
  same_prop (calls.Parameter q) = hlevel props
  same_prop (calls.Constant c) = hlevel props
  same_prop (calls.Atom m) = hlevel props
  same_prop (calls.Linear l) = hlevel props
  same_prop (calls.Pairing q) = hlevel props

  module _ (alike : AreAlike p.variables x y) where
    listed_same : AreDeclared p.tree p.variables p.parameters → (call : Call) → IsListed p.variables p.parameters call → AreSameAt p x y call
    listed_same d (calls.Variable v) l =
        let (k, at) = contains_at p.variables v l in
        λ e lt. subst (λ i. x i e ≡ y i e) (sym (number_is p d k v at)) (alike k v at e lt)
    listed_same d (calls.Parameter q) l = tt
    listed_same d (calls.Constant c) l = tt
    listed_same d (calls.Atom m) l = tt
    listed_same d (calls.Linear m) l = tt
    listed_same d (calls.Pairing m) l = tt

    pub node_same : (i : ℕ) (n : Node) → IsNode p.tree i n → AreSameAt p x y n.call
    node_same i n at = ∥∥₁_elim p.declared (same_prop n.call) (λ d. listed_same d n.call (d.listed i n at))

  -- and the call the same value
  pub same_value : (s : Setting) (call : Call) → AreSameAt p x y call → (args : List Sides) (sides : Sides) (fs : List Numbers) (j : ℕ) →
      value_by s x (head_of (names_in p) call args sides) fs j ≡ value_by s y (head_of (names_in p) call args sides) fs j
  same_value s (calls.Variable v) same args sides fs j =
      let k = number_in (names_in p).variables v.name in
      first_same (entries_of (sides_of v.shape)) (x k) (y k) j (same j)
  same_value s (calls.Parameter q) same args sides fs j = refl
  same_value s (calls.Constant c) same args sides fs j = refl
  same_value s (calls.Atom m) same args sides fs j = refl
  same_value s (calls.Linear m) same args sides fs j = refl
  same_value s (calls.Pairing m) same args sides fs j = refl
