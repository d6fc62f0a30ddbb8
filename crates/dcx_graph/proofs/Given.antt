-- What is given to the nodes of a problem, by the rules: what a number takes, and parameters that may be asked for.
use Rattle.std.proofs.Common.{◌≡◌, ℕ, Bool, true, false, not, List, [], map, refl, sym, ap, ◌∙◌}
use Rattle.std.proofs.lemmas.Bool.{false≢true}
use Rattle.std.proofs.lemmas.Option.{slice_get_within}
use Rattle.dcx_point.specs.Pairs.{Pairs}
use Rattle.dcx_arena.specs.Nodes.{IsNode}
use Rattle.dcx_call.specs.declared.call.Call.{Call}
use Rattle.dcx_call.specs.declared.call.Call.TheVariants as calls
use Rattle.dcx_call.specs.Values.{IsGiven}
use Rattle.dcx_convex.specs.Rules.{Rules, Plain, Parametrized, Judgement, is_constant, judgement_by, judgement_at}
use Rattle.dcx_convex.proofs.Told.{judgement_tells}
use Rattle.dcx_tree.specs.declared.problem.Problem.{Problem}
use Rattle.dcx_tree.specs.Nodes.{Node, head_of, arg_sides, convex_node}
use Rattle.dcx_tree.specs.Meaning.{names_in}
use Rattle.dcx_tree.proofs.AllReached.{convex_at}
use Rattle.dcx_unknowns.specs.Layout.{is_reduced, AreReduced}
use Rattle.dcx_unknowns.proofs.NodeForms.{nodes_of, nodes_ordered}
use Rattle.dcx_nodes.specs.Given.{IsReadable, NumbersAreGiven, ParametersAreReadable}
use Rattle.dcx_graph.specs.Reducing.{IsGivenFor, ParametersAreGiven}

module _ (rules : Rules) (can_read : Pairs → List ℕ → ℕ → Type 0) (p : Problem) (setting : Pairs) (given : ParametersAreGiven rules can_read p setting) where
  -- whether a call is reduced, by what the rules say of its arguments
  abbrev reduces : Call → List Judgement → Node → Bool
  reduces call judged n = not (is_constant rules (judgement_by rules (head_of (names_in p) call (arg_sides p.tree n) n.sides) judged))

  reduces_is : (i : ℕ) (n : Node) → IsNode p.tree i n → is_reduced rules p i ≡ reduces n.call (map (judgement_at rules (nodes_of p)) n.args) n
  reduces_is i n at = ap (λ (g : Judgement). not (is_constant rules g)) (judgement_tells rules (nodes_of p) (nodes_ordered p) i (convex_node (names_in p) p.tree n) (convex_at p i n at))

  module _ (judged : List Judgement) (n : Node) where
    number_given : (r : Rules) → rules ≡ r → (call : Call) → reduces call judged n ≡ false → IsGivenFor r can_read setting call → IsGiven call setting []
    number_given Plain e (calls.Variable v) h g =
        absurd (false≢true (sym h ∙ ap (λ (q : Rules). not (is_constant q (judgement_by rules (head_of (names_in p) (calls.Variable v) (arg_sides p.tree n) n.sides) judged))) e))
    number_given Parametrized e (calls.Variable v) h g =
        absurd (false≢true (sym h ∙ ap (λ (q : Rules). not (is_constant q (judgement_by rules (head_of (names_in p) (calls.Variable v) (arg_sides p.tree n) n.sides) judged))) e))
    number_given Plain e (calls.Parameter q) h g = g
    number_given Parametrized e (calls.Parameter q) h g =
        absurd (false≢true (sym h ∙ ap (λ (r : Rules). not (is_constant r (judgement_by rules (head_of (names_in p) (calls.Parameter q) (arg_sides p.tree n) n.sides) judged))) e))
    number_given r e (calls.Constant x) h g = tt
    number_given r e (calls.Atom m) h g = tt
    number_given r e (calls.Linear l) h g = tt
    number_given r e (calls.Pairing q) h g = tt

    readable_given : (r : Rules) → rules ≡ r → (call : Call) → reduces call judged n ≡ true → IsGivenFor r can_read setting call → IsReadable can_read setting call
    readable_given r e (calls.Variable v) h g = tt
    readable_given Plain e (calls.Parameter q) h g =
        absurd (false≢true (sym (ap (λ (r : Rules). not (is_constant r (judgement_by rules (head_of (names_in p) (calls.Parameter q) (arg_sides p.tree n) n.sides) judged))) e) ∙ h))
    readable_given Parametrized e (calls.Parameter q) h g = g
    readable_given r e (calls.Constant x) h g = tt
    readable_given r e (calls.Atom m) h g = tt
    readable_given r e (calls.Linear l) h g = tt
    readable_given r e (calls.Pairing q) h g = tt

  module _ (marks : List Bool) (are : AreReduced rules p marks) where
    pub numbers_given : NumbersAreGiven p marks setting
    numbers_given i n at unmarked =
        number_given (map (judgement_at rules (nodes_of p)) n.args) n rules refl n.call (sym (are i (slice_get_within p.tree i n at) ∙ reduces_is i n at) ∙ unmarked) (given i n at)

    pub parameters_readable : ParametersAreReadable can_read p marks setting
    parameters_readable i n at is =
        readable_given (map (judgement_at rules (nodes_of p)) n.args) n rules refl n.call (sym (are i (slice_get_within p.tree i n at) ∙ reduces_is i n at) ∙ is) (given i n at)
