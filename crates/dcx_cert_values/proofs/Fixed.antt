-- Nodes that reach no variable, and that a divisor of an accepted problem is one of them.
use Rattle.std.proofs.Common.{◌≡◌, ℕ, Bool, true, false, List, [], ◌∷◌, map, Option, Some, None, option_map, slice_get, refl, sym, ap, ◌∙◌, subst}
use Rattle.std.specs.Option.{unwrap_or}
use Rattle.std.proofs.lemmas.Bool.{false≢true}
use Rattle.std.proofs.lemmas.Option.{none-some, slice_get-map, get_or_from_slice_get}
use Rattle.dcx_affine.specs.declared.pairing.Pairing.TheVariants.{Times, MatTimes, Over}
use Rattle.dcx_arena.specs.Nodes.{IsNode, args_at}
use Rattle.dcx_arena.specs.Gather.{has}
use Rattle.dcx_arena.specs.Unfold.{IsReached, Leads}
use Rattle.dcx_arena.proofs.Orders.{has_from, one_is}
use Rattle.dcx_convex.specs.Rules.{Plain, Judgement, no_argument, argument, fixed_by, judgement_by, judgement_at}
use Rattle.dcx_convex.proofs.Told.{judgement_tells}
use Rattle.dcx_call.specs.declared.attribute.Variable.{Variable}
use Rattle.dcx_call.specs.declared.call.Call.{Call}
use Rattle.dcx_call.specs.declared.call.Call.TheVariants as calls
use Rattle.dcx_call.specs.Calls.{shape_of}
use Rattle.dcx_tree.specs.declared.problem.Problem.{Problem}
use Rattle.dcx_tree.specs.Nodes.{Node, head_of, arg_sides, convex_node}
use Rattle.dcx_tree.specs.Meaning.{names_in, convex_problem, IsAccepted}
use Rattle.dcx_tree.proofs.Arguments.{no_args, all_fixed}
use Rattle.dcx_tree.proofs.Lawful.{problem_lawful}
use Rattle.dcx_right.proofs.Reached.{tree_side_fixed}
use Rattle.dcx_cert_values.specs.Forming.{IsFixedNode, divisor_if, divisor_in, IsBelowDivisor}

-- the quotient of a divisor
over : (call : Call) (o : Option ℕ) (d : ℕ) → divisor_if (Some call) o ≡ Some d → (call ≡ calls.Pairing Over) × (o ≡ Some d)
over (calls.Variable v) o d h = absurd (none-some d h)
over (calls.Parameter q) o d h = absurd (none-some d h)
over (calls.Constant x) o d h = absurd (none-some d h)
over (calls.Atom m) o d h = absurd (none-some d h)
over (calls.Linear m) o d h = absurd (none-some d h)
over (calls.Pairing Times) o d h = absurd (none-some d h)
over (calls.Pairing MatTimes) o d h = absurd (none-some d h)
over (calls.Pairing Over) o d h = (refl, h)

pub divisor_found : (nodes : List Node) (i d : ℕ) → divisor_in nodes i ≡ Some d → (n : Node) × IsNode nodes i n × (n.call ≡ calls.Pairing Over) × (slice_get n.args 1 ≡ Some d)
divisor_found nodes i d h = by (slice_get nodes i) refl h
  where
    by : (o : Option Node) → slice_get nodes i ≡ o → divisor_if (option_map (λ n. n.call) o) (slice_get (unwrap_or (option_map (λ n. n.args) o) []) 1) ≡ Some d →
        (n : Node) × IsNode nodes i n × (n.call ≡ calls.Pairing Over) × (slice_get n.args 1 ≡ Some d)
    by None e g = absurd (none-some d g)
    by (Some n) e g = let (is, at) = over n.call (slice_get n.args 1) d g in (n, e, is, at)

pub found_divisor : (nodes : List Node) (i d : ℕ) (n : Node) → IsNode nodes i n → n.call ≡ calls.Pairing Over → slice_get n.args 1 ≡ Some d → divisor_in nodes i ≡ Some d
found_divisor nodes i d n at is second =
    let P : Option Node → Type 0 = λ o. divisor_if (option_map (λ m. m.call) o) (slice_get (unwrap_or (option_map (λ m. m.args) o) []) 1) ≡ Some d in
    subst P (sym at) (ap (λ (c : Call). divisor_if (Some c) (slice_get n.args 1)) is ∙ second)

-- a divisor is an argument of its quotient
pub divisor_is_argument : (nodes : List Node) (i d : ℕ) → divisor_in nodes i ≡ Some d → has (args_at nodes i) d ≡ true
divisor_is_argument nodes i d h =
    let (n, at, is, second) = divisor_found nodes i d h in
    has_from (args_at nodes i) 1 d (ap (λ (o : Option Node). slice_get (unwrap_or (option_map (λ m. m.args) o) []) 1) at ∙ second)

module _ (p : Problem) where
  abbrev judged : ℕ → Judgement
  judged i = judgement_at Plain (convex_problem p).nodes i

  judgement : (i : ℕ) (n : Node) → IsNode p.tree i n → judged i ≡ judgement_by Plain (head_of (names_in p) n.call (arg_sides p.tree n) n.sides) (map judged n.args)
  judgement i n at =
      let node = convex_node (names_in p) p.tree in
      judgement_tells Plain (convex_problem p).nodes (problem_lawful p).ordered i (node n) (slice_get-map node p.tree i ∙ ap (option_map node) at)

  -- ---- fixed nodes
  call_fixed : (n : Node) (call : Call) → shape_of call (arg_sides p.tree n) ≡ Some n.sides → fixed_by (head_of (names_in p) call (arg_sides p.tree n) n.sides) (map judged n.args) ≡ true →
      (a : ℕ) → has n.args a ≡ true → (judged a).fixed ≡ true
  call_fixed n (calls.Variable v) shape t a h = absurd (no_args _ n.sides _ n.args a shape h)
  call_fixed n (calls.Parameter q) shape t a h = absurd (no_args _ n.sides _ n.args a shape h)
  call_fixed n (calls.Constant x) shape t a h = absurd (no_args _ n.sides _ n.args a shape h)
  call_fixed n (calls.Atom m) shape t a h = all_fixed judged n.args a t h
  call_fixed n (calls.Linear m) shape t a h = all_fixed judged n.args a t h
  call_fixed n (calls.Pairing m) shape t a h = all_fixed judged n.args a t h

  -- arguments of a fixed node are fixed
  pub argument_fixed : (i a : ℕ) → IsFixedNode p i → has (args_at p.tree i) a ≡ true → IsFixedNode p a
  argument_fixed i a t h = by (slice_get p.tree i) refl h
    where
      by : (o : Option Node) → slice_get p.tree i ≡ o → has (unwrap_or (option_map (λ n. n.args) o) []) a ≡ true → IsFixedNode p a
      by None e g = absurd (cc)
      by (Some n) e g = call_fixed n n.call (p.nodes.shaped i n e) (ap (λ (q : Judgement). q.fixed) (sym (judgement i n e)) ∙ t) a g

  along : (path : List ℕ) (i j : ℕ) → Leads p.tree i path j → IsFixedNode p i → IsFixedNode p j
  along [] i j e t = subst (IsFixedNode p) e t
  along (a ∷ path) i j l t = along path a j l.1 (argument_fixed i a t l.0)

  -- what a fixed node reaches is fixed
  pub reached_fixed : (i j : ℕ) → IsReached p.tree (i ∷ []) j → IsFixedNode p i → IsFixedNode p j
  reached_fixed i j r t = along r.path r.root j r.leads (subst (IsFixedNode p) (one_is i r.root r.is_root) t)

  variable_loose : (n : Node) (call : Call) (v : Variable) → call ≡ calls.Variable v → fixed_by (head_of (names_in p) call (arg_sides p.tree n) n.sides) (map judged n.args) ≡ true → ⊥
  variable_loose n call v is t =
      false≢true (subst (λ (c : Call). fixed_by (head_of (names_in p) c (arg_sides p.tree n) n.sides) (map judged n.args) ≡ true) is t)

  -- a fixed node is no variable
  pub fixed_no_variable : (i : ℕ) (n : Node) → IsNode p.tree i n → IsFixedNode p i → (v : Variable) → n.call ≡ calls.Variable v → ⊥
  fixed_no_variable i n at t v is = variable_loose n n.call v is (ap (λ (q : Judgement). q.fixed) (sym (judgement i n at)) ∙ t)

  -- ---- divisors
  module _ (ok : IsAccepted p) (i d : ℕ) (n : Node) (at : IsNode p.tree i n) (is : n.call ≡ calls.Pairing Over) (second : slice_get n.args 1 ≡ Some d) where
    second_is : argument (map judged n.args) 1 ≡ judged d
    second_is = get_or_from_slice_get (map judged n.args) 1 (judged d) no_argument (slice_get-map judged n.args 1 ∙ ap (option_map judged) second)

    is_argument : has (args_at p.tree i) d ≡ true
    is_argument = has_from (args_at p.tree i) 1 d (ap (λ (o : Option Node). slice_get (unwrap_or (option_map (λ m. m.args) o) []) 1) at ∙ second)

    by_quotient : (b : Bool) → (judged i).fixed ≡ b → (judged d).fixed ≡ true
    by_quotient true fixed = argument_fixed i d fixed is_argument
    by_quotient false loose = subst (λ (g : Judgement). g.fixed ≡ true) second_is (tree_side_fixed p ok i n Over at is loose)

    divisor_fixed_at : (judged d).fixed ≡ true
    divisor_fixed_at = by_quotient (judged i).fixed refl

  -- a divisor of an accepted problem is fixed
  pub divisor_fixed : IsAccepted p → (i d : ℕ) → divisor_in p.tree i ≡ Some d → IsFixedNode p d
  divisor_fixed ok i d h = let (n, at, is, second) = divisor_found p.tree i d h in divisor_fixed_at ok i d n at is second

  -- and so is what it reaches
  pub below_fixed : IsAccepted p → (i : ℕ) → IsBelowDivisor p i → IsFixedNode p i
  below_fixed ok i b = reached_fixed b.divisor i b.reached (divisor_fixed ok b.quotient b.divisor b.is_divisor)
