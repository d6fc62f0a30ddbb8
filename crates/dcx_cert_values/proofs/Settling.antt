-- Each check of forming tells one thing.
use Rattle.std.proofs.Common.{◌≡◌, ℕ, [], Option, Some, None, sym, ap, ◌∙◌, subst}
use Rattle.std.proofs.lemmas.Option.{same_Some}
use Rattle.dcx_math.specs.Rational.{ℚ}
use Rattle.dcx_shape.specs.Sides.{entries_of}
use Rattle.dcx_atom.proofs.Entrywise.{err_not_ok, one_stop}
use Rattle.dcx_point.specs.Pairs.{Pairs}
use Rattle.dcx_arena.specs.Nodes.{sides_at}
use Rattle.dcx_arena.specs.Unfold.{IsReached}
use Rattle.dcx_call.specs.Forming.{IsFirst}
use Rattle.dcx_tree.specs.declared.problem.Problem.{Problem}
use Rattle.dcx_tree.specs.Nodes.{Node, source_value}
use Rattle.dcx_tree.specs.Meaning.{names_in}
use Rattle.dcx_tree.specs.Values.{node_formed}
use Rattle.dcx_answer.specs.declared.cert_fault.CertFault.{CertFault}
use Rattle.dcx_cert_sections.specs.Laws.{IsSettled}
use Rattle.dcx_cert_sections.proofs.Settled.{settled_together, two, many}
use Rattle.dcx_cert_values.specs.Forming.{fault_of, IsUnformedAt, forming_at, forming_where, IsFixedNode, divisor_in, IsBelowDivisor, nonzero, dividing_if, dividing_at, divisor_step}
use Rattle.dcx_cert_values.specs.Laws.{AreSettledHere}

-- ---- one node
module _ (p : Problem) (setting point : Pairs) (Q : ℕ → Type 0) (i : ℕ) where
  forming_apart : (f : CertFault) → (forming_at p setting point Q i).passes → (forming_at p setting point Q i).fails f → ⊥
  forming_apart f h (q, u) =
      err_not_ok (node_formed p.tree (names_in p) setting point u.node u.here.entry) u.stop u.here.here (h q u.node u.there u.here.entry u.here.within)

  unformed_one : (f g : CertFault) → IsUnformedAt p setting point i f → IsUnformedAt p setting point i g → f ≡ g
  unformed_one f g u v =
      let same : u.node ≡ v.node = same_Some u.node v.node (sym u.there ∙ v.there) in
      let here = subst (λ (n : Node). IsFirst (node_formed p.tree (names_in p) setting point n) (entries_of n.sides) u.stop) same u.here in
      u.told ∙ ap (fault_of i) (one_stop (node_formed p.tree (names_in p) setting point v.node) (entries_of v.node.sides) u.stop v.stop here v.here) ∙ sym v.told

  pub forming_settled : IsSettled (forming_at p setting point Q i)
  forming_settled = record { apart = forming_apart; one = λ f g u v. unformed_one f g u.1 v.1 }

pub nodes_settled : (p : Problem) (setting point : Pairs) (Q : ℕ → Type 0) → IsSettled (forming_where p setting point Q)
nodes_settled p setting point Q = many _ (forming_at p setting point Q) (forming_settled p setting point Q)

-- ---- divisors
nonzero_settled : (i : ℕ) (numbers : ℕ → ℚ) (j : ℕ) → IsSettled (nonzero i numbers j)
nonzero_settled i numbers j = record { apart = λ f h u. h u.0; one = λ f g u v. u.1 ∙ sym v.1 }

dividing_settled : (p : Problem) (setting : Pairs) (i : ℕ) (o : Option ℕ) → IsSettled (dividing_if p setting i o)
dividing_settled p setting i None = settled_together.none
dividing_settled p setting i (Some d) =
    many (entries_of (sides_at p.tree i)) (nonzero i (source_value p.tree (names_in p) setting [] d)) (nonzero_settled i (source_value p.tree (names_in p) setting [] d))

step_settled : (p : Problem) (setting : Pairs) (i : ℕ) → IsSettled (divisor_step p setting i)
step_settled p setting i =
    two (forming_at p setting [] (IsBelowDivisor p) i) (dividing_at p setting i) (forming_settled p setting [] (IsBelowDivisor p) i) (dividing_settled p setting i (divisor_in p.tree i))

pub settled_here : AreSettledHere
settled_here = record {
  below = λ p setting point roots. nodes_settled p setting point (IsReached p.tree roots);
  fixed = λ p setting. nodes_settled p setting [] (IsFixedNode p);
  divisors = λ p setting. many _ (divisor_step p setting) (step_settled p setting);
}
