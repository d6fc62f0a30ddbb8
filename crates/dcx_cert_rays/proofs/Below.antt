-- Nodes that roots reach, formed in rising order, up to the first that isn't.
use Rattle.std.proofs.Common.{◌≡◌, ◌⊎◌, inl, inr, ℕ, ◌+◌, ◌<◌, List, length, get_or, All, Option, sym, subst, arith}
use Rattle.std.proofs.lemmas.Bool.{cases_eq}
use Rattle.std.proofs.lemmas.Option.{slice_get-get_or}
use Rattle.dcx_atom.specs.declared.array.Array.{Array}
use Rattle.dcx_point.specs.Pairs.{Pairs}
use Rattle.dcx_arena.specs.Nodes.{args_at}
use Rattle.dcx_arena.specs.Unfold.{IsReached}
use Rattle.dcx_arena.proofs.Orders.{has_from, arg_below}
use Rattle.dcx_call.specs.Calls.{shape_of}
use Rattle.dcx_tree.specs.declared.problem.Problem.{Problem}
use Rattle.dcx_tree.proofs.Forming.{All-from_has}
use Rattle.dcx_answer.specs.declared.cert_fault.CertFault.{CertFault}
use Rattle.dcx_answer.specs.declared.cert_fault.CertFault.TheVariants.{Memory}
use Rattle.dcx_cert_rays.specs.Steepness.{IsUnformed, forming, AreKept, IsKnown, StaysKnown}
use Rattle.dcx_tree.proofs.Marking.{reached_more, reached_root}
use Rattle.dcx_cert_rays.proofs.Tables.{known_formed}

-- of the nodes before n, those that the roots reach are known
pub record IsBelow (p : Problem) (setting ray : Pairs) (roots : List ℕ) (n : ℕ) (arrays : List (Option Array)) : Type 0 where
  pub kept : AreKept p setting ray arrays
  pub known : (k : ℕ) → k < n → IsReached p.tree roots k → IsKnown p arrays k

module _ (p : Problem) (setting ray : Pairs) (roots : List ℕ) where
  pub below_none : (arrays : List (Option Array)) → AreKept p setting ray arrays → IsBelow p setting ray roots 0 arrays
  below_none arrays kept = record { kept = kept; known = λ k b r. absurd (omega arith) }

  pub below_args : (i : ℕ) (arrays : List (Option Array)) → IsBelow p setting ray roots i arrays → IsReached p.tree roots i → All (IsKnown p arrays) (args_at p.tree i)
  below_args i arrays h r = All-from_has (IsKnown p arrays) (args_at p.tree i) (λ a of. h.known a (arg_below shape_of p.tree p.nodes i a of) (reached_more p.tree roots i a r of))

  pub below_more : (i : ℕ) (arrays now : List (Option Array)) → IsBelow p setting ray roots i arrays → AreKept p setting ray now → StaysKnown p arrays now
      → (IsReached p.tree roots i → IsKnown p now i)
      → IsBelow p setting ray roots (i + 1) now
  below_more i arrays now h kept stays here = record {
    kept = kept;
    known = λ k b r. elim (cases_eq k i) [
      | inl e ↦ subst (IsKnown p now) (sym e) (here (subst (IsReached p.tree roots) e r))
      | inr other ↦ stays k (h.known k (omega (arith, b, other)) r)
    ];
  }

  pub below_stop : (i : ℕ) (arrays : List (Option Array)) (fault : CertFault) → IsBelow p setting ray roots i arrays → i < length p.tree → IsReached p.tree roots i →
      (fault ≡ Memory) ⊎ IsUnformed p setting ray i fault → (fault ≡ Memory) ⊎ (forming p setting ray roots).fails fault
  below_stop i arrays fault h lt r (inl e) = inl e
  below_stop i arrays fault h lt r (inr u) = inr (record {
    position = i;
    there = lt;
    before = λ k b s. known_formed p setting ray arrays h.kept k (h.known k b s);
    here = (r, u);
  })

  pub below_all : (n : ℕ) (arrays : List (Option Array)) → n ≡ length p.tree → IsBelow p setting ray roots n arrays → (forming p setting ray roots).passes
  below_all n arrays e h = λ k b r. known_formed p setting ray arrays h.kept k (h.known k (omega (arith, e, b)) r)

  pub below_roots : (n : ℕ) (arrays : List (Option Array)) → n ≡ length p.tree → All (λ r. r < length p.tree) roots → IsBelow p setting ray roots n arrays → All (IsKnown p arrays) roots
  below_roots n arrays e there h = λ k d lt.
      let b = there k d lt in
      h.known (get_or roots k d) (omega (arith, e, b)) (reached_root p.tree roots (get_or roots k d) (has_from roots k (get_or roots k d) (slice_get-get_or roots k d lt)))
