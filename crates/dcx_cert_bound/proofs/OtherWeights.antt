-- What is collected depends on the weights of the nodes alone.
use Rattle.std.proofs.Common.{◌≡◌, inl, inr, ℕ, zero, suc, ◌<◌, ◌≤◌, arith, Bool, List, length, take, drop, Option, Some, None, Result, Ok, Err, refl, sym, ap, ◌∙◌}
use Rattle.dcx_frac.specs.declared.fraction.Frac.{Frac}
use Rattle.dcx_atom.specs.declared.array.Array.{Array}
use Rattle.dcx_tree.specs.declared.problem.Problem.{Problem}
use Rattle.dcx_tree.specs.Nodes.{Node}
use Rattle.dcx_tree.specs.Values.{array_at}
use Rattle.dcx_cert_collect.specs.declared.stop.CollectStop.{CollectStop}
use Rattle.dcx_cert_collect.specs.Starts.{start_of}
use Rattle.dcx_cert_collect.specs.Multipliers.{start_table}
use Rattle.dcx_cert_collect.specs.Pass.{Kept, IsOrMemory, handed, with_below, node_reached, node_shares, passed, step, then_on, pass_down}
use Rattle.dcx_answer.specs.declared.cert_fault.CertFault.{CertFault}
use Rattle.dcx_cert_bound.specs.Collecting.{begun, collected, fault_of, IsFaultOrMemory}

module _ (nodes : List Node) (values : List (Option Array)) (ws vs : ℕ → List Frac) (same : (i : ℕ) → i < length nodes → ws i ≡ vs i) where
  passed_same : (i : ℕ) → i < length nodes → (o : Option Array) (cs : List Frac) (kept : Kept) → passed nodes values ws i o cs kept ≡ passed nodes values vs i o cs kept
  passed_same i b (Some x) cs kept = refl
  passed_same i b None cs kept = ap (λ us. with_below kept (node_reached nodes i cs) (handed kept.below (node_shares nodes values i cs us))) (same i b)

  step_same : (i : ℕ) → i < length nodes → (kept : Kept) → step nodes values ws i kept ≡ step nodes values vs i kept
  step_same i b kept =
      passed_same i b (array_at values i) (drop (start_of nodes i) kept.below) (record { below = take (start_of nodes i) kept.below; reached = kept.reached; total = kept.total })

  then_same : (r : Result Kept CollectStop) (f g : Kept → Result Kept CollectStop) → ((kept : Kept) → f kept ≡ g kept) → then_on nodes values ws r f ≡ then_on nodes values vs r g
  then_same (Ok kept) f g e = e kept
  then_same (Err stop) f g e = refl

  pass_same : (n : ℕ) → n ≤ length nodes → (kept : Kept) → pass_down nodes values ws n kept ≡ pass_down nodes values vs n kept
  pass_same zero b kept = refl
  pass_same (suc n) b kept =
      ap (λ r. then_on nodes values ws r (pass_down nodes values ws n)) (step_same n (omega (arith, b)) kept)
      ∙ then_same (step nodes values vs n kept) (pass_down nodes values ws n) (pass_down nodes values vs n) (pass_same n (omega (arith, b)))

pub collected_same : (p : Problem) (values : List (Option Array)) (duals : List Array) (ws vs : ℕ → List Frac) (with_objective : Bool) → ((i : ℕ) → i < length p.tree → ws i ≡ vs i) →
    collected p values duals ws with_objective ≡ collected p values duals vs with_objective
collected_same p values duals ws vs with_objective same =
    then_same p.tree values ws vs same (begun (start_table with_objective p duals)) (pass_down p.tree values ws (length p.tree)) (pass_down p.tree values vs (length p.tree))
    (pass_same p.tree values ws vs same (length p.tree) (omega arith))

-- a stop is told by its fault
pub fault_told : (told other : Result Kept CollectStop) (stop : CollectStop) (f : CertFault) → told ≡ other → IsOrMemory told stop → f ≡ fault_of stop → IsFaultOrMemory other f
fault_told told other stop f same (inl memory) e = inl (e ∙ ap fault_of memory)
fault_told told other stop f same (inr is) e = inr (stop, sym same ∙ is, e)
