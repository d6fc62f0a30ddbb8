-- The pass keeps variables in falling order of their nodes, and leaves no coefficients.
use Rattle.std.proofs.Common.{◌≡◌, ◌⊎◌, inl, inr, ℕ, zero, suc, ◌+◌, ◌<◌, ◌≤◌, arith, List, [], ◌∷◌, ◌++◌, length, take, drop, Bool, Option, Some, None, Result, Ok, Err, refl, sym, ◌∙◌, subst}
use Rattle.std.specs.List.{All}
use Rattle.std.proofs.lemmas.List.{append-nil, length-take-le, nil_from_length}
use Rattle.std.proofs.lemmas.List.Elements.{All-nil, All-head, All-tail, All-push, All-weaker}
use Rattle.dcx_frac.specs.declared.fraction.Frac.{Frac}
use Rattle.dcx_frac.specs.declared.fraction.Passes.{Passes}
use Rattle.dcx_atom.specs.declared.array.Array.{Array}
use Rattle.dcx_atom.specs.Entrywise.{products_from}
use Rattle.dcx_arena.specs.Nodes.{call_at, entries_in}
use Rattle.dcx_arena.proofs.Results.{same_Ok}
use Rattle.dcx_call.specs.declared.call.Call.{Call}
use Rattle.dcx_call.specs.declared.call.Call.TheVariants as calls
use Rattle.dcx_tree.specs.declared.problem.Problem.{Problem}
use Rattle.dcx_tree.specs.Nodes.{Node}
use Rattle.dcx_tree.specs.Values.{array_at}
use Rattle.dcx_cert_collect.specs.declared.collected.Reached.{Reached}
use Rattle.dcx_cert_collect.specs.declared.stop.CollectStop.{CollectStop}
use Rattle.dcx_cert_collect.specs.Starts.{start_of}
use Rattle.dcx_cert_collect.specs.Multipliers.{start_table}
use Rattle.dcx_cert_collect.specs.Pass.{Kept, begin, or_passes, handed, counted, reached_if, node_reached, node_shares, passed, step, then_on, pass_down}
use Rattle.dcx_cert_collect.proofs.Passing.{passed_count, start_inside}
use Rattle.dcx_cert_collect.proofs.Starting.{start_all}
use Rattle.dcx_cert_collect.proofs.Multiplied.{start_count}
use Rattle.dcx_cert_bound.specs.Collecting.{begun, collected}
use Rattle.dcx_cert_collect.proofs.Final.{after_below, after_total}

-- each node is before those in front of it
abbrev pub AreFalling : List Reached → Type 0
AreFalling [] = Unit {0}
AreFalling (r ∷ reached) = All (λ q. q.node.0 < r.node.0) reached × AreFalling reached

falling-push : (reached : List Reached) (x : Reached) → AreFalling reached → All (λ r. x.node.0 < r.node.0) reached → AreFalling (reached ++ x ∷ [])
falling-push [] x f a = (All-nil (λ q. q.node.0 < x.node.0), tt)
falling-push (r ∷ reached) x f a =
    (All-push (λ q. q.node.0 < r.node.0) reached x f.0 (All-head (λ q. x.node.0 < q.node.0) r reached a), falling-push reached x f.1 (All-tail (λ q. x.node.0 < q.node.0) r reached a))

-- what a node adds: nothing, or itself
record IsAdded (m : ℕ) (before after : List Reached) : Type 0 where
  own : Reached
  node : own.node.0 ≡ m
  added : after ≡ before ++ own ∷ []

abbrev Grows : ℕ → List Reached → List Reached → Type 0
Grows m before after = (after ≡ before) ⊎ IsAdded m before after

grown : (m : ℕ) (cs : List Frac) (before : List Reached) (o : Option Call) → Grows m before (before ++ reached_if m o cs)
grown m cs before None = inl (append-nil before)
grown m cs before (Some (calls.Variable v)) = inr (record { own = record { node = record { 0 = m }; coefficients = cs }; node = refl; added = refl })
grown m cs before (Some (calls.Parameter q)) = inl (append-nil before)
grown m cs before (Some (calls.Constant x)) = inl (append-nil before)
grown m cs before (Some (calls.Atom a)) = inl (append-nil before)
grown m cs before (Some (calls.Linear l)) = inl (append-nil before)
grown m cs before (Some (calls.Pairing q)) = inl (append-nil before)

module _ (nodes : List Node) (values : List (Option Array)) (weights : ℕ → List Frac) where
  passed_grows : (m : ℕ) (o : Option Array) (cs : List Frac) (kept after : Kept) → passed nodes values weights m o cs kept ≡ Ok after → Grows m kept.reached after.reached
  passed_grows m (Some x) cs kept after e = inl (after_total kept after (or_passes (products_from kept.total (counted cs x.entries))) e)
  passed_grows m None cs kept after e =
      subst (Grows m kept.reached) (sym (after_below kept after (node_reached nodes m cs) (handed kept.below (node_shares nodes values m cs (weights m))) e))
      (grown m cs kept.reached (call_at nodes m))

  -- all nodes from m on are passed
  pub record IsPassedTo (m : ℕ) (kept : Kept) : Type 0 where
    pub count : length kept.below ≡ start_of nodes m
    pub falling : AreFalling kept.reached
    pub above : All (λ r. m ≤ r.node.0) kept.reached
    pub within : All (λ r. r.node.0 < length nodes) kept.reached

  one_to : (m : ℕ) → m < length nodes → (kept after : Kept) → IsPassedTo (m + 1) kept → length after.below ≡ start_of nodes m → Grows m kept.reached after.reached → IsPassedTo m after
  one_to m b kept after h count (inl same) = record {
    count = count;
    falling = subst AreFalling (sym same) h.falling;
    above = subst (All (λ r. m ≤ r.node.0)) (sym same) (All-weaker (λ r. m + 1 ≤ r.node.0) (λ r. m ≤ r.node.0) (λ r l. omega (arith, l)) kept.reached h.above);
    within = subst (All (λ r. r.node.0 < length nodes)) (sym same) h.within;
  }
  one_to m b kept after h count (inr x) = record {
    count = count;
    falling = subst AreFalling (sym x.added) (falling-push kept.reached x.own h.falling
        (All-weaker (λ r. m + 1 ≤ r.node.0) (λ r. x.own.node.0 < r.node.0) (λ r l. omega (arith, l, x.node)) kept.reached h.above));
    above = subst (All (λ r. m ≤ r.node.0)) (sym x.added)
        (All-push (λ r. m ≤ r.node.0) kept.reached x.own (All-weaker (λ r. m + 1 ≤ r.node.0) (λ r. m ≤ r.node.0) (λ r l. omega (arith, l)) kept.reached h.above) (omega (arith, x.node)));
    within = subst (All (λ r. r.node.0 < length nodes)) (sym x.added) (All-push (λ r. r.node.0 < length nodes) kept.reached x.own h.within (omega (arith, x.node, b)));
  }

  step_to : (m : ℕ) → m < length nodes → (kept after : Kept) → IsPassedTo (m + 1) kept → step nodes values weights m kept ≡ Ok after → IsPassedTo m after
  step_to m b kept after h e =
      let inner : Kept = record { below = take (start_of nodes m) kept.below; reached = kept.reached; total = kept.total } in
      one_to m b kept after h
      (passed_count nodes values weights m (array_at values m) (drop (start_of nodes m) kept.below) inner after e
      ∙ length-take-le (start_of nodes m) kept.below (start_inside nodes kept.below m (start_of nodes m) b refl h.count))
      (passed_grows m (array_at values m) (drop (start_of nodes m) kept.below) inner after e)

  pass_to : (m : ℕ) → m ≤ length nodes → (kept after : Kept) → IsPassedTo m kept → pass_down nodes values weights m kept ≡ Ok after → IsPassedTo 0 after
  pass_to zero b kept after h e = subst (λ (k : Kept). IsPassedTo 0 k) (same_Ok {E = CollectStop} kept after e) h
  pass_to (suc m) b kept after h e = by (step nodes values weights m kept) refl (λ mid k. pass_to m (omega (arith, b)) mid after k) e
    where
      more : suc m ≡ m + 1
      more = omega arith

      by : (r : Result Kept CollectStop) → step nodes values weights m kept ≡ r → ((mid : Kept) → IsPassedTo m mid → pass_down nodes values weights m mid ≡ Ok after → IsPassedTo 0 after) →
          then_on nodes values weights r (pass_down nodes values weights m) ≡ Ok after → IsPassedTo 0 after
      by (Ok mid) is rest k = rest mid (step_to m (omega (arith, b)) kept mid (subst (λ n. IsPassedTo n kept) more h) is) k
      by (Err stop) is rest k = cc

  pub all_to : (table : List Frac) (after : Kept) → length table ≡ entries_in nodes → pass_down nodes values weights (length nodes) (begin table) ≡ Ok after → IsPassedTo 0 after
  all_to table after count e =
      pass_to (length nodes) (omega arith) (begin table) after
      (record { count = count ∙ sym (start_all nodes); falling = tt; above = All-nil (λ r. length nodes ≤ r.node.0); within = All-nil (λ r. r.node.0 < length nodes) }) e

  -- so nothing is left
  pub none_left : (kept : Kept) → IsPassedTo 0 kept → kept.below ≡ []
  none_left kept h = nil_from_length kept.below h.count

-- ---- the same of all that is collected
pub record IsCollected (p : Problem) (values : List (Option Array)) (duals : List Array) (weights : ℕ → List Frac) (with_objective : Bool) (kept : Kept) : Type 0 where
  pub table : List Frac
  pub start : start_table with_objective p duals ≡ Ok table
  pub pass : pass_down p.tree values weights (length p.tree) (begin table) ≡ Ok kept
  pub to : IsPassedTo p.tree values weights 0 kept

pub is_collected : (p : Problem) (values : List (Option Array)) (duals : List Array) (weights : ℕ → List Frac) (with_objective : Bool) (kept : Kept)
    → collected p values duals weights with_objective ≡ Ok kept
    → IsCollected p values duals weights with_objective kept
is_collected p values duals weights with_objective kept e = by (start_table with_objective p duals) refl e
  where
    by : (r : Result (List Frac) Passes) → start_table with_objective p duals ≡ r → then_on p.tree values weights (begun r) (pass_down p.tree values weights (length p.tree)) ≡ Ok kept →
        IsCollected p values duals weights with_objective kept
    by (Ok table) is h = record { table = table; start = is; pass = h; to = all_to p.tree values weights table kept (start_count p duals with_objective table is) h }
    by (Err passes) is h = cc
