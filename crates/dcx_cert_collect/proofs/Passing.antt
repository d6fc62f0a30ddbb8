-- One node of the pass: its call has its sides, its coefficients are the last, and those of the nodes before it are as many as before.
use Rattle.std.proofs.Common.{◌≡◌, ℕ, suc, ◌+◌, ◌-◌, ◌<◌, ◌≤◌, arith, Bool, true, false, nat_lt, List, [], ◌∷◌, ◌++◌, map, length, take, drop, set}
use Rattle.std.proofs.Common.{refl, sym, ap, ◌∙◌, subst, Option, Some, None, Result, Ok, Err, OnOk, IfErr, inl, inr, ap₂, slice_get}
use Rattle.std.specs.Prelude.{option_map, unwrap_or}
use Rattle.std.specs.Option.{IsSomeAnd}
use Rattle.std.proofs.lemmas.Bool.{ltb-true, ltb-false}
use Rattle.std.proofs.lemmas.Option.{same_Some}
use Rattle.dcx_atom.specs.Formed.{and_then}
use Rattle.std.proofs.lemmas.List.{length-drop, length-set, nil_from_length}
use Rattle.dcx_frac.specs.declared.fraction.Frac.{Frac}
use Rattle.dcx_frac.specs.declared.fraction.Passes.{Passes}
use Rattle.dcx_frac.specs.Results.{sum_of}
use Rattle.dcx_shape.specs.declared.shape.Shape.{Shape}
use Rattle.dcx_shape.specs.declared.shape.Sides.TheVariants.{Scalar}
use Rattle.dcx_shape.specs.Sides.{entries_of}
use Rattle.dcx_atom.specs.Arrays.{sides_list}
use Rattle.dcx_arena.specs.Nodes.{AreNodes, call_at, args_at, sides_at}
use Rattle.dcx_arena.proofs.Results.{same_Ok}
use Rattle.dcx_call.specs.declared.call.Call.{Call}
use Rattle.dcx_call.specs.Calls.{shape_of}
use Rattle.dcx_tree.specs.Nodes.{Node}
use Rattle.dcx_cert_collect.specs.Shares.{frac_in, Share, added_at, with_share, with_shares}
use Rattle.dcx_atom.specs.declared.array.Array.{Array}
use Rattle.dcx_atom.proofs.FormedSums.{zero_frac-unique}
use Rattle.dcx_math.specs.Rational.{whole}
use Rattle.std.specs.Prelude.{pos}
use Rattle.dcx_frac.specs.Frac.{value}
use Rattle.dcx_atom.specs.Entrywise.{products_from}
use Rattle.dcx_tree.specs.Values.{array_at}
use Rattle.dcx_cert_collect.specs.declared.collected.Reached.{Reached}
use Rattle.dcx_cert_collect.specs.declared.stop.CollectStop.{CollectStop}
use Rattle.dcx_cert_collect.specs.Starts.{start_of}
use Rattle.dcx_cert_collect.specs.Pass.{Kept, begin, or_passes, IsOrMemory, handed, with_below, with_total, counted, node_reached, node_shares, passed, step, then_on, pass_down}
use Rattle.dcx_cert_collect.proofs.Starting.{start_next}

-- ---- the sides of a call
pub node_shape : (nodes : List Node) → AreNodes shape_of nodes → (i : ℕ) (call : Call) → call_at nodes i ≡ Some call → shape_of call (map (sides_at nodes) (args_at nodes i)) ≡ Some (sides_at nodes i)
node_shape nodes are i call h = by (slice_get nodes i) refl h
  where
    by : (o : Option Node) → slice_get nodes i ≡ o → option_map (λ (n : Node). n.call) o ≡ Some call →
        shape_of call (map (sides_at nodes) (unwrap_or (option_map (λ (n : Node). n.args) o) [])) ≡ Some (unwrap_or (option_map (λ (n : Node). n.sides) o) Scalar)
    by None e k = cc
    by (Some n) e k = subst (λ c. shape_of c (map (sides_at nodes) n.args) ≡ Some n.sides) (same_Some n.call call k) (are.shaped i n e)

pub call_shaped : (nodes : List Node) → AreNodes shape_of nodes → (i : ℕ) (found call : Call) → call_at nodes i ≡ Some found → found ≡ call → (shown : List Shape) →
    sides_list shown ≡ map (sides_at nodes) (args_at nodes i) → (cs : List Frac) → length cs ≡ entries_of (sides_at nodes i)
    → IsSomeAnd (shape_of call (sides_list shown)) (λ s. length cs ≡ entries_of s)
call_shaped nodes are i found call at is shown sides cs count =
    subst (λ o. IsSomeAnd o (λ s. length cs ≡ entries_of s)) (sym (ap (shape_of call) sides ∙ node_shape nodes are i call (at ∙ ap Some is))) count

-- ---- what is there
-- ---- what a call hands on is what its node does
pub ok_as : (r : Result (Unit {0}) CollectStop) (old new : List Frac) (given asked : Result (List Share) CollectStop) → given ≡ asked → OnOk r (handed old given ≡ Ok new)
    → OnOk r (handed old asked ≡ Ok new)
ok_as r old new given asked same h = subst (λ (s : Result (List Share) CollectStop). OnOk r (handed old s ≡ Ok new)) same h

pub stop_as : (r : Result (Unit {0}) CollectStop) (old : List Frac) (given asked : Result (List Share) CollectStop) → given ≡ asked → IfErr r (IsOrMemory (handed old given))
    → IfErr r (IsOrMemory (handed old asked))
stop_as r old given asked same h = subst (λ (s : Result (List Share) CollectStop). IfErr r (IsOrMemory (handed old s))) same h

-- ---- how many coefficients there are
set_count : (xs : List Frac) (p : ℕ) (x : Frac) → length (set xs p x) ≡ length xs
set_count xs p x = length-set xs p x

added_count : (t u : List Frac) (place : Option ℕ) (x : Frac) → added_at t place x ≡ Ok u → length u ≡ length t
added_count t u None x e = ap length (sym (same_Ok {E = Passes} t u e))
added_count t u (Some p) x e = by (sum_of (frac_in t p) x) e
  where
    by : (r : Result Frac Passes) → and_then r (λ y. Ok (set t p y)) ≡ Ok u → length u ≡ length t
    by (Ok y) h = ap length (sym (same_Ok {E = Passes} (set t p y) u h)) ∙ set_count t p y
    by (Err q) h = cc

share_count : (t u : List Frac) (s : Share) → with_share t s ≡ Ok u → length u ≡ length t
share_count t u s e = by s.amount e
  where
    by : (r : Result Frac Passes) → and_then r (added_at t s.place) ≡ Ok u → length u ≡ length t
    by (Ok x) h = added_count t u s.place x h
    by (Err q) h = cc

-- shares add no place and take none away
pub shares_count : (t u : List Frac) (ss : List Share) → with_shares t ss ≡ Ok u → length u ≡ length t
shares_count t u [] e = ap length (sym (same_Ok {E = Passes} t u e))
shares_count t u (s ∷ ss) e = by (with_share t s) refl (λ v. shares_count v u ss) e
  where
    by : (r : Result (List Frac) Passes) → with_share t s ≡ r → ((v : List Frac) → with_shares v ss ≡ Ok u → length u ≡ length v) → and_then r (λ v. with_shares v ss) ≡ Ok u → length u ≡ length t
    by (Ok v) is rest h = rest v h ∙ share_count t v s is
    by (Err q) is rest h = cc

-- ---- the coefficients of the last node
pub own_count : (nodes : List Node) (below own : List Frac) (i start : ℕ) → i < length nodes → start ≡ start_of nodes i → length below ≡ start_of nodes (i + 1) → own ≡ drop start below
    → length own ≡ entries_of (sides_at nodes i)
own_count nodes below own i start b is count e = omega (arith, ap length e, length-drop start below, is, count, start_next nodes i b)

pub start_inside : (nodes : List Node) (below : List Frac) (i start : ℕ) → i < length nodes → start ≡ start_of nodes i → length below ≡ start_of nodes (i + 1) → start ≤ length below
start_inside nodes below i start b is count = omega (arith, is, count, start_next nodes i b)

-- ---- one node
-- it is passed with its own weights
passed_same : (nodes : List Node) (values : List (Option Array)) (weights : ℕ → List Frac) (ws : List Frac) (i : ℕ) (o : Option Array) (cs : List Frac) (kept : Kept) → ws ≡ weights i →
    passed nodes values (λ _. ws) i o cs kept ≡ passed nodes values weights i o cs kept
passed_same nodes values weights ws i None cs kept e = ap (λ us. with_below kept (node_reached nodes i cs) (handed kept.below (node_shares nodes values i cs us))) e
passed_same nodes values weights ws i (Some x) cs kept e = refl

pub step_told : (nodes : List Node) (values : List (Option Array)) (weights : ℕ → List Frac) (ws : List Frac) (i start : ℕ) (kept : Kept) (below own : List Frac) → ws ≡ weights i
    → start ≡ start_of nodes i
    → below ≡ take start kept.below → own ≡ drop start kept.below →
    passed nodes values (λ _. ws) i (array_at values i) own (record { below = below; reached = kept.reached; total = kept.total }) ≡ step nodes values weights i kept
step_told nodes values weights ws i start kept below own same is first rest =
    passed_same nodes values weights ws i (array_at values i) own (record { below = below; reached = kept.reached; total = kept.total }) same
    ∙ ap₂ (λ (b cs : List Frac). passed nodes values weights i (array_at values i) cs (record { below = b; reached = kept.reached; total = kept.total }))
    (first ∙ ap (λ s. take s kept.below) is) (rest ∙ ap (λ s. drop s kept.below) is)

-- as many coefficients are left as before
total_count : (kept after : Kept) (r : Result Frac CollectStop) → with_total kept r ≡ Ok after → length after.below ≡ length kept.below
total_count kept after (Ok total) e = ap (λ (k : Kept). length k.below) (sym (same_Ok {E = CollectStop} (record { below = kept.below; reached = kept.reached; total = total }) after e))
total_count kept after (Err stop) e = cc

below_count : (kept after : Kept) (more : List Reached) (shares : Result (List Share) CollectStop) → with_below kept more (handed kept.below shares) ≡ Ok after → length after.below ≡ length kept.below
below_count kept after more (Err stop) e = cc
below_count kept after more (Ok shares) e = by (with_shares kept.below shares) refl e
  where
    by : (r : Result (List Frac) Passes) → with_shares kept.below shares ≡ r → with_below kept more (or_passes r) ≡ Ok after → length after.below ≡ length kept.below
    by (Ok below) is h =
        ap (λ (k : Kept). length k.below) (sym (same_Ok {E = CollectStop} (record { below = below; reached = kept.reached ++ more; total = kept.total }) after h))
        ∙ shares_count kept.below below shares is
    by (Err p) is h = cc

pub passed_count : (nodes : List Node) (values : List (Option Array)) (weights : ℕ → List Frac) (i : ℕ) (o : Option Array) (cs : List Frac) (kept after : Kept) →
    passed nodes values weights i o cs kept ≡ Ok after → length after.below ≡ length kept.below
passed_count nodes values weights i None cs kept after e = below_count kept after (node_reached nodes i cs) (node_shares nodes values i cs (weights i)) e
passed_count nodes values weights i (Some x) cs kept after e = total_count kept after (or_passes (products_from kept.total (counted cs x.entries))) e

-- ---- all nodes
module _ (nodes : List Node) (values : List (Option Array)) (weights : ℕ → List Frac) where
  -- one node more is passed
  pub pass_next : (n k m : ℕ) (start kept after : Kept) → m + k + 1 ≡ n → pass_down nodes values weights n start ≡ pass_down nodes values weights (n - k) kept
      → step nodes values weights m kept ≡ Ok after
      → pass_down nodes values weights n start ≡ pass_down nodes values weights (n - (k + 1)) after
  pass_next n k m start kept after e so_far is =
      let left : n - k ≡ suc m = omega (arith, e) in
      let then : m ≡ n - (k + 1) = omega (arith, e) in
      so_far ∙ ap (λ j. pass_down nodes values weights j kept) left ∙ ap (λ r. then_on nodes values weights r (pass_down nodes values weights m)) is
      ∙ ap (λ j. pass_down nodes values weights j after) then

  -- a node that stops stops the pass
  pub pass_stops : (n k m : ℕ) (start kept : Kept) (stop : CollectStop) → m + k + 1 ≡ n → pass_down nodes values weights n start ≡ pass_down nodes values weights (n - k) kept →
      IsOrMemory (step nodes values weights m kept) stop → IsOrMemory (pass_down nodes values weights n start) stop
  pass_stops n k m start kept stop e so_far (inl memory) = inl memory
  pass_stops n k m start kept stop e so_far (inr is) =
      let left : n - k ≡ suc m = omega (arith, e) in
      inr (so_far ∙ ap (λ j. pass_down nodes values weights j kept) left ∙ ap (λ r. then_on nodes values weights r (pass_down nodes values weights m)) is)

pub kept_same : (below : List Frac) (reached : List Reached) (total : Frac) → reached ≡ [] → value total ≡ whole (pos 0)
    → ◌≡◌ {A = Kept} (record { below = below; reached = reached; total = total }) (begin below)
kept_same below reached total none zero_total = λ j. record { below = below; reached = none j; total = zero_frac-unique total zero_total j }

-- where no node is left, none has coefficients
pub all_passed : (nodes : List Node) (values : List (Option Array)) (weights : ℕ → List Frac) (n m : ℕ) (table : List Frac) (start kept : Kept) (reached : List Reached) → m ≡ 0 → start ≡ begin table →
    length kept.below ≡ start_of nodes m → pass_down nodes values weights n start ≡ pass_down nodes values weights m kept → reached ≡ kept.reached →
    pass_down nodes values weights n (begin table) ≡ Ok (record { below = []; reached = reached; total = kept.total })
all_passed nodes values weights n m table start kept reached none first count so_far same =
    ap (pass_down nodes values weights n) (sym first) ∙ so_far ∙ ap (λ k. pass_down nodes values weights k kept) none
    ∙ ap Ok (whole_of kept.below kept.reached reached kept.total (nil_from_length kept.below (count ∙ ap (start_of nodes) none)) (sym same))
  where
    whole_of : (below : List Frac) (r s : List Reached) (total : Frac) → below ≡ [] → r ≡ s
        → ◌≡◌ {A = Kept} (record { below = below; reached = r; total = total }) (record { below = []; reached = s; total = total })
    whole_of below r s total e h = λ j. record { below = e j; reached = h j; total = total }

-- what holds of the nodes passed, and of the next one, holds of one more
pub one_more : (P : ℕ → Type 0) (n k m : ℕ) → m + k + 1 ≡ n → P m → ((i : ℕ) → n - k ≤ i → i < n → P i) → (i : ℕ) → n - (k + 1) ≤ i → i < n → P i
one_more P n k m e own later i b c = by (nat_lt m i) refl
  where
    by : (t : Bool) → nat_lt m i ≡ t → P i
    by true h = later i (omega (arith, ltb-true m i h, e)) c
    by false h = let same : m ≡ i = omega (arith, ltb-false m i h, e, b) in subst P same own
