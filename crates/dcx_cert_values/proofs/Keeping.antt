-- Values that are kept one by one, and the first node that isn't formed.
use Rattle.std.proofs.Common.{◌≡◌, ◌⊎◌, inl, inr, ℕ, ◌<◌, Bool, true, List, length, All, Option, Some, None, IsSome, refl, sym, subst, ◌∙◌, arith}
use Rattle.std.proofs.Math.ListN.{set}
use Rattle.std.proofs.lemmas.Bool.{cases_eq}
use Rattle.std.proofs.lemmas.List.{length-set, get_or-set_same, get_or-set_other}
use Rattle.std.proofs.lemmas.Option.{none-some, same_Some}
use Rattle.dcx_atom.specs.declared.array.Array.{Array}
use Rattle.dcx_atom.specs.declared.stops.ValueStop.{ValueStop}
use Rattle.dcx_atom.specs.declared.stops.ValueStop.TheVariants as stops
use Rattle.dcx_point.specs.Pairs.{Pairs}
use Rattle.dcx_arena.specs.Nodes.{args_at}
use Rattle.dcx_arena.specs.Gather.{has}
use Rattle.dcx_arena.proofs.Orders.{arg_below, all_has}
use Rattle.dcx_arena.proofs.Unfolds.{node_there}
use Rattle.dcx_call.specs.Calls.{shape_of}
use Rattle.dcx_tree.specs.declared.problem.Problem.{Problem}
use Rattle.dcx_tree.specs.Meaning.{names_in}
use Rattle.dcx_tree.specs.Values.{IsValueOf, IsNodeStop, IsMarked, array_at}
use Rattle.dcx_tree.proofs.Forming.{some_of, All-from_has}
use Rattle.dcx_tree.proofs.Marks.{reached_self}
use Rattle.dcx_answer.specs.declared.cert_fault.CertFault.{CertFault}
use Rattle.dcx_answer.specs.declared.cert_fault.CertFault.TheVariants.{Memory}
use Rattle.dcx_cert_values.specs.Forming.{IsFormedAt, fault_of, IsUnformedAt, forming_at, forming_where}
use Rattle.dcx_cert_values.specs.Tables.{AreKeptValues, StaysKept}
use Rattle.dcx_cert_values.specs.Marks.{AreClosed}
use Rattle.dcx_cert_values.proofs.Known.{all_named}
use Rattle.dcx_cert_values.proofs.Marking.{not_both}

pub some_from : (o : Option Array) (v : Array) → o ≡ Some v → IsSome o
some_from o v e = subst IsSome (sym e) refl

pub stays_some : (before after : List (Option Array)) → StaysKept before after → (i : ℕ) → IsSome (array_at before i) → IsSome (array_at after i)
stays_some before after h i s = let (v, e) = some_of (array_at before i) s in some_from (array_at after i) v (h i v e)

pub stays_same : (arrays : List (Option Array)) → StaysKept arrays arrays
stays_same arrays = λ i v e. e

pub stays_on : (a b c : List (Option Array)) → StaysKept a b → StaysKept b c → StaysKept a c
stays_on a b c h k = λ i v e. k i v (h i v e)

-- the value of one more node
module _ (arrays : List (Option Array)) (i : ℕ) (v : Array) (lt : i < length arrays) where
  set_here : array_at (set arrays i (Some v)) i ≡ Some v
  set_here = get_or-set_same arrays i (Some v) None lt

  set_there : (k : ℕ) → (k ≡ i → ⊥) → array_at (set arrays i (Some v)) k ≡ array_at arrays k
  set_there k other = get_or-set_other arrays i k (Some v) None other

  pub set_stays : array_at arrays i ≡ None → StaysKept arrays (set arrays i (Some v))
  set_stays free k w e = elim (cases_eq k i) [
    | inl z ↦ absurd (none-some w (sym free ∙ subst (λ j. array_at arrays j ≡ Some w) z e))
    | inr other ↦ set_there k other ∙ e
  ]

  set_was : (k : ℕ) → (k ≡ i → ⊥) → IsSome (array_at (set arrays i (Some v)) k) → IsSome (array_at arrays k)
  set_was k other s = subst IsSome (set_there k other) s

  pub set_only : (k : ℕ) → IsSome (array_at (set arrays i (Some v)) k) → (k ≡ i) ⊎ IsSome (array_at arrays k)
  set_only k s = elim (cases_eq k i) [ inl z ↦ inl z | inr other ↦ inr (set_was k other s) ]

-- what is kept is marked or was kept, with one more node that is marked
pub only_more : (marks : List Bool) (old arrays now : List (Option Array)) (n : ℕ) → IsMarked marks n → ((j : ℕ) → IsSome (array_at arrays j) → IsMarked marks j ⊎ IsSome (array_at old j))
    → ((j : ℕ) → IsSome (array_at now j) → (j ≡ n) ⊎ IsSome (array_at arrays j)) → (j : ℕ) → IsSome (array_at now j) → IsMarked marks j ⊎ IsSome (array_at old j)
only_more marks old arrays now n m before more j s = elim (more j s) [ inl e ↦ inl (subst (IsMarked marks) (sym e) m) | inr was ↦ before j was ]

module _ (p : Problem) (setting point : Pairs) where
  pub values_none : (arrays : List (Option Array)) → length arrays ≡ length p.tree → ((i : ℕ) → array_at arrays i ≡ None) → AreKeptValues p setting point arrays
  values_none arrays count none = record {
    sized = count;
    values = λ i v e. absurd (none-some v (sym (none i) ∙ e));
    closed = λ i a s h. absurd (not_both (array_at arrays i) (none i) s);
  }

  pub values_more : (arrays : List (Option Array)) (i : ℕ) (v : Array) → i < length p.tree → AreKeptValues p setting point arrays → array_at arrays i ≡ None
      → All (λ a. IsSome (array_at arrays a)) (args_at p.tree i)
      → IsValueOf p.tree setting point i v → AreKeptValues p setting point (set arrays i (Some v))
  values_more arrays i v lt h free args is =
      let within : i < length arrays = omega (arith, lt, h.sized) in
      record {
        sized = length-set arrays i (Some v) ∙ h.sized;
        values = λ k w e. elim (cases_eq k i) [
          | inl z ↦
              let here : array_at (set arrays i (Some v)) i ≡ Some w = subst (λ j. array_at (set arrays i (Some v)) j ≡ Some w) z e in
              let same : v ≡ w = same_Some v w (sym (set_here arrays i v within) ∙ here) in
              subst (λ j. IsValueOf p.tree setting point j w) (sym z) (subst (IsValueOf p.tree setting point i) same is)
          | inr other ↦ h.values k w (sym (set_there arrays i v within k other) ∙ e)
        ];
        closed = λ k a s of. stays_some arrays (set arrays i (Some v)) (set_stays arrays i v within free) a (elim (cases_eq k i) [
          | inl z ↦ all_has (λ b. IsSome (array_at arrays b)) (args_at p.tree i) a args (subst (λ j. has (args_at p.tree j) a ≡ true) z of)
          | inr other ↦ h.closed k a (set_was arrays i v within k other s) of
        ]);
      }

  -- a node whose value is kept is formed
  pub kept_formed : (arrays : List (Option Array)) → AreKeptValues p setting point arrays → (i : ℕ) → IsSome (array_at arrays i) → IsFormedAt p setting point i
  kept_formed arrays h i s n at = let (v, e) = some_of (array_at arrays i) s in (h.values i v e).formed (names_in p) (all_named p i) i n (reached_self p.tree i) at

  -- why a node isn't formed
  pub unformed : (i : ℕ) → i < length p.tree → (stop : ValueStop) → IsNodeStop p.tree setting point i stop → (fault_of i stop ≡ Memory) ⊎ IsUnformedAt p setting point i (fault_of i stop)
  unformed i lt (stops.Passes entry passes) h =
      let (n, at) = node_there p.tree i lt in
      inr (record { node = n; there = at; stop = stops.Passes entry passes; here = h (names_in p) (all_named p i) n at; told = refl })
  unformed i lt (stops.ZeroDivisor entry) h =
      let (n, at) = node_there p.tree i lt in
      inr (record { node = n; there = at; stop = stops.ZeroDivisor entry; here = h (names_in p) (all_named p i) n at; told = refl })
  unformed i lt stops.Memory h = inl refl

  -- ---- marked nodes in rising order
  -- of the marked nodes before n the values are kept
  pub record AreKeptSoFar (marks : List Bool) (old : List (Option Array)) (n : ℕ) (arrays : List (Option Array)) : Type 0 where
    pub values : AreKeptValues p setting point arrays
    pub stays : StaysKept old arrays
    pub some : (k : ℕ) → k < n → IsMarked marks k → IsSome (array_at arrays k)
    pub only : (j : ℕ) → IsSome (array_at arrays j) → IsMarked marks j ⊎ IsSome (array_at old j)

  module _ (marks : List Bool) (old : List (Option Array)) where
    -- the arguments of a marked node are kept
    pub args_kept : AreClosed p.tree old marks → (n : ℕ) (arrays : List (Option Array)) → AreKeptSoFar marks old n arrays → IsMarked marks n → All (λ a. IsSome (array_at arrays a)) (args_at p.tree n)
    args_kept closed n arrays h m = All-from_has (λ a. IsSome (array_at arrays a)) (args_at p.tree n) (λ a of. elim (closed n a m of) [
      | inl k ↦ h.some a (arg_below shape_of p.tree p.nodes n a of) k
      | inr s ↦ stays_some old arrays h.stays a s
    ])

    -- the first that isn't formed
    pub first_unformed : (n : ℕ) (arrays : List (Option Array)) (f : CertFault) → AreKeptSoFar marks old n arrays → n < length p.tree → IsMarked marks n
        → (f ≡ Memory) ⊎ IsUnformedAt p setting point n f
        → (f ≡ Memory) ⊎ (forming_where p setting point (IsMarked marks)).fails f
    first_unformed n arrays f h lt m why = elim why [
      | inl e ↦ inl e
      | inr u ↦ inr (record { position = n; there = lt; before = λ k b q. kept_formed arrays h.values k (h.some k b q); here = (m, u) })
    ]

    pub all_formed : (n : ℕ) (arrays : List (Option Array)) → AreKeptSoFar marks old n arrays → ((k : ℕ) → IsMarked marks k → k < n) → (forming_where p setting point (IsMarked marks)).passes
    all_formed n arrays h below k lt m = kept_formed arrays h.values k (h.some k (below k m) m)

    -- ---- of the nodes of which Q holds, where those that aren't marked are kept
    module _ (Q : ℕ → Type 0) (h : AreKeptValues p setting point old) (sound : (i : ℕ) → IsMarked marks i → Q i)
        (known : (i : ℕ) → i < length p.tree → Q i → IsMarked marks i ⊎ IsSome (array_at old i)) where
      known_formed : (i : ℕ) → i < length p.tree → ((forming_at p setting point (IsMarked marks)) i).passes → Q i → IsFormedAt p setting point i
      known_formed i lt formed q = elim (known i lt q) [ inl m ↦ formed m | inr s ↦ kept_formed old h i s ]

      pub passes_where : (forming_where p setting point (IsMarked marks)).passes → (forming_where p setting point Q).passes
      passes_where formed i lt q = known_formed i lt (formed i lt) q

      pub fails_where : (f : CertFault) → (f ≡ Memory) ⊎ (forming_where p setting point (IsMarked marks)).fails f → (f ≡ Memory) ⊎ (forming_where p setting point Q).fails f
      fails_where f why = elim why [
        | inl e ↦ inl e
        | inr u ↦ inr (record {
          position = u.position;
          there = u.there;
          before = λ k b q. known_formed k (let t = u.there in omega (arith, b, t)) (u.before k b) q;
          here = (sound u.position u.here.0, u.here.1);
        })
      ]
