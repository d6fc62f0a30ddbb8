-- Divisors that are marked, tested and formed below.
use Rattle.std.proofs.Common.{◌≡◌, ◌↔◌, ◌⊎◌, inl, inr, ℕ, ◌+◌, ◌<◌, ◌≤◌, Bool, true, false, List, [], ◌∷◌, length, All, Option, Some}
use Rattle.std.proofs.Common.{None, IsSome, OnOk, IfErr, Result, Ok, Err, sym, ap, subst, ◌∙◌, arith, replicate}
use Rattle.std.proofs.Math.Path.{fun_ext}
use Rattle.std.proofs.Math.ListN.{set}
use Rattle.std.proofs.lemmas.Bool.{cases_eq}
use Rattle.std.proofs.lemmas.Option.{none-some, same_Some, slice_get_within}
use Rattle.dcx_math.specs.Rational.{ℚ}
use Rattle.dcx_shape.specs.Sides.{entries_of}
use Rattle.dcx_atom.specs.declared.array.Array.{Array}
use Rattle.dcx_atom.specs.Arrays.{number_at}
use Rattle.dcx_point.specs.Pairs.{Pairs}
use Rattle.dcx_arena.specs.Nodes.{sides_at, args_at}
use Rattle.dcx_arena.proofs.Orders.{arg_below, one_is}
use Rattle.dcx_call.specs.Calls.{shape_of}
use Rattle.dcx_tree.specs.declared.problem.Problem.{Problem}
use Rattle.dcx_tree.specs.Nodes.{Node, source_value}
use Rattle.dcx_tree.specs.Meaning.{names_in}
use Rattle.dcx_tree.specs.Values.{IsMarked, array_at}
use Rattle.dcx_tree.proofs.Forming.{All-from_has}
use Rattle.dcx_tree.proofs.Marks.{mark_one, unmarked, reached_self}
use Rattle.dcx_answer.specs.declared.cert_fault.CertFault.{CertFault}
use Rattle.dcx_answer.specs.declared.cert_fault.CertFault.TheVariants.{Memory}
use Rattle.dcx_cert_sections.specs.Checks.{Checked, each_below}
use Rattle.dcx_cert_values.specs.Forming.{IsUnformedAt, forming_at, divisor_in, IsBelowDivisor, nonzero, dividing_if, dividing_at, divisor_step, divisors}
use Rattle.dcx_cert_values.specs.Tables.{AreKeptValues, StaysKept}
use Rattle.dcx_cert_values.specs.Marks.{AreClosed, IsDivisor}
use Rattle.dcx_cert_values.proofs.Known.{all_named}
use Rattle.dcx_cert_values.proofs.Marking.{all_known}
use Rattle.dcx_cert_values.proofs.Fixed.{divisor_found, divisor_is_argument}
use Rattle.dcx_cert_values.proofs.Keeping.{kept_formed, stays_same, stays_some, stays_on}

-- ---- marks of divisors
-- the divisors of the nodes before i are marked
abbrev pub AreDivisorsBelow : List Node → ℕ → List Bool → Type 0
AreDivisorsBelow nodes i marks = (d : ℕ) → IsMarked marks d ↔ ((k : ℕ) × (k < i) × (divisor_in nodes k ≡ Some d))

module _ (nodes : List Node) where
  pub no_divisors : (size : ℕ) → AreDivisorsBelow nodes 0 (replicate size false)
  no_divisors size d = ((λ m. absurd (unmarked size d m)), (λ q. absurd (let b = q.1 in omega (arith, b))))

  pub divisor_more : (i d : ℕ) (marks : List Bool) → d < length marks → divisor_in nodes i ≡ Some d → AreDivisorsBelow nodes i marks → AreDivisorsBelow nodes (i + 1) (set marks d true)
  divisor_more i d marks lt is h e = (
    (λ m. elim ((mark_one marks d lt e).0 m) [
      | inl was ↦ let q = (h e).0 was in (q.0, (let b = q.1 in omega (arith, b)), q.2)
      | inr same ↦ (i, omega arith, is ∙ ap Some same)
    ]),
    (λ q. elim (cases_eq q.0 i) [
      | inl z ↦ (mark_one marks d lt e).1 (inr (same_Some d e (sym is ∙ subst (λ k. divisor_in nodes k ≡ Some e) z q.2)))
      | inr other ↦ (mark_one marks d lt e).1 (inl ((h e).1 (q.0, (let b = q.1 in omega (arith, b, other)), q.2)))
    ]),
  )

  pub divisor_none : (i : ℕ) (marks : List Bool) → divisor_in nodes i ≡ None → AreDivisorsBelow nodes i marks → AreDivisorsBelow nodes (i + 1) marks
  divisor_none i marks is h e = (
    (λ m. let q = (h e).0 m in (q.0, (let b = q.1 in omega (arith, b)), q.2)),
    (λ q. elim (cases_eq q.0 i) [
      | inl z ↦ absurd (none-some e (sym is ∙ subst (λ k. divisor_in nodes k ≡ Some e) z q.2))
      | inr other ↦ (h e).1 (q.0, (let b = q.1 in omega (arith, b, other)), q.2)
    ]),
  )

  -- a divisor stands where its quotient is
  pub divisor_within : (i d : ℕ) → divisor_in nodes i ≡ Some d → i < length nodes
  divisor_within i d h = let (n, at, is, second) = divisor_found nodes i d h in slice_get_within nodes i n at

  pub all_divisors : (i : ℕ) (marks : List Bool) → length nodes ≤ i → AreDivisorsBelow nodes i marks → (d : ℕ) → IsMarked marks d ↔ IsDivisor nodes d
  all_divisors i marks le h d = (
    (λ m. let q = (h d).0 m in (q.0, q.2)),
    (λ q. (h d).1 (q.0, (let b = divisor_within q.0 d q.1 in omega (arith, b, le)), q.1)),
  )

-- ---- one quotient
module _ (p : Problem) (setting : Pairs) (arrays : List (Option Array)) (h : AreKeptValues p setting [] arrays) where
  -- the numbers of a divisor that is kept
  divisor_numbers : (d : ℕ) (v : Array) → array_at arrays d ≡ Some v → number_at v.entries ≡ source_value p.tree (names_in p) setting [] d
  divisor_numbers d v e = fun_ext (λ j. (h.values d v e).numbers (names_in p) (all_named p d) j)

  pub tested : {T : Type 0} (i d size : ℕ) (v : Array) (r : Result T CertFault) → divisor_in p.tree i ≡ Some d → array_at arrays d ≡ Some v → size ≡ entries_of (sides_at p.tree i) →
      Checked (each_below size (nonzero i (number_at v.entries))) r → Checked (dividing_at p setting i) r
  tested i d size v r is kept same k =
      subst (λ (o : Option ℕ). Checked (dividing_if p setting i o) r) (sym is)
      (subst (λ (f : ℕ → ℚ). Checked (each_below (entries_of (sides_at p.tree i)) (nonzero i f)) r) (divisor_numbers d v kept)
      (subst (λ n. Checked (each_below n (nonzero i (number_at v.entries))) r) same k))

-- ---- nodes below divisors
module _ (p : Problem) (setting : Pairs) (marks : List Bool) (old : List (Option Array)) where
  -- a marked node is below a divisor, and what is below one is marked or kept
  pub record AreBelowDivisors : Type 0 where
    pub sound : (i : ℕ) → IsMarked marks i → IsBelowDivisor p i
    pub known : (i : ℕ) → IsBelowDivisor p i → IsMarked marks i ⊎ IsSome (array_at old i)
    pub closed : AreClosed p.tree old marks

  pub below_divisors : AreKeptValues p setting [] old → ((i : ℕ) → IsMarked marks i → IsBelowDivisor p i) → AreClosed p.tree old marks → ((d : ℕ) → IsDivisor p.tree d → IsMarked marks d)
      → AreBelowDivisors
  below_divisors h sound closed starts = record {
    sound = sound;
    known = λ i b. all_known p.tree old marks closed h.closed (b.divisor ∷ []) (λ r of. inl (subst (IsMarked marks) (one_is b.divisor r of) (starts b.divisor (b.quotient, b.is_divisor)))) i b.reached;
    closed = closed;
  }

  -- the nodes before i passed their checks
  pub record HavePassed (i : ℕ) (arrays : List (Option Array)) : Type 0 where
    pub values : AreKeptValues p setting [] arrays
    pub stays : StaysKept old arrays
    pub some : (k : ℕ) → k < i → IsMarked marks k → IsSome (array_at arrays k)
    pub passed : (k : ℕ) → k < i → (divisor_step p setting k).passes
    pub only : (j : ℕ) → IsSome (array_at arrays j) → IsBelowDivisor p j ⊎ IsSome (array_at old j)

  pub passed_none : AreKeptValues p setting [] old → HavePassed 0 old
  passed_none h = record { values = h; stays = stays_same old; some = λ k b m. absurd (omega (arith, b)); passed = λ k b. absurd (omega (arith, b)); only = λ j s. inr s }

  module _ (below : AreBelowDivisors) (i : ℕ) (arrays : List (Option Array)) (h : HavePassed i arrays) where
    pub passed_more : (now : List (Option Array)) → AreKeptValues p setting [] now → StaysKept arrays now → (IsMarked marks i → IsSome (array_at now i)) → (divisor_step p setting i).passes
        → ((j : ℕ) → IsSome (array_at now j) → IsBelowDivisor p j ⊎ IsSome (array_at arrays j)) → HavePassed (i + 1) now
    passed_more now values stays here passes only = record {
      values = values;
      stays = stays_on old arrays now h.stays stays;
      some = λ k b m. elim (cases_eq k i) [
        | inl z ↦ subst (λ j. IsSome (array_at now j)) (sym z) (here (subst (IsMarked marks) z m))
        | inr other ↦ stays_some arrays now stays k (h.some k (omega (arith, b, other)) m)
      ];
      passed = λ k b. elim (cases_eq k i) [
        | inl z ↦ subst (λ j. (divisor_step p setting j).passes) (sym z) passes
        | inr other ↦ h.passed k (omega (arith, b, other))
      ];
      only = λ j s. elim (only j s) [ inl b ↦ inl b | inr was ↦ h.only j was ];
    }

    kept_or_marked : (a : ℕ) → a < i → IsMarked marks a ⊎ IsSome (array_at old a) → IsSome (array_at arrays a)
    kept_or_marked a b = elim [ inl m ↦ h.some a b m | inr s ↦ stays_some old arrays h.stays a s ]

    pub known_now : IsBelowDivisor p i → IsMarked marks i ⊎ IsSome (array_at arrays i)
    known_now b = elim (below.known i b) [ inl m ↦ inl m | inr s ↦ inr (stays_some old arrays h.stays i s) ]

    pub args_now : IsMarked marks i → All (λ a. IsSome (array_at arrays a)) (args_at p.tree i)
    args_now m = All-from_has (λ a. IsSome (array_at arrays a)) (args_at p.tree i) (λ a of. kept_or_marked a (arg_below shape_of p.tree p.nodes i a of) (below.closed i a m of))

    pub divisor_now : (d : ℕ) → divisor_in p.tree i ≡ Some d → IsSome (array_at arrays d)
    divisor_now d is =
        let b : IsBelowDivisor p d = record { quotient = i; divisor = d; is_divisor = is; reached = reached_self p.tree d } in
        kept_or_marked d (arg_below shape_of p.tree p.nodes i d (divisor_is_argument p.tree i d is)) (below.known d b)

    -- the first that doesn't pass
    pub first_failing : (f : CertFault) → i < length p.tree → (f ≡ Memory) ⊎ (divisor_step p setting i).fails f → (f ≡ Memory) ⊎ (divisors p setting).fails f
    first_failing f lt why = elim why [
      | inl e ↦ inl e
      | inr u ↦ inr (record { position = i; there = lt; before = h.passed; here = u })
    ]

-- ---- one node below a divisor
module _ (p : Problem) (setting : Pairs) (i : ℕ) where
  pub below_passes : (arrays : List (Option Array)) → AreKeptValues p setting [] arrays → (IsBelowDivisor p i → IsSome (array_at arrays i)) → (forming_at p setting [] (IsBelowDivisor p) i).passes
  below_passes arrays h kept b = kept_formed p setting [] arrays h i (kept b)

  pub below_fails : (f : CertFault) → IsBelowDivisor p i → (f ≡ Memory) ⊎ IsUnformedAt p setting [] i f → (f ≡ Memory) ⊎ (forming_at p setting [] (IsBelowDivisor p) i).fails f
  below_fails f b why = elim why [ inl e ↦ inl e | inr u ↦ inr (b, u) ]

  pub below_checked : {T : Type 0} (r : Result T CertFault) (now : List (Option Array)) → AreKeptValues p setting [] now → OnOk r (IsSome (array_at now i))
      → IfErr r (λ f. (f ≡ Memory) ⊎ IsUnformedAt p setting [] i f)
      → IsBelowDivisor p i → Checked (forming_at p setting [] (IsBelowDivisor p) i) r
  below_checked (Ok x) now h kept fault b = below_passes now h (λ d. kept)
  below_checked (Err f) now h kept fault b = below_fails f b fault
