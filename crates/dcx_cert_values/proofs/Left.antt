-- What is left of a table where the values of marked nodes alone are kept.
use Rattle.std.proofs.Common.{◌≡◌, inl, inr, ℕ, ◌+◌, ◌<◌, ◌≤◌, Bool, true, false, List, length, Option, Some, None, IsSome, slice_index_or, refl, sym, ap, ◌∙◌, subst, arith}
use native.Mathlib.Decide.{dec_lt}
use Rattle.std.proofs.Math.ListN.{set}
use Rattle.std.proofs.lemmas.Bool.{cases_eq}
use Rattle.std.proofs.lemmas.List.{length-set, get_or-set_same, get_or-set_other, get_or_past}
use Rattle.std.proofs.lemmas.Option.{none-some}
use Rattle.dcx_atom.specs.declared.array.Array.{Array}
use Rattle.dcx_point.specs.Pairs.{Pairs}
use Rattle.dcx_arena.proofs.Orders.{arg_below}
use Rattle.dcx_call.specs.Calls.{shape_of}
use Rattle.dcx_convex.specs.Certificates.{is_fixed}
use Rattle.dcx_tree.specs.declared.problem.Problem.{Problem}
use Rattle.dcx_tree.specs.Meaning.{convex_problem}
use Rattle.dcx_tree.specs.Values.{array_at}
use Rattle.dcx_tree.proofs.Forming.{some_of}
use Rattle.dcx_cert_values.specs.Forming.{IsFixedNode}
use Rattle.dcx_cert_values.specs.Tables.{AreKeptValues, AreOnlyFixed, kept_if}
use Rattle.dcx_cert_values.proofs.Fixed.{argument_fixed}
use Rattle.dcx_cert_values.proofs.Keeping.{some_from}
use Rattle.dcx_cert_values.proofs.Marking.{marked_within, not_both}

kept_none : (b : Bool) → kept_if b None ≡ None
kept_none true = refl
kept_none false = refl

kept_is : (b : Bool) (o : Option Array) (v : Array) → kept_if b o ≡ Some v → (b ≡ true) × (o ≡ Some v)
kept_is true o v e = (refl, e)
kept_is false o v e = absurd (none-some v e)

kept_some : (b : Bool) (o : Option Array) → b ≡ true → IsSome o → IsSome (kept_if b o)
kept_some b o e s = subst (λ c. IsSome (kept_if c o)) (sym e) s

-- a table without values keeps none of a node that reaches a variable
pub none_only : (p : Problem) (arrays : List (Option Array)) → ((i : ℕ) → array_at arrays i ≡ None) → AreOnlyFixed p arrays
none_only p arrays none i s = absurd (not_both (array_at arrays i) (none i) s)

-- of the first places those that are marked are left, and the others are as they were
pub record IsKeptSoFar (marks : List Bool) (old : List (Option Array)) (n : ℕ) (now : List (Option Array)) : Type 0 where
  pub count : length now ≡ length old
  pub done : (i : ℕ) → i < n → array_at now i ≡ kept_if (slice_index_or marks i false) (array_at old i)
  pub rest : (i : ℕ) → n ≤ i → array_at now i ≡ array_at old i

module _ (marks : List Bool) (old : List (Option Array)) where
  pub kept_at_first : IsKeptSoFar marks old 0 old
  kept_at_first = record { count = refl; done = λ i b. absurd (omega (arith, b)); rest = λ i b. refl }

  module _ (n : ℕ) (now : List (Option Array)) (h : IsKeptSoFar marks old n now) where
    pub marked_more : slice_index_or marks n false ≡ true → IsKeptSoFar marks old (n + 1) now
    marked_more m = record {
      count = h.count;
      done = λ i b. elim (cases_eq i n) [
        | inl z ↦ subst (λ k. array_at now k ≡ kept_if (slice_index_or marks k false) (array_at old k)) (sym z) (h.rest n (omega arith) ∙ sym (ap (λ c. kept_if c (array_at old n)) m))
        | inr other ↦ h.done i (omega (arith, b, other))
      ];
      rest = λ i b. h.rest i (omega (arith, b));
    }

    pub unmarked_more : n < length now → slice_index_or marks n false ≡ false → IsKeptSoFar marks old (n + 1) (set now n None)
    unmarked_more lt m = record {
      count = length-set now n None ∙ h.count;
      done = λ i b. elim (cases_eq i n) [
        | inl z ↦ subst (λ k. array_at (set now n None) k ≡ kept_if (slice_index_or marks k false) (array_at old k)) (sym z)
            (get_or-set_same now n None None lt ∙ sym (ap (λ c. kept_if c (array_at old n)) m))
        | inr other ↦ get_or-set_other now n i None None other ∙ h.done i (omega (arith, b, other))
      ];
      rest = λ i b. get_or-set_other now n i None None (λ z. absurd (omega (arith, b, z))) ∙ h.rest i (omega (arith, b));
    }

    pub all_kept : length now ≤ n → (i : ℕ) → array_at now i ≡ kept_if (slice_index_or marks i false) (array_at old i)
    all_kept le i = by (dec_lt i n)
      where
        by : Dec (i < n) → array_at now i ≡ kept_if (slice_index_or marks i false) (array_at old i)
        by (yes b) = h.done i b
        by (no b) =
            let none : array_at old i ≡ None = get_or_past old i None (let c = h.count in omega (arith, b, c, le)) in
            h.rest i (omega (arith, b)) ∙ none ∙ sym (ap (kept_if (slice_index_or marks i false)) none ∙ kept_none (slice_index_or marks i false))

-- the marks are those of the nodes that reach no variable: what is left needs no point
module _ (p : Problem) (marks : List Bool) (old now : List (Option Array)) (count : length now ≡ length old)
    (each : (i : ℕ) → array_at now i ≡ kept_if (slice_index_or marks i false) (array_at old i))
    (fixed : (i : ℕ) → i < length p.tree → slice_index_or marks i false ≡ is_fixed (convex_problem p).nodes i) (size : length marks ≡ length p.tree) where
  was : (i : ℕ) (v : Array) → array_at now i ≡ Some v → (slice_index_or marks i false ≡ true) × (array_at old i ≡ Some v)
  was i v e = kept_is (slice_index_or marks i false) (array_at old i) v (sym (each i) ∙ e)

  marked_fixed : (i : ℕ) → slice_index_or marks i false ≡ true → IsFixedNode p i
  marked_fixed i m = let b = marked_within marks i m in sym (fixed i (omega (arith, b, size))) ∙ m

  fixed_marked : (i : ℕ) → i < length p.tree → IsFixedNode p i → slice_index_or marks i false ≡ true
  fixed_marked i b t = fixed i b ∙ t

  pub left_only : AreOnlyFixed p now
  left_only i s = let (v, e) = some_of (array_at now i) s in marked_fixed i (was i v e).0

  pub left_kept : (setting point : Pairs) → AreKeptValues p setting point old → AreKeptValues p setting point now
  left_kept setting point h = record {
    sized = count ∙ h.sized;
    values = λ i v e. h.values i v (was i v e).1;
    closed = λ i a s of.
        let (v, e) = some_of (array_at now i) s in
        let (m, there) = was i v e in
        let t = argument_fixed p i a (marked_fixed i m) of in
        let b = marked_within marks i m in
        let below = arg_below shape_of p.tree p.nodes i a of in
        subst IsSome (sym (each a))
        (kept_some (slice_index_or marks a false) (array_at old a) (fixed_marked a (omega (arith, b, size, below)) t) (h.closed i a (some_from (array_at old i) v there) of));
  }
