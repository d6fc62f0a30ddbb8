-- The unknowns of the layout: those of the variables, and the auxiliary ones of each node.
use Rattle.std.proofs.Common.{◌≡◌, ℕ, zero, suc, ◌+◌, ◌<◌, ◌≤◌, arith, List, length, map, Option, Some, None, option_map, refl, sym, ap, ◌∙◌, subst, ⊎_elim, length-append, add-one}
use Rattle.std.specs.List.{flat_map, range_with_len}
use Rattle.std.proofs.lemmas.Option.{none-some, same_Some, slice_get_within, get_or_from_slice_get}
use Rattle.std.proofs.lemmas.List.{length-map}
use Rattle.dcx_atom.proofs.BoundRows.{below_or_last}
use Rattle.dcx_call.specs.declared.attribute.Variable.{Variable}
use Rattle.dcx_convex.specs.Rules.{Rules}
use Rattle.dcx_tree.specs.declared.problem.Problem.{Problem}
use Rattle.dcx_shape.specs.Sides.{entries_of}
use Rattle.dcx_unknowns.specs.Own.{own_before, source_of}
use Rattle.dcx_unknowns.specs.Unknowns.{demanded, sides_in, owners, variable_unknowns, variable_kinds, first_unknown, unknown_from}
use Rattle.dcx_call.specs.Attributes.{IsSquare}
use Rattle.dcx_unknowns.specs.Laws.{IsVariable}
use Rattle.dcx_unknowns.specs.Layout.{aux_kind, aux_at, aux_before, first_aux, unknown_kinds}
use Rattle.dcx_unknowns.proofs.Places.{joined_next}
use Rattle.dcx_unknowns.proofs.Sources.{source_own}
use Rattle.dcx_unknowns.proofs.Owners.{are_numbered}

-- lists by place: a part and what stands before it are within the whole
pub part_within : {A : Type 0} (f : ℕ → List A) (n i : ℕ) → i < n → length (flat_map f (range_with_len 0 i)) + length (f i) ≤ length (flat_map f (range_with_len 0 n))
part_within f zero i b = absurd (omega arith)
part_within {A} f (suc n) i b =
    let whole : length (flat_map f (range_with_len 0 (suc n))) ≡ length (flat_map f (range_with_len 0 n)) + length (f n) =
    ap (λ k. length (flat_map f (range_with_len 0 k))) (sym (add-one n)) ∙ ap length (joined_next f n) ∙ length-append (flat_map f (range_with_len 0 n)) (f n) in
    ⊎_elim (λ l. let rest = part_within f n i l in omega (arith, rest, whole))
    (λ e. subst (λ k. length (flat_map f (range_with_len 0 k)) + length (f k) ≤ length (flat_map f (range_with_len 0 (suc n)))) (sym e) (omega (arith, whole)))
    (below_or_last i n b)

module _ (rules : Rules) (p : Problem) where
  pub count_is : length (unknown_kinds rules p) ≡ variable_unknowns p.variables + length (aux_before rules p (length p.tree))
  count_is =
      length-append (variable_kinds p.variables) (map aux_kind (aux_before rules p (length p.tree)))
      ∙ ap (λ n. n + length (map aux_kind (aux_before rules p (length p.tree)))) (are_numbered p.variables).kinds
      ∙ ap (λ n. variable_unknowns p.variables + n) (length-map (aux_before rules p (length p.tree)) aux_kind)

  -- an auxiliary unknown of a node
  pub aux_within : (i k : ℕ) → i < length p.tree → k < length (aux_at rules p i) → first_aux rules p i + k < length (unknown_kinds rules p)
  aux_within i k b l =
      let part = part_within (aux_at rules p) (length p.tree) i b in
      omega (arith, count_is, part, l)

  -- the unknown that stands for an entry of a variable
  pub variable_within : (k : ℕ) (v : Variable) → IsVariable p.variables k v → (e : ℕ) → e < entries_of (sides_in v) → (n : ℕ) → unknown_from (first_unknown p.variables k) v e ≡ Some n
      → n < length (unknown_kinds rules p)
  variable_within k v at e b n is = by (source_of (demanded v) (sides_in v) e) refl is
    where
      by : (o : Option ℕ) → source_of (demanded v) (sides_in v) e ≡ o → option_map (λ j. first_unknown p.variables k + own_before (demanded v) (sides_in v) j) o ≡ Some n
          → n < length (unknown_kinds rules p)
      by None s h = absurd (none-some n h)
      by (Some j) s h =
          let here : IsSquare v = subst IsSquare (get_or_from_slice_get p.variables k v v at) (p.squares k v (slice_get_within p.variables k v at)) in
          let own = source_own (demanded v) (sides_in v) e j here b s in
          let m = first_unknown p.variables k + own_before (demanded v) (sides_in v) j in
          let inside = slice_get_within (owners p.variables) m _ ((are_numbered p.variables).owner k v j at (record { within = own.0; own = own.1 })) in
          let same : m ≡ n = same_Some m n h in
          omega (arith, inside, count_is, same)
