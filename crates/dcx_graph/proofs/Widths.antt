-- The forms that are kept of formed nodes are no wider than the unknowns are many.
use Rattle.std.proofs.Common.{◌≡◌, ◌⊎◌, ℕ, zero, suc, ◌<◌, ◌≤◌, arith, List, [], ◌∷◌, length, get_or, Option, Some, None}
use Rattle.std.proofs.Common.{option_map, Result, slice_get, slice_index_or, refl, sym, ap, ◌∙◌, subst, inl, inr}
use Rattle.std.specs.List.{All}
use Rattle.std.proofs.lemmas.List.{length-map}
use Rattle.std.proofs.lemmas.Option.{slice_get-map, slice_get_cases, get_or_from_slice_get}
use Rattle.dcx_frac.specs.declared.fraction.Frac.{Frac}
use Rattle.dcx_frac.specs.declared.fraction.Passes.{Passes}
use Rattle.dcx_atom.specs.Arrays.{list_below}
use Rattle.dcx_point.specs.Pairs.{Pairs}
use Rattle.dcx_convex.specs.Rules.{Rules}
use Rattle.dcx_tree.specs.declared.problem.Problem.{Problem}
use Rattle.dcx_tree.specs.Problems.{roots_of}
use Rattle.dcx_linear.specs.declared.change.Change.{Change}
use Rattle.dcx_linear.specs.declared.form.Form.{Form}
use Rattle.dcx_unknowns.proofs.Lists.{Each, each_nil, each_cons, each_append, each_joined, each_map}
use Rattle.dcx_entries.specs.declared.entries.EntryForms.{EntryForms}
use Rattle.dcx_entries.specs.declared.formed.Formed.{Formed}
use Rattle.dcx_entries.specs.declared.formed.FormedRow.{FormedRow}
use Rattle.dcx_entries.specs.Parts.{zero_form}
use Rattle.dcx_entries.specs.Entries.{alone, entry_forms}
use Rattle.dcx_entries.specs.Standing.{all_forms}
use Rattle.dcx_entries.specs.Nodes.{Table, table_forms}
use Rattle.dcx_entries.specs.Kept.{entry_rows, node_rows, graph_rows, IsKept}
use Rattle.dcx_entries.proofs.Past.{past_end}
use Rattle.dcx_formed.specs.Within.{OfEntry, OfTable}
use Rattle.dcx_math.proofs.Lists.{element_at}

-- what is so of each item, told in the two ways
pub each_all : {A : Type 0} (P : A → Type 0) (xs : List A) → Each P xs → All P xs
each_all P [] h i d b = absurd (omega (arith, b))
each_all P (x ∷ xs) h zero d b = h 0 x refl
each_all P (x ∷ xs) h (suc i) d b = each_all P xs (λ k. h (suc k)) i d (omega (arith, b))

each_below : {A : Type 0} (P : A → Type 0) (n : ℕ) (f : ℕ → A) → ((i : ℕ) → i < n → P (f i)) → Each P (list_below n f)
each_below P zero f h = each_nil P
each_below P (suc n) f h = each_append P (list_below n f) (f n ∷ []) (each_below P n f (λ i b. h i (omega arith))) (each_cons P (f n) [] (h n (omega arith)) (each_nil P))

module _ {C : Type 0} (of_number : Frac → C) (P : Form C → Type 0) (table : Table C) (has : OfTable P table) where
  -- the forms of a node
  pub node_has : (a : ℕ) → All P (slice_index_or (table_forms table) a [])
  node_has a = by (slice_get_cases table a).1
    where
      by : ((es : List (EntryForms C)) × (a < length table) × (slice_get table a ≡ Some es) × (get_or table a es ≡ es)) ⊎ ((length table ≤ a) × (slice_get table a ≡ None))
          → All P (slice_index_or (table_forms table) a [])
      by (inl (es, b, at, e)) =
          subst (All P) (sym (get_or_from_slice_get (table_forms table) a (entry_forms es) [] (slice_get-map entry_forms table a ∙ ap (option_map entry_forms) at)))
          (each_all P (entry_forms es) (each_map P (λ (x : EntryForms C). x.form) es (λ j x l. (has a j es x at l).form)))
      by (inr past) = subst (All P) (sym (past_end (table_forms table) a [] (let q = past.0 in omega (arith, q, length-map table entry_forms)))) (each_all P [] (each_nil P))

  -- the rows of the graphs
  pub rows_have : All (λ (r : FormedRow C). P r.form) (graph_rows of_number table)
  rows_have =
      each_all (λ (r : FormedRow C). P r.form) (graph_rows of_number table)
      (each_joined (λ (r : FormedRow C). P r.form) (length table) (λ i. node_rows of_number i (slice_index_or table i [])) (λ i b.
      let (es, at) = element_at table i b in
      subst (λ xs. Each (λ (r : FormedRow C). P r.form) (node_rows of_number i xs)) (sym (get_or_from_slice_get table i es [] at)) (of_node i es at)))
    where
      of_entry : (i j : ℕ) (e : EntryForms C) → OfEntry P e → Each (λ (r : FormedRow C). P r.form) (entry_rows of_number i j e)
      of_entry i j e h =
          each_below (λ (r : FormedRow C). P r.form) (length e.rows) _ (λ k b.
          let (f, at) = element_at e.rows k b in
          subst P (sym (get_or_from_slice_get e.rows k f (zero_form of_number) at)) (h.rows k f at))

      of_node : (i : ℕ) (es : List (EntryForms C)) → slice_get table i ≡ Some es → Each (λ (r : FormedRow C). P r.form) (node_rows of_number i es)
      of_node i es at =
          each_joined (λ (r : FormedRow C). P r.form) (length es) (λ j. entry_rows of_number i j (slice_index_or es j (alone (zero_form of_number)))) (λ j b.
          let (e, l) = element_at es j b in
          subst (λ x. Each (λ (r : FormedRow C). P r.form) (entry_rows of_number i j x)) (sym (get_or_from_slice_get es j e (alone (zero_form of_number)) l)) (of_entry i j e (has i j es e at l)))

-- the same of what is kept
module _ {C : Type 0} (of_number : Frac → C) (number_of : C → Option Frac) (Sums : C → C → Result C Passes → Type 0) (Changes : Change → C → Result C Passes → Type 0)
    (Reads : ℕ → List ℕ → ℕ → Pairs → C → Type 0) (rules : Rules) (p : Problem) (setting : Pairs) (f : Formed C) (kept : IsKept of_number number_of Sums Changes Reads rules p setting f)
    (P : Form C → Type 0) (has : OfTable P kept.table) where
  pub roots_kept : All (λ a. All P (slice_index_or (all_forms of_number f.standing) a [])) (roots_of p.objective p.constraints)
  roots_kept i d b = subst (All P) (sym (kept.roots i d b)) (node_has of_number P kept.table has (get_or (roots_of p.objective p.constraints) i d))

  pub rows_kept : All (λ (r : FormedRow C). P r.form) f.rows
  rows_kept = subst (All (λ (r : FormedRow C). P r.form)) (sym kept.rows) (rows_have of_number P kept.table has)
