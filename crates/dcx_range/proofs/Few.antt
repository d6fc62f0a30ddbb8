-- The program at a setting has as few rows and columns as the layout of the problem.
use Rattle.std.proofs.Common.{◌≡◌, ℕ, zero, suc, ◌+◌, ◌*◌, ◌≤◌, List, [], ◌∷◌, length, map, Some, Ok, slice_get, refl, sym, ap, ap₂, ◌∙◌, arith}
use Rattle.std.specs.Prelude.{sum_by}
use Rattle.std.proofs.lemmas.List.{length-map}
use Rattle.std.proofs.lemmas.List.Sums.{sum_by-cons, sum_by-append, sum_by_push}
use Rattle.std.proofs.lemmas.Option.{same_Some}
use Rattle.dcx_atom.specs.Arrays.{list_below}
use Rattle.dcx_point.specs.Pairs.{Pairs}
use Rattle.dcx_frac.specs.declared.fraction.Frac.{Frac}
use Rattle.dcx_convex.specs.Rules.{Parametrized}
use Rattle.dcx_tree.specs.declared.problem.Problem.{Problem}
use Rattle.dcx_tree.specs.declared.constraint.Constraint.{Constraint}
use Rattle.dcx_tree.specs.declared.constraint.Kind.{Kind}
use Rattle.dcx_tree.specs.declared.constraint.Kind.TheVariants as relations
use Rattle.dcx_linear.specs.declared.param_form.ParamForm.{ParamForm}
use Rattle.dcx_linear.specs.declared.row.Row.{Row}
use Rattle.dcx_linear.specs.Size.{columns_for}
use Rattle.dcx_linear.specs.ParamForms.{form_of_number, number_of_form, sum_gives_form, change_gives_form, IsEntryForm}
use Rattle.dcx_std.specs.Size.{slacks_for}
use Rattle.dcx_std.specs.IntegerRows.{IsFitting}
use Rattle.dcx_unknowns.specs.Layout.{constraint_rows, constraint_slacks, slacks_by, unknown_kinds, is_reduced, rows_counted}
use Rattle.dcx_entries.specs.declared.formed.FormedRow.{FormedRow}
use Rattle.dcx_entries.specs.Nodes.{table_forms}
use Rattle.dcx_entries.specs.Kept.{graph_rows}
use Rattle.dcx_graph.specs.Duals.{row_kind}
use Rattle.dcx_graph.specs.Program.{Program, entries_in, entries_from, constraint_entries, graph_row}
use Rattle.dcx_graph.specs.Answers.{rows_of}
use Rattle.dcx_graph.specs.Correct.{ReducesAffine}
use Rattle.dcx_graph.proofs.Entries.{entries-length}
use Rattle.dcx_graph.proofs.Sizes.{rows-length}
use Rattle.dcx_graph.proofs.Counted.{graph-counted}

-- ---- sums
sum_map : {A B : Type 0} (f : B → ℕ) (g : A → B) (xs : List A) → sum_by f (map g xs) ≡ sum_by (λ x. f (g x)) xs
sum_map f g [] = refl
sum_map f g (x ∷ xs) = sum_by-cons f (g x) (map g xs) ∙ ap (λ n. f (g x) + n) (sum_map f g xs) ∙ sym (sum_by-cons (λ y. f (g y)) x xs)

sum_ones : {A : Type 0} (f : A → ℕ) (xs : List A) → ((x : A) → f x ≡ 1) → sum_by f xs ≡ length xs
sum_ones f [] h = refl
sum_ones f (x ∷ xs) h = let a = sum_by-cons f x xs in let b = h x in let c = sum_ones f xs h in omega (arith, a, b, c)

sum_alike : {A B : Type 0} (f : A → ℕ) (g : B → ℕ) (xs : List A) (ys : List B) → length xs ≡ length ys → ((i : ℕ) (x : A) (y : B) → slice_get xs i ≡ Some x → slice_get ys i ≡ Some y → f x ≡ g y)
    → sum_by f xs ≡ sum_by g ys
sum_alike f g [] [] l h = refl
sum_alike f g [] (y ∷ ys) l h = absurd (omega (arith, l))
sum_alike f g (x ∷ xs) [] l h = absurd (omega (arith, l))
sum_alike f g (x ∷ xs) (y ∷ ys) l h =
    let a = sum_by-cons f x xs in
    let b = sum_by-cons g y ys in
    let c = h 0 x y refl refl in
    let d = sum_alike f g xs ys (omega (arith, l)) (λ i v w e k. h (suc i) v w e k) in
    omega (arith, a, b, c, d)

sum_below : {A : Type 0} (f : A → ℕ) (g : ℕ → A) (n m : ℕ) → ((e : ℕ) → f (g e) ≡ m) → sum_by f (list_below n g) ≡ n * m
sum_below f g zero m h = omega arith
sum_below f g (suc n) m h = let a = sum_by_push f (list_below n g) (g n) in let b = h n in let c = sum_below f g n m h in omega (arith, a, b, c)

-- ---- the slacks of the constraints
slacks_by_kind : (kind : Kind) (n : ℕ) → n * slacks_for (row_kind kind) ≡ slacks_by kind n
slacks_by_kind relations.AtMost n = omega arith
slacks_by_kind relations.Equal n = omega arith

slacks_in : (k : ℕ) (c : Constraint) → sum_by (λ x. slacks_for x.kind) (entries_in k c) ≡ constraint_slacks c
slacks_in k c = sum_below _ _ (constraint_rows c) (slacks_for (row_kind c.kind)) (λ e. refl) ∙ slacks_by_kind c.kind (constraint_rows c)

slacks_from : (k : ℕ) (cs : List Constraint) → sum_by (λ x. slacks_for x.kind) (entries_from k cs) ≡ sum_by constraint_slacks cs
slacks_from k [] = refl
slacks_from k (c ∷ cs) = sum_by-append _ (entries_in k c) (entries_from (suc k) cs) ∙ ap₂ ◌+◌ (slacks_in k c) (slacks_from (suc k) cs) ∙ sym (sum_by-cons constraint_slacks c cs)

-- ---- the program
module _ (p : Problem) (unread : Pairs) (q : Program ParamForm) (reduces : ReducesAffine p unread (Ok q)) where
  graph : List (FormedRow ParamForm)
  graph = graph_rows form_of_number reduces.nodes.table

  counted : length graph ≡ rows_counted p.tree (is_reduced Parametrized p) (length p.tree)
  unfolding graph
  counted =
      graph-counted form_of_number number_of_form sum_gives_form change_gives_form
      (λ position name entry given f. IsEntryForm position name entry f) Parametrized p unread reduces.nodes.table reduces.nodes.formed

  rows_few : length q.rows ≤ 600
  unfolding graph
  rows_few =
      let a = rows-length form_of_number number_of_form sum_gives_form change_gives_form p (table_forms reduces.nodes.table) (graph_rows form_of_number reduces.nodes.table)
      (unknown_kinds Parametrized p) q reduces.program in
      let b = entries-length 0 p.constraints in
      let c = counted in
      let few = reduces.nodes.few.few_rows in
      omega (arith, a, b, c, few)

  row_slacks : Row ParamForm → ℕ
  row_slacks x = slacks_for x.kind

  slacks_are : sum_by row_slacks q.rows ≡ sum_by constraint_slacks p.constraints + rows_counted p.tree (is_reduced Parametrized p) (length p.tree)
  unfolding graph row_slacks
  slacks_are =
      let made = reduces.program.constraints in
      let are = reduces.program.constraints_are in
      ap (sum_by row_slacks) reduces.program.rows_are
      ∙ sum_by-append row_slacks made (map graph_row graph)
      ∙ ap₂ ◌+◌
      (sum_alike row_slacks _ made (constraint_entries p) are.0
      (λ i x y e f. let h = are.1 i x e in let same = same_Some h.0 y (sym h.1 ∙ f) in ap slacks_for h.2.0 ∙ (λ w. slacks_for (same w).kind)) ∙ slacks_from 0 p.constraints)
      (sum_map row_slacks graph_row graph ∙ sum_ones (λ x. row_slacks (graph_row x)) graph (λ x. refl) ∙ counted)

  -- a program with rows and unknowns of the same kinds has no more
  pub is_fitting : (r : Program Frac) → map (λ (x : Row Frac). x.kind) r.rows ≡ map (λ (x : Row ParamForm). x.kind) q.rows → r.kinds ≡ q.kinds → IsFitting (rows_of r)
  unfolding row_slacks
  is_fitting r same kinds =
      let few = reduces.nodes.few in
      let count = sym (length-map r.rows (λ (x : Row Frac). x.kind)) ∙ ap length same ∙ length-map q.rows (λ (x : Row ParamForm). x.kind) in
      let low = rows_few in
      let unknowns = ap (sum_by columns_for) (kinds ∙ reduces.program.kinds_are) in
      let slacks = sym (sum_map slacks_for (λ (x : Row Frac). x.kind) r.rows) ∙ ap (sum_by slacks_for) same ∙ sum_map slacks_for (λ (x : Row ParamForm). x.kind) q.rows ∙ slacks_are in
      let columns = few.few_columns in
      (omega (arith, count, low), omega (arith, unknowns, slacks, columns))
