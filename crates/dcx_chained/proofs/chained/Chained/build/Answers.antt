-- The cells have the rows of the first tableau.
use Rattle.std.proofs.Common.{rules, arith, ◌≡◌, ℕ, ◌+◌, ◌<◌, List, ◌∷◌, ◌++◌, [], length, take, drop, map, pos, refl, sym, ap, ◌∙◌, subst, to_z-of_z, SFits}
use Rattle.std.specs.Int.{w128}
use Rattle.std.proofs.lemmas.List.{take_at}
use Rattle.dcx_tab.specs.Rows.{Row, entry, row_at}
use Rattle.dcx_tab.specs.Program.{plain_count, tableau_row, objective_row, phase_row}
use Rattle.dcx_tab.proofs.Programs.{few_in_all, length_basis, plain_count_le, same_table}
use Rattle.dcx_links.specs.Matrix.{row_of}
use Rattle.dcx_chained.specs.Narrow.{AreSized}
use Rattle.dcx_chained.proofs.Lines.{first_rows, first_small, row_width}
use Rattle.dcx_chained.proofs.RowReads.{zeros-row_of}
use Rattle.dcx_chained.proofs.chained.Chained.build.Goals as goal

pub overflow_cast-count : goal.overflow_cast-count
overflow_cast-count c = let p = c.args.program.now in let f = p.form.few_rows in let l = ap length c.as_slice-rows.ensures in record { fits = omega (arith, f, l) }

pub overflow_cast-columns : goal.overflow_cast-columns
overflow_cast-columns c = let p = c.args.program.now in let f = few_in_all p.rows p.columns p.objective p.phase p.form in let l = ap length c.as_slice-kinds.ensures in record
    { fits = omega (arith, f, l) }

pub overflow_add-count : goal.overflow_add-count
overflow_add-count c = let p = c.args.program.now in let f = p.form.few_rows in let l = ap length c.as_slice-rows.ensures in record { fits = omega (arith, f, l) }

pub overflow_add-columns : goal.overflow_add-columns
overflow_add-columns c = let p = c.args.program.now in let f = few_in_all p.rows p.columns p.objective p.phase p.form in let l = ap length c.as_slice-kinds.ensures in record
    { fits = omega (arith, f, l) }

pub overflow_add-kinds : goal.overflow_add-kinds
overflow_add-kinds c = let p = c.args.program.now in let f = few_in_all p.rows p.columns p.objective p.phase p.form in let l = ap length c.as_slice-kinds.ensures in record
    { fits = omega (arith, f, l) }

pub overflow_add-rows : goal.overflow_add-rows
overflow_add-rows c = let p = c.args.program.now in let f = p.form.few_rows in let l = ap length c.as_slice-rows.ensures in record { fits = omega (arith, f, l) }

pub same-links : goal.same-links
same-links c = refl

pub put_rows-requires-clause-rows : goal.put_rows-requires-clause-rows
put_rows-requires-clause-rows c = let h = c.in_ok-links.ensures.height in omega (arith, h)

pub put_rows-requires-clause-count : goal.put_rows-requires-clause-count
put_rows-requires-clause-count c = let p = c.args.program.now in let f = p.form.few_rows in let l = ap length c.as_slice-rows.ensures in omega (arith, f, l)

pub put_rows-requires-clause-columns : goal.put_rows-requires-clause-columns
put_rows-requires-clause-columns c =
    let p = c.args.program.now in
    let f = few_in_all p.rows p.columns p.objective p.phase p.form in
    let l = ap length c.as_slice-kinds.ensures in
    let w = c.in_ok-links.ensures.width in
    omega (arith, f, l, w)

pub put_rows-requires-clause-width : goal.put_rows-requires-clause-width
put_rows-requires-clause-width c = λ k lt.
    let p = c.args.program.now in
    let e = ap length c.as_slice-rows.ensures in
    let a = row_width p.rows p.columns p.objective p.phase p.form k (omega (arith, lt, e)) in
    let b = ap (λ rs. length (row_at (map tableau_row rs) k)) c.as_slice-rows.ensures in
    let l = ap length c.as_slice-kinds.ensures in
    let w = c.in_ok-links.ensures.width in
    omega (arith, a, b, l, w)

pub put_line-requires-clause-row : goal.put_line-requires-clause-row
put_line-requires-clause-row c = let a = c.put_rows.ensures.height in let h = c.in_ok-links.ensures.height in omega (arith, a, h)

pub put_line-requires-clause-width : goal.put_line-requires-clause-width
put_line-requires-clause-width c =
    let p = c.args.program.now in
    let a = c.put_rows.ensures.width in
    let w = c.in_ok-links.ensures.width in
    let l = ap length c.as_slice-kinds.ensures in
    let e = ap length c.as_slice.ensures in
    let f = p.form.cost.width in
    omega (arith, a, w, l, e, f)

pub put_line-requires-clause-few : goal.put_line-requires-clause-few
put_line-requires-clause-few c =
    let p = c.args.program.now in
    let e = ap length c.as_slice.ensures in
    let f = p.form.cost.width in
    let g = few_in_all p.rows p.columns p.objective p.phase p.form in
    omega (arith, e, f, g)

pub overflow_add-count-2 : goal.overflow_add-count-2
overflow_add-count-2 c = let p = c.args.program.now in let f = p.form.few_rows in let l = ap length c.as_slice-rows.ensures in record { fits = omega (arith, f, l) }

pub put_line-requires-2-clause-row : goal.put_line-requires-2-clause-row
put_line-requires-2-clause-row c = let a = c.put_rows.ensures.height in let b = c.put_line.ensures.height in let h = c.in_ok-links.ensures.height in omega (arith, a, b, h)

pub put_line-requires-2-clause-width : goal.put_line-requires-2-clause-width
put_line-requires-2-clause-width c =
    let p = c.args.program.now in
    let a = c.put_rows.ensures.width in
    let b = c.put_line.ensures.width in
    let w = c.in_ok-links.ensures.width in
    let l = ap length c.as_slice-kinds.ensures in
    let e = ap length c.as_slice-2.ensures in
    let f = p.form.sum.width in
    omega (arith, a, b, w, l, e, f)

pub put_line-requires-2-clause-few : goal.put_line-requires-2-clause-few
put_line-requires-2-clause-few c =
    let p = c.args.program.now in
    let e = ap length c.as_slice-2.ensures in
    let f = p.form.sum.width in
    let g = few_in_all p.rows p.columns p.objective p.phase p.form in
    omega (arith, e, f, g)

pub overflow_cast-result : goal.overflow_cast-result
overflow_cast-result c =
    let p = c.args.program.now in
    let f = few_in_all p.rows p.columns p.objective p.phase p.form in
    let l = plain_count_le p.columns in
    let e = c.plain_of.ensures ∙ ap plain_count c.as_slice-kinds.ensures in
    record { fits = omega (arith, f, l, e) }

pub invariant_of-result : goal.invariant_of-result
invariant_of-result c =
    let p = c.args.program.now in
    let rs = c.as_slice-rows.result.now in
    let er : length rs ≡ length p.rows = ap length c.as_slice-rows.ensures in
    let kinds : length c.as_slice-kinds.result.now ≡ length p.columns = ap length c.as_slice-kinds.ensures in
    let m = c.put_line-2.new.links in
    let f1 : SFits w128 p.objective.lead = search rules in
    let f2 : SFits w128 p.objective.right = search rules in
    let f3 : SFits w128 p.phase.lead = search rules in
    let f4 : SFits w128 p.phase.right = search rules in
    let high : m.height ≡ length p.rows + 2 = c.put_line-2.ensures.height ∙ c.put_line.ensures.height ∙ c.put_rows.ensures.height ∙ c.in_ok-links.ensures.height ∙ ap (λ n. n + 2) er in
    let put : (k : ℕ) → k < length p.rows → row_of m k ≡ row_at (map tableau_row p.rows) k =
    λ k lt. c.put_line-2.ensures.same k (λ e. omega (arith, e, er, lt)) ∙ c.put_line.ensures.same k (λ e. omega (arith, e, er, lt)) ∙ c.put_rows.ensures.there k
    (omega (arith, lt, er)) ∙ ap (λ xs. row_at (map tableau_row xs) k) c.as_slice-rows.ensures in
    let at_objective : row_of m (length p.rows) ≡ objective_row p.objective =
    ap (row_of m) (sym er) ∙ c.put_line-2.ensures.same (length rs) (λ e. omega (arith, e)) ∙ (simp to_z-of_z at c.put_line.ensures.row) ∙ ap (λ (xs : Row). xs ++ p.objective.lead
    ∷ pos 0 ∷ p.objective.right ∷ []) c.as_slice.ensures in
    let at_phase : row_of m (length p.rows + 1) ≡ phase_row p.phase =
    ap (λ n. row_of m (n + 1)) (sym er) ∙ (simp to_z-of_z at c.put_line-2.ensures.row) ∙ ap (λ (xs : Row). xs ++ pos 0 ∷ p.phase.lead ∷ p.phase.right ∷ []) c.as_slice-2.ensures in
    let few = few_in_all p.rows p.columns p.objective p.phase p.form in
    let sizes = c.note_sizes-narrow.new.sizes in
    let sized : take c.in_ok-sizes.sizes.len (sizes ++ drop (length sizes) c.in_ok-sizes.sizes.items) ≡ sizes = take_at sizes _ c.in_ok-sizes.sizes.len
    (c.note_sizes-narrow.auto.sizes ∙ c.deref_mut.ensures.len) in
    record {
      height = high ∙ ap (λ n. n + 2) (sym er);
      width = c.put_line-2.ensures.width ∙ c.put_line.ensures.width ∙ c.put_rows.ensures.width ∙ c.in_ok-links.ensures.width;
      room = (let s = c.in_ok-entries.entries.ok in let e = c.in_ok-entries.ensures.len in omega (arith, s, e));
      sizes_size = (let q = ap length sized in let a = c.note_sizes-narrow.auto.sizes in let d = c.deref_mut.ensures.len in let s = c.in_ok-sizes.sizes.ok in let e =
          c.in_ok-sizes.ensures.len in omega (arith, q, a, d, s, e));
      basis_size = ap length c.in_ok-basis.ensures ∙ length_basis p.rows p.columns p.objective p.phase p.form ∙ ap (λ n. n + 2) (sym er);
      row_count = (let g = p.form.few_rows in omega (arith, er, g));
      column_count = omega (arith, kinds, few);
      plain_below = (let l = plain_count_le p.columns in let e = c.plain_of.ensures ∙ ap plain_count c.as_slice-kinds.ensures in omega (arith, l, e, kinds));
      small = λ i lt. first_small p.rows p.columns p.objective p.phase p.form m high put at_objective at_phase i (omega (arith, lt, er));
      narrow_rows = λ t. subst (λ (ss : List ℕ). AreSized (length rs + 2) ss m) (sym sized) (c.note_sizes-narrow.ensures t);
    }

pub note_sizes-narrow-requires-clause-rows : goal.note_sizes-narrow-requires-clause-rows
note_sizes-narrow-requires-clause-rows c =
    let a = c.put_rows.ensures.height in
    let b = c.put_line.ensures.height in
    let d = c.put_line-2.ensures.height in
    let h = c.in_ok-links.ensures.height in
    omega (arith, a, b, d, h)

pub note_sizes-narrow-requires-clause-room : goal.note_sizes-narrow-requires-clause-room
note_sizes-narrow-requires-clause-room c =
    let d = c.deref_mut.ensures.len in
    let s = c.in_ok-sizes.sizes.ok in
    let e = c.in_ok-sizes.ensures.len in
    omega (arith, d, s, e)

pub returns : goal.returns
returns c =
    let p = c.args.program.now in
    let rs = c.as_slice-rows.result.now in
    let er : length rs ≡ length p.rows = ap length c.as_slice-rows.ensures in
    let kinds : length c.as_slice-kinds.result.now ≡ length p.columns = ap length c.as_slice-kinds.ensures in
    let m = c.put_line-2.new.links in
    let f1 : SFits w128 p.objective.lead = search rules in
    let f2 : SFits w128 p.objective.right = search rules in
    let f3 : SFits w128 p.phase.lead = search rules in
    let f4 : SFits w128 p.phase.right = search rules in
    let high : m.height ≡ length p.rows + 2 = c.put_line-2.ensures.height ∙ c.put_line.ensures.height ∙ c.put_rows.ensures.height ∙ c.in_ok-links.ensures.height ∙ ap (λ n. n + 2) er in
    let put : (k : ℕ) → k < length p.rows → row_of m k ≡ row_at (map tableau_row p.rows) k =
    λ k lt. c.put_line-2.ensures.same k (λ e. omega (arith, e, er, lt)) ∙ c.put_line.ensures.same k (λ e. omega (arith, e, er, lt)) ∙ c.put_rows.ensures.there k
    (omega (arith, lt, er)) ∙ ap (λ xs. row_at (map tableau_row xs) k) c.as_slice-rows.ensures in
    let at_objective : row_of m (length p.rows) ≡ objective_row p.objective =
    ap (row_of m) (sym er) ∙ c.put_line-2.ensures.same (length rs) (λ e. omega (arith, e)) ∙ (simp to_z-of_z at c.put_line.ensures.row) ∙ ap (λ (xs : Row). xs ++ p.objective.lead
    ∷ pos 0 ∷ p.objective.right ∷ []) c.as_slice.ensures in
    let at_phase : row_of m (length p.rows + 1) ≡ phase_row p.phase =
    ap (λ n. row_of m (n + 1)) (sym er) ∙ (simp to_z-of_z at c.put_line-2.ensures.row) ∙ ap (λ (xs : Row). xs ++ pos 0 ∷ p.phase.lead ∷ p.phase.right ∷ []) c.as_slice-2.ensures in
    same_table _ _ (first_rows p.rows p.columns p.objective p.phase p.form m high put at_objective at_phase) c.in_ok-basis.ensures kinds (c.plain_of.ensures ∙ ap plain_count c.as_slice-kinds.ensures)

pub put_rows-requires-clause-zeros : goal.put_rows-requires-clause-zeros
put_rows-requires-clause-zeros c = λ k j. zeros-row_of c.in_ok-links.links k (λ i. c.in_ok-links.ensures.zeros k i) j

pub put_line-requires-clause-zeros : goal.put_line-requires-clause-zeros
put_line-requires-clause-zeros c = λ j.
    let k = length c.as_slice-rows.result.now in
    ap (λ (r : Row). entry r j) (c.put_rows.ensures.same k (omega arith)) ∙ zeros-row_of c.in_ok-links.links k (λ i. c.in_ok-links.ensures.zeros k i) j

pub put_line-requires-2-clause-zeros : goal.put_line-requires-2-clause-zeros
put_line-requires-2-clause-zeros c = λ j.
    let k = length c.as_slice-rows.result.now in
    ap (λ (r : Row). entry r j) (c.put_line.ensures.same (k + 1) (λ e. omega (arith, e)) ∙ c.put_rows.ensures.same (k + 1) (omega arith))
    ∙ zeros-row_of c.in_ok-links.links (k + 1) (λ i. c.in_ok-links.ensures.zeros (k + 1) i) j
