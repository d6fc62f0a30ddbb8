-- The next row is put behind those so far.
use Rattle.std.proofs.Common.{rules, arith, ◌≡◌, ◌∷◌, ◌++◌, [], length, map, pos, sym, ap, ◌∙◌, subst, inl, inr, to_z-of_z, SFits, length-append}
use Rattle.std.specs.Int.{w128}
use Rattle.std.proofs.lemmas.Bool.{cases_eq}
use Rattle.std.proofs.lemmas.List.{get_or-map}
use Rattle.dcx_tab.specs.Rows.{Row, entry, row_at}
use Rattle.dcx_tab.specs.Program.{tableau_row}
use Rattle.dcx_links.specs.Matrix.{row_of}
use Rattle.dcx_chained.proofs.build.put_rows.Goals as goal

pub overflow_cast-k : goal.overflow_cast-k
overflow_cast-k c = let t = c.rows-test.true in let f = c.requires.count in record { fits = omega (arith, t, f) }

pub put_line-requires-clause-row : goal.put_line-requires-clause-row
put_line-requires-clause-row c = let t = c.rows-test.true in let h = c.rows.invariant.height in let r = c.requires.rows in omega (arith, t, h, r)

pub put_line-requires-clause-width : goal.put_line-requires-clause-width
put_line-requires-clause-width c =
    let r = c.index-rows-k.result in
    let e = ap tableau_row c.index-rows-k.is ∙ sym (get_or-map tableau_row c.args.rows.now c.rows.k r [] c.rows-test.true) in
    let a = ap length e in
    let b = length-append r.entries (pos 0 ∷ pos 0 ∷ r.right ∷ []) in
    let s = ap length c.as_slice.ensures in
    let w = c.requires.width c.rows.k c.rows-test.true in
    let v = c.rows.invariant.width in
    omega (arith, a, b, s, w, v)

pub put_line-requires-clause-few : goal.put_line-requires-clause-few
put_line-requires-clause-few c =
    let r = c.index-rows-k.result in
    let e = ap tableau_row c.index-rows-k.is ∙ sym (get_or-map tableau_row c.args.rows.now c.rows.k r [] c.rows-test.true) in
    let a = ap length e in
    let b = length-append r.entries (pos 0 ∷ pos 0 ∷ r.right ∷ []) in
    let s = ap length c.as_slice.ensures in
    let w = c.requires.width c.rows.k c.rows-test.true in
    let f = c.requires.columns in
    omega (arith, a, b, s, w, f)

pub rows-preserved : goal.rows-preserved
rows-preserved c =
    let v = c.rows.invariant in
    let n = c.put_line.ensures in
    let i = c.rows.k in
    let r = c.index-rows-k.result in
    let f : SFits w128 r.right = search rules in
    let e = ap tableau_row c.index-rows-k.is ∙ sym (get_or-map tableau_row c.args.rows.now i r [] c.rows-test.true) in
    let here : row_of c.put_line.new.links i ≡ row_at (map tableau_row c.args.rows.now) i = (simp to_z-of_z at n.row) ∙ ap (λ (xs : Row). xs ++ pos 0 ∷ pos 0 ∷ r.right ∷ []) c.as_slice.ensures ∙ e in
    record {
      height = n.height ∙ v.height;
      width = n.width ∙ v.width;
      there = λ k lt. elim (cases_eq k i) [
        | inl q ↦ subst (λ x. row_of c.put_line.new.links x ≡ row_at (map tableau_row c.args.rows.now) x) (sym q) here
        | inr d ↦ n.same k d ∙ v.there k (omega (arith, lt, d))
      ];
      same = λ k le. n.same k (λ e. omega (arith, e, le)) ∙ v.same k (omega (arith, le));
    }

pub put_line-requires-clause-zeros : goal.put_line-requires-clause-zeros
put_line-requires-clause-zeros c = λ j. ap (λ (r : Row). entry r j) (c.rows.invariant.same c.rows.k (omega arith)) ∙ c.requires.zeros c.rows.k j
