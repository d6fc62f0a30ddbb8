-- The rows are those of the pivot.
use Rattle.std.proofs.Common.{arith, ◌≡◌, ◌≢◌, ℕ, ◌+◌, ◌<◌, List, ◌++◌, length, take, drop, set, pos, refl, sym, ap, ◌∙◌, subst, inl, inr}
use Rattle.std.specs.Vec.{with_items}
use Rattle.std.proofs.lemmas.Bool.{cases_eq}
use Rattle.std.proofs.lemmas.List.{length-set, take_at}
use Rattle.dcx_tab.specs.Rows.{Row, entry, AllSmall, IsTableauOf}
use Rattle.dcx_tab.specs.Pivot.{turned}
use Rattle.dcx_tab.proofs.LineSteps.{small-turned}
use Rattle.dcx_tab.proofs.Pivots.{IsTableauOf-pivoted, turns}
use Rattle.dcx_tab.proofs.Programs.{same_table}
use Rattle.dcx_links.specs.Matrix.{row_of}
use Rattle.dcx_chained.specs.Rows.{rows_of}
use Rattle.dcx_chained.specs.Narrow.{IsSized, size_at}
use Rattle.dcx_chained.proofs.Sizes.{sized-turned}
use Rattle.dcx_chained.proofs.RowReads.{length-row_of, length-rows_of, row_at-rows_of}
use Rattle.dcx_chained.proofs.Cleared.{small-eliminated}
use Rattle.dcx_chained.proofs.Pivoted.{rows_pivoted, all_formed, rows_formed, first_wide_of}
use Rattle.dcx_chained.proofs.chained.ChainedTableau.pivot.Goals as goal

pub wide_at-requires-clause-row : goal.wide_at-requires-clause-row
wide_at-requires-clause-row c = let l = length-rows_of c.args.self.now.links in let r = c.requires.row in omega (arith, l, r)

pub wide_at-requires-clause-column : goal.wide_at-requires-clause-column
wide_at-requires-clause-column c = let w = c.args.self.now.width in let h = c.requires.column in omega (arith, w, h)

pub wide_at-requires-clause-some : goal.wide_at-requires-clause-some
wide_at-requires-clause-some c =
    let m = c.args.self.now.links in
    let l = length-rows_of m in
    let r = c.requires.row in
    subst (λ (w : Row). entry w c.args.column ≢ pos 0) (row_at-rows_of m c.args.row (omega (arith, l, r))) c.requires.some

pub returns-in-Some-clause-wide : goal.returns-in-Some-clause-wide
returns-in-Some-clause-wide c =
    let m = c.args.self.now.links in
    let l = length-rows_of m in
    let r = c.requires.row in
    first_wide_of m c.args.row c.args.column c.in-Some.at.row c.in-Some.at.column (omega (arith, l, r)) c.in-Some.ensures.found

pub clear_rows-are_narrow-requires-clause-some : goal.clear_rows-are_narrow-requires-clause-some
clear_rows-are_narrow-requires-clause-some c =
    let m = c.args.self.now.links in
    let l = length-rows_of m in
    let r = c.requires.row in
    subst (λ (w : Row). entry w c.args.column ≢ pos 0) (row_at-rows_of m c.args.row (omega (arith, l, r))) c.requires.some

pub clear_rows-are_narrow-requires-clause-small : goal.clear_rows-are_narrow-requires-clause-small
clear_rows-are_narrow-requires-clause-small c = λ k lt. let h = c.args.self.now.height in c.args.self.now.small k (omega (arith, lt, h))

pub clear_rows-are_narrow-requires-clause-sizes : goal.clear_rows-are_narrow-requires-clause-sizes
clear_rows-are_narrow-requires-clause-sizes c =
    let h = c.args.self.now.height in
    let s = c.args.self.now.sizes_size in
    let v = ap length c.deref_mut-2.ensures.value in
    omega (arith, h, s, v)

pub clear_rows-are_narrow-requires-clause-narrow : goal.clear_rows-are_narrow-requires-clause-narrow
clear_rows-are_narrow-requires-clause-narrow c = λ t i lt.
    let s = c.args.self.now in
    let h = s.height in
    subst (λ (sizes : List ℕ). IsSized (size_at sizes i) (row_of s.links i)) (sym c.deref_mut-2.ensures.value) (s.narrow_rows t i (omega (arith, lt, h)))

pub clear_rows-are_narrow-requires-clause-formed : goal.clear_rows-are_narrow-requires-clause-formed
clear_rows-are_narrow-requires-clause-formed c =
    let m = c.args.self.now.links in
    rows_formed m c.args.row c.args.column (turned c.args.column (row_of m c.args.row)) c.in_default.ensures.none

pub turn_row-requires-clause-small : goal.turn_row-requires-clause-small
turn_row-requires-clause-small c =
    let m = c.args.self.now.links in
    let l = length-rows_of m in
    let r = c.requires.row in
    let h = c.args.self.now.height in
    subst AllSmall (sym c.clear_rows-are_narrow.ensures.same) (c.args.self.now.small c.args.row (omega (arith, l, r, h)))

pub index_mut-requires : goal.index_mut-requires
index_mut-requires c =
    let l = length-rows_of c.args.self.now.links in
    let h = c.args.self.now.height in
    let s = c.args.self.now.basis_size in
    let r = c.requires.row in
    omega (arith, l, h, s, r)

pub returns-clause-done : goal.returns-clause-done
returns-clause-done c =
    let m = c.args.self.now.links in
    let n = c.turn_row.new.links in
    let row = c.args.row in
    let column = c.args.column in
    let l = length-rows_of m in
    let r = c.requires.row in
    let in_row : row < m.height = omega (arith, l, r) in
    same_table _ _
    (rows_pivoted m n row column (turned column (row_of m row)) in_row (c.turn_row.ensures.height ∙ c.clear_rows-are_narrow.ensures.height) refl
    (λ i lt other. c.turn_row.ensures.same i other ∙ c.clear_rows-are_narrow.ensures.rows i lt other) (c.turn_row.ensures.row ∙ ap (turned column) c.clear_rows-are_narrow.ensures.same))
    refl refl refl

pub returns-clause-kept : goal.returns-clause-kept
returns-clause-kept c = λ equations t.
    let s = c.args.self.now in
    let m = s.links in
    let n = c.turn_row.new.links in
    let row = c.args.row in
    let column = c.args.column in
    let l = length-rows_of m in
    let r = c.requires.row in
    let in_row : row < m.height = omega (arith, l, r) in
    let e = rows_pivoted m n row column (turned column (row_of m row)) in_row (c.turn_row.ensures.height ∙ c.clear_rows-are_narrow.ensures.height) refl
    (λ i lt other. c.turn_row.ensures.same i other ∙ c.clear_rows-are_narrow.ensures.rows i lt other) (c.turn_row.ensures.row ∙ ap (turned column) c.clear_rows-are_narrow.ensures.same) in
    subst (IsTableauOf equations (s.columns + 3) (set s.basis.items row column)) (sym e)
    (IsTableauOf-pivoted equations (s.columns + 3) s.basis.items (rows_of m) row column t (omega (arith, l, in_row)) c.requires.some)

pub returns-clause-formed : goal.returns-clause-formed
returns-clause-formed c =
    let m = c.args.self.now.links in
    let l = length-rows_of m in
    let r = c.requires.row in
    all_formed m c.args.row c.args.column (omega (arith, l, r)) c.in_default.ensures.none

pub invariant_of-self : goal.invariant_of-self
invariant_of-self c =
    let s = c.args.self.now in
    let m = s.links in
    let n = c.turn_row.new.links in
    let row = c.args.row in
    let column = c.args.column in
    let l = length-rows_of m in
    let r = c.requires.row in
    let in_row : row < m.height = omega (arith, l, r) in
    let some = subst (λ (w : Row). entry w column ≢ pos 0) (row_at-rows_of m row in_row) c.requires.some in
    let h = s.height in
    record {
      height = c.turn_row.ensures.height ∙ c.clear_rows-are_narrow.ensures.height ∙ s.height;
      width = c.turn_row.ensures.width ∙ c.clear_rows-are_narrow.ensures.width ∙ s.width;
      room = (let w = with_items s.entries c.clear_rows-are_narrow.new.entries in sym w.ok.0 ∙ s.entries.ok.0 ∙ s.room);
      sizes_size = (let w = with_items s.sizes c.clear_rows-are_narrow.new.sizes in sym w.ok.0 ∙ s.sizes.ok.0 ∙ s.sizes_size);
      basis_size = length-set s.basis.items row column ∙ s.basis_size;
      row_count = s.row_count;
      column_count = s.column_count;
      plain_below = s.plain_below;
      small = λ i lt. let i_in : i < m.height = omega (arith, lt, h) in elim (cases_eq i row) [
        | inl e ↦ subst AllSmall (sym (ap (row_of n) e ∙ c.turn_row.ensures.row ∙ ap (turned column) c.clear_rows-are_narrow.ensures.same))
            (small-turned column (row_of m row) (s.small row (omega (arith, in_row, h))))
        | inr d ↦ subst AllSmall (sym (c.turn_row.ensures.same i d ∙ c.clear_rows-are_narrow.ensures.rows i i_in d))
            (small-eliminated column (turned column (row_of m row)) (row_of m i) (length-row_of m i ∙ sym ((turns column (row_of m row) some).width ∙ length-row_of m row)) (s.small i lt)
            (rows_formed m row column (turned column (row_of m row)) c.in_default.ensures.none i i_in d))
      ];
      narrow_rows = λ t i lt.
          let mid = c.clear_rows-are_narrow.new.links in
          let sizes = c.clear_rows-are_narrow.new.sizes in
          let e : take s.sizes.len (sizes ++ drop (length sizes) s.sizes.items) ≡ sizes = take_at sizes _ s.sizes.len (c.clear_rows-are_narrow.auto.sizes ∙ c.deref_mut-2.ensures.len) in
          let now = c.clear_rows-are_narrow.ensures.narrow t in
          let there : IsSized (size_at sizes i) (row_of n i) = elim (cases_eq i row) [
            | inl q ↦ subst (λ k. IsSized (size_at sizes k) (row_of n k)) (sym q) (subst (λ (w : Row). IsSized (size_at sizes row) w) (sym c.turn_row.ensures.row)
                (sized-turned column (size_at sizes row) (row_of mid row) (now row in_row)))
            | inr d ↦ subst (λ (w : Row). IsSized (size_at sizes i) w) (sym (c.turn_row.ensures.same i d)) (now i (omega (arith, lt, h)))
          ] in
          subst (λ (ss : List ℕ). IsSized (size_at ss i) (row_of n i)) (sym e) there;
    }

pub clear_rows-are_narrow-requires-clause-pivot_row : goal.clear_rows-are_narrow-requires-clause-pivot_row
clear_rows-are_narrow-requires-clause-pivot_row c = let l = length-rows_of c.args.self.now.links in let r = c.requires.row in omega (arith, l, r)

pub turn_row-requires-clause-row : goal.turn_row-requires-clause-row
turn_row-requires-clause-row c = let l = length-rows_of c.args.self.now.links in let r = c.requires.row in let h = c.clear_rows-are_narrow.ensures.height in omega (arith, l, r, h)
