-- One more row is cleared.
use Rattle.std.proofs.Common.{rules, arith, ◌≡◌, ◌≢◌, ℕ, ◌<◌, ◌≤◌, ◌^◌, length, pos, ◌-ℤ◌, ◌*ℤ◌, unsigned_abs, refl, sym, ap, ◌∙◌, subst, inl, inr, to_z-of_z, SFits}
use Rattle.std.specs.Int.{w128}
use Rattle.std.proofs.lemmas.Bool.{cases_eq}
use Rattle.dcx_tab.specs.Rows.{Row, entry, AllSmall}
use Rattle.dcx_tab.specs.Pivot.{turned, eliminated, IsRowFormed}
use Rattle.dcx_tab.proofs.LineSteps.{turned-positive}
use Rattle.dcx_tab.proofs.Pivots.{turns}
use Rattle.dcx_links.specs.Matrix.{Matrix, listed, number_at, row_of}
use Rattle.dcx_chained.specs.NewRow.{AreListed}
use Rattle.dcx_chained.specs.Narrow.{IsSized, size_at}
use Rattle.dcx_chained.proofs.Counts.{some_count, some_count-less}
use Rattle.dcx_chained.proofs.RowReads.{length-row_of, entry-row_of, number_of_row}
use Rattle.dcx_chained.proofs.Cleared.{was_row, done_row, small_row, eliminated_there}
use Rattle.dcx_chained.proofs.clear.clear_rows.Goals as goal

as_long : (m : Matrix) (i r column : ℕ) → entry (row_of m r) column ≢ pos 0 → length (row_of m i) ≡ length (turned column (row_of m r))
as_long m i r column some = length-row_of m i ∙ sym ((turns column (row_of m r) some).width ∙ length-row_of m r)

pub rows-init : goal.rows-init
rows-init c = record { height = refl; width = refl; pivot = refl; rows = λ i lt other. inl refl; narrow = c.requires.narrow }

pub other_row-requires : goal.other_row-requires
other_row-requires c = let w = c.rows.invariant.width in let h = c.requires.column in omega (arith, w, h)

pub clear_row-requires-clause-some : goal.clear_row-requires-clause-some
clear_row-requires-clause-some c = subst (λ (w : Row). entry w c.args.column ≢ pos 0) (sym c.rows.invariant.pivot) c.requires.some

pub clear_row-requires-clause-met : goal.clear_row-requires-clause-met
clear_row-requires-clause-met c = λ z. c.in-Some.ensures.some (sym c.in-Some.ensures.met ∙ z)

pub factors_of-factors-requires-clause-some : goal.factors_of-factors-requires-clause-some
factors_of-factors-requires-clause-some c =
    let m = c.args.links.now in
    let f : SFits w128 c.get-pivot.result = search rules in
    let e : entry (row_of m c.args.r) c.args.column ≡ c.get-pivot.result = entry-row_of m c.args.r c.args.column c.requires.column ∙ sym c.get-pivot.ensures in
    simp to_z-of_z (subst (λ z. z ≢ pos 0) e c.requires.some)

pub factors_of-factors-requires-clause-small_pivot : goal.factors_of-factors-requires-clause-small_pivot
factors_of-factors-requires-clause-small_pivot c =
    let m = c.args.links.now in
    let f : SFits w128 c.get-pivot.result = search rules in
    let e : entry (row_of m c.args.r) c.args.column ≡ c.get-pivot.result = entry-row_of m c.args.r c.args.column c.requires.column ∙ sym c.get-pivot.ensures in
    simp to_z-of_z (subst (λ z. unsigned_abs z < 2 ^ 127) e (c.requires.small c.args.r c.requires.pivot_row c.args.column))

pub factors_of-factors-requires-clause-small : goal.factors_of-factors-requires-clause-small
factors_of-factors-requires-clause-small c =
    let m = c.args.links.now in
    let v = c.rows.invariant in
    let n = c.in-Some.ensures in
    let i = c.in-Some.met.at in
    let h = v.height in
    let b = n.below in
    let i_in : i < m.height = omega (arith, b, h) in
    let f : SFits w128 c.in-Some.met.value = search rules in
    let small : AllSmall (row_of c.rows.links i) = small_row c.args.column (turned c.args.column (row_of m c.args.r)) (row_of m i) (row_of c.rows.links i) (v.rows i i_in n.other)
    (as_long m i c.args.r c.args.column c.requires.some) (c.requires.small i i_in) (c.requires.formed i i_in n.other) in
    simp to_z-of_z (subst (λ z. unsigned_abs z < 2 ^ 127) n.met (small c.args.column))

pub clear_row-requires-clause-factors : goal.clear_row-requires-clause-factors
clear_row-requires-clause-factors c =
    let m = c.args.links.now in
    let v = c.rows.invariant in
    let n = c.in-Some.ensures in
    let f : SFits w128 c.get-pivot.result = search rules in
    let g : SFits w128 c.in-Some.met.value = search rules in
    let p : entry (row_of c.rows.links c.args.r) c.args.column ≡ c.get-pivot.result = ap (λ (w : Row). entry w c.args.column) v.pivot
    ∙ entry-row_of m c.args.r c.args.column c.requires.column ∙ sym c.get-pivot.ensures in
    (simp to_z-of_z at c.factors_of-factors.ensures.clears) c.args.column (row_of c.rows.links c.args.r) (row_of c.rows.links c.in-Some.met.at) p n.met

pub clear_row-requires-clause-factor : goal.clear_row-requires-clause-factor
clear_row-requires-clause-factor c = c.factors_of-factors.ensures.some

pub clear_row-requires-clause-listed : goal.clear_row-requires-clause-listed
clear_row-requires-clause-listed c =
    let v = c.rows.invariant in
    let es = c.list_row-count.new.to in
    let n = c.list_row-count.result in
    subst (λ (w : Row). AreListed w c.rows.links.width es n) (sym v.pivot) (subst (λ k. AreListed (row_of c.args.links.now c.args.r) k es n) (sym v.width) c.list_row-count.ensures.listed)

pub clear_row-requires-clause-formed : goal.clear_row-requires-clause-formed
clear_row-requires-clause-formed c =
    let m = c.args.links.now in
    let v = c.rows.invariant in
    let i = c.in-Some.met.at in
    let n = c.in-Some.ensures in
    let h = v.height in
    let b = n.below in
    let i_in : i < m.height = omega (arith, b, h) in
    let by = turned c.args.column (row_of m c.args.r) in
    let was = was_row c.args.column by (row_of m i) (row_of c.rows.links i) (v.rows i i_in n.other) (as_long m i c.args.r c.args.column c.requires.some)
    (turned-positive c.args.column (row_of m c.args.r) c.requires.some) (λ z. n.some (sym n.met ∙ z)) in
    subst (λ (w : Row). IsRowFormed c.args.column (turned c.args.column w) (row_of c.rows.links i)) (sym v.pivot) (subst (IsRowFormed c.args.column by) (sym was) (c.requires.formed i i_in n.other))

-- the row is within what bounds the mixed numbers of sized rows
pub resize-are_narrow-requires-clause-mixed : goal.resize-are_narrow-requires-clause-mixed
resize-are_narrow-requires-clause-mixed c = λ t bound bounds j.
    let m = c.args.links.now in
    let now = c.rows.links in
    let next = c.clear_row.new.links in
    let v = c.rows.invariant in
    let i = c.in-Some.met.at in
    let r = c.args.r in
    let f = c.factors_of-factors.result in
    let h = v.height in
    let b = c.in-Some.ensures.below in
    let i_in : i < m.height = omega (arith, b, h) in
    let pivot : unsigned_abs (entry (row_of now r) j) ≤ c.size_of-pivot_size.result = subst (λ (w : Row). unsigned_abs (entry w j) ≤ c.size_of-pivot_size.result) (sym v.pivot)
    (c.size_of-pivot_size.ensures j) in
    let x : unsigned_abs (entry (row_of next i) j) ≤ unsigned_abs (f.row *ℤ entry (row_of now i) j -ℤ f.by *ℤ entry (row_of now r) j) = c.clear_row.ensures.bounded j in
    let y : unsigned_abs (f.row *ℤ entry (row_of now i) j -ℤ f.by *ℤ entry (row_of now r) j) ≤ bound = bounds (entry (row_of now i) j) (entry (row_of now r) j) ((v.narrow t i i_in).within j) pivot in
    omega (arith, x, y)

pub resize-are_narrow-requires-clause-row : goal.resize-are_narrow-requires-clause-row
resize-are_narrow-requires-clause-row c = let b = c.in-Some.ensures.below in let h = c.clear_row.ensures.height in omega (arith, b, h)

pub resize-are_narrow-requires-clause-room : goal.resize-are_narrow-requires-clause-room
resize-are_narrow-requires-clause-room c =
    let b = c.in-Some.ensures.below in
    let h = c.rows.invariant.height in
    let s = c.requires.sizes in
    let t = c.rows.auto.sizes in
    omega (arith, b, h, s, t)

pub rows-smaller : goal.rows-smaller
rows-smaller c =
    let m = c.args.links.now in
    let now = c.rows.links in
    let next = c.clear_row.new.links in
    let v = c.rows.invariant in
    let i = c.in-Some.met.at in
    let n = c.in-Some.ensures in
    let cl = c.clear_row.ensures in
    let w = v.width in
    let column = c.args.column in
    let in_column : column < now.width = let h = c.requires.column in omega (arith, w, h) in
    let in_next : column < next.width = let h = cl.width in omega (arith, in_column, h) in
    let some : entry (row_of now c.args.r) column ≢ pos 0 = subst (λ (x : Row). entry x column ≢ pos 0) (sym v.pivot) c.requires.some in
    let zero : number_at next i column ≡ pos 0 = sym (entry-row_of next i column in_next) ∙ ap (λ (x : Row). entry x column) cl.row
    ∙ eliminated_there column (turned column (row_of now c.args.r)) (row_of now i) (as_long now i c.args.r column some) (turned-positive column (row_of now c.args.r) some)
    (λ z. n.some (sym n.met ∙ z)) in
    let met : number_at now i column ≢ pos 0 = λ z. n.some (sym n.met ∙ entry-row_of now i column in_column ∙ z) in
    subst (λ k. some_count (listed k (λ q. number_at next q column)) < some_count (listed now.height (λ q. number_at now q column))) (sym cl.height)
    (some_count-less now.height (λ q. number_at now q column) (λ q. number_at next q column) i n.below met zero (λ q lt other. number_of_row next now q q column in_next in_column (cl.same q other)))

pub rows-preserved : goal.rows-preserved
rows-preserved c =
    let m = c.args.links.now in
    let now = c.rows.links in
    let next = c.clear_row.new.links in
    let v = c.rows.invariant in
    let i = c.in-Some.met.at in
    let n = c.in-Some.ensures in
    let cl = c.clear_row.ensures in
    let h = v.height in
    let b = n.below in
    let i_in : i < m.height = omega (arith, b, h) in
    let column = c.args.column in
    let by = turned column (row_of m c.args.r) in
    let was = was_row column by (row_of m i) (row_of now i) (v.rows i i_in n.other) (as_long m i c.args.r column c.requires.some)
    (turned-positive column (row_of m c.args.r) c.requires.some) (λ z. n.some (sym n.met ∙ z)) in
    let cleared : row_of next i ≡ eliminated column by (row_of m i) = cl.row ∙ ap (λ (w : Row). eliminated column (turned column w) (row_of now i)) v.pivot ∙ ap (eliminated column by) was in
    let re = c.resize-are_narrow.ensures in
    let sizes = c.resize-are_narrow.new.sizes in
    record {
      height = cl.height ∙ v.height;
      width = cl.width ∙ v.width;
      pivot = cl.same c.args.r (λ e. n.other (sym e)) ∙ v.pivot;
      rows = λ k lt other. elim (cases_eq k i) [
        | inl e ↦ inr (subst (λ q. row_of next q ≡ eliminated column by (row_of m q)) (sym e) cleared)
        | inr d ↦ elim (v.rows k lt other) [
          | inl stays ↦ inl (cl.same k d ∙ stays)
          | inr done ↦ inr (cl.same k d ∙ done)
        ]
      ];
      narrow = λ t k lt. elim (cases_eq k i) [
        | inl e ↦ subst (λ q. IsSized (size_at sizes q) (row_of next q)) (sym e) (re.sized t)
        | inr d ↦ subst (λ z. IsSized z (row_of next k)) (sym (re.others k d)) (subst (λ (w : Row). IsSized (size_at c.rows.sizes k) w) (sym (cl.same k d)) (v.narrow (re.were t) k lt))
      ];
    }

pub returns-clause-rows : goal.returns-clause-rows
returns-clause-rows c = λ i lt other.
    let m = c.args.links.now in
    let v = c.rows.invariant in
    let h = v.height in
    done_row c.args.column (turned c.args.column (row_of m c.args.r)) (row_of m i) (row_of c.rows.links i) (v.rows i lt other) (c.in_default.ensures.none i (omega (arith, lt, h)) other)
