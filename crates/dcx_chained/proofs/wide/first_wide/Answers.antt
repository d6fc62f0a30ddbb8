-- The walk comes to the next row that the pivot's column meets.
use Rattle.std.proofs.Common.{rules, arith, ◌≡◌, ◌≢◌, ◌+◌, ◌<◌, ◌^◌, length, pos, unsigned_abs, sym, ap, ◌∙◌, subst, inl, inr, to_z-of_z, SFits}
use Rattle.std.specs.Int.{w128}
use Rattle.std.proofs.lemmas.Bool.{cases_eq, cases_lt}
use Rattle.dcx_tab.specs.Rows.{entry}
use Rattle.dcx_tab.specs.Pivot.{turned, IsRowFormed}
use Rattle.dcx_links.specs.Matrix.{row_of}
use Rattle.dcx_links.specs.Walks.{Walk}
use Rattle.dcx_chained.proofs.RowReads.{length-column_of, entry-row_of}
use Rattle.dcx_chained.proofs.Columns.{met_below, met_there, met_is, none_met, none_over}
use Rattle.dcx_chained.proofs.Pivoted.{first_wide_at, all_rows_formed}
use Rattle.dcx_chained.proofs.wide.first_wide.Goals as goal

pub rows-init : goal.rows-init
rows-init c =
    let f : c.column-walk.result.from ≡ 0 = ap (λ (w : Walk). w.from) c.column-walk.ensures in
    record { numbers = ap (λ (w : Walk). w.numbers) c.column-walk.ensures; formed = λ i lt. absurd (omega (arith, lt, f)) }

pub rows-smaller : goal.rows-smaller
rows-smaller c =
    let s = c.in-Some.ensures.steps in
    let a = s.0.beyond in
    let b = s.0.within in
    let l = ap (λ (w : Walk). length w.numbers) s.1 in
    let f = ap (λ (w : Walk). w.from) s.1 in
    omega (arith, a, b, l, f)

pub factors_of-factors-requires-clause-some : goal.factors_of-factors-requires-clause-some
factors_of-factors-requires-clause-some c =
    let m = c.args.links.now in
    let f : SFits w128 c.get-pivot.result = search rules in
    let e : entry (row_of m c.args.r) c.args.column ≡ c.get-pivot.result = entry-row_of m c.args.r c.args.column c.requires.column ∙ sym c.get-pivot.ensures in
    simp to_z-of_z (subst (λ z. z ≢ pos 0) e c.requires.some)

pub factors_of-factors-requires-clause-small_pivot : goal.factors_of-factors-requires-clause-small_pivot
factors_of-factors-requires-clause-small_pivot c =
    let m = c.args.links.now in
    let f : SFits w128 c.get-pivot.result = search rules in
    let e : entry (row_of m c.args.r) c.args.column ≡ c.get-pivot.result = entry-row_of m c.args.r c.args.column c.requires.column ∙ sym c.get-pivot.ensures in
    simp to_z-of_z (subst (λ z. unsigned_abs z < 2 ^ 127) e (c.requires.small c.args.r c.requires.pivot_row c.args.column))

pub factors_of-factors-requires-clause-small : goal.factors_of-factors-requires-clause-small
factors_of-factors-requires-clause-small c =
    let m = c.args.links.now in
    let v = c.rows.invariant in
    let s = c.in-Some.ensures.steps in
    let f : SFits w128 c.in-Some.met.value = search rules in
    let below = met_below m c.args.column c.rows.walk c.in-Some.met v.numbers c.requires.column s.0 in
    let e = met_is m c.args.column c.rows.walk c.in-Some.met v.numbers c.requires.column s.0 in
    simp to_z-of_z (subst (λ z. unsigned_abs z < 2 ^ 127) e (c.requires.small c.in-Some.met.at below c.args.column))

pub wide_in_row-requires-clause-factors : goal.wide_in_row-requires-clause-factors
wide_in_row-requires-clause-factors c =
    let m = c.args.links.now in
    let v = c.rows.invariant in
    let s = c.in-Some.ensures.steps in
    let f : SFits w128 c.get-pivot.result = search rules in
    let g : SFits w128 c.in-Some.met.value = search rules in
    let p : entry (row_of m c.args.r) c.args.column ≡ c.get-pivot.result = entry-row_of m c.args.r c.args.column c.requires.column ∙ sym c.get-pivot.ensures in
    let a = met_is m c.args.column c.rows.walk c.in-Some.met v.numbers c.requires.column s.0 in
    (simp to_z-of_z at c.factors_of-factors.ensures.clears) c.args.column (row_of m c.args.r) (row_of m c.in-Some.met.at) p a

pub wide_in_row-requires-clause-row : goal.wide_in_row-requires-clause-row
wide_in_row-requires-clause-row c =
    let b = c.in-Some.ensures.steps.0.within in
    let l = length-column_of c.args.links.now c.args.column in
    let e = ap length c.rows.invariant.numbers in
    omega (arith, b, l, e)

pub rows-preserved : goal.rows-preserved
rows-preserved c =
    let m = c.args.links.now in
    let v = c.rows.invariant in
    let s = c.in-Some.ensures.steps in
    let f : c.next.new.self.from ≡ c.in-Some.met.at + 1 = ap (λ (w : Walk). w.from) s.1 in
    record {
      numbers = ap (λ (w : Walk). w.numbers) s.1 ∙ v.numbers;
      formed = λ i lt other. elim (cases_lt i c.rows.walk.from) [
        | inl before ↦ v.formed i before other
        | inr le ↦ elim (cases_eq i c.in-Some.met.at) [
          | inl e ↦ subst (λ k. k ≢ c.args.r → IsRowFormed c.args.column (turned c.args.column (row_of m c.args.r)) (row_of m k)) (sym e) c.in_default-wide_in_row.ensures.none other
          | inr d ↦ λ met. absurd (met (none_met m c.args.column c.rows.walk c.in-Some.met v.numbers c.requires.column s.0 i le (omega (arith, lt, f, d))))
        ]
      ];
    }

pub returns-in-Some-wide_in_row-clause-found : goal.returns-in-Some-wide_in_row-clause-found
returns-in-Some-wide_in_row-clause-found c =
    let m = c.args.links.now in
    let v = c.rows.invariant in
    let s = c.in-Some.ensures.steps in
    let w = c.in-Some-wide_in_row.ensures in
    let b = s.0.within in
    let l = length-column_of m c.args.column in
    let e = ap length v.numbers in
    first_wide_at m c.args.r c.args.column (turned c.args.column (row_of m c.args.r)) c.in-Some.met.at c.in-Some-wide_in_row.j (omega (arith, b, l, e)) w.other
    (met_there m c.args.column c.rows.walk c.in-Some.met v.numbers c.requires.column s.0) w.below w.wide w.first
    (λ k lt other. elim (cases_lt k c.rows.walk.from) [
      | inl before ↦ v.formed k before other
      | inr le ↦ λ met. absurd (met (none_met m c.args.column c.rows.walk c.in-Some.met v.numbers c.requires.column s.0 k le lt))
    ])

pub returns-clause-none : goal.returns-clause-none
returns-clause-none c =
    let m = c.args.links.now in
    let v = c.rows.invariant in
    let over = c.in_default.ensures.steps.0 in
    all_rows_formed m c.args.r c.args.column (turned c.args.column (row_of m c.args.r))
    (λ i lt other. elim (cases_lt i c.rows.walk.from) [
      | inl before ↦ v.formed i before other
      | inr le ↦ λ met. absurd (met (none_over m c.args.column c.rows.walk v.numbers c.requires.column over i le lt))
    ])
