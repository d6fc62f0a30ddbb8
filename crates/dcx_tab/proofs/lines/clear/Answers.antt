-- The least factors make the difference 0 at the column.
use Rattle.std.proofs.Common.{rules, pos, sym, ◌∙◌, to_z-of_z, SFits, slice_index_or, subst}
use Rattle.std.specs.Int.{w128}
use Rattle.dcx_tab.specs.Rows.{AllSmall}
use Rattle.dcx_tab.proofs.LineSteps.{small-less, AreFactors, formed_by_factors, cleared_by_factors}
use Rattle.dcx_tab.proofs.lines.clear.Goals as goal

pub combine-requires-clause-formed : goal.combine-requires-clause-formed
combine-requires-clause-formed c =
    let row = c.args.row.now in
    let by = c.args.by.now in
    let fx : SFits w128 (slice_index_or by c.args.column (pos 0)) = search rules in
    let fy : SFits w128 (slice_index_or row c.args.column (pos 0)) = search rules in
    let s = c.least_factors-scale.result in
    let f1 : SFits w128 s.row = search rules in
    let f2 : SFits w128 s.by = search rules in
    let p : AreFactors c.args.column by row s.row s.by = record { of_row = simp to_z-of_z at c.least_factors-scale.ensures.row; of_by = simp to_z-of_z at c.least_factors-scale.ensures.by } in
    simp to_z-of_z (formed_by_factors c.args.column by row s.row s.by p c.requires.some c.requires.formed)

pub returns-clause-row : goal.returns-clause-row
returns-clause-row c =
    let row = c.args.row.now in
    let by = c.args.by.now in
    let fx : SFits w128 (slice_index_or by c.args.column (pos 0)) = search rules in
    let fy : SFits w128 (slice_index_or row c.args.column (pos 0)) = search rules in
    let s = c.least_factors-scale.result in
    let f1 : SFits w128 s.row = search rules in
    let f2 : SFits w128 s.by = search rules in
    let p : AreFactors c.args.column by row s.row s.by = record { of_row = simp to_z-of_z at c.least_factors-scale.ensures.row; of_by = simp to_z-of_z at c.least_factors-scale.ensures.by } in
    (simp to_z-of_z at c.combine.ensures) ∙ cleared_by_factors c.args.column by row s.row s.by p

pub returns-clause-small : goal.returns-clause-small
returns-clause-small c =
    let row = c.args.row.now in
    let by = c.args.by.now in
    let fx : SFits w128 (slice_index_or by c.args.column (pos 0)) = search rules in
    let fy : SFits w128 (slice_index_or row c.args.column (pos 0)) = search rules in
    let s = c.least_factors-scale.result in
    let f1 : SFits w128 s.row = search rules in
    let f2 : SFits w128 s.by = search rules in
    let p : AreFactors c.args.column by row s.row s.by = record { of_row = simp to_z-of_z at c.least_factors-scale.ensures.row; of_by = simp to_z-of_z at c.least_factors-scale.ensures.by } in
    subst AllSmall (sym (simp to_z-of_z at c.combine.ensures)) (small-less s.row row s.by by c.requires.same (formed_by_factors c.args.column by row s.row s.by p c.requires.some c.requires.formed))
