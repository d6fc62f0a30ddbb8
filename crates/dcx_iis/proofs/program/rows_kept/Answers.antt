-- The rows of one more constraint are passed, and added where it is kept.
use Rattle.std.proofs.Common.{◌≡◌, ◌+◌, ◌≤◌, ◌++◌, [], false, Bool, if◌then◌else◌, length, drop, slice_range, refl, sym, ap₂, subst, ◌∙◌, arith}
use Rattle.std.specs.Prelude.{sum_by}
use Rattle.dcx_unknowns.specs.Layout.{constraint_rows}
use Rattle.dcx_iis.specs.Steps.{flagged, rows_from}
use Rattle.dcx_iis.proofs.Flags.{flag_read}
use Rattle.dcx_iis.proofs.Loops.{rows_there, rows_next}
use Rattle.dcx_iis.proofs.program.rows_kept.Goals as goal

pub constraints-preserved : goal.constraints-preserved
constraints-preserved c =
    let set = flagged c.args.kept.now in
    let cs = c.args.constraints.now in
    let rows = c.args.rows.now in
    let i = c.constraints.index in
    let next = c.constraints.next in
    let d = c.index-constraints-index.result in
    let all = rows_from set 0 cs rows in
    let size = c.size.ensures.value in
    let h = c.constraints.invariant in
    let copies = c.push_kept.new.copies.items in
    let added = c.in_ok-push_kept.ensures
    ∙ ap₂ (λ (b : Bool) n. c.constraints.copies.items ++ (if b then slice_range rows next (next + n) else [])) (sym (flag_read c.args.kept.now i false (omega (arith, c.requires.flags)))) size in
    record {
      made = subst (λ n. copies ++ rows_from set (i + 1) (drop (i + 1) cs) (drop (next + n) rows) ≡ all) (sym size)
          (rows_next set cs rows i next d (omega arith) c.index-constraints-index.is c.constraints.copies.items copies all (slice_range rows next (next + constraint_rows d)) h.made refl added);
      rows = subst (λ n. (next + n) + sum_by constraint_rows (drop (i + 1) cs) ≤ length rows) (sym size) (rows_there set cs rows i next d (omega arith) c.index-constraints-index.is h.rows).1;
    }
