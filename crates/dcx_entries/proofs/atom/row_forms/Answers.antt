-- The forms so far are those of the rows passed: one more row is formed, or it is the first that stops.
use Rattle.std.proofs.Common.{◌≡◌, ◌+◌, [], Ok, Err, map, length, sym, subst, arith}
use Rattle.std.proofs.lemmas.Result.{err_from_is_err_and}
use Rattle.dcx_atom.specs.Graph.{row_term}
use Rattle.dcx_linear.specs.Stops.{OnPass-weaker}
use Rattle.dcx_linear.specs.Parts.{sums_parts}
use Rattle.dcx_entries.specs.Forming.{FormsEach}
use Rattle.dcx_entries.specs.Parts.{row_part}
use Rattle.dcx_entries.specs.Entries.{EachSum}
use Rattle.dcx_entries.specs.Standing.{args_of}
use Rattle.dcx_entries.proofs.Each.{Listed, listed_more, listed_stops, listed_ends}
use Rattle.dcx_entries.proofs.Places.{parts_of_row}
use Rattle.dcx_entries.proofs.atom.row_forms.Goals as goal

pub returns-in_err-form-clause-forms : goal.returns-in_err-form-clause-forms
returns-in_err-form-clause-forms g c =
    let t = g.C.Coef in
    let p = err_from_is_err_and c.from_residual.result c.from_residual.ensures.1 in
    rw (p.1, p.2)
    (OnPass-weaker _ (λ passes. sums_parts t.of_number t.number_of t.sum_gives t.change_gives
    (map (row_part t.of_number (args_of t.of_number c.args.args.now) c.args.first) (map row_term c.as_slice.result.now)) (Err passes))
    (λ passes. EachSum t.of_number t.number_of t.sum_gives t.change_gives (map (parts_of_row t.of_number (args_of t.of_number c.args.args.now) c.args.first) c.args.rows.now) (Err passes))
    (λ passes h. listed_stops (parts_of_row t.of_number (args_of t.of_number c.args.args.now) c.args.first) []
    (λ ps r. sums_parts t.of_number t.number_of t.sum_gives t.change_gives ps r) c.args.rows.now
    c.rows.row-index c.row-item.result (omega arith) c.row-item.is c.rows.forms.items passes c.rows.invariant.formed
    (subst (λ ts. sums_parts t.of_number t.number_of t.sum_gives t.change_gives (map (row_part t.of_number (args_of t.of_number c.args.args.now) c.args.first) (map row_term ts))
    (Err passes)) c.as_slice.ensures h))
    c.in_err-form.ensures.form)

pub rows-preserved : goal.rows-preserved
rows-preserved g c =
    let t = g.C.Coef in
    record {
      zero = c.in_ok-form.ensures.zero;
      formed = subst (λ fs. FormsEach (Listed (parts_of_row t.of_number (args_of t.of_number c.args.args.now) c.args.first) []
          (λ ps r. sums_parts t.of_number t.number_of t.sum_gives t.change_gives ps r) c.args.rows.now) (c.rows.row-index + 1) (Ok fs))
          (sym c.in_ok-push.ensures.items)
          (listed_more (parts_of_row t.of_number (args_of t.of_number c.args.args.now) c.args.first) [] (λ ps r. sums_parts t.of_number t.number_of t.sum_gives t.change_gives ps r) c.args.rows.now
          c.rows.row-index c.row-item.result (omega arith) c.row-item.is c.rows.forms.items c.in_ok-form.form c.rows.invariant.formed
          (subst (λ ts. sums_parts t.of_number t.number_of t.sum_gives t.change_gives (map (row_part t.of_number (args_of t.of_number c.args.args.now) c.args.first) (map row_term ts))
          (Ok c.in_ok-form.form)) c.as_slice.ensures c.in_ok-form.ensures.form));
    }

pub returns-clause-forms : goal.returns-clause-forms
returns-clause-forms g c =
    let t = g.C.Coef in
    let all : c.rows.row-index ≡ length c.args.rows.now = omega (arith, c.rows.auto.row-index-end) in
    subst (λ fs. FormsEach (Listed (parts_of_row t.of_number (args_of t.of_number c.args.args.now) c.args.first) []
    (λ ps r. sums_parts t.of_number t.number_of t.sum_gives t.change_gives ps r) c.args.rows.now)
    (length (map (parts_of_row t.of_number (args_of t.of_number c.args.args.now) c.args.first) c.args.rows.now)) (Ok fs))
    (sym c.from_vec.ensures)
    (listed_ends (parts_of_row t.of_number (args_of t.of_number c.args.args.now) c.args.first) [] (λ ps r. sums_parts t.of_number t.number_of t.sum_gives t.change_gives ps r) c.args.rows.now
    c.rows.row-index c.rows.forms.items all c.rows.invariant.formed)
