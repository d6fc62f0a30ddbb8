-- Where a row stops the entry stops so, behind the result that is formed.
use Rattle.std.proofs.Common.{Err, map, inl, inr}
use Rattle.std.proofs.lemmas.Result.{err_from_is_err_and}
use Rattle.dcx_atom.specs.Graph.{form_term}
use Rattle.dcx_linear.specs.Stops.{OnPass-weaker}
use Rattle.dcx_entries.specs.Parts.{aux_part}
use Rattle.dcx_entries.specs.Entries.{EachSum, AtomEntry}
use Rattle.dcx_entries.specs.Standing.{args_of}
use Rattle.dcx_entries.proofs.Places.{parts_of_row}
use Rattle.dcx_entries.proofs.atom.atom_entry.Goals as goal

pub returns-in_err-rows-clause-entry : goal.returns-in_err-rows-clause-entry
returns-in_err-rows-clause-entry g c =
    let t = g.C.Coef in
    let p = err_from_is_err_and c.from_residual-in_err-rows.result c.from_residual-in_err-rows.ensures.1 in
    rw (p.1, p.2)
    (OnPass-weaker _ (λ passes. EachSum t.of_number t.number_of t.sum_gives t.change_gives (map (parts_of_row t.of_number (args_of t.of_number c.args.args.now) c.args.first) c.args.rows.now)
    (Err passes))
    (λ passes. AtomEntry t.of_number t.number_of t.sum_gives t.change_gives (map (aux_part t.of_number c.args.first) (map form_term c.args.terms.now))
    (map (parts_of_row t.of_number (args_of t.of_number c.args.args.now) c.args.first) c.args.rows.now) (Err passes))
    (λ passes h. inr (c.in_ok-form.form, c.in_ok-form.ensures.form, inl h))
    c.in_err-rows.ensures.forms)
