-- A value has no rows, and those of forms are taken out.
use Rattle.std.proofs.Common.{◌≡◌, ◌<◌, ◌^◌, [], ◌++◌, length, sym, ap, ◌∙◌, subst}
use Rattle.std.proofs.lemmas.List.{append-nil, with_items_is}
use Rattle.std.proofs.lemmas.Result.{err_from_is_err_and}
use Rattle.dcx_entries.specs.Entries.{entry_forms}
use Rattle.dcx_entries.specs.Standing.{forms_of}
use Rattle.dcx_entries.specs.Kept.{node_rows}
use Rattle.dcx_nodes.specs.Formed.{IsOfSides, entries_in}
use Rattle.dcx_nodes.proofs.GraphRows.{value_rows}
use Rattle.dcx_nodes.proofs.rows.keep.Goals as goal

pub returns-in-Numbers-clause-rows : goal.returns-in-Numbers-clause-rows
returns-in-Numbers-clause-rows g c =
    let t = g.C.Coef in
    let none : node_rows t.of_number c.args.node.0 (entries_in t.of_number c.args.formed) ≡ [] =
    ap (λ s. node_rows t.of_number c.args.node.0 (entries_in t.of_number s)) c.in-Numbers.is ∙ value_rows t.of_number c.args.node.0 c.in-Numbers.array in
    sym (ap (λ xs. c.args.rows.now.items ++ xs) none ∙ append-nil c.args.rows.now.items)

pub returns-in-Numbers-clause-forms : goal.returns-in-Numbers-clause-forms
returns-in-Numbers-clause-forms g c = sym (ap (forms_of g.C.Coef.of_number) c.in-Numbers.is)

pub returns-in-Numbers-clause-sides : goal.returns-in-Numbers-clause-sides
returns-in-Numbers-clause-sides g c = λ sides of. subst (IsOfSides sides) c.in-Numbers.is of

pub take_rows-requires : goal.take_rows-requires
take_rows-requires g c =
    let t = g.C.Coef in
    let few = subst (λ s. length (entries_in t.of_number s) < 2 ^ 32) c.in-Forms.is c.requires in
    subst (λ es. length es < 2 ^ 32) (sym (c.deref_mut.ensures.value ∙ c.into_vec-entries.ensures)) few

pub returns-in_err-take_rows-in-Forms-clause-forms : goal.returns-in_err-take_rows-in-Forms-clause-forms
returns-in_err-take_rows-in-Forms-clause-forms g c = let p = err_from_is_err_and c.from_residual.result c.from_residual.ensures.1 in rw p.1 tt

pub returns-in_err-take_rows-in-Forms-clause-sides : goal.returns-in_err-take_rows-in-Forms-clause-sides
returns-in_err-take_rows-in-Forms-clause-sides g c = let p = err_from_is_err_and c.from_residual.result c.from_residual.ensures.1 in rw p.1 tt

pub returns-in_err-take_rows-in-Forms-clause-rows : goal.returns-in_err-take_rows-in-Forms-clause-rows
returns-in_err-take_rows-in-Forms-clause-rows g c = let p = err_from_is_err_and c.from_residual.result c.from_residual.ensures.1 in rw p.1 tt

pub returns-in_ok-take_rows-in-Forms-clause-forms : goal.returns-in_ok-take_rows-in-Forms-clause-forms
returns-in_ok-take_rows-in-Forms-clause-forms g c =
    let new = c.take_rows.new.entries in
    let many : length new ≡ c.into_vec-entries.result.len = c.take_rows.auto.entries ∙ c.deref_mut.ensures.len in
    ap entry_forms (c.from_vec.ensures ∙ with_items_is c.into_vec-entries.result new many)
    ∙ c.in_ok-take_rows-in-Forms.ensures.forms
    ∙ ap entry_forms (c.deref_mut.ensures.value ∙ c.into_vec-entries.ensures)
    ∙ sym (ap (forms_of g.C.Coef.of_number) c.in-Forms.is)

pub returns-in_ok-take_rows-in-Forms-clause-sides : goal.returns-in_ok-take_rows-in-Forms-clause-sides
returns-in_ok-take_rows-in-Forms-clause-sides g c = λ sides of.
    let new = c.take_rows.new.entries in
    let many : length new ≡ c.into_vec-entries.result.len = c.take_rows.auto.entries ∙ c.deref_mut.ensures.len in
    ap length (c.from_vec.ensures ∙ with_items_is c.into_vec-entries.result new many)
    ∙ c.take_rows.auto.entries
    ∙ ap length (c.deref_mut.ensures.value ∙ c.into_vec-entries.ensures)
    ∙ subst (IsOfSides sides) c.in-Forms.is of

pub returns-in_ok-take_rows-in-Forms-clause-rows : goal.returns-in_ok-take_rows-in-Forms-clause-rows
returns-in_ok-take_rows-in-Forms-clause-rows g c =
    let t = g.C.Coef in
    c.in_ok-take_rows-in-Forms.ensures.rows
    ∙ ap (λ es. c.args.rows.now.items ++ node_rows t.of_number c.args.node.0 es) (c.deref_mut.ensures.value ∙ c.into_vec-entries.ensures ∙ sym (ap (entries_in t.of_number) c.in-Forms.is))
