-- One more row is made whole, or it is the first that stops.
use Rattle.std.proofs.Common.{length, map, refl, sym, ap, ◌∙◌, subst, arith}
use Rattle.std.specs.List.{All}
use Rattle.std.proofs.lemmas.List.{take_all}
use Rattle.std.proofs.lemmas.List.Elements.{All-more}
use Rattle.std.proofs.lemmas.Option.{slice_get_read}
use Rattle.std.proofs.lemmas.Result.{err_from_is_err_and}
use Rattle.dcx_frac.specs.declared.fraction.Frac.{Frac}
use Rattle.dcx_linear.specs.declared.row.Row.{Row}
use Rattle.dcx_std.specs.WholeRows.{row_made, IsSparseForm}
use Rattle.dcx_std.specs.IntegerRows.{passing_from, StopsAt}
use Rattle.dcx_std.proofs.Making.{row_narrow, row_passes, stops_so, gives_so, made_next}
use Rattle.dcx_std.proofs.program.made_rows.Goals as goal

pub whole_row-requires : goal.whole_row-requires
whole_row-requires c =
    let rows = c.args.rows.now in
    let row = c.index-rows-index.result in
    row_narrow rows c.args.count c.rows.index row c.requires.known (slice_get_read rows (length rows) c.rows.index row refl (omega arith) c.index-rows-index.is)

pub returns-in_err-whole-clause-stops : goal.returns-in_err-whole-clause-stops
returns-in_err-whole-clause-stops c =
    let p = err_from_is_err_and c.from_residual-in_err-whole.result c.from_residual-in_err-whole.ensures.1 in
    let rows = c.args.rows.now in
    let n = c.args.count in
    let row = c.index-rows-index.result in
    rw (p.1, p.2)
    (stops_so c.rows.index c.whole_row.result _ (λ e. StopsAt e (passing_from 0 (map (row_made n) rows))) (row_made n row) (sym c.at_row.ensures ∙ c.in_err-whole.was) c.whole_row.ensures.made tt
    (λ passes f. row_passes n rows c.rows.made.items c.rows.index row passes (omega arith) c.index-rows-index.is c.rows.invariant.made f))

pub rows-preserved : goal.rows-preserved
rows-preserved c =
    let rows = c.args.rows.now in
    let n = c.args.count in
    let i = c.rows.index in
    let row = c.index-rows-index.result in
    let w = c.in_ok-whole.whole in
    let is_made = gives_so i c.whole_row.result w (row_made n row) (sym c.at_row.ensures ∙ c.in_ok-whole.was) c.whole_row.ensures.made in
    record {
      made = made_next n rows i row c.rows.made.items c.push.new.self.items w (omega arith) c.index-rows-index.is c.rows.invariant.made is_made c.in_ok-push.ensures.items;
      sparse = All-more (λ (r : Row Frac). IsSparseForm r.form) rows i row (omega arith) c.rows.invariant.sparse
          (subst (λ (r : Row Frac). IsSparseForm r.form) c.index-rows-index.is c.whole_row.ensures.sparse);
    }

pub returns-clause-rows : goal.returns-clause-rows
returns-clause-rows c = c.rows.invariant.made ∙ ap (map (row_made c.args.count)) (take_all c.rows.index c.args.rows.now (omega arith))

pub returns-clause-sparse : goal.returns-clause-sparse
returns-clause-sparse c = subst (All (λ (r : Row Frac). IsSparseForm r.form)) (take_all c.rows.index c.args.rows.now (omega arith)) c.rows.invariant.sparse
