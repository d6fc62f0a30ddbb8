-- What the picks take makes the index, and then there is no fault.
use Rattle.std.proofs.Common.{◌≡◌, Err, arith}
use Rattle.std.proofs.lemmas.Result.{err_from_is_err_and}
use Rattle.dcx_shape.specs.declared.fault.ShapeFault.TheVariants.{Range, Empty, Memory}
use Rattle.dcx_shape.specs.declared.run.Run.{Run}
use Rattle.dcx_shape.specs.Shape.{sides_of}
use Rattle.dcx_shape.specs.Run.{places_of}
use Rattle.dcx_shape.proofs.Slices.{length-places_from}
use Rattle.dcx_shape.proofs.Indices.{kept_few, rows_below, columns_below, takes_few, index_count, index_within, same_fault, never_fault}
use Rattle.dcx_shape.proofs.index.index_map.Goals as goal

pub returns-in_err-rows-clause-range : goal.returns-in_err-rows-clause-range
returns-in_err-rows-clause-range c =
    let p = err_from_is_err_and c.from_residual.result c.from_residual.ensures.1 in
    let is : c.from_residual.result ≡ Err c.in_err-rows.field-0.0 = cc (p.1, p.2) in
    same_fault (sides_of c.args.from) c.args.picks.now c.from_residual.result c.in_err-rows.field-0.0 Range is c.in_err-rows.ensures.fault

pub returns-in_err-rows-clause-empty : goal.returns-in_err-rows-clause-empty
returns-in_err-rows-clause-empty c =
    let p = err_from_is_err_and c.from_residual.result c.from_residual.ensures.1 in
    let is : c.from_residual.result ≡ Err c.in_err-rows.field-0.0 = cc (p.1, p.2) in
    same_fault (sides_of c.args.from) c.args.picks.now c.from_residual.result c.in_err-rows.field-0.0 Empty is c.in_err-rows.ensures.fault

pub kept_shape-to-requires : goal.kept_shape-to-requires
kept_shape-to-requires c =
    let rows : Run = c.in_ok-rows.rows in
    let columns : Run = c.in_ok-rows.columns in
    let few = kept_few (sides_of c.args.from) c.args.picks.now (places_of rows) (places_of columns) c.args.from.few c.requires c.in_ok-rows.ensures.ok in
    rw (c.outer_pick.ensures, c.inner_pick.ensures) (rw (length-places_from rows.first rows.step rows.count, length-places_from columns.first columns.step columns.count) at few)

pub crossed-requires-clause-rows : goal.crossed-requires-clause-rows
crossed-requires-clause-rows c = rows_below (sides_of c.args.from) c.args.picks.now (places_of c.in_ok-rows.rows) (places_of c.in_ok-rows.columns) c.requires c.in_ok-rows.ensures.ok

pub crossed-requires-clause-columns : goal.crossed-requires-clause-columns
crossed-requires-clause-columns c = columns_below (sides_of c.args.from) c.args.picks.now (places_of c.in_ok-rows.rows) (places_of c.in_ok-rows.columns) c.requires c.in_ok-rows.ensures.ok

pub crossed-requires-clause-few : goal.crossed-requires-clause-few
crossed-requires-clause-few c =
    let rows : Run = c.in_ok-rows.rows in
    let columns : Run = c.in_ok-rows.columns in
    let few = takes_few (sides_of c.args.from) c.args.picks.now (places_of rows) (places_of columns) c.requires c.in_ok-rows.ensures.ok in
    omega (arith, c.args.from.few.most, rw (length-places_from rows.first rows.step rows.count, length-places_from columns.first columns.step columns.count) at few)

pub returns-in_err-places-clause-empty : goal.returns-in_err-places-clause-empty
returns-in_err-places-clause-empty c =
    never_fault (sides_of c.args.from) c.args.picks.now (places_of c.in_ok-rows.rows)
    (places_of c.in_ok-rows.columns) c.from_residual-in_err-places.result Empty c.in_ok-rows.ensures.ok
    (λ e. let p = err_from_is_err_and c.from_residual-in_err-places.result c.from_residual-in_err-places.ensures.1 in let fault : c.in_err-places.field-0.0
    ≡ Memory = c.in_err-places.ensures.fault in cc (p.1, p.2))

pub returns-clause-ok : goal.returns-clause-ok
returns-clause-ok c =
    let rows : Run = c.in_ok-rows.rows in
    let columns : Run = c.in_ok-rows.columns in
    record {
      rows = places_of rows;
      columns = places_of columns;
      takes = c.in_ok-rows.ensures.ok;
      sides = rw (
        length-places_from rows.first rows.step rows.count,
        length-places_from columns.first columns.step columns.count,
        ← c.outer_pick.ensures,
        ← c.inner_pick.ensures,
      ) c.kept_shape-to.ensures;
      crossed = c.in_ok-places.ensures.ok;
    }

pub returns-clause-count : goal.returns-clause-count
returns-clause-count c = index_count (sides_of c.args.from) (sides_of c.kept_shape-to.result) c.args.picks.now c.in_ok-places.places (returns-clause-ok c)

pub returns-clause-within : goal.returns-clause-within
returns-clause-within c = index_within (sides_of c.args.from) (sides_of c.kept_shape-to.result) c.args.picks.now c.in_ok-places.places c.requires (returns-clause-ok c)

pub returns-clause-empty : goal.returns-clause-empty
returns-clause-empty c = never_fault (sides_of c.args.from) c.args.picks.now (places_of c.in_ok-rows.rows) (places_of c.in_ok-rows.columns) _ Empty c.in_ok-rows.ensures.ok (λ e. cc)
