-- The columns are those of unknowns, slacks and artificials: so the rows, the cost and the phase row are made.
use Rattle.std.proofs.Common.{◌≡◌, ◌+◌, length, length-append, map, sym, ap, ◌∙◌, arith}
use Rattle.std.proofs.lemmas.Result.{err_from_is_err_and}
use Rattle.dcx_std.specs.Columns.{columns_of, artificial_columns}
use Rattle.dcx_std.specs.GivenRows.{given}
use Rattle.dcx_std.specs.IntegerRows.{start_of}
use Rattle.dcx_tab.specs.Program.{plain_count}
use Rattle.dcx_std.proofs.Making.{kinds_few}
use Rattle.dcx_std.proofs.Assembling.{rows_few, starts_few, columns_are, plain_is, small_rows, there_all, few_all, cost_all, widths_all, smalls_all, stop_all, form_all, made_all}
use Rattle.dcx_std.proofs.program.assembled.Goals as goal

pub plain_columns-requires-clause-kinds : goal.plain_columns-requires-clause-kinds
plain_columns-requires-clause-kinds c =
    let rows = c.args.rows.now in
    let k : length c.as_slice-kinds.result.now ≡ length rows.kinds = ap length c.as_slice-kinds.ensures in
    omega (arith, k, kinds_few rows.kinds, c.requires.fits.1)

pub int_rows-requires-clause-small : goal.int_rows-requires-clause-small
int_rows-requires-clause-small c =
    let rows = given c.args.rows.now.kinds c.args.rows.now.rows c.args.rows.now.objective in
    let w = c.args.whole.now in
    let ks = c.as_slice-kinds.result.now in
    let vs = c.as_slice-made.result.now in
    let cs = c.as_slice-all.result.now in
    let k : ks ≡ rows.kinds = c.as_slice-kinds.ensures in
    let v : vs ≡ w.rows.items = c.as_slice-made.ensures.value in
    let starts = c.in_ok-starts.starts.items in
    let first = c.as_slice.result.now in
    let second = c.as_slice-2.result.now in
    let plain = c.in_ok-columns.columns.items in
    let a : cs ≡ columns_of rows.kinds (map (start_of (length rows.kinds)) w.rows.items) =
    columns_are rows.kinds ks w.rows.items vs starts first second plain k v c.in_ok-starts.ensures c.as_slice.ensures.value c.as_slice-2.ensures.value c.in_ok-columns.ensures cs
    c.push_artificials.new.columns.items c.in_ok-push_artificials.ensures c.as_slice-all.ensures.value in
    small_rows rows w c.requires.fits c.requires.whole ks vs cs k v a

pub int_rows-requires-clause-there : goal.int_rows-requires-clause-there
int_rows-requires-clause-there c =
    let rows = given c.args.rows.now.kinds c.args.rows.now.rows c.args.rows.now.objective in
    let w = c.args.whole.now in
    let ks = c.as_slice-kinds.result.now in
    let vs = c.as_slice-made.result.now in
    let cs = c.as_slice-all.result.now in
    let k : ks ≡ rows.kinds = c.as_slice-kinds.ensures in
    let v : vs ≡ w.rows.items = c.as_slice-made.ensures.value in
    let starts = c.in_ok-starts.starts.items in
    let first = c.as_slice.result.now in
    let second = c.as_slice-2.result.now in
    let plain = c.in_ok-columns.columns.items in
    let a : cs ≡ columns_of rows.kinds (map (start_of (length rows.kinds)) w.rows.items) =
    columns_are rows.kinds ks w.rows.items vs starts first second plain k v c.in_ok-starts.ensures c.as_slice.ensures.value c.as_slice-2.ensures.value c.in_ok-columns.ensures cs
    c.push_artificials.new.columns.items c.in_ok-push_artificials.ensures c.as_slice-all.ensures.value in
    there_all rows w c.requires.fits c.requires.whole ks vs cs k v a

pub int_rows-requires-clause-few : goal.int_rows-requires-clause-few
int_rows-requires-clause-few c =
    let rows = given c.args.rows.now.kinds c.args.rows.now.rows c.args.rows.now.objective in
    let w = c.args.whole.now in
    let ks = c.as_slice-kinds.result.now in
    let vs = c.as_slice-made.result.now in
    let cs = c.as_slice-all.result.now in
    let k : ks ≡ rows.kinds = c.as_slice-kinds.ensures in
    let v : vs ≡ w.rows.items = c.as_slice-made.ensures.value in
    let starts = c.in_ok-starts.starts.items in
    let first = c.as_slice.result.now in
    let second = c.as_slice-2.result.now in
    let plain = c.in_ok-columns.columns.items in
    let a : cs ≡ columns_of rows.kinds (map (start_of (length rows.kinds)) w.rows.items) =
    columns_are rows.kinds ks w.rows.items vs starts first second plain k v c.in_ok-starts.ensures c.as_slice.ensures.value c.as_slice-2.ensures.value c.in_ok-columns.ensures cs
    c.push_artificials.new.columns.items c.in_ok-push_artificials.ensures c.as_slice-all.ensures.value in
    omega (arith, few_all rows w c.requires.fits c.requires.whole ks vs cs k v a)

pub cost_row-requires-clause-small : goal.cost_row-requires-clause-small
cost_row-requires-clause-small c =
    let rows = given c.args.rows.now.kinds c.args.rows.now.rows c.args.rows.now.objective in
    let w = c.args.whole.now in
    let ks = c.as_slice-kinds.result.now in
    let vs = c.as_slice-made.result.now in
    let cs = c.as_slice-all.result.now in
    let k : ks ≡ rows.kinds = c.as_slice-kinds.ensures in
    let v : vs ≡ w.rows.items = c.as_slice-made.ensures.value in
    let starts = c.in_ok-starts.starts.items in
    let first = c.as_slice.result.now in
    let second = c.as_slice-2.result.now in
    let plain = c.in_ok-columns.columns.items in
    let a : cs ≡ columns_of rows.kinds (map (start_of (length rows.kinds)) w.rows.items) =
    columns_are rows.kinds ks w.rows.items vs starts first second plain k v c.in_ok-starts.ensures c.as_slice.ensures.value c.as_slice-2.ensures.value c.in_ok-columns.ensures cs
    c.push_artificials.new.columns.items c.in_ok-push_artificials.ensures c.as_slice-all.ensures.value in
    cost_all rows w c.requires.fits c.requires.whole ks vs cs k v a

pub cost_row-requires-clause-few : goal.cost_row-requires-clause-few
cost_row-requires-clause-few c =
    let rows = c.args.rows.now in
    let k : length c.as_slice-kinds.result.now ≡ length rows.kinds = ap length c.as_slice-kinds.ensures in
    omega (arith, k, kinds_few rows.kinds, c.requires.fits.1)

pub phase_row-requires-clause-widths : goal.phase_row-requires-clause-widths
phase_row-requires-clause-widths c =
    let rows = given c.args.rows.now.kinds c.args.rows.now.rows c.args.rows.now.objective in
    let w = c.args.whole.now in
    let ks = c.as_slice-kinds.result.now in
    let vs = c.as_slice-made.result.now in
    let cs = c.as_slice-all.result.now in
    let k : ks ≡ rows.kinds = c.as_slice-kinds.ensures in
    let v : vs ≡ w.rows.items = c.as_slice-made.ensures.value in
    let starts = c.in_ok-starts.starts.items in
    let first = c.as_slice.result.now in
    let second = c.as_slice-2.result.now in
    let plain = c.in_ok-columns.columns.items in
    let a : cs ≡ columns_of rows.kinds (map (start_of (length rows.kinds)) w.rows.items) =
    columns_are rows.kinds ks w.rows.items vs starts first second plain k v c.in_ok-starts.ensures c.as_slice.ensures.value c.as_slice-2.ensures.value c.in_ok-columns.ensures cs
    c.push_artificials.new.columns.items c.in_ok-push_artificials.ensures c.as_slice-all.ensures.value in
    widths_all rows w c.requires.fits c.requires.whole ks vs cs k v a c.in_ok-ints.ints.items c.as_slice-3.result.now c.in_ok-ints.ensures c.as_slice-3.ensures.value

pub phase_row-requires-clause-small : goal.phase_row-requires-clause-small
phase_row-requires-clause-small c =
    let rows = given c.args.rows.now.kinds c.args.rows.now.rows c.args.rows.now.objective in
    let w = c.args.whole.now in
    let ks = c.as_slice-kinds.result.now in
    let vs = c.as_slice-made.result.now in
    let cs = c.as_slice-all.result.now in
    let k : ks ≡ rows.kinds = c.as_slice-kinds.ensures in
    let v : vs ≡ w.rows.items = c.as_slice-made.ensures.value in
    let starts = c.in_ok-starts.starts.items in
    let first = c.as_slice.result.now in
    let second = c.as_slice-2.result.now in
    let plain = c.in_ok-columns.columns.items in
    let a : cs ≡ columns_of rows.kinds (map (start_of (length rows.kinds)) w.rows.items) =
    columns_are rows.kinds ks w.rows.items vs starts first second plain k v c.in_ok-starts.ensures c.as_slice.ensures.value c.as_slice-2.ensures.value c.in_ok-columns.ensures cs
    c.push_artificials.new.columns.items c.in_ok-push_artificials.ensures c.as_slice-all.ensures.value in
    smalls_all rows w c.requires.fits c.requires.whole ks vs cs k v a c.in_ok-ints.ints.items c.as_slice-3.result.now c.in_ok-ints.ensures c.as_slice-3.ensures.value

pub returns-in_err-phase-clause-stops : goal.returns-in_err-phase-clause-stops
returns-in_err-phase-clause-stops c =
    let rows = given c.args.rows.now.kinds c.args.rows.now.rows c.args.rows.now.objective in
    let w = c.args.whole.now in
    let ks = c.as_slice-kinds.result.now in
    let vs = c.as_slice-made.result.now in
    let cs = c.as_slice-all.result.now in
    let k : ks ≡ rows.kinds = c.as_slice-kinds.ensures in
    let v : vs ≡ w.rows.items = c.as_slice-made.ensures.value in
    let starts = c.in_ok-starts.starts.items in
    let first = c.as_slice.result.now in
    let second = c.as_slice-2.result.now in
    let plain = c.in_ok-columns.columns.items in
    let a : cs ≡ columns_of rows.kinds (map (start_of (length rows.kinds)) w.rows.items) =
    columns_are rows.kinds ks w.rows.items vs starts first second plain k v c.in_ok-starts.ensures c.as_slice.ensures.value c.as_slice-2.ensures.value c.in_ok-columns.ensures cs
    c.push_artificials.new.columns.items c.in_ok-push_artificials.ensures c.as_slice-all.ensures.value in
    let m : c.len-plain.result ≡ plain_count cs =
    plain_is rows.kinds ks w.rows.items vs starts first second plain k v c.in_ok-starts.ensures c.as_slice.ensures.value c.as_slice-2.ensures.value c.in_ok-columns.ensures cs c.len-plain.result
    (c.len-plain.ensures ∙ c.in_ok-columns.columns.ok.0) a in
    let p = err_from_is_err_and c.from_residual-in_err-phase.result c.from_residual-in_err-phase.ensures.1 in
    rw (p.1, p.2)
    (stop_all rows w c.requires.fits c.requires.whole ks vs cs k v a c.in_ok-ints.ints.items c.as_slice-3.result.now c.in_ok-ints.ensures c.as_slice-3.ensures.value c.len-plain.result
    (length vs + 1) m (omega arith) c.phase_row.result c.phase_row.ensures c.in_err-phase.field-0.0 (sym c.at_row.ensures ∙ c.in_err-phase.was))

pub invariant_of-result : goal.invariant_of-result
invariant_of-result c =
    let rows = given c.args.rows.now.kinds c.args.rows.now.rows c.args.rows.now.objective in
    let w = c.args.whole.now in
    let ks = c.as_slice-kinds.result.now in
    let vs = c.as_slice-made.result.now in
    let cs = c.as_slice-all.result.now in
    let k : ks ≡ rows.kinds = c.as_slice-kinds.ensures in
    let v : vs ≡ w.rows.items = c.as_slice-made.ensures.value in
    let starts = c.in_ok-starts.starts.items in
    let first = c.as_slice.result.now in
    let second = c.as_slice-2.result.now in
    let plain = c.in_ok-columns.columns.items in
    let a : cs ≡ columns_of rows.kinds (map (start_of (length rows.kinds)) w.rows.items) =
    columns_are rows.kinds ks w.rows.items vs starts first second plain k v c.in_ok-starts.ensures c.as_slice.ensures.value c.as_slice-2.ensures.value c.in_ok-columns.ensures cs
    c.push_artificials.new.columns.items c.in_ok-push_artificials.ensures c.as_slice-all.ensures.value in
    let m : c.len-plain.result ≡ plain_count cs =
    plain_is rows.kinds ks w.rows.items vs starts first second plain k v c.in_ok-starts.ensures c.as_slice.ensures.value c.as_slice-2.ensures.value c.in_ok-columns.ensures cs c.len-plain.result
    (c.len-plain.ensures ∙ c.in_ok-columns.columns.ok.0) a in
    record {
      form = form_all rows w c.requires.fits c.requires.whole ks vs cs k v a c.in_ok-ints.ints.items c.as_slice-3.result.now c.in_ok-ints.ensures c.as_slice-3.ensures.value c.len-plain.result
          (length vs + 1) m (omega arith) c.phase_row.result c.phase_row.ensures c.from_vec-2.result c.from_vec.result c.in_ok-objective.objective c.in_ok-phase.phase c.from_vec.ensures
          (c.from_vec-2.ensures ∙ sym c.as_slice-all.ensures.value) c.in_ok-objective.ensures (sym c.at_row.ensures ∙ c.in_ok-phase.was);
    }

pub returns-clause-made : goal.returns-clause-made
returns-clause-made c =
    let rows = given c.args.rows.now.kinds c.args.rows.now.rows c.args.rows.now.objective in
    let w = c.args.whole.now in
    let ks = c.as_slice-kinds.result.now in
    let vs = c.as_slice-made.result.now in
    let cs = c.as_slice-all.result.now in
    let k : ks ≡ rows.kinds = c.as_slice-kinds.ensures in
    let v : vs ≡ w.rows.items = c.as_slice-made.ensures.value in
    let starts = c.in_ok-starts.starts.items in
    let first = c.as_slice.result.now in
    let second = c.as_slice-2.result.now in
    let plain = c.in_ok-columns.columns.items in
    let a : cs ≡ columns_of rows.kinds (map (start_of (length rows.kinds)) w.rows.items) =
    columns_are rows.kinds ks w.rows.items vs starts first second plain k v c.in_ok-starts.ensures c.as_slice.ensures.value c.as_slice-2.ensures.value c.in_ok-columns.ensures cs
    c.push_artificials.new.columns.items c.in_ok-push_artificials.ensures c.as_slice-all.ensures.value in
    let m : c.len-plain.result ≡ plain_count cs =
    plain_is rows.kinds ks w.rows.items vs starts first second plain k v c.in_ok-starts.ensures c.as_slice.ensures.value c.as_slice-2.ensures.value c.in_ok-columns.ensures cs c.len-plain.result
    (c.len-plain.ensures ∙ c.in_ok-columns.columns.ok.0) a in
    made_all rows w c.requires.fits c.requires.whole ks vs cs k v a c.in_ok-ints.ints.items c.as_slice-3.result.now c.in_ok-ints.ensures c.as_slice-3.ensures.value c.len-plain.result
    (length vs + 1) m (omega arith) c.phase_row.result c.phase_row.ensures _ c.from_vec.ensures (c.from_vec-2.ensures ∙ sym c.as_slice-all.ensures.value) c.in_ok-objective.ensures
    (sym c.at_row.ensures ∙ c.in_ok-phase.was)

pub returns-in_err-starts-clause-made : goal.returns-in_err-starts-clause-made
returns-in_err-starts-clause-made c = let p = err_from_is_err_and c.from_residual.result c.from_residual.ensures.1 in rw p.1 tt

pub returns-in_err-starts-clause-stops : goal.returns-in_err-starts-clause-stops
returns-in_err-starts-clause-stops c = let p = err_from_is_err_and c.from_residual.result c.from_residual.ensures.1 in rw (p.1, p.2) c.requires.fits

pub returns-in_err-columns-clause-made : goal.returns-in_err-columns-clause-made
returns-in_err-columns-clause-made c = let p = err_from_is_err_and c.from_residual-in_err-columns.result c.from_residual-in_err-columns.ensures.1 in rw p.1 tt

pub returns-in_err-columns-clause-stops : goal.returns-in_err-columns-clause-stops
returns-in_err-columns-clause-stops c = let p = err_from_is_err_and c.from_residual-in_err-columns.result c.from_residual-in_err-columns.ensures.1 in rw (p.1, p.2) c.requires.fits

pub returns-in_err-push_artificials-clause-made : goal.returns-in_err-push_artificials-clause-made
returns-in_err-push_artificials-clause-made c = let p = err_from_is_err_and c.from_residual-in_err-push_artificials.result c.from_residual-in_err-push_artificials.ensures.1 in rw p.1 tt

pub returns-in_err-push_artificials-clause-stops : goal.returns-in_err-push_artificials-clause-stops
returns-in_err-push_artificials-clause-stops c = let p = err_from_is_err_and c.from_residual-in_err-push_artificials.result c.from_residual-in_err-push_artificials.ensures.1 in
    rw (p.1, p.2) c.requires.fits

pub returns-in_err-ints-clause-made : goal.returns-in_err-ints-clause-made
returns-in_err-ints-clause-made c = let p = err_from_is_err_and c.from_residual-in_err-ints.result c.from_residual-in_err-ints.ensures.1 in rw p.1 tt

pub returns-in_err-ints-clause-stops : goal.returns-in_err-ints-clause-stops
returns-in_err-ints-clause-stops c = let p = err_from_is_err_and c.from_residual-in_err-ints.result c.from_residual-in_err-ints.ensures.1 in rw (p.1, p.2) c.requires.fits

pub returns-in_err-objective-clause-made : goal.returns-in_err-objective-clause-made
returns-in_err-objective-clause-made c = let p = err_from_is_err_and c.from_residual-in_err-objective.result c.from_residual-in_err-objective.ensures.1 in rw p.1 tt

pub returns-in_err-objective-clause-stops : goal.returns-in_err-objective-clause-stops
returns-in_err-objective-clause-stops c = let p = err_from_is_err_and c.from_residual-in_err-objective.result c.from_residual-in_err-objective.ensures.1 in rw (p.1, p.2) c.requires.fits

pub returns-in_err-phase-clause-made : goal.returns-in_err-phase-clause-made
returns-in_err-phase-clause-made c = let p = err_from_is_err_and c.from_residual-in_err-phase.result c.from_residual-in_err-phase.ensures.1 in rw p.1 tt

pub returns-clause-stops : goal.returns-clause-stops
returns-clause-stops c = tt

pub plain_columns-requires-clause-starts : goal.plain_columns-requires-clause-starts
plain_columns-requires-clause-starts c =
    let rows = given c.args.rows.now.kinds c.args.rows.now.rows c.args.rows.now.objective in
    let few = rows_few rows c.args.whole.now c.as_slice-made.result.now c.requires.fits c.requires.whole c.as_slice-made.ensures.value in
    omega (arith, starts_few _ c.as_slice-made.result.now c.in_ok-starts.starts.items c.as_slice.result.now few c.in_ok-starts.ensures c.as_slice.ensures.value)

pub push_artificials-requires : goal.push_artificials-requires
push_artificials-requires c =
    let rows = given c.args.rows.now.kinds c.args.rows.now.rows c.args.rows.now.objective in
    let few = rows_few rows c.args.whole.now c.as_slice-made.result.now c.requires.fits c.requires.whole c.as_slice-made.ensures.value in
    omega (arith, starts_few _ c.as_slice-made.result.now c.in_ok-starts.starts.items c.as_slice-2.result.now few c.in_ok-starts.ensures c.as_slice-2.ensures.value)

pub int_rows-requires-clause-few_rows : goal.int_rows-requires-clause-few_rows
int_rows-requires-clause-few_rows c =
    let rows = given c.args.rows.now.kinds c.args.rows.now.rows c.args.rows.now.objective in
    let few = rows_few rows c.args.whole.now c.as_slice-made.result.now c.requires.fits c.requires.whole c.as_slice-made.ensures.value in
    omega (arith, few)

pub overflow_cast-number : goal.overflow_cast-number
overflow_cast-number c =
    let rows = given c.args.rows.now.kinds c.args.rows.now.rows c.args.rows.now.objective in
    let few = rows_few rows c.args.whole.now c.as_slice-made.result.now c.requires.fits c.requires.whole c.as_slice-made.ensures.value in
    omega (arith, few)

pub overflow_add-number : goal.overflow_add-number
overflow_add-number c =
    let rows = given c.args.rows.now.kinds c.args.rows.now.rows c.args.rows.now.objective in
    let few = rows_few rows c.args.whole.now c.as_slice-made.result.now c.requires.fits c.requires.whole c.as_slice-made.ensures.value in
    omega (arith, few)

pub phase_row-requires-clause-plain : goal.phase_row-requires-clause-plain
phase_row-requires-clause-plain c =
    let e = ap length (c.as_slice-all.ensures.value ∙ c.in_ok-push_artificials.ensures) ∙ length-append c.in_ok-columns.columns.items (artificial_columns c.as_slice-2.result.now) in
    let l = c.len-plain.ensures ∙ c.in_ok-columns.columns.ok.0 in
    omega (arith, e, l)
