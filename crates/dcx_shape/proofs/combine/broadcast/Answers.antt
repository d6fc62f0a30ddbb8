-- What `broadcast` answers, by the joined rows and columns.
use Rattle.std.proofs.lemmas.Option.{IfSome_then}
use Rattle.dcx_shape.specs.Sides.{rows_of, cols_of}
use Rattle.dcx_shape.specs.Shape.{sides_of}
use Rattle.dcx_shape.specs.Broadcast.{IsJoinedSide}
use Rattle.dcx_shape.proofs.Broadcasts.{not_joined_rows, not_joined_columns, shared_from_form, broadcast_from_form}
use Rattle.dcx_shape.proofs.combine.broadcast.Goals as goal

pub returns-in_err-rows-clause-exists : goal.returns-in_err-rows-clause-exists
returns-in_err-rows-clause-exists c =
    not_joined_rows (sides_of c.args.a) (sides_of c.args.b) _ _ c.from_residual.result c.rows.ensures c.rows-2.ensures c.from_residual.ensures c.in_err-rows.ensures.exists.1

pub returns-in_err-cols-clause-exists : goal.returns-in_err-cols-clause-exists
returns-in_err-cols-clause-exists c = not_joined_columns (sides_of c.args.a)
    (sides_of c.args.b) _ _ c.from_residual-in_err-cols.result c.cols.ensures c.cols-2.ensures c.from_residual-in_err-cols.ensures c.in_err-cols.ensures.exists.1

-- the rows and columns that were joined, as the sides of the two shapes
joined_rows : (c : goal.After-shape_of_rank) → IsJoinedSide (rows_of (sides_of c.args.a)) (rows_of (sides_of c.args.b)) c.in_ok-rows.rows
joined_rows c = rw (← c.rows.ensures, ← c.rows-2.ensures) c.in_ok-rows.ensures.side

joined_columns : (c : goal.After-shape_of_rank) → IsJoinedSide (cols_of (sides_of c.args.a)) (cols_of (sides_of c.args.b)) c.in_ok-cols.cols
joined_columns c = rw (← c.cols.ensures, ← c.cols-2.ensures) c.in_ok-cols.ensures.side

pub returns-clause-exists : goal.returns-clause-exists
returns-clause-exists c = shared_from_form (sides_of c.args.a) (sides_of c.args.b) c.max.result _ _ (joined_rows c) (joined_columns c) (cc) c.shape_of_rank.ensures.exists

pub returns-clause-sides : goal.returns-clause-sides
returns-clause-sides c = IfSome_then c.shape_of_rank.result c.shape_of_rank.ensures.sides
    (λ s form. broadcast_from_form (sides_of c.args.a) (sides_of c.args.b) (sides_of s) c.max.result _ _ (joined_rows c) (joined_columns c) (cc) form)
