-- Numbers of 64 bits take the same of the array.
use Rattle.std.proofs.Common.{List, map, subst, sym}
use Rattle.std.proofs.lemmas.Result.{err_from_is_err_and}
use Rattle.dcx_shape.specs.declared.index.Pick.{Pick}
use Rattle.dcx_script_values.specs.Meant.{meant}
use Rattle.dcx_script_values.specs.View.{Gives}
use Rattle.dcx_operators.specs.Indices.{picks_of, index_plain}
use Rattle.dcx_operators.specs.View.{evaluated}
use Rattle.dcx_script_values.proofs.Acts.{Gives-err}
use Rattle.dcx_operators.proofs.Indexed.{unpicked, plain_picked}
use Rattle.dcx_operators.proofs.indices.plain_indexed.Goals as goal

pub returns-in_err-picks : goal.returns-in_err-picks
returns-in_err-picks c = λ s.
    let p = err_from_is_err_and c.from_residual.result c.from_residual.ensures.1 in
    Gives-err meant c.from_residual.result s _ p.0 c.in_err-picks.field-0.0 p.1 p.2
    (unpicked c.in_err-picks.field-0.0 c.args.place (picks_of (map evaluated c.args.indices.now)) (index_plain c.args.place c.args.array.now) s (c.in_err-picks.ensures.picks s))

pub returns : goal.returns
returns c = λ s.
    subst (Gives meant c.index_plain.result s)
    (sym (plain_picked c.args.place (picks_of (map evaluated c.args.indices.now)) c.in_ok-picks.picks.items c.args.array.now s (c.in_ok-picks.ensures.picks s) c.in_ok-picks.ensures.steps))
    (subst (λ (ps : List Pick). Gives meant c.index_plain.result s (index_plain c.args.place c.args.array.now ps s)) c.deref.ensures.value (c.index_plain.ensures s))
