-- The array that is put is that of the variable, under its name.
use Rattle.std.proofs.Common.{ap, ◌∙◌}
use Rattle.std.proofs.lemmas.Result.{on_ok_weaker}
use Rattle.dcx_point.specs.Pairs.{with_array}
use Rattle.dcx_postsolve.proofs.point.put_array.Goals as goal

pub returns : goal.returns
returns c =
    on_ok_weaker c.put.result
    (λ put. record { array = c.in_ok-array.array; is = c.in_ok-array.ensures; put = put ∙ ap (λ n. with_array c.args.point.now n c.in_ok-array.array) c.in_ok-name.ensures })
    c.put.ensures.ok
