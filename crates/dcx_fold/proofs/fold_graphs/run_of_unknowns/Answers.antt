-- One more unknown is listed.
use Rattle.std.proofs.Common.{◌+◌, ◌∙◌, ap, map, pos, rules}
use Rattle.std.proofs.lemmas.Result.{err_from_is_err_and}
use Rattle.dcx_math.specs.Rational.{ℚ, whole}
use Rattle.dcx_atom.specs.Graph.{form_term}
use Rattle.dcx_atom.proofs.Lists.{list_below-push}
use Rattle.dcx_fold.proofs.fold_graphs.run_of_unknowns.Goals as goal

pub loop-i-preserved : goal.loop-i-preserved
loop-i-preserved c =
    ap (map form_term) c.in_ok-push.ensures.items
    ∙ list_below-push c.loop-i.i (λ i. record { aux = c.args.first + i; coefficient = whole (pos 1) }) form_term c.loop-i.terms.items
    (record { aux = c.args.first + c.loop-i.i; coefficient = c.one.result })
    c.loop-i.invariant (ap (λ (x : ℚ). record { aux = c.args.first + c.loop-i.i; coefficient = x }) c.one.ensures)

pub loop-i-init : goal.loop-i-init
loop-i-init c = search rules

pub loop-i-smaller : goal.loop-i-smaller
loop-i-smaller c = search rules

pub returns-in_err-push : goal.returns-in_err-push
returns-in_err-push c = let p = err_from_is_err_and c.from_residual.result c.from_residual.ensures.1 in rw p.1 tt
