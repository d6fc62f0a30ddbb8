-- The terms of one more entry are listed.
use Rattle.std.proofs.Common.{map, ap, ap₂, ◌∙◌, rules}
use Rattle.std.proofs.lemmas.Result.{err_from_is_err_and}
use Rattle.dcx_shape.specs.Shape.{sides_of}
use Rattle.dcx_atom.specs.Linear.{linear_term}
use Rattle.dcx_atom.proofs.Lists.{list_below-push}
use Rattle.dcx_affine.specs.Strided.{stride_terms}
use Rattle.dcx_affine.proofs.strided.all_terms.Goals as goal

pub loop-k-smaller : goal.loop-k-smaller
loop-k-smaller g c = search rules

pub loop-k-preserved : goal.loop-k-preserved
loop-k-preserved g c =
    let call = g.S.Strided.call c.args.op.now in
    let from = sides_of c.args.from in
    ap (map (map linear_term)) c.in_ok-push.ensures.items
    ∙ list_below-push c.loop-k.k (λ k. stride_terms (call.coefficient from) (call.stride from k)) (map linear_term) c.loop-k.lists.items _ c.loop-k.invariant
    (c.in_ok-terms_of.ensures ∙ ap₂ stride_terms c.coefficient-coefficient.ensures c.stride.ensures.is)

pub returns-in_err-terms_of : goal.returns-in_err-terms_of
returns-in_err-terms_of g c = let p = err_from_is_err_and c.from_residual-in_err-terms_of.result c.from_residual-in_err-terms_of.ensures.1 in rw p.1 tt

pub returns-in_err-push : goal.returns-in_err-push
returns-in_err-push g c = let p = err_from_is_err_and c.from_residual-in_err-push.result c.from_residual-in_err-push.ensures.1 in rw p.1 tt
