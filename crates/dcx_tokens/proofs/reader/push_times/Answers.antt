-- Each turn puts one copy more behind what was there, and after all turns there are so many.
use Rattle.std.proofs.Common.{◌≡◌, ◌++◌, ◌∷◌, [], replicate, sym, ap, ◌∙◌, append_assoc, append-nil, arith, rules}
use Rattle.std.proofs.lemmas.List.{replicate_more}
use Rattle.std.proofs.lemmas.Result.{err_from_is_err_and}
use Rattle.dcx_tokens.proofs.reader.push_times.Goals as goal

pub loop-init : goal.loop-init
loop-init c = sym (append-nil c.args.tokens.now.items)

pub loop-smaller : goal.loop-smaller
loop-smaller c = search rules

pub loop-preserved : goal.loop-preserved
loop-preserved c =
    let old = c.args.tokens.now.items in
    let token = c.args.token in
    c.in_ok-push.ensures.items ∙ ap (λ ts. ts ++ token ∷ []) c.loop.invariant ∙ append_assoc old (replicate c.loop.counter token) (token ∷ [])
    ∙ ap (λ ts. old ++ ts) (replicate_more c.loop.counter token)

pub returns : goal.returns
returns c =
    let all : c.loop.counter ≡ c.args.count = omega arith in
    c.loop.invariant ∙ ap (λ n. c.args.tokens.now.items ++ replicate n c.args.token) all

pub returns-in_err-push : goal.returns-in_err-push
returns-in_err-push c = let p = err_from_is_err_and c.from_residual.result c.from_residual.ensures.1 in rw p.1 tt
