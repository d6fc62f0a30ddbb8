-- One kind for each entry that has an unknown of its own.
use Rattle.std.proofs.Common.{◌≡◌, ◌++◌, ◌∷◌, [], replicate, arith, rules, sym, ap, ap₂, ◌∙◌}
use Rattle.std.proofs.lemmas.List.{append_assoc, replicate_more}
use Rattle.std.proofs.lemmas.Result.{err_from_is_err_and}
use Rattle.dcx_unknowns.specs.Unknowns.{demanded, kind_of}
use Rattle.dcx_unknowns.proofs.Owners.{count_of, own_kinds_are}
use Rattle.dcx_unknowns.proofs.variable.push_own.Goals as goal

pub returns : goal.returns
returns c =
    let v = c.args.variable.now in
    let old = c.args.kinds.now.items in
    let end : c.own.counter ≡ count_of v = omega (arith, c.own-test.false, c.own.auto.counter-end, c.own_count-end.ensures.count) in
    let kind : c.kind_of-kind.result ≡ kind_of (demanded v) = c.kind_of-kind.ensures ∙ ap kind_of c.demanded.ensures in
    c.own.invariant ∙ ap₂ (λ n k. old ++ replicate n k) end kind ∙ ap (λ ks. old ++ ks) (sym (own_kinds_are v))

pub own-init : goal.own-init
own-init c = search rules

pub own-smaller : goal.own-smaller
own-smaller c = search rules

pub own-preserved : goal.own-preserved
own-preserved c =
    let old = c.args.kinds.now.items in
    let kind = c.kind_of-kind.result in
    c.in_ok-push.ensures.items ∙ ap (λ ks. ks ++ kind ∷ []) c.own.invariant ∙ append_assoc old (replicate c.own.counter kind) (kind ∷ [])
    ∙ ap (λ ks. old ++ ks) (replicate_more c.own.counter kind)

pub returns-in_err-push : goal.returns-in_err-push
returns-in_err-push c = let p = err_from_is_err_and c.from_residual.result c.from_residual.ensures.1 in rw p.1 tt
