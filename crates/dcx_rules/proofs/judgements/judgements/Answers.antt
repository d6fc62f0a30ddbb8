-- The arguments of a node are judged before it, and so it is judged as the rules say.
use Rattle.std.proofs.Common.{◌≡◌, ◌<◌, [], ◌∷◌, List, map, length, Some, arith, sym, ap, ap₂, subst, ◌∙◌, length-append, rules}
use Rattle.std.proofs.lemmas.Result.{err_from_is_err_and}
use Rattle.std.specs.List.{slice_get, All}
use Rattle.dcx_arena.specs.Nodes.{positions, args_at}
use Rattle.dcx_rules.specs.declared.judgement.Judgement.{Judgement}
use Rattle.dcx_rules.specs.Judgements.{rules_of}
use Rattle.dcx_rules.proofs.Nodes.{args_below, judged_more}
use Rattle.dcx_rules.proofs.judgements.judgements.Goals as goal

pub judgements_at-requires : goal.judgements_at-requires
judgements_at-requires c =
    subst (λ xs. All (λ a. a < length c.deref.result.now) xs) (sym (ap positions c.deref-in-loop-i.ensures.value ∙ c.in_ok-ids.ensures))
    (args_below c.args.problem.now c.loop-i.i (length c.deref.result.now) (ap (λ (gs : List Judgement). length gs) c.deref.ensures.value ∙ c.loop-i.invariant.count))

pub loop-i-preserved : goal.loop-i-preserved
loop-i-preserved c =
    let p = c.args.problem.now in
    let gs = c.loop-i.judgements.items in
    let ids : positions c.deref-in-loop-i.result.now ≡ args_at p.tree c.loop-i.i = ap positions c.deref-in-loop-i.ensures.value ∙ c.in_ok-ids.ensures in
    let read : map Some c.deref-in-loop-i-2.result.now ≡ map (slice_get gs) (args_at p.tree c.loop-i.i) =
    ap (map Some) c.deref-in-loop-i-2.ensures.value ∙ c.in_ok-args.ensures ∙ ap₂ (λ (hs : List Judgement) xs. map (slice_get hs) xs) c.deref.ensures.value ids in
    let count = c.loop-i.invariant.count in
    let more = ap (λ (hs : List Judgement). length hs) c.in_ok-push.ensures.items in
    record {
      count = omega (arith, count, more, length-append gs (c.in_ok-judgement.judgement ∷ []));
      each = judged_more (rules_of c.args.rules) p gs c.deref-in-loop-i-2.result.now _ c.loop-i.i c.call-call.result.now c.in_ok-judgement.judgement count c.loop-i.invariant.each
          read c.call-call.ensures c.in_ok-judgement.ensures c.in_ok-push.ensures.items;
    }

pub loop-i-smaller : goal.loop-i-smaller
loop-i-smaller c = search rules

pub args-requires : goal.args-requires
args-requires c = omega (arith, c.loop-i-test.true, c.nodes-i-end.ensures.count)

pub returns-in_err-ids : goal.returns-in_err-ids
returns-in_err-ids c = let p = err_from_is_err_and c.from_residual.result c.from_residual.ensures.1 in rw p.1 tt

pub returns-in_err-args : goal.returns-in_err-args
returns-in_err-args c = let p = err_from_is_err_and c.from_residual-in_err-args.result c.from_residual-in_err-args.ensures.1 in rw p.1 tt

pub returns-in_err-judgement : goal.returns-in_err-judgement
returns-in_err-judgement c = let p = err_from_is_err_and c.from_residual-in_err-judgement.result c.from_residual-in_err-judgement.ensures.1 in rw p.1 tt

pub returns-in_err-push : goal.returns-in_err-push
returns-in_err-push c = let p = err_from_is_err_and c.from_residual-in_err-push.result c.from_residual-in_err-push.ensures.1 in rw p.1 tt
