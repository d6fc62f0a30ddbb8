-- What one more argument is given for stands behind the others.
use Rattle.std.proofs.Common.{◌≡◌, ◌∷◌, ◌++◌, map, subst, rules}
use Rattle.std.proofs.lemmas.Result.{err_from_is_err_and}
use Rattle.std.specs.Vec.Iter.{into_iter_items}
use Rattle.dcx_signature.specs.Arguments.{bound_of}
use Rattle.dcx_signature.specs.Seen.{argument_seen}
use Rattle.dcx_signature.specs.View.{assignment_seen}
use Rattle.dcx_signature.proofs.BoundSeen.{bound_next}
use Rattle.dcx_signature.proofs.matching.bound_of.Goals as goal

pub loop-argument-init : goal.loop-argument-init
loop-argument-init c = search rules

pub loop-argument-preserved : goal.loop-argument-preserved
loop-argument-preserved c =
    let left = into_iter_items c.next.new.self in
    let next : into_iter_items c.loop-argument.argument-iterator ≡ c.in-Some.argument ∷ left = search rules in
    let so_far = map argument_seen c.loop-argument.arguments.items in
    let all = map assignment_seen c.args.matches.items in
    bound_next so_far (map argument_seen c.push_bound.new.arguments.items) (assignment_seen c.in-Some.argument) (map assignment_seen left) all c.in_ok-push_bound.ensures
    (subst (λ xs. so_far ++ bound_of (map assignment_seen xs) ≡ bound_of all) next c.loop-argument.invariant)

pub returns-in_err-push_bound : goal.returns-in_err-push_bound
returns-in_err-push_bound c = let p = err_from_is_err_and c.from_residual.result c.from_residual.ensures.1 in rw p.1 tt
