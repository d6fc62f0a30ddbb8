-- A node that is taken leads on.
use Rattle.std.proofs.Common.{List, subst}
use Rattle.std.proofs.lemmas.Result.{err_from_is_err_and}
use Rattle.dcx_branch.specs.declared.place.Place.{Place}
use Rattle.dcx_branch.specs.Sides.{box_bounds}
use Rattle.dcx_branch.specs.Taken.{TakenAs}
use Rattle.dcx_branch.specs.Searches.{found_value}
use Rattle.dcx_branch.proofs.Advance.{advanced}
use Rattle.dcx_branch.proofs.search.Search.step.Goals as goal

pub returns-in_err-taken-clause-stops : goal.returns-in_err-taken-clause-stops
returns-in_err-taken-clause-stops c = λ s given at.
    let p = err_from_is_err_and c.from_residual.result c.from_residual.ensures.1 in
    rw (p.1, p.2) (c.in_err-taken.ensures.stops s given at)

pub returns-clause-goes : goal.returns-clause-goes
returns-clause-goes c = λ at.
    let p = c.args.problem.now in
    let q = c.args.reduced.now.program in
    let old = c.args.self.now in
    let t = c.in_ok-taken.taken in
    let node = subst (λ (ps : List Place). TakenAs p q c.args.limit (box_bounds ps old.sides.items) (found_value old.best) t) c.requires.places c.in_ok-taken.ensures.taken in
    advanced p q c.args.limit old c.enter.new.self at t node c.in_ok-enter.field-0 c.in_ok-enter.ensures
