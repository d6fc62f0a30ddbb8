-- The weights are tested, and then listed by argument.
use Rattle.std.proofs.Common.{◌*◌, ◌∙◌, sym, ap}
use Rattle.dcx_shape.specs.Sides.{entries_of}
use Rattle.dcx_atom.specs.Arrays.{sides_list}
use Rattle.dcx_elem.proofs.ExtremeSteps.{first_sides, some_arguments, weights_are, slopes_at}
use Rattle.dcx_elem.proofs.extremes.ExtremeAtom.slopes.Goals as goal

pub check_entries-requires-clause-weights : goal.check_entries-requires-clause-weights
check_entries-requires-clause-weights c = weights_are c.args.self.now.bend c.args.self.now.count (sides_list c.args.args.now) c.args.weights.now c.requires.shape c.requires.weights

pub by_argument-requires-clause-weights : goal.by_argument-requires-clause-weights
by_argument-requires-clause-weights c =
    let args = sides_list c.args.args.now in
    let some = some_arguments c.args.self.now.count c.args.args.now c.requires.shape in
    let n = ap entries_of (first_sides c.args.args.now c.index-args-0.result some c.index-args-0.is) ∙ sym c.size-size.ensures.value in
    weights_are c.args.self.now.bend c.args.self.now.count args c.args.weights.now c.requires.shape c.requires.weights ∙ ap (λ k. k * c.args.self.now.count) n

pub returns-in-Ok-clause-ok : goal.returns-in-Ok-clause-ok
returns-in-Ok-clause-ok c =
    let some = some_arguments c.args.self.now.count c.args.args.now c.requires.shape in
    let n = c.size-size.ensures.value ∙ ap entries_of (sym (first_sides c.args.args.now c.index-args-0.result some c.index-args-0.is)) in
    slopes_at c.args.self.now.bend c.args.self.now.count (sides_list c.args.args.now) c.size-size.result c.args.coefficients.now c.args.weights.now c.in-Ok.slopes n
    c.in_ok-check_entries.ensures.ok c.in-Ok.ensures
