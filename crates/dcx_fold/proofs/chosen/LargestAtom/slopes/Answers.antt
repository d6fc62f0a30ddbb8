-- As many weights as entries.
use Rattle.std.proofs.Common.{◌≡◌, length}
use Rattle.dcx_atom.specs.Arrays.{sides_list}
use Rattle.dcx_atom.specs.Steps.{rows_before}
use Rattle.dcx_fold.specs.Largest.{largest_meaning}
use Rattle.dcx_fold.proofs.LargestCalls.{of_chosen, rows_of_one}
use Rattle.dcx_fold.proofs.chosen.LargestAtom.slopes.Goals as goal

pub largest_slopes-requires-clause-weights : goal.largest_slopes-requires-clause-weights
largest_slopes-requires-clause-weights c =
    let bend = c.args.self.now.bend in
    let k = c.args.self.now.k in
    let args = sides_list c.args.args.now in
    rows_of_one bend k args c.args.weights.now (of_chosen k args (λ n. length c.args.weights.now ≡ rows_before (largest_meaning bend k) args n) c.requires.shape c.requires.weights)
