-- The steps that fit into the gap.
use Rattle.std.proofs.Common.{◌∙◌, ap}
use Rattle.std.specs.Int.{w64, div_ceil}
use Rattle.std.specs.Prelude.{FitsSigned}
use Rattle.std.proofs.lemmas.Int.{to_z-of_z}
use Rattle.dcx_shape.proofs.Slices.{steps_before}
use Rattle.dcx_shape.proofs.slice.steps.Goals as goal

pub returns : goal.returns
returns c =
    let start : FitsSigned w64 c.args.start = c.ranges.start in
    let stop : FitsSigned w64 c.args.stop = c.ranges.stop in
    let step : FitsSigned w64 c.args.step = c.ranges.step in
    let size = simp to_z-of_z at c.unsigned_abs.ensures.value in
    steps_before c.args.step c.args.start c.args.stop c.gap.result c.div_ceil.result c.requires.step (simp to_z-of_z at c.gap.ensures.ahead)
    (c.div_ceil.ensures ∙ ap (λ s. div_ceil c.gap.result s) size)
