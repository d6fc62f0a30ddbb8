-- A factor of 1 leaves the numbers as they are.
use Rattle.std.proofs.Common.{rules, ◌≡◌, ◌∙◌, pos, ◌*ℤ◌, sym, ap, to_z, to_z-of_z, SFits}
use Rattle.std.specs.Int.{w128}
use Rattle.dcx_math.specs.Integers.{*ℤ_idl}
use Rattle.dcx_links.specs.Matrix.{number_at}
use Rattle.dcx_chained.proofs.mix.scale_row.Goals as goal

pub returns-else-by-ne1-clause-there : goal.returns-else-by-ne1-clause-there
returns-else-by-ne1-clause-there c = λ k.
    let f : SFits w128 c.args.by = search rules in
    let e : c.args.by ≡ pos 1 = sym (to_z-of_z f) ∙ ap (to_z w128) c.if-by-ne1.false in
    sym (ap (λ z. z *ℤ number_at c.args.links.now c.args.i k) e ∙ *ℤ_idl (number_at c.args.links.now c.args.i k))
