-- Both rows are as long as there are columns.
use Rattle.std.proofs.Common.{length, ap, sym, ◌∙◌}
use Rattle.dcx_links.specs.Matrix.{number_at}
use Rattle.dcx_links.specs.Walks.{Walk}
use Rattle.dcx_links.proofs.Listed.{length-listed}
use Rattle.dcx_links.proofs.links.Links.pairs.Goals as goal

pub invariant_of-result : goal.invariant_of-result
invariant_of-result c =
    let m = c.args.self.now in
    let a = c.begin.ensures ∙ c.row.ensures in
    let b = c.begin-2.ensures ∙ c.row-2.ensures in (
      ap (λ (w : Walk). w.from) a ∙ sym (ap (λ (w : Walk). w.from) b),
      ap (λ (w : Walk). length w.numbers) a ∙ length-listed m.width (λ k. number_at m c.args.first k) ∙ sym (ap (λ (w : Walk). length w.numbers) b ∙ length-listed m.width
          (λ k. number_at m c.args.second k)),
    )
