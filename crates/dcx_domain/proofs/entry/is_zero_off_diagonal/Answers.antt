-- Off the diagonal the entry is compared with 0.
use Rattle.std.proofs.Common.{◌≡◌, ◌/◌, ◌%◌, sym, ap, ◌∙◌}
use Rattle.dcx_shape.specs.Shape.{sides_of}
use Rattle.dcx_shape.specs.Sides.{cols_of}
use Rattle.dcx_atom.specs.Arrays.{number_at}
use Rattle.dcx_domain.proofs.Comparisons.{told}
use Rattle.dcx_domain.proofs.Entries.{zero_keeps, nonzero_leaves}
use Rattle.dcx_domain.proofs.entry.is_zero_off_diagonal.Goals as goal

pub returns : goal.returns
returns c =
    let s = sides_of c.args.shape in
    let x = number_at c.args.numbers.now in
    let k = c.args.entry in
    let n = c.cols-columns.result in
    let e : n ≡ cols_of s = c.cols-columns.ensures in
    let row : k / n ≡ k / cols_of s = ap (λ m. k / m) e in
    let column : k % n ≡ k % cols_of s = ap (λ m. k % m) e in
    told c.is_zero.result c.is_zero.ensures (λ z. zero_keeps s x k c.requires (sym c.number_at.ensures.exact ∙ z))
    (λ z. nonzero_leaves s x k c.requires (λ d. c.if-entry-columns.false (row ∙ d ∙ sym column)) (λ d. z (c.number_at.ensures.exact ∙ d)))
