-- The entry is compared with its mirror, unless that is below the diagonal.
use Rattle.std.proofs.Common.{◌≡◌, ◌+◌, ◌*◌, ◌/◌, ◌%◌, ap, ap₂, ◌∙◌, arith}
use Rattle.dcx_math.specs.Rational.{rat_eq}
use Rattle.dcx_shape.specs.Shape.{sides_of}
use Rattle.dcx_shape.specs.Sides.{cols_of}
use Rattle.dcx_shape.specs.Places.{row_place}
use Rattle.dcx_atom.specs.Arrays.{number_at}
use Rattle.dcx_domain.specs.Entries.{HasMirrorBelow}
use Rattle.dcx_domain.proofs.Comparisons.{equal}
use Rattle.dcx_domain.proofs.Entries.{mirror_same, mirror_differs}
use Rattle.dcx_domain.proofs.entry.is_its_mirror.Goals as goal
use Rattle.dcx_domain.proofs.entry.is_its_mirror.Goals.{else-row-column-via-then-row-column+else-column-rows, else-row-column-via-else-row-column}

pub returns : goal.returns
returns c =
    let s = sides_of c.args.shape in
    let x = number_at c.args.numbers.now in
    let k = c.args.entry in
    let n = c.cols-columns.result in
    let e : n ≡ cols_of s = c.cols-columns.ensures in
    let mirror : k % n * n + k / n ≡ row_place s (k % cols_of s) (k / cols_of s) = ap (λ m. k % m * m + k / m) e in
    let row : k / n ≡ k / cols_of s = ap (λ m. k / m) e in
    let column : k % n ≡ k % cols_of s = ap (λ m. k % m) e in
    let asked : ¬ HasMirrorBelow s (k / cols_of s) (k % cols_of s) = λ m.
    let above = m.above in
    let inside = m.mirror.row in
    elim c.else-row-column.branch [
      | else-row-column-via-then-row-column+else-column-rows w ↦
          let past = w.if-column-rows.false in
          let rows = w.rows.ensures in
          absurd (omega (arith, inside, past, rows, column))
      | else-row-column-via-else-row-column w ↦
          let not_above = w.if-row-column.false in
          absurd (omega (arith, above, not_above, row, column))
    ] in
    equal c.is_equal.result (x k) (x (row_place s (k % cols_of s) (k / cols_of s))) (c.is_equal.ensures ∙ ap₂ rat_eq c.number_at.ensures.exact (c.number_at-2.ensures.exact ∙ ap x mirror))
    (mirror_same s x k c.requires) (mirror_differs s x k c.requires asked)
