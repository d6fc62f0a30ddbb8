-- Row and column are at most the place, and a side at most the most entries.
use Rattle.std.proofs.Common.{ℕ, ◌+◌, ◌*◌, ◌/◌, ◌%◌, ◌<◌, ◌≤◌, ◌^◌, arith}
use Rattle.std.proofs.Math.Nat.{div-le_self, mod-le}
use Rattle.std.proofs.lemmas.Nat.{mul-le}
use Rattle.dcx_shape.specs.Shape.{sides_of}
use Rattle.dcx_shape.specs.Sides.{cols_of}
use Rattle.dcx_affine.proofs.Products.{cols_few}
use Rattle.dcx_affine.proofs.places.promoted_place.Goals as goal

small : (row column cols k n m : ℕ) → row ≤ k / n → column ≤ k % m → k < 20000 → cols ≤ 20000 → row * cols + column + 1 < 2 ^ 32
small row column cols k n m r c b w =
    let above : k / n ≤ k = div-le_self k n in
    let beside : k % m ≤ k = mod-le k m in
    let most : row * cols ≤ 20000 * 20000 = mul-le row cols 20000 20000 (omega arith) w in
    omega arith

place_small : (c : goal.After-cols-4) → c.stretched-row.result * c.cols-4.result + c.stretched-column.result + 1 < 2 ^ 32
place_small c =
    let narrow : cols_of (sides_of c.args.from) ≤ 20000 = cols_few (sides_of c.args.from) c.args.from.few in
    small c.stretched-row.result c.stretched-column.result c.cols-4.result c.args.k c.cols.result c.cols-3.result c.stretched-row.ensures.below c.stretched-column.ensures.below
    (omega (arith, c.requires, c.args.to.few.most)) (omega (arith, narrow, c.cols-4.ensures))

pub overflow_mul-result : goal.overflow_mul-result
overflow_mul-result c = omega (arith, place_small c)

pub overflow_add-result : goal.overflow_add-result
overflow_add-result c = omega (arith, place_small c)

pub returns-clause-fits : goal.returns-clause-fits
returns-clause-fits c = place_small c
