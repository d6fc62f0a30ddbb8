-- The row is multiplied, and then the multiple of the listed numbers taken from it.
use Rattle.std.proofs.Common.{rules, arith, ◌<◌, ◌^◌, ◌*ℤ◌, unsigned_abs, ◌∙◌, subst, to_z-of_z, SFits}
use Rattle.std.specs.Int.{w128}
use Rattle.dcx_chained.proofs.RowReads.{entry-row_of}
use Rattle.dcx_chained.proofs.Listings.{mixed_entry, small_product, small_rest}
use Rattle.dcx_chained.proofs.mix.mix_row.Goals as goal

pub scale_row-requires-clause-fits : goal.scale_row-requires-clause-fits
scale_row-requires-clause-fits c = λ k lt.
    let fr : SFits w128 c.args.factors.row = search rules in
    simp to_z-of_z (subst (λ z. unsigned_abs (c.args.factors.row *ℤ z) < 2 ^ 127) (entry-row_of c.args.links.now c.args.i k lt) (c.requires.formed k lt).left)

pub subtract-requires-clause-within : goal.subtract-requires-clause-within
subtract-requires-clause-within c = λ k lt. let w = c.scale_row.ensures.width in let h = c.requires.listed.within k lt in omega (arith, w, h)

pub subtract-requires-clause-rising : goal.subtract-requires-clause-rising
subtract-requires-clause-rising c = c.requires.listed.rising

pub subtract-requires-clause-product : goal.subtract-requires-clause-product
subtract-requires-clause-product c =
    let fr : SFits w128 c.args.factors.row = search rules in
    let fb : SFits w128 c.args.factors.by = search rules in
    simp to_z-of_z (small_product c.args.links.now c.scale_row.new.links c.args.i c.args.r c.args.factors.row c.args.factors.by c.args.entries.now c.args.count c.requires.listed
    (simp to_z-of_z at c.scale_row.ensures.there) c.requires.formed)

pub subtract-requires-clause-fits : goal.subtract-requires-clause-fits
subtract-requires-clause-fits c =
    let fr : SFits w128 c.args.factors.row = search rules in
    let fb : SFits w128 c.args.factors.by = search rules in
    simp to_z-of_z (small_rest c.args.links.now c.scale_row.new.links c.args.i c.args.r c.args.factors.row c.args.factors.by c.args.entries.now c.args.count c.requires.listed
    (simp to_z-of_z at c.scale_row.ensures.there) c.requires.formed)

pub returns-clause-mixed : goal.returns-clause-mixed
returns-clause-mixed c =
    let fr : SFits w128 c.args.factors.row = search rules in
    let fb : SFits w128 c.args.factors.by = search rules in
    mixed_entry c.args.links.now c.scale_row.new.links c.subtract.new.self c.args.i c.args.r c.args.factors.row c.args.factors.by c.args.entries.now c.args.count c.requires.listed
    (simp to_z-of_z at c.scale_row.ensures.there) (simp to_z-of_z at c.subtract.ensures.there)
    (λ j none. c.subtract.ensures.same c.args.i j (λ _. none))

pub returns-clause-same : goal.returns-clause-same
returns-clause-same c = λ k j other. c.subtract.ensures.same k j (λ e. absurd (other e)) ∙ c.scale_row.ensures.same k j other
