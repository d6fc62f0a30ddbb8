-- A fraction with the denominator 1 is whole, and any other stands between an integer and the next.
use Rattle.std.proofs.Common.{◌≡◌, ◌≢◌, ◌<◌, ◌^◌, sym, ap, ap₂, ◌∙◌, subst, pos, unsigned_abs, to_z, of_z, to_z-of_z}
use Rattle.std.specs.Int.{w128, int_div_euclid}
use Rattle.std.proofs.lemmas.Int.{fits_signed_from_abs}
use Rattle.dcx_frac.specs.Frac.{num_of, den_of, value}
use Rattle.dcx_frac.proofs.Integers.{whole_value}
use Rattle.dcx_branch.specs.Between.{IsBetween}
use Rattle.dcx_branch.proofs.Between.{divided_between, divided_room}
use Rattle.dcx_branch.proofs.Rooms.{room_fits}
use Rattle.dcx_branch.proofs.node.whole_below.Goals as goal

pub returns-then-den-eq1-clause-below : goal.returns-then-den-eq1-clause-below
returns-then-den-eq1-clause-below c =
    let f = c.args.number.now in
    let small : unsigned_abs c.den-den.result < 2 ^ 127 = subst (λ z. unsigned_abs z < 2 ^ 127) (sym c.den-den.ensures) f.den_fits in
    let fits = fits_signed_from_abs w128 c.den-den.result small in
    let one : c.den-den.result ≡ pos 1 = simp to_z-of_z at (ap (to_z w128) c.if-den-eq1.true) in
    (num_of f, whole_value f (sym c.den-den.ensures ∙ one))

pub returns-else-den-eq1-clause-below : goal.returns-else-den-eq1-clause-below
returns-else-den-eq1-clause-below c =
    let f = c.args.number.now in
    let other : den_of f ≢ pos 1 = λ e. c.if-den-eq1.false (ap (of_z w128) (c.den-den.ensures ∙ e)) in
    let den_small : unsigned_abs c.den-den.result < 2 ^ 127 = subst (λ z. unsigned_abs z < 2 ^ 127) (sym c.den-den.ensures) f.den_fits in
    let den_fits = fits_signed_from_abs w128 c.den-den.result den_small in
    let num_small : unsigned_abs c.num-num.result < 2 ^ 127 = subst (λ z. unsigned_abs z < 2 ^ 127) (sym c.num-num.ensures) f.num_fits in
    let num_fits = fits_signed_from_abs w128 c.num-num.result num_small in
    let same : c.div_euclid.result ≡ int_div_euclid (num_of f) (den_of f) = (simp to_z-of_z at c.div_euclid.ensures) ∙ ap₂ int_div_euclid c.num-num.ensures c.den-den.ensures in
    let small : unsigned_abs c.div_euclid.result < 2 ^ 127 = subst (λ z. unsigned_abs z < 2 ^ 127) (sym same) (room_fits (int_div_euclid (num_of f) (den_of f)) (divided_room f other)) in
    let fits = fits_signed_from_abs w128 c.div_euclid.result small in
    simp to_z-of_z (subst (IsBetween (value f)) (sym same) (divided_between f other))
