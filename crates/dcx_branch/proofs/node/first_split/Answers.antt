-- The first entry whose number isn't whole, after entries whose numbers are.
use Rattle.std.proofs.Common.{get_or, subst, to_z-of_z}
use Rattle.std.specs.Int.{w128}
use Rattle.std.proofs.lemmas.Int.{fits_signed_from_abs}
use Rattle.std.proofs.lemmas.Option.{slice_get-get_or}
use Rattle.dcx_call.specs.declared.attribute.Whole.TheVariants.{Not}
use Rattle.dcx_postsolve.specs.Points.{numbered}
use Rattle.dcx_postsolve.proofs.Fractions.{read}
use Rattle.dcx_right.specs.Points.{IsWhole}
use Rattle.dcx_branch.specs.declared.place.Place.{Place}
use Rattle.dcx_branch.specs.Between.{IsBetween}
use Rattle.dcx_branch.proofs.Rooms.{room_fits}
use Rattle.dcx_branch.proofs.Taking.{whole_more, whole_all}
use Rattle.dcx_branch.proofs.node.first_split.Goals as goal

pub returns-in-Some-clause-split : goal.returns-in-Some-clause-split
returns-in-Some-clause-split c =
    let ps = c.args.places.now in
    let us = c.args.numbers.now in
    let i = c.places.place-index in
    let none : Place = record { variable = 0; entry = 0; unknown = 0; whole = Not } in
    let q = get_or ps i none in
    let within = c.requires i none c.places-test.true in
    let number = read us q.unknown c.index-numbers-place.result within c.index-numbers-place.is in
    let fits = fits_signed_from_abs w128 c.in-Some.limit (room_fits c.in-Some.limit c.in-Some.ensures.room) in
    simp to_z-of_z
    (record {
      position = i;
      there = slice_get-get_or ps i none c.places-test.true;
      before = c.places.invariant;
      between = subst (λ y. IsBetween y c.in-Some.limit) number c.in-Some.ensures.below;
    })

pub places-preserved : goal.places-preserved
places-preserved c =
    let ps = c.args.places.now in
    let us = c.args.numbers.now in
    let i = c.places.place-index in
    let none : Place = record { variable = 0; entry = 0; unknown = 0; whole = Not } in
    let q = get_or ps i none in
    let within = c.requires i none c.places-test.true in
    let number = read us q.unknown c.index-numbers-place.result within c.index-numbers-place.is in
    whole_more ps (numbered us) i q (slice_get-get_or ps i none c.places-test.true) (subst IsWhole number c.in-None.ensures.below) c.places.invariant

pub returns-clause-split : goal.returns-clause-split
returns-clause-split c = whole_all c.args.places.now (numbered c.args.numbers.now) c.places.place-index c.places-test.false c.places.invariant
