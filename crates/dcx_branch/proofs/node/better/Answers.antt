-- The numbers are those that the columns stand for.
use Rattle.std.proofs.Common.{List, length, map, ap, ◌∙◌, subst, arith, to_z-of_z}
use Rattle.std.specs.Int.{w128}
use Rattle.std.proofs.lemmas.Int.{fits_signed_from_abs}
use Rattle.dcx_frac.specs.declared.fraction.Frac.{Frac}
use Rattle.dcx_frac.specs.Frac.{value}
use Rattle.dcx_linear.specs.FormTerms.{Unknowns}
use Rattle.dcx_postsolve.specs.Numbers.{unknown_numbers}
use Rattle.dcx_postsolve.specs.Points.{numbered}
use Rattle.dcx_branch.specs.declared.place.Place.{Place}
use Rattle.dcx_branch.specs.Places.{places}
use Rattle.dcx_branch.specs.Run.{IsFirstSplit}
use Rattle.dcx_branch.proofs.Rooms.{room_fits}
use Rattle.dcx_branch.proofs.Taking.{numbers_count, same_numbers}
use Rattle.dcx_branch.proofs.node.better.Goals as goal

pub first_split-requires : goal.first_split-requires
first_split-requires c =
    let kinds = c.args.kinds.now in
    let count = numbers_count kinds (map value c.as_slice-columns.result.now) c.in_ok-numbers.numbers c.in_ok-numbers.ensures in
    let same = ap length c.as_slice.ensures in
    λ k d lt. let less = c.requires.known k d lt in omega (arith, less, count, same)

pub returns-in-Some-clause-taken : goal.returns-in-Some-clause-taken
returns-in-Some-clause-taken c = λ best better.
    let p = c.args.problem.now in
    let s = c.args.node.now.solved in
    let numbers = c.in_ok-numbers.ensures ∙ ap (λ (xs : List Frac). unknown_numbers c.args.kinds.now (map value xs)) c.as_slice-columns.ensures in
    let same = same_numbers c.args.kinds.now s.program s.answer c.in_ok-numbers.numbers numbers c.requires.tells in
    let here = subst (λ (us : List Frac). IsFirstSplit c.args.places.now (numbered us) c.in-Some.place c.in-Some.limit) c.as_slice.ensures c.in-Some.ensures.split in
    let there = subst (λ (ps : List Place). IsFirstSplit ps (numbered c.in_ok-numbers.numbers) c.in-Some.place c.in-Some.limit) c.requires.places here in
    let split = subst (λ (x : Unknowns). IsFirstSplit (places p.variables) x c.in-Some.place c.in-Some.limit) same there in
    let fits = fits_signed_from_abs w128 c.in-Some.limit (room_fits c.in-Some.limit c.in-Some.ensures.room) in
    simp to_z-of_z ((c.requires.optimal, better, split), c.in-Some.ensures.room)
