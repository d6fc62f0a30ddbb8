-- One more argument has the array of the numbers that it is.
use Rattle.std.proofs.Common.{length, get_or, sym, ◌∙◌, subst, arith}
use Rattle.std.proofs.lemmas.List.{take_all}
use Rattle.dcx_arena.specs.Nodes.{positions, sides_at}
use Rattle.dcx_arena.proofs.Positions.{position_below}
use Rattle.dcx_nodes.specs.Formed.{IsOfSides}
use Rattle.dcx_nodes.specs.Numbers.{HasNumbersOf, HaveNumbersOf}
use Rattle.dcx_nodes.proofs.Numbers.{arrays_more, found_at, sides_here}
use Rattle.dcx_nodes.proofs.number.arrays_of.Goals as goal

pub bounds-args-id : goal.bounds-args-id
bounds-args-id g c = position_below c.args.args.now.ids.now (length c.args.args.now.standing.now) c.ids.id-index c.requires.before c.ids-test.true

pub shape-requires : goal.shape-requires
shape-requires g c =
    let below = position_below c.args.args.now.ids.now (length c.args.args.now.standing.now) c.ids.id-index c.requires.before c.ids-test.true in
    omega (arith, below, c.requires.few)

pub push_numbers-requires : goal.push_numbers-requires
push_numbers-requires g c =
    let standing = c.args.args.now.standing.now in
    let a = (get_or c.args.args.now.ids.now c.ids.id-index (record { 0 = 0 })).0 in
    let below = position_below c.args.args.now.ids.now (length standing) c.ids.id-index c.requires.before c.ids-test.true in
    let here : IsOfSides (sides_at c.args.tree.now a) c.index-args-id.result =
    sides_here c.args.tree.now standing c.args.args.now.ids.now c.ids.id-index c.ids-test.true c.requires.sides c.index-args-id.result
    (found_at standing a c.index-args-id.result below c.index-args-id.is) in
    subst (λ z. IsOfSides z (get_or standing a c.index-args-id.result)) (sym c.shape.ensures) (subst (IsOfSides (sides_at c.args.tree.now a)) c.index-args-id.is here)

pub ids-preserved : goal.ids-preserved
ids-preserved g c =
    let t = g.C.Coef in
    let standing = c.args.args.now.standing.now in
    let ids = c.args.args.now.ids.now in
    let a = (get_or ids c.ids.id-index (record { 0 = 0 })).0 in
    let below = position_below ids (length standing) c.ids.id-index c.requires.before c.ids-test.true in
    let (x, added, shape, numbers) = c.in_ok-push_numbers.ensures in
    arrays_more t.of_number t.number_of g.met.C.Coef.number_told c.args.tree.now standing ids c.ids.id-index (record { 0 = 0 }) c.ids.arrays.items c.push_numbers.new.arrays.items x
    c.ids-test.true c.ids.invariant
    (record {
      at = c.index-args-id.result;
      there = found_at standing a c.index-args-id.result below c.index-args-id.is;
      sides = shape ∙ c.shape.ensures;
      numbers = subst (λ s. HasNumbersOf t.of_number t.number_of s x) (sym c.index-args-id.is) numbers;
    })
    added

pub returns : goal.returns
returns g c =
    let t = g.C.Coef in
    let ids = c.args.args.now.ids.now in
    subst (λ is. HaveNumbersOf t.of_number t.number_of c.args.tree.now c.args.args.now.standing.now (positions is) c.ids.arrays.items) (take_all c.ids.id-index ids c.ids-test.false) c.ids.invariant
