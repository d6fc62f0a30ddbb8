-- Each number is that of its entry, and past the end both are 0.
use Rattle.std.proofs.Common.{◌≡◌, length, sym, ap, ◌∙◌, subst, arith}
use Rattle.dcx_shape.specs.Shape.{sides_of}
use Rattle.dcx_entries.specs.Parts.{number_in}
use Rattle.dcx_nodes.proofs.Numbers.{AreNumbersTo, numbers_none, numbers_more, numbers_all}
use Rattle.dcx_nodes.proofs.number.numbers_of.Goals as goal

pub entries-init : goal.entries-init
entries-init g c =
    let t = g.C.Coef in
    subst (AreNumbersTo t.of_number t.number_of g.met.C.Coef.number_told c.args.standing.now 0) (sym c.new-numbers.ensures.items)
    (numbers_none t.of_number t.number_of g.met.C.Coef.number_told c.args.standing.now)

pub entries-preserved : goal.entries-preserved
entries-preserved g c =
    let t = g.C.Coef in
    numbers_more t.of_number t.number_of g.met.C.Coef.number_told c.args.standing.now c.entries.entry c.entries.numbers.items c.push.new.self.items c.entry_number.result
    c.entries.invariant (c.entry_number.ensures ∙ ap (number_in t.number_of) c.entry_at.ensures) c.in_ok-push.ensures.items

pub invariant_of-result : goal.invariant_of-result
invariant_of-result g c =
    let all : c.entries.entry ≡ c.size-entry-end.result = omega (arith, c.entries.auto.entry-end, c.entries-test.false) in
    record { full = ap length c.from_vec.ensures ∙ c.entries.invariant.0 ∙ all ∙ c.size-entry-end.ensures.value }

pub returns-clause-numbers : goal.returns-clause-numbers
returns-clause-numbers g c =
    let t = g.C.Coef in
    let all : c.entries.entry ≡ c.size-entry-end.result = omega (arith, c.entries.auto.entry-end, c.entries-test.false) in
    numbers_all t.of_number t.number_of g.met.C.Coef.number_told (sides_of c.args.shape) c.args.standing.now c.from_vec.result c.requires
    (subst (λ n. AreNumbersTo t.of_number t.number_of g.met.C.Coef.number_told c.args.standing.now n c.from_vec.result) (all ∙ c.size-entry-end.ensures.value)
    (subst (AreNumbersTo t.of_number t.number_of g.met.C.Coef.number_told c.args.standing.now c.entries.entry) (sym c.from_vec.ensures) c.entries.invariant))
