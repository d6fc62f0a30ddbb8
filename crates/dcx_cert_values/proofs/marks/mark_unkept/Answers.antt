-- One more is marked, or is kept.
use Rattle.std.proofs.Common.{ℕ, ◌+◌, ◌<◌, get_or, refl, Bool, List, length, sym, ap, subst, arith, Vec, Global}
use Rattle.std.proofs.lemmas.List.{take_all}
use Rattle.dcx_arena.specs.Nodes.{positions}
use Rattle.dcx_arena.proofs.Positions.{length-positions}
use Rattle.dcx_tree.proofs.Forming.{each_id}
use Rattle.dcx_cert_values.proofs.Marking.{AreMarkedOf, none_marked, IsMarkedSoFar, unkept_step, kept_step}
use Rattle.dcx_cert_values.proofs.marks.mark_unkept.Goals as goal
use Rattle.dcx_cert_values.proofs.marks.mark_unkept.Goals.{then-not-is_kept+then-id-lowest, then-not-is_kept+else-id-lowest, else-not-is_kept}

pub loop-id-init : goal.loop-id-init
loop-id-init c = record { count = refl; marked = none_marked c.args.arrays.now c.args.marks.now.items; lowest = c.requires.lowest }

pub index_mut-requires : goal.index_mut-requires
index_mut-requires c =
    let b = each_id (λ a. a < length c.args.marks.now.items) c.args.ids.now c.loop-id.id-index c.requires.room c.loop-id-test.true in
    omega (arith, b, c.loop-id.invariant.count)

pub loop-id-preserved : goal.loop-id-preserved
loop-id-preserved c =
    let arrays = c.args.arrays.now in
    let ids = c.args.ids.now in
    let old = c.args.marks.now.items in
    let now = c.loop-id.marks.items in
    let k = c.loop-id.id-index in
    let id = (get_or ids k (record { 0 = 0 })).0 in
    let items : Vec Bool Global → List Bool = λ v. v.items in
    let At : List Bool → ℕ → Type 0 = λ xs low. IsMarkedSoFar arrays ids old (k + 1) xs low in
    elim c.if-not-is_kept.branch [
      | then-not-is_kept+then-id-lowest w ↦
          subst (λ low. At c.if-not-is_kept.marks.items low) (sym w.lowest-is) (subst (λ xs. At xs id) (sym (ap items w.marks-is))
          (unkept_step arrays ids old now k c.loop-id.lowest c.loop-id-test.true c.requires.room c.loop-id.invariant (c.is_kept.ensures.none w.if-not-is_kept.true) id
          (let t = w.if-id-lowest.true in omega (arith, t)) (omega arith)))
      | then-not-is_kept+else-id-lowest w ↦
          subst (λ low. At c.if-not-is_kept.marks.items low) (sym w.lowest-is) (subst (λ xs. At xs c.loop-id.lowest) (sym (ap items w.marks-is))
          (unkept_step arrays ids old now k c.loop-id.lowest c.loop-id-test.true c.requires.room c.loop-id.invariant (c.is_kept.ensures.none w.if-not-is_kept.true) c.loop-id.lowest (omega arith)
          (let t = w.if-id-lowest.false in omega (arith, t))))
      | else-not-is_kept w ↦
          subst (λ low. At c.if-not-is_kept.marks.items low) (sym w.lowest-is) (subst (λ xs. At xs c.loop-id.lowest) (sym (ap items w.marks-is))
          (kept_step arrays ids old now k c.loop-id.lowest c.loop-id-test.true c.requires.room c.loop-id.invariant (c.is_kept.ensures.kept w.if-not-is_kept.false)))
    ]

pub returns-clause-marked : goal.returns-clause-marked
returns-clause-marked c =
    let ids = positions c.args.ids.now in
    let n = length-positions c.args.ids.now in
    let all = take_all c.loop-id.id-index ids (omega (arith, n, c.loop-id-test.false)) in
    subst (λ xs. AreMarkedOf c.args.arrays.now xs c.args.marks.now.items c.loop-id.marks.items) all c.loop-id.invariant.marked
