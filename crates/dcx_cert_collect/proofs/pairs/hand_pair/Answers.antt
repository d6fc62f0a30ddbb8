-- The share goes to the side that has no numbers.
use Rattle.std.proofs.Common.{◌≡◌, ◌∙◌, sym, ap, ap₂, subst, List, Result, Ok, Err, OnOk, IfErr}
use Rattle.dcx_frac.specs.declared.fraction.Frac.{Frac}
use Rattle.dcx_frac.specs.declared.fraction.Passes.{Passes}
use Rattle.dcx_frac.specs.Results.{product_of, quotient_of}
use Rattle.dcx_arena.specs.Nodes.{positions}
use Rattle.dcx_cert_collect.specs.declared.pairs.Scaling.{Scaling}
use Rattle.dcx_cert_collect.specs.Shares.{Share, share_of, with_share}
use Rattle.dcx_cert_collect.specs.Calls.{pair_share}
use Rattle.dcx_cert_collect.proofs.pairs.hand_pair.Goals as goal

-- the share that is added is the one that is asked for
ok_by : (r : Result (Unit {0}) Passes) (old new : List Frac) (given asked : Share) → given ≡ asked → OnOk r (with_share old given ≡ Ok new) → OnOk r (with_share old asked ≡ Ok new)
ok_by r old new given asked same h = subst (λ (s : Share). OnOk r (with_share old s ≡ Ok new)) same h

passes_by : (r : Result (Unit {0}) Passes) (old : List Frac) (given asked : Share) → given ≡ asked → IfErr r (λ p. with_share old given ≡ Err p) → IfErr r (λ p. with_share old asked ≡ Err p)
passes_by r old given asked same h = subst (λ (s : Share). IfErr r (λ p. with_share old s ≡ Err p)) same h

pub returns-in-ByRight-clause-ok : goal.returns-in-ByRight-clause-ok
returns-in-ByRight-clause-ok c =
    let x = c.args.coefficient in
    let asked = λ (s : Scaling). pair_share c.args.places.now.tree.now (positions c.args.places.now.args.now) s c.args.numbers.now x c.args.pair in
    ok_by c.add_share.result c.args.table.now.items c.add_share.new.table.items (share_of c.place.result c.mul.result) (asked c.args.scaling)
    (ap₂ share_of c.place.ensures (c.mul.ensures.answer ∙ ap (product_of x) c.number_at-right.ensures.is) ∙ ap asked (sym c.in-ByRight.is)) c.add_share.ensures.ok

pub returns-in-ByRight-clause-passes : goal.returns-in-ByRight-clause-passes
returns-in-ByRight-clause-passes c =
    let x = c.args.coefficient in
    let asked = λ (s : Scaling). pair_share c.args.places.now.tree.now (positions c.args.places.now.args.now) s c.args.numbers.now x c.args.pair in
    passes_by c.add_share.result c.args.table.now.items (share_of c.place.result c.mul.result) (asked c.args.scaling)
    (ap₂ share_of c.place.ensures (c.mul.ensures.answer ∙ ap (product_of x) c.number_at-right.ensures.is) ∙ ap asked (sym c.in-ByRight.is)) c.add_share.ensures.passes

pub returns-in-ByLeft-clause-ok : goal.returns-in-ByLeft-clause-ok
returns-in-ByLeft-clause-ok c =
    let x = c.args.coefficient in
    let asked = λ (s : Scaling). pair_share c.args.places.now.tree.now (positions c.args.places.now.args.now) s c.args.numbers.now x c.args.pair in
    ok_by c.add_share-in-ByLeft.result c.args.table.now.items c.add_share-in-ByLeft.new.table.items (share_of c.place-in-ByLeft.result c.mul-in-ByLeft.result) (asked c.args.scaling)
    (ap₂ share_of c.place-in-ByLeft.ensures (c.mul-in-ByLeft.ensures.answer ∙ ap (product_of x) c.number_at-left.ensures.is) ∙ ap asked (sym c.in-ByLeft.is)) c.add_share-in-ByLeft.ensures.ok

pub returns-in-ByLeft-clause-passes : goal.returns-in-ByLeft-clause-passes
returns-in-ByLeft-clause-passes c =
    let x = c.args.coefficient in
    let asked = λ (s : Scaling). pair_share c.args.places.now.tree.now (positions c.args.places.now.args.now) s c.args.numbers.now x c.args.pair in
    passes_by c.add_share-in-ByLeft.result c.args.table.now.items (share_of c.place-in-ByLeft.result c.mul-in-ByLeft.result) (asked c.args.scaling)
    (ap₂ share_of c.place-in-ByLeft.ensures (c.mul-in-ByLeft.ensures.answer ∙ ap (product_of x) c.number_at-left.ensures.is) ∙ ap asked (sym c.in-ByLeft.is)) c.add_share-in-ByLeft.ensures.passes

pub returns-in-Divided-clause-ok : goal.returns-in-Divided-clause-ok
returns-in-Divided-clause-ok c =
    let x = c.args.coefficient in
    let asked = λ (s : Scaling). pair_share c.args.places.now.tree.now (positions c.args.places.now.args.now) s c.args.numbers.now x c.args.pair in
    ok_by c.add_share-in-Divided.result c.args.table.now.items c.add_share-in-Divided.new.table.items (share_of c.place-in-Divided.result c.quotient.result) (asked c.args.scaling)
    (ap₂ share_of c.place-in-Divided.ensures (c.quotient.ensures ∙ ap (quotient_of x) c.number_at-right.ensures.is) ∙ ap asked (sym c.in-Divided.is)) c.add_share-in-Divided.ensures.ok

pub returns-in-Divided-clause-passes : goal.returns-in-Divided-clause-passes
returns-in-Divided-clause-passes c =
    let x = c.args.coefficient in
    let asked = λ (s : Scaling). pair_share c.args.places.now.tree.now (positions c.args.places.now.args.now) s c.args.numbers.now x c.args.pair in
    passes_by c.add_share-in-Divided.result c.args.table.now.items (share_of c.place-in-Divided.result c.quotient.result) (asked c.args.scaling)
    (ap₂ share_of c.place-in-Divided.ensures (c.quotient.ensures ∙ ap (quotient_of x) c.number_at-right.ensures.is) ∙ ap asked (sym c.in-Divided.is)) c.add_share-in-Divided.ensures.passes
