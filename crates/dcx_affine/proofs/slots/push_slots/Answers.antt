-- One more line is appended.
use Rattle.std.proofs.Common.{◌≡◌, ℕ, List, [], ◌∷◌, ◌++◌, sym, ap, ◌∙◌, append_assoc, append-nil, arith, rules}
use Rattle.std.proofs.lemmas.Result.{err_from_is_err_and}
use Rattle.dcx_atom.specs.Arrays.{list_below}
use Rattle.dcx_atom.proofs.Lists.{list_below-next}
use Rattle.dcx_affine.specs.declared.slots.Slot.{Slot}
use Rattle.dcx_affine.proofs.slots.push_slots.Goals as goal

pub loop-place-init : goal.loop-place-init
loop-place-init c = sym (append-nil c.args.slots.now.items)

pub loop-place-smaller : goal.loop-place-smaller
loop-place-smaller c = search rules

pub loop-place-preserved : goal.loop-place-preserved
loop-place-preserved c =
    let old = c.args.slots.now.items in
    let i = c.loop-place.place in
    let slot : ℕ → Slot = λ e. record { argument = c.args.argument; place = e } in
    c.in_ok-push.ensures.items ∙ ap (λ (xs : List Slot). xs ++ slot i ∷ []) c.loop-place.invariant ∙ append_assoc old (list_below i slot) (slot i ∷ [])
    ∙ ap (λ (xs : List Slot). old ++ xs) (sym (list_below-next i slot))

pub returns : goal.returns
returns c =
    let all : c.loop-place.place ≡ c.args.count = omega arith in
    let slot : ℕ → Slot = λ e. record { argument = c.args.argument; place = e } in
    c.loop-place.invariant ∙ ap (λ n. c.args.slots.now.items ++ list_below n slot) all

pub returns-in_err-push : goal.returns-in_err-push
returns-in_err-push c = let p = err_from_is_err_and c.from_residual.result c.from_residual.ensures.1 in rw p.1 tt
