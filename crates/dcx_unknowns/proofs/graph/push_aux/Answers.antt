-- One more kind is added behind those so far.
use Rattle.std.proofs.Common.{◌≡◌, ◌∙◌, ◌++◌, ◌∷◌, [], ap, length, ◌<◌, map, rules, sym, take, ℕ, ◌+◌, List, get_or}
use Rattle.std.proofs.lemmas.List.{append_assoc, map_more, take_all}
use Rattle.std.proofs.lemmas.Result.{err_from_is_err_and}
use Rattle.dcx_unknowns.specs.Layout.{aux_kind}
use Rattle.dcx_unknowns.proofs.graph.push_aux.Goals as goal

mapped_more : {A B : Type 0} (f : A → B) (xs : List A) (i : ℕ) (d : A) (y : B) (old now after : List B) → i < length xs → y ≡ f (get_or xs i d) →
    now ≡ old ++ map f (take i xs) → after ≡ now ++ y ∷ [] → after ≡ old ++ map f (take (i + 1) xs)
mapped_more f xs i d y old now after lt is so_far pushed =
    pushed ∙ ap (λ ys. ys ++ y ∷ []) so_far ∙ append_assoc old (map f (take i xs)) (y ∷ [])
    ∙ ap (λ ys. old ++ ys) (ap (λ z. map f (take i xs) ++ z ∷ []) is ∙ sym (map_more f xs i d lt))

pub aux-init : goal.aux-init
aux-init c = search rules

pub aux-smaller : goal.aux-smaller
aux-smaller c = search rules

pub aux-preserved : goal.aux-preserved
aux-preserved c =
    mapped_more aux_kind c.args.aux.now c.aux.kind-index _ c.aux_kind.result c.args.kinds.now.items c.aux.kinds.items c.push.new.self.items c.aux-test.true
    c.aux_kind.ensures c.aux.invariant c.in_ok-push.ensures.items

pub returns : goal.returns
returns c = c.aux.invariant ∙ ap (λ xs. c.args.kinds.now.items ++ map aux_kind xs) (take_all c.aux.kind-index c.args.aux.now c.aux-test.false)

pub returns-in_err-push : goal.returns-in_err-push
returns-in_err-push c = let p = err_from_is_err_and c.from_residual.result c.from_residual.ensures.1 in rw p.1 tt
