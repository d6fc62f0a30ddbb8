-- One origin more, until all rows have theirs.
use Rattle.std.proofs.Common.{◌≡◌, ℕ, ◌+◌, ◌<◌, List, [], ◌∷◌, ◌++◌, length, map, take, get_or, sym, ap, ◌∙◌, append_assoc, rules}
use Rattle.std.proofs.lemmas.List.{append-nil, map_more, take_all}
use Rattle.std.proofs.lemmas.Result.{err_from_is_err_and}
use Rattle.dcx_graph.specs.Program.{graph_origin}
use Rattle.dcx_graph.proofs.origin.push_graph.Goals as goal

one_more : {A B : Type 0} (f : A → B) (xs : List A) (i : ℕ) (x : A) (old so_far new : List B) → i < length xs → x ≡ get_or xs i x → so_far ≡ old ++ map f (take i xs) → new ≡ so_far ++ f x ∷ []
    → new ≡ old ++ map f (take (i + 1) xs)
one_more f xs i x old so_far new lt at was added =
    added
    ∙ ap (λ ys. ys ++ f x ∷ []) was
    ∙ append_assoc old (map f (take i xs)) (f x ∷ [])
    ∙ ap (λ ys. old ++ ys) (ap (λ y. map f (take i xs) ++ f y ∷ []) at ∙ sym (map_more f xs i x lt))

pub graph-init : goal.graph-init
graph-init g c = sym (append-nil c.args.origins.now.items)

pub graph-smaller : goal.graph-smaller
graph-smaller g c = search rules

pub graph-preserved : goal.graph-preserved
graph-preserved g c =
    one_more graph_origin c.args.graph.now c.graph.row-index c.row-item.result c.args.origins.now.items c.graph.origins.items c.push.new.self.items c.graph-test.true c.row-item.is c.graph.invariant
    c.in_ok-push.ensures.items

pub returns-in_err-push : goal.returns-in_err-push
returns-in_err-push g c = let p = err_from_is_err_and c.from_residual.result c.from_residual.ensures.1 in rw p.1 tt

pub returns : goal.returns
returns g c = c.graph.invariant ∙ ap (λ rows. c.args.origins.now.items ++ map graph_origin rows) (take_all c.graph.row-index c.args.graph.now c.graph-test.false)
