-- One shape after another is joined to that of those before it.
use Rattle.std.proofs.Common.{◌≡◌, ℕ, zero, suc, ◌+◌, ◌<◌, List, [], ◌∷◌, ◌++◌, map, length, take, get_or, Some, sym, ap, ◌∙◌, refl, arith}
use Rattle.std.specs.Prelude.{option_and_then}
use Rattle.std.proofs.lemmas.List.{map-append, take_all, take_more}
use Rattle.dcx_shape.specs.declared.shape.Shape.{Shape}
use Rattle.dcx_shape.specs.Shape.{sides_of}
use Rattle.dcx_array.specs.Shapes.{shape_with, common_with}
use Rattle.dcx_array.proofs.AllowedShapes.{shape_with-sides}
use Rattle.dcx_array.proofs.Broadcasts.{none_after, common_more}
use Rattle.dcx_array.proofs.shapes.common_with.Goals as goal

-- a list is what stands before item i, that item, and the rest
split : (xs : List Shape) (i : ℕ) (x : Shape) → i < length xs → x ≡ get_or xs i x → (rest : List Shape) × (xs ≡ take i xs ++ x ∷ rest)
split [] i x b e = absurd (omega arith)
split (y ∷ ys) zero x b e = (ys, ap (λ z. z ∷ ys) (sym e))
split (y ∷ ys) (suc i) x b e = let r = split ys i x (omega arith) e in (r.0, ap (λ zs. y ∷ zs) r.1)

pub returns-in_err-common : goal.returns-in_err-common
returns-in_err-common c =
    let xs : List Shape = c.args.others.now in
    let parts = split c.args.others.now c.loop-shape.shape-index c.shape-item.result c.loop-shape-test.true c.shape-item.is in
    let all : map sides_of xs ≡ map sides_of (take c.loop-shape.shape-index xs) ++ sides_of c.shape-item.result ∷ map sides_of parts.0 =
    ap (map sides_of) parts.1 ∙ map-append sides_of (take c.loop-shape.shape-index xs) (c.shape-item.result ∷ parts.0) in
    c.from_residual.ensures
    ∙ sym (ap (λ bs. option_and_then shape_with (common_with (Some (sides_of c.args.first)) bs)) all
    ∙ none_after c.args.first c.loop-shape.common c.shape-item.result (map sides_of (take c.loop-shape.shape-index xs))
    (map sides_of parts.0) _ c.loop-shape.invariant c.in_err-common.ensures.exists refl)

pub loop-shape-preserved : goal.loop-shape-preserved
loop-shape-preserved c =
    let xs : List Shape = c.args.others.now in
    let i : ℕ = c.loop-shape.shape-index in
    let one : map sides_of (take (i + 1) xs) ≡ map sides_of (take i xs) ++ sides_of c.shape-item.result ∷ [] =
    ap (map sides_of) (take_more xs i c.shape-item.result c.loop-shape-test.true ∙ ap (λ y. take i xs ++ y ∷ []) (sym c.shape-item.is))
    ∙ map-append sides_of (take i xs) (c.shape-item.result ∷ []) in
    ap (common_with (Some (sides_of c.args.first))) one
    ∙ common_more c.args.first c.loop-shape.common c.in_ok-common.common (map sides_of (take i xs)) (sides_of c.shape-item.result) c.loop-shape.invariant c.in_ok-common.ensures.sides

pub returns : goal.returns
returns c =
    let xs : List Shape = c.args.others.now in
    let all : take c.loop-shape.shape-index xs ≡ xs = take_all c.loop-shape.shape-index xs c.loop-shape-test.false in
    sym (ap (option_and_then shape_with) (ap (λ ss. common_with (Some (sides_of c.args.first)) (map sides_of ss)) (sym all) ∙ c.loop-shape.invariant)
    ∙ shape_with-sides c.loop-shape.common)
