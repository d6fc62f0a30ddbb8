-- The only argument gives the shape and the terms.
use Rattle.std.proofs.Common.{◌≡◌, ℕ, List, [], ◌∷◌, map, get_or, sym, ap, ◌∙◌, subst, Option, Some, Result, Ok, Err, IsSome, IfSome, IfOk, option_map}
use Rattle.std.specs.Prelude.{option_and_then}
use Rattle.dcx_shape.specs.declared.shape.Shape.{Shape}
use Rattle.dcx_shape.specs.Shape.{sides_of}
use Rattle.dcx_shape.specs.Sides.{entries_of}
use Rattle.dcx_atom.specs.declared.terms.Triple.{Triple}
use Rattle.dcx_atom.specs.Arrays.{sides_list, list_below}
use Rattle.dcx_atom.specs.Linear.{linear_term, AreTermsOf}
use Rattle.dcx_atom.specs.Bounding.{only}
use Rattle.dcx_affine.specs.Strided.{StridedCall, strided_meaning, stride_terms}
use Rattle.dcx_affine.proofs.strided.strided_map.Goals as goal

-- the terms that an argument with the sides of `from` has
abbrev AreFrom : StridedCall → Shape → ℕ → List (List Triple) → Type 0
AreFrom s from size t = map (map linear_term) t ≡ list_below size (λ k. stride_terms (s.coefficient (sides_of from)) (s.stride (sides_of from) k))

of_only : {E : Type 0} (s : StridedCall) (args : List Shape) (from to : Shape) (r : Option Shape) (size : ℕ) (terms : Result (List (List Triple)) E) →
    IsSome (option_and_then s.result (only (sides_list args))) → from ≡ get_or args 0 from → r ≡ Some to → option_map sides_of r ≡ s.result (sides_of from) → size ≡ entries_of (sides_of to) →
    IfOk terms (AreFrom s from size) → IfOk terms (λ t. IfSome (option_and_then s.result (only (sides_list args))) (λ x. AreTermsOf (strided_meaning s) (sides_list args) (entries_of x) t))
of_only s args from to r size (Err e) some first is made count h = tt
of_only s [] from to r size (Ok t) some first is made count h = cc
of_only s (a ∷ b ∷ rest) from to r size (Ok t) some first is made count h = cc
of_only s (a ∷ []) from to r size (Ok t) some first is made count h =
    let there : s.result (sides_of a) ≡ Some (sides_of to) = ap (λ x. s.result (sides_of x)) (sym first) ∙ sym made ∙ ap (option_map sides_of) is in
    subst (λ o. IfSome o (λ x. AreTermsOf (strided_meaning s) (sides_list (a ∷ [])) (entries_of x) t)) (sym there)
    (subst (λ x. AreFrom s x (entries_of (sides_of to)) t) first (subst (λ n. AreFrom s from n t) count h))

pub returns : goal.returns
returns g c = of_only (g.S.Strided.call c.args.op.now) c.args.args.now c.index-args-0.result c.unwrap.result c.result.result c.size-size.result c.all_terms.result
    c.requires c.index-args-0.is c.unwrap.ensures c.result.ensures c.size-size.ensures.value c.all_terms.ensures
