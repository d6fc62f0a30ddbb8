-- The level is listed, and then one unknown more at a time.
use Rattle.std.proofs.Common.{◌≡◌, ℕ, suc, ◌+◌, ◌∙◌, ap, ap₂, sym, arith, [], ◌∷◌, ◌++◌, map, pos}
use Rattle.std.proofs.lemmas.List.{map-append}
use Rattle.dcx_math.specs.Rational.{ℚ, whole}
use Rattle.dcx_atom.specs.declared.graph.AuxTerm.{AuxTerm}
use Rattle.dcx_atom.specs.Bounding.{outward}
use Rattle.dcx_atom.specs.Graph.{form_term}
use Rattle.dcx_atom.specs.Rows.{FormTerm, Form}
use Rattle.dcx_atom.proofs.Lists.{list_below-next}
use Rattle.dcx_fold.specs.Largest.{level_form}
use Rattle.dcx_fold.proofs.largest.level_result.Goals as goal

abbrev term : ℕ → ℚ → FormTerm
term i x = record { aux = i; coefficient = x }

pub loop-i-init : goal.loop-i-init
loop-i-init c =
    let first : AuxTerm = record { aux = 0; coefficient = c.whole_number.result } in
    ap (map form_term) (c.in_ok-push.ensures.items ∙ ap (λ xs. xs ++ first ∷ []) c.new-terms.ensures.items)
    ∙ ap (λ x. term 0 x ∷ []) c.whole_number.ensures

pub loop-i-preserved : goal.loop-i-preserved
loop-i-preserved c =
    let i = c.loop-i.i in
    let own : AuxTerm = record { aux = i + 1; coefficient = c.outward_of.result } in
    let next : i + 1 ≡ suc i = omega arith in
    ap (map form_term) c.in_ok-push-2.ensures.items ∙ map-append form_term c.loop-i.terms.items (own ∷ [])
    ∙ ap₂ (λ (xs : Form) x. xs ++ x ∷ []) c.loop-i.invariant (ap₂ term next (c.outward_of.ensures ∙ ap (outward c.args.bend) c.one.ensures))
    ∙ ap (λ (xs : Form). term 0 (whole (pos c.args.k)) ∷ xs) (sym (list_below-next i (λ i. term (suc i) (outward c.args.bend (whole (pos 1))))))

pub returns : goal.returns
returns c =
    let end : c.loop-i.i ≡ c.args.size = omega (arith, c.loop-i-test.false, c.loop-i.auto.i-end) in
    ap (map form_term) c.from_vec.ensures ∙ c.loop-i.invariant ∙ ap (level_form c.args.bend c.args.k) end
