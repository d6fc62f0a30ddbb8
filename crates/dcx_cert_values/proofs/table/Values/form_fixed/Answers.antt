-- The marks are those of the nodes that reach no variable.
use Rattle.std.proofs.Common.{inl, inr, ℕ, ◌<◌, [], length, sym, subst, ◌∙◌, arith}
use Rattle.dcx_point.specs.Pairs.{Pairs}
use Rattle.dcx_arena.proofs.Orders.{arg_below}
use Rattle.dcx_call.specs.Calls.{shape_of}
use Rattle.dcx_tree.specs.Values.{IsMarked}
use Rattle.dcx_cert_sections.specs.Checks.{Checked}
use Rattle.dcx_cert_values.specs.Forming.{IsFixedNode, forming_where, forming_fixed}
use Rattle.dcx_cert_values.proofs.Known.{no_variable_given}
use Rattle.dcx_cert_values.proofs.Marking.{marked_within}
use Rattle.dcx_cert_values.proofs.Fixed.{argument_fixed, fixed_no_variable}
use Rattle.dcx_cert_values.proofs.Keeping.{passes_where, fails_where}
use Rattle.dcx_cert_values.proofs.Weaker.{checked_weaker}
use Rattle.dcx_cert_values.proofs.table.Values.form_fixed.Goals as goal

pub form_marked-requires-clause-closed : goal.form_marked-requires-clause-closed
form_marked-requires-clause-closed c = λ i a m of.
    let p = c.args.problem.now in
    let lt : i < length p.tree = let b = marked_within c.args.fixed.now i m in omega (arith, b, c.requires.count) in
    let less = arg_below shape_of p.tree p.nodes i a of in
    inl (c.requires.fixed a (omega (arith, lt, less)) ∙ argument_fixed p i a (sym (c.requires.fixed i lt) ∙ m) of)

pub form_marked-requires-clause-given : goal.form_marked-requires-clause-given
form_marked-requires-clause-given c = λ i n m at.
    let p = c.args.problem.now in
    let lt : i < length p.tree = let b = marked_within c.args.fixed.now i m in omega (arith, b, c.requires.count) in
    no_variable_given p c.args.setting.now c.requires.parameters c.empty-point.result i n at (fixed_no_variable p i n at (sym (c.requires.fixed i lt) ∙ m))

pub returns-clause-checked : goal.returns-clause-checked
returns-clause-checked c =
    let p = c.args.problem.now in
    let s = c.args.setting.now in
    let marks = c.args.fixed.now in
    let within : (i : ℕ) → IsMarked marks i → i < length p.tree = λ i m. let b = marked_within marks i m in omega (arith, b, c.requires.count) in
    let sound : (i : ℕ) → IsMarked marks i → IsFixedNode p i = λ i m. sym (c.requires.fixed i (within i m)) ∙ m in
    let checked : Checked (forming_where p s [] (IsMarked marks)) c.form_marked.result =
    subst (λ (x : Pairs). Checked (forming_where p s x (IsMarked marks)) c.form_marked.result) c.empty-point.ensures c.form_marked.ensures.checked in
    checked_weaker (forming_where p s [] (IsMarked marks)) (forming_fixed p s) c.form_marked.result
    (passes_where p s [] marks c.args.self.now (IsFixedNode p) c.requires.values sound (λ i lt q. inl (c.requires.fixed i lt ∙ q)))
    (fails_where p s [] marks c.args.self.now (IsFixedNode p) c.requires.values sound (λ i lt q. inl (c.requires.fixed i lt ∙ q))) checked

pub returns-clause-only : goal.returns-clause-only
returns-clause-only c = λ only j s.
    let p = c.args.problem.now in
    let marks = c.args.fixed.now in
    elim (c.form_marked.ensures.only j s) [
      | inl m ↦ let b = marked_within marks j m in sym (c.requires.fixed j (omega (arith, b, c.requires.count))) ∙ m
      | inr was ↦ only j was
    ]
