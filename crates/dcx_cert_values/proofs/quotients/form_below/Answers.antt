-- A node that no divisor reaches needs no value, and any other is formed or tells why not.
use Rattle.std.proofs.Common.{◌≡◌, ◌⊎◌, inl, inr, [], IfErr, sym, subst, ◌∙◌, true≢false}
use Rattle.dcx_point.specs.Pairs.{Pairs}
use Rattle.dcx_answer.specs.declared.cert_fault.CertFault.TheVariants.{Memory}
use Rattle.dcx_cert_values.specs.Forming.{IsUnformedAt, IsBelowDivisor}
use Rattle.dcx_cert_values.specs.Tables.{AreKeptValues}
use Rattle.dcx_cert_values.proofs.Keeping.{kept_formed}
use Rattle.dcx_cert_values.proofs.Dividing.{below_checked}
use Rattle.dcx_cert_values.proofs.quotients.form_below.Goals as goal

pub returns-then-not-is_below-clause-checked : goal.returns-then-not-is_below-clause-checked
returns-then-not-is_below-clause-checked c = λ below. elim (c.requires.known below) [
  | inl e ↦ absurd (true≢false (sym e ∙ c.if-not-is_below.true))
  | inr s ↦ kept_formed c.args.problem.now c.args.setting.now [] c.args.values.now c.requires.values c.args.node.0 s
]

pub returns-clause-checked : goal.returns-clause-checked
returns-clause-checked c =
    let p = c.args.problem.now in
    let s = c.args.setting.now in
    let i = c.args.node.0 in
    below_checked p s i c.form_node.result c.form_node.new.self
    (subst (λ (x : Pairs). AreKeptValues p s x c.form_node.new.self) c.empty-point.ensures c.form_node.ensures.values) c.form_node.ensures.kept
    (subst (λ (x : Pairs). IfErr c.form_node.result (λ f. (f ≡ Memory) ⊎ IsUnformedAt p s x i f)) c.empty-point.ensures c.form_node.ensures.fault) (c.requires.below c.if-not-is_below.false)

pub returns-clause-only : goal.returns-clause-only
returns-clause-only c = λ j s. elim (c.form_node.ensures.only j s) [
  | inl e ↦ inl (subst (IsBelowDivisor c.args.problem.now) (sym e) (c.requires.below c.if-not-is_below.false))
  | inr was ↦ inr was
]
