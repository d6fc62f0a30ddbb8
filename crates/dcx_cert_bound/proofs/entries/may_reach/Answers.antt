-- The comparisons are exact.
use Rattle.std.proofs.Common.{◌≡◌, ◌≢◌, Bool, MatchBool, refl, sym, ap₂, ◌∙◌, subst, pos}
use Rattle.dcx_math.specs.Rational.{ℚ, whole, rat_le, rat_eq}
use Rattle.dcx_frac.specs.Frac.{value}
use Rattle.dcx_call.specs.declared.attribute.Attribute.{Attribute}
use Rattle.dcx_call.specs.declared.attribute.Attribute.TheVariants.{Free, Nonneg, Nonpos, Symmetric, Diag}
use Rattle.dcx_domain.proofs.Comparisons.{at_most, equal}
use Rattle.dcx_cert_bound.specs.Variables.{MayReachEntry, MayNotReachEntry}
use Rattle.dcx_cert_bound.proofs.entries.may_reach.Goals as goal

abbrev Decided : Bool → ℚ → Attribute → Type 0
Decided b x a = MatchBool b (MayReachEntry a x) (MayNotReachEntry a x)

-- an attribute without a sign asks for 0
unsigned : (b : Bool) (x : ℚ) (a : Attribute) → (a ≡ Nonneg → ⊥) → (a ≡ Nonpos → ⊥) → MatchBool b (x ≡ whole (pos 0)) (x ≢ whole (pos 0)) → Decided b x a
unsigned b x Free n m h = h
unsigned b x Nonneg n m h = absurd (n refl)
unsigned b x Nonpos n m h = absurd (m refl)
unsigned b x Symmetric n m h = h
unsigned b x Diag n m h = h

pub returns-in-Nonneg : goal.returns-in-Nonneg
returns-in-Nonneg c =
    let x = value c.args.number.now in
    subst (Decided c.is_at_most.result x) (sym c.in-Nonneg.is) (at_most c.is_at_most.result (whole (pos 0)) x (c.is_at_most.ensures ∙ ap₂ rat_le c.zero.ensures refl))

pub returns-in-Nonpos : goal.returns-in-Nonpos
returns-in-Nonpos c =
    let x = value c.args.number.now in
    let r = c.is_at_most-in-Nonpos.result in
    subst (Decided r x) (sym c.in-Nonpos.is) (at_most r x (whole (pos 0)) (c.is_at_most-in-Nonpos.ensures ∙ ap₂ rat_le refl c.zero-in-Nonpos.ensures))

pub returns-in_default : goal.returns-in_default
returns-in_default c =
    let x = value c.args.number.now in
    let r = c.is_equal.result in
    unsigned r x c.args.attribute c.in_default.not-Nonneg c.in_default.not-Nonpos (equal r x (whole (pos 0)) (c.is_equal.ensures ∙ ap₂ rat_eq refl c.zero-in_default.ensures) (λ h. h) (λ h. h))
