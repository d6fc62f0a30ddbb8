-- A sum with a zero operand is the other operand.
use Rattle.std.proofs.Common.{inl, inr, ⊎_elim, refl, of_z, ap}
use Rattle.std.specs.Int.{w128}
use Rattle.dcx_frac.specs.Formed.{IsZero}
use Rattle.dcx_frac.proofs.Bits.{bits_zero}
use Rattle.dcx_frac.proofs.Turns.{zero_num, zero_left, zero_right}
use Rattle.dcx_frac.proofs.fraction.Frac.sum.Goals as goal

pub returns-then-self-eq0 : goal.returns-then-self-eq0
returns-then-self-eq0 c =
    let z = (zero_num c.args.self).0 (bits_zero c.args.self.num c.args.self.num_fits c.if-self-eq0.true) in
    record { exists = (λ s. inl z, λ h. refl); value = zero_left c.args.self c.args.other z }

pub returns-then-other-eq0 : goal.returns-then-other-eq0
returns-then-other-eq0 c =
    let z = (zero_num c.args.other).0 (bits_zero c.args.other.num c.args.other.num_fits c.if-other-eq0.true) in
    record { exists = (λ s. inr (inl z), λ h. refl); value = zero_right c.args.self c.args.other z }

pub returns-then-other-eq1-clause-exists : goal.returns-then-other-eq1-clause-exists
returns-then-other-eq1-clause-exists c =
    let x : ¬ IsZero c.args.self = λ z. c.if-self-eq0.false (ap (of_z w128) ((zero_num c.args.self).1 z)) in
    let y : ¬ IsZero c.args.other = λ z. c.if-other-eq0.false (ap (of_z w128) ((zero_num c.args.other).1 z)) in
    let e = c.whole_sum.ensures.exists in
    (λ s. inr (inr (e.0 s)), λ h. ⊎_elim (λ z. absurd (x z)) (λ k. ⊎_elim (λ z. absurd (y z)) e.1 k) h)

pub returns : goal.returns
returns c =
    let x : ¬ IsZero c.args.self = λ z. c.if-self-eq0.false (ap (of_z w128) ((zero_num c.args.self).1 z)) in
    let y : ¬ IsZero c.args.other = λ z. c.if-other-eq0.false (ap (of_z w128) ((zero_num c.args.other).1 z)) in
    let e = c.formed_sum.ensures.exists in
    record {
      exists = (λ s. inr (inr (e.0 s)), λ h. ⊎_elim (λ z. absurd (x z)) (λ k. ⊎_elim (λ z. absurd (y z)) e.1 k) h);
      value = c.formed_sum.ensures.value;
    }
