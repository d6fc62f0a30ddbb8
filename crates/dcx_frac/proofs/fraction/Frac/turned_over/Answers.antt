-- The parts change places, and the sign goes to the upper one.
use Rattle.std.proofs.Common.{rules, arith, zero, suc, false, ◌≡◌, ◌≢◌, ◌∙◌, ap, sym, neg_ℤ, ℤ, pos, negsuc, ◌*ℤ◌, ◌<ℤ◌, to_z-of_z, SFits, unsigned_abs, refl}
use Rattle.std.specs.Int.{w128}
use Rattle.std.proofs.lemmas.Int.{ints}
use lib.Signed.{lt_z}
use Rattle.dcx_math.specs.Integers.{*ℤ_comm}
use Rattle.dcx_math.proofs.Divisors.{IsCoprime-swap}
use Rattle.dcx_frac.proofs.Bits.{back}
use Rattle.dcx_frac.proofs.Turns.{inverse_value, turned_cross, zero_num}
use Rattle.dcx_frac.proofs.fraction.Frac.turned_over.Goals as goal

pub invariant_of-result : goal.invariant_of-result
invariant_of-result c =
    let n = back c.args.self.num c.args.self.num_fits in
    let d = back c.args.self.den c.args.self.den_fits in
    let k : SFits w128 c.turned.result = search rules in
    let l : SFits w128 c.turned-then-self-lt0.result = search rules in
    let upper = to_z-of_z k in
    let lower = to_z-of_z l in
    let su : unsigned_abs c.turned.result ≡ unsigned_abs c.args.self.den = c.turned.ensures.size ∙ ap unsigned_abs d in
    let sl : unsigned_abs c.turned-then-self-lt0.result ≡ unsigned_abs c.args.self.num = c.turned-then-self-lt0.ensures.size ∙ ap unsigned_abs n in
    record {
      positive = rw (lower, c.turned-then-self-lt0.ensures.value) (omega (arith, ints));
      lowest = rw (upper, lower, su, sl) (IsCoprime-swap _ _ c.args.self.lowest);
      num_fits = rw (upper, su) c.args.self.den_fits;
      den_fits = rw (lower, sl) c.args.self.num_fits;
    }

pub returns-then-self-lt0 : goal.returns-then-self-lt0
returns-then-self-lt0 c =
    let n = back c.args.self.num c.args.self.num_fits in
    let d = back c.args.self.den c.args.self.den_fits in
    let k : SFits w128 c.turned.result = search rules in
    let l : SFits w128 c.turned-then-self-lt0.result = search rules in
    inverse_value c.args.self _ _ _ c.requires
    (turned_cross c.args.self.num c.args.self.den _ _ (to_z-of_z k ∙ c.turned.ensures.value ∙ ap neg_ℤ d) (to_z-of_z l ∙ c.turned-then-self-lt0.ensures.value ∙ ap neg_ℤ n))

positive : (z : ℤ) → z ≢ pos 0 → lt_z z (pos 0) ≡ false → pos 0 <ℤ z
positive (pos zero) some h = absurd (some refl)
positive (pos (suc n)) some h = omega (arith, ints)
positive (negsuc n) some h = cc

pub invariant_of-result-2 : goal.invariant_of-result-2
invariant_of-result-2 c =
    let n = back c.args.self.num c.args.self.num_fits in
    let d = back c.args.self.den c.args.self.den_fits in
    record {
      positive = rw n (positive c.args.self.num (λ z. c.requires ((zero_num c.args.self).0 z)) (rw n at c.if-self-lt0.false));
      lowest = rw (n, d) (IsCoprime-swap _ _ c.args.self.lowest);
      num_fits = rw d c.args.self.den_fits;
      den_fits = rw n c.args.self.num_fits;
    }

pub returns : goal.returns
returns c =
    let n = back c.args.self.num c.args.self.num_fits in
    let d = back c.args.self.den c.args.self.den_fits in
    inverse_value c.args.self _ _ _ c.requires (ap (λ z. c.args.self.num *ℤ z) d ∙ *ℤ_comm c.args.self.num c.args.self.den ∙ sym (ap (λ z. c.args.self.den *ℤ z) n))
