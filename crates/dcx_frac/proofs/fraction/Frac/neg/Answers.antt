-- The sign is turned, and the parts stay in lowest terms.
use Rattle.std.proofs.Common.{rules, ◌≡◌, ◌∙◌, ap, neg_ℤ, to_z-of_z, SFits, unsigned_abs}
use Rattle.std.specs.Int.{w128}
use Rattle.dcx_frac.proofs.Bits.{back}
use Rattle.dcx_frac.proofs.Turns.{neg_value}
use Rattle.dcx_frac.proofs.fraction.Frac.neg.Goals as goal

pub invariant_of-result : goal.invariant_of-result
invariant_of-result c =
    let n = back c.args.self.num c.args.self.num_fits in
    let d = back c.args.self.den c.args.self.den_fits in
    let k : SFits w128 c.turned.result = search rules in
    let r = to_z-of_z k in
    let s : unsigned_abs c.turned.result ≡ unsigned_abs c.args.self.num = c.turned.ensures.size ∙ ap unsigned_abs n in
    record {
      positive = rw d c.args.self.positive;
      lowest = rw (r, s, d) c.args.self.lowest;
      num_fits = rw (r, s) c.args.self.num_fits;
      den_fits = rw d c.args.self.den_fits;
    }

pub returns : goal.returns
returns c =
    let k : SFits w128 c.turned.result = search rules in
    neg_value c.args.self _ _ _ (to_z-of_z k ∙ c.turned.ensures.value ∙ ap neg_ℤ (back c.args.self.num c.args.self.num_fits)) (back c.args.self.den c.args.self.den_fits)
