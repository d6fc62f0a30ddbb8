-- Where the other keys stand behind, the sum is the one list put behind the other.
use Rattle.std.proofs.Common.{Ok, refl, sym, subst}
use Rattle.dcx_linear.specs.Terms.{IsBehind, SumsTerms}
use Rattle.dcx_linear.proofs.Behind.{sum_behind}
use Rattle.dcx_linear.proofs.term.added_terms.Goals as goal

pub returns-then-goes_on : goal.returns-then-goes_on
returns-then-goes_on g c =
    let t = g.T.Term in
    let behind : IsBehind t.key c.args.a.items c.args.b.now = subst (λ ts. IsBehind t.key ts c.args.b.now) c.deref.ensures.value (c.if-goes_on.ensures refl) in
    subst (λ ts. SumsTerms t.key t.is_zero t.sum_gives c.args.a.items c.args.b.now (Ok ts)) (sym (c.in_ok-push_copies.ensures {u = tt}))
    (sum_behind t.key t.is_zero t.sum_gives c.args.a.items c.args.b.now c.requires.left c.requires.right behind)
