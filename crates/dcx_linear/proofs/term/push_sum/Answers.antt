-- The term with the smaller key comes first, terms with one key are added, and the rest of a list comes last.
use Rattle.std.proofs.Common.{◌≤◌, ◌++◌, ◌⊎◌, length, drop, Err, inl, inr, ap, ◌∙◌, arith}
use Rattle.std.proofs.lemmas.Cmp.{ranked}
use Rattle.std.proofs.lemmas.Result.{err_from_is_err_and}
use Rattle.dcx_linear.specs.Stops.{OnPass-weaker}
use Rattle.dcx_linear.specs.Terms.{SumsTerms}
use Rattle.dcx_linear.proofs.Formed.{rest_from, left_goes, right_goes, both_go, both_stop, ends}
use Rattle.dcx_linear.proofs.term.push_sum.Goals as goal
use Rattle.dcx_linear.proofs.term.push_sum.Goals.{then-terms-test+else-j-b, else-terms-test}

pub terms-preserved-in-Less : goal.terms-preserved-in-Less
terms-preserved-in-Less g c =
    let t = g.T.Term in
    record {
      left = omega arith;
      right = omega arith;
      sum = left_goes t.key t.is_zero t.sum_gives c.args.a.now c.args.b.now c.requires.left c.requires.right c.terms.i c.terms.j c.index-a-i.result c.index-b-j.result (omega arith)
          (omega arith) c.index-a-i.is c.index-b-j.is
          c.terms.sum.items c.push_copy.new.list.items (ranked _ _ _ c.in-Less.ensures) (c.in_ok-push_copy-in-Less.ensures {u = tt}) c.terms.invariant.sum;
    }

pub terms-preserved-in-Greater : goal.terms-preserved-in-Greater
terms-preserved-in-Greater g c =
    let t = g.T.Term in
    record {
      left = omega arith;
      right = omega arith;
      sum = right_goes t.key t.is_zero t.sum_gives c.args.a.now c.args.b.now c.requires.left c.requires.right c.terms.i c.terms.j c.index-a-i.result c.index-b-j.result (omega arith)
          (omega arith) c.index-a-i.is c.index-b-j.is
          c.terms.sum.items c.push_copy-in-Greater.new.list.items (ranked _ _ _ c.in-Greater.ensures) (c.in_ok-push_copy-in-Greater.ensures {u = tt}) c.terms.invariant.sum;
    }

pub returns-in_err-push_term_sum-in-Equal : goal.returns-in_err-push_term_sum-in-Equal
returns-in_err-push_term_sum-in-Equal g c =
    let p = err_from_is_err_and c.from_residual-in_err-push_term_sum-in-Equal.result c.from_residual-in_err-push_term_sum-in-Equal.ensures.1 in
    let t = g.T.Term in
    rw (p.1, p.2)
    (OnPass-weaker _ (λ passes. t.sum_gives c.index-a-i.result c.index-b-j.result (Err passes)) (λ passes. SumsTerms t.key t.is_zero t.sum_gives c.args.a.now c.args.b.now (Err passes))
    (λ passes h. both_stop t.key t.is_zero t.sum_gives c.args.a.now c.args.b.now c.requires.left c.requires.right c.terms.i c.terms.j c.index-a-i.result c.index-b-j.result (omega arith)
    (omega arith) c.index-a-i.is c.index-b-j.is
    c.terms.sum.items passes (ranked _ _ _ c.in-Equal.ensures) h c.terms.invariant.sum)
    c.in_err-push_term_sum-in-Equal.ensures.passes)

pub terms-preserved : goal.terms-preserved
terms-preserved g c =
    let t = g.T.Term in
    let added = c.in_ok-push_term_sum-in-Equal.ensures.sum in
    record {
      left = omega arith;
      right = omega arith;
      sum = both_go t.key t.is_zero t.sum_gives c.args.a.now c.args.b.now c.requires.left c.requires.right c.terms.i c.terms.j c.index-a-i.result c.index-b-j.result (omega arith)
          (omega arith) c.index-a-i.is c.index-b-j.is
          c.terms.sum.items c.push_term_sum.new.list.items added.0 (ranked _ _ _ c.in-Equal.ensures) (g.met.T.Term.sum_key _ _ _ added.1) added.1 added.2 c.terms.invariant.sum;
    }

pub returns : goal.returns
returns g c =
    let t = g.T.Term in
    let over : (length c.args.a.now ≤ c.terms.i) ⊎ (length c.args.b.now ≤ c.terms.j) =
    elim c.terms-test.branch [ then-terms-test+else-j-b w ↦ inr (omega arith) | else-terms-test w ↦ inl (omega arith) ] in
    let first = c.in_ok-push_copies.ensures {u = tt} ∙ ap (λ x. c.terms.sum.items ++ x) (rest_from c.terms.i c.args.a.now) in
    let second = c.in_ok-push_copies-2.ensures {u = tt} ∙ ap (λ x. c.push_copies.new.list.items ++ x) (rest_from c.terms.j c.args.b.now) in
    ends t.key t.is_zero t.sum_gives c.args.a.now c.args.b.now c.requires.left c.requires.right c.terms.i c.terms.j over c.terms.sum.items c.push_copies-2.new.list.items
    (second ∙ ap (λ x. x ++ drop c.terms.j c.args.b.now) first) c.terms.invariant.sum
