-- Where something stands beside the first postfix, the expression is more.
use Rattle.std.proofs.Common.{◌&&◌, sym, ap, ap₂, ◌∙◌}
use Rattle.dcx_elab.proofs.Alone.{has_none, none-length, none-vec, no-postfix, one-postfix, and_then_false, signs_of, raised_of, scaled_of, added_of, compared_of}
use Rattle.dcx_elab.proofs.statements.only_postfix.Goals as goal

pub returns-then-not-is_empty : goal.returns-then-not-is_empty
returns-then-not-is_empty c =
    let e = c.args.tree.now in
    let some = none-vec (compared_of e) c.is_empty.result c.is_empty.ensures ∙ c.if-not-is_empty.true in
    sym (no-postfix e (and_then_false (has_none (signs_of e)) _
    (and_then_false (has_none (raised_of e).items) _ (and_then_false (has_none (scaled_of e).items) _ (and_then_false (has_none (added_of e).items) _ some)))))

pub returns-then-not-is_empty-2 : goal.returns-then-not-is_empty-2
returns-then-not-is_empty-2 c =
    let e = c.args.tree.now in
    let some = none-vec (added_of e) c.is_empty-2.result c.is_empty-2.ensures ∙ c.if-not-is_empty-2.true in
    sym (no-postfix e (and_then_false (has_none (signs_of e)) _
    (and_then_false (has_none (raised_of e).items) _ (and_then_false (has_none (scaled_of e).items) _ (ap (λ b. b && has_none (compared_of e).items) some)))))

pub returns-then-not-is_empty-3 : goal.returns-then-not-is_empty-3
returns-then-not-is_empty-3 c =
    let e = c.args.tree.now in
    let some = none-vec (scaled_of e) c.is_empty-3.result c.is_empty-3.ensures ∙ c.if-not-is_empty-3.true in
    sym (no-postfix e (and_then_false (has_none (signs_of e)) _
    (and_then_false (has_none (raised_of e).items) _ (ap (λ b. b && (has_none (added_of e).items && has_none (compared_of e).items)) some))))

pub returns-then-not-is_empty-5 : goal.returns-then-not-is_empty-5
returns-then-not-is_empty-5 c =
    let e = c.args.tree.now in
    let some = none-vec (raised_of e) c.is_empty-5.result c.is_empty-5.ensures ∙ c.if-not-is_empty-5.true in
    sym (no-postfix e (and_then_false (has_none (signs_of e)) _ (ap (λ b. b && (has_none (scaled_of e).items && (has_none (added_of e).items && has_none (compared_of e).items))) some)))

pub returns : goal.returns
returns c =
    let e = c.args.tree.now in
    let compared = none-vec (compared_of e) c.is_empty.result c.is_empty.ensures ∙ c.if-not-is_empty.false in
    let added = none-vec (added_of e) c.is_empty-2.result c.is_empty-2.ensures ∙ c.if-not-is_empty-2.false in
    let scaled = none-vec (scaled_of e) c.is_empty-3.result c.is_empty-3.ensures ∙ c.if-not-is_empty-3.false in
    let signs = none-length (signs_of e) ∙ sym c.is_empty-4.ensures ∙ c.if-not-is_empty-4.false in
    let raised = none-vec (raised_of e) c.is_empty-5.result c.is_empty-5.ensures ∙ c.if-not-is_empty-5.false in
    sym (one-postfix e (ap₂ (λ a b. a && b) signs (ap₂ (λ a b. a && b) raised (ap₂ (λ a b. a && b) scaled (ap₂ (λ a b. a && b) added compared)))))
