-- One more quotient's divisor is marked.
use Rattle.std.proofs.Common.{◌≡◌, ◌+◌, ◌<◌, Bool, List, true, false, length, sym, ap, subst, ◌∙◌, arith, replicate, rules, Vec, Global}
use Rattle.std.proofs.lemmas.List.{length-set, length-replicate}
use Rattle.dcx_arena.proofs.Orders.{arg_below}
use Rattle.dcx_call.specs.Calls.{shape_of}
use Rattle.dcx_cert_values.proofs.Dividing.{AreDivisorsBelow, no_divisors, divisor_more, divisor_none, all_divisors}
use Rattle.dcx_cert_values.proofs.Fixed.{divisor_is_argument}
use Rattle.dcx_cert_values.proofs.quotients.divisor_marks.Goals as goal
use Rattle.dcx_cert_values.proofs.quotients.divisor_marks.Goals.{in-Some, in-None}

pub loop-i-init : goal.loop-i-init
loop-i-init c =
    let made : c.in_ok-marks.marks.items ≡ replicate c.nodes.result false = search rules in
    let l = length-replicate c.nodes.result false in
    record {
      count = ap length made ∙ l ∙ c.nodes.ensures.count;
      marked = subst (AreDivisorsBelow c.args.tree.now 0) (sym made) (no_divisors c.args.tree.now c.nodes.result);
    }

pub index_mut-requires : goal.index_mut-requires
index_mut-requires c =
    let less = arg_below shape_of c.args.tree.now c.nodes.ensures.nodes c.loop-i.i c.in-Some.divisor.0 (divisor_is_argument c.args.tree.now c.loop-i.i c.in-Some.divisor.0 (sym c.in-Some.ensures)) in
    omega (arith, less, c.loop-i-test.true, c.loop-i.invariant.count, c.nodes-i-end.ensures.count)

pub loop-i-preserved : goal.loop-i-preserved
loop-i-preserved c =
    let nodes = c.args.tree.now in
    let i = c.loop-i.i in
    let marks = c.loop-i.marks.items in
    let items : Vec Bool Global → List Bool = λ v. v.items in
    elim c.match-divisor_of.branch [
      | in-Some w ↦
          let d = w.in-Some.divisor.0 in
          let less = arg_below shape_of nodes c.nodes.ensures.nodes i d (divisor_is_argument nodes i d (sym w.in-Some.ensures)) in
          let lt : d < length marks = omega (arith, less, c.loop-i-test.true, c.loop-i.invariant.count, c.nodes-i-end.ensures.count) in
          record {
            count = ap length (ap items w.marks-is) ∙ length-set marks d true ∙ c.loop-i.invariant.count;
            marked = subst (AreDivisorsBelow nodes (i + 1)) (sym (ap items w.marks-is)) (divisor_more nodes i d marks lt (sym w.in-Some.ensures) c.loop-i.invariant.marked);
          }
      | in-None w ↦ record {
        count = ap length (ap items w.marks-is) ∙ c.loop-i.invariant.count;
        marked = subst (AreDivisorsBelow nodes (i + 1)) (sym (ap items w.marks-is)) (divisor_none nodes i marks (sym w.in-None.ensures) c.loop-i.invariant.marked);
      }
    ]

pub returns-clause-marked : goal.returns-clause-marked
returns-clause-marked c =
    all_divisors c.args.tree.now c.loop-i.i c.loop-i.marks.items (omega (arith, c.loop-i-test.false, c.nodes-i-end.ensures.count)) c.loop-i.invariant.marked
