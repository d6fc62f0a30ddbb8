-- One more argument has its array: it is there, and known where it is needed.
use Rattle.std.proofs.Common.{◌∙◌, ◌+◌, ◌∷◌, [], Bool, length, get_or, slice_get, sym, ap, subst, arith, length-append}
use Rattle.std.proofs.lemmas.Option.{none-some}
use Rattle.dcx_arena.specs.Nodes.{positions}
use Rattle.dcx_arena.proofs.Positions.{length-positions}
use Rattle.dcx_cert_rays.specs.Steepness.{is_side, IsArgument}
use Rattle.dcx_cert_rays.proofs.Tables.{id_at, arguments_more}
use Rattle.dcx_cert_rays.proofs.node.arguments.Goals as goal

pub loop-k-init : goal.loop-k-init
loop-k-init c = record {
  count = ap length c.new-args.ensures.items;
  each = λ k a v e g. absurd (none-some v (ap (λ xs. slice_get xs k) (sym c.new-args.ensures.items) ∙ g));
}

pub argument-requires-clause-there : goal.argument-requires-clause-there
argument-requires-clause-there c = c.requires.ready.there c.loop-k.k _ (id_at c.args.ids.now c.loop-k.k c.loop-k-test.true)

pub argument-requires-clause-known : goal.argument-requires-clause-known
argument-requires-clause-known c = c.requires.ready.known c.loop-k.k _ (id_at c.args.ids.now c.loop-k.k c.loop-k-test.true)

pub argument-requires-clause-fixed : goal.argument-requires-clause-fixed
argument-requires-clause-fixed c = λ t. c.requires.ready.fixed c.loop-k.k _ (id_at c.args.ids.now c.loop-k.k c.loop-k-test.true) (sym c.is_side.ensures ∙ t)

pub loop-k-preserved : goal.loop-k-preserved
loop-k-preserved c =
    let a = c.args.along.now in
    let k = c.loop-k.k in
    let ids = c.args.ids.now in
    let v = c.in_ok-argument.field-0 in
    let is : IsArgument a.problem.now a.setting.now a.ray.now (is_side c.args.side k) (get_or ids k (record { 0 = 0 })).0 v =
    subst (λ (b : Bool). IsArgument a.problem.now a.setting.now a.ray.now b (get_or ids k (record { 0 = 0 })).0 v) c.is_side.ensures c.in_ok-argument.ensures in
    record {
      count = ap length c.in_ok-push.ensures.items ∙ length-append c.loop-k.args.items (v ∷ []) ∙ ap (λ n. n + 1) c.loop-k.invariant.count;
      each = arguments_more a.problem.now a.setting.now a.ray.now c.args.side (positions ids) c.loop-k.args.items c.push.new.self.items v k (get_or ids k (record { 0 = 0 })).0
          (sym c.loop-k.invariant.count) (id_at ids k c.loop-k-test.true) is c.in_ok-push.ensures.items c.loop-k.invariant.each;
    }

pub returns : goal.returns
returns c =
    let n = length-positions c.args.ids.now in
    record {
      count = omega (arith, n, c.loop-k.invariant.count, c.loop-k-test.false);
      each = c.loop-k.invariant.each;
    }
