-- The arguments are those at which the call is taken.
use Rattle.std.proofs.Common.{◌≡◌, ◌∙◌, ◌<◌, ℕ, Bool, List, length, map, All, sym, ap, subst, [], ◌∷◌, get_or, Some, IsSome, arith, rules}
use Rattle.dcx_convex.specs.Rules.{Plain, argument, judgement_at}
use Rattle.dcx_tree.specs.declared.problem.Problem.{Problem}
use Rattle.dcx_tree.specs.Meaning.{convex_problem}
use Rattle.dcx_arena.specs.Nodes.{positions}
use Rattle.dcx_tree.proofs.Forming.{args_below}
use Rattle.dcx_cert_rays.specs.Steepness.{AreArguments, IsKnown, TakesArguments}
use Rattle.dcx_cert_rays.proofs.Applied.{only_kept, only_takes, applied_ready, applied_takes}
use Rattle.dcx_arena.specs.declared.node.NodeId.{NodeId}
use Rattle.dcx_arena.proofs.Positions.{length-positions}
use Rattle.dcx_tree.specs.Values.{array_at}
use Rattle.dcx_cert_rays.proofs.node.form.Goals as goal

abbrev first_in : Problem → List ℕ → Bool
first_in p xs = (argument (map (judgement_at Plain (convex_problem p).nodes) xs) 0).fixed

first_id : (ids : List NodeId) (x : NodeId) → length ids ≡ 1 → x ≡ get_or ids 0 x → get_or (positions ids) 0 0 ≡ x.0
first_id [] x one is = absurd (omega (arith, one))
first_id (a ∷ ids) x one is = ap (λ (z : NodeId). z.0) (sym is)

pub kept_value-requires : goal.kept_value-requires
kept_value-requires c =
    let p = c.args.along.now.problem.now in
    let ids = c.in-Ok.ids.items in
    let one : length ids ≡ 1 = first_of (omega (arith, c.len.ensures, c.if-len-eq1.true), search rules) in
    let all : length (positions ids) ≡ 1 = let n = length-positions ids in omega (arith, n, one) in
    subst (λ (k : ℕ). IsSome (array_at c.args.arrays.now k)) (first_id ids c.index.result.now one c.index.ensures)
    (only_kept p c.args.along.now.setting.now c.args.along.now.ray.now c.args.node.0 c.requires.there c.requires.moves c.args.arrays.now (positions ids) c.in-Ok.ensures all
    (subst (All (IsKnown p c.args.arrays.now)) (sym c.in-Ok.ensures) c.requires.known))

pub apply-requires-clause-args : goal.apply-requires-clause-args
apply-requires-clause-args c =
    let a = c.args.along.now in
    let ids = c.in-Ok.ids.items in
    let one : length ids ≡ 1 = first_of (omega (arith, c.len.ensures, c.if-len-eq1.true), search rules) in
    let all : length (positions ids) ≡ 1 = let n = length-positions ids in omega (arith, n, one) in
    let first = first_id ids c.index.result.now one c.index.ensures in
    let there = subst (λ (k : ℕ). array_at c.args.arrays.now k ≡ Some c.kept_value.result.now) (sym first) c.kept_value.ensures in
    subst (TakesArguments a.problem.now a.setting.now a.ray.now c.args.node.0) (sym c.from_ref-only.ensures.value)
    (only_takes a.problem.now a.setting.now a.ray.now c.args.node.0 (positions ids) c.kept_value.result.now c.in-Ok.ensures all
    (c.requires.kept.steep (get_or (positions ids) 0 0) c.kept_value.result.now there))

pub is_first_fixed-requires-clause-there : goal.is_first_fixed-requires-clause-there
is_first_fixed-requires-clause-there c =
    let p = c.args.along.now.problem.now in
    subst (All (λ (a : ℕ). a < length p.tree)) (sym (ap positions c.deref.ensures.value ∙ c.in-Ok.ensures)) (args_below p.tree p.nodes c.args.node.0 (length p.tree) c.requires.there)

pub arguments-requires-clause-ready : goal.arguments-requires-clause-ready
arguments-requires-clause-ready c =
    let a = c.args.along.now in
    let own = ap positions c.deref.ensures.value ∙ c.in-Ok.ensures in
    let ids = ap positions c.deref-2.ensures.value ∙ c.in-Ok.ensures in
    applied_ready a.problem.now a.setting.now a.ray.now c.args.node.0 c.call.result.now c.call.ensures c.requires.moves c.requires.given.accepted c.args.arrays.now c.requires.known
    c.is_first_fixed.result c.value_side-side.result (positions c.deref-2.result.now) ids
    (c.is_first_fixed.ensures ∙ ap (first_in a.problem.now) (own ∙ sym ids)) c.value_side-side.ensures

pub apply-requires-in-Ok-arguments-clause-args : goal.apply-requires-in-Ok-arguments-clause-args
apply-requires-in-Ok-arguments-clause-args c =
    let a = c.args.along.now in
    let own = ap positions c.deref.ensures.value ∙ c.in-Ok.ensures in
    let ids = ap positions c.deref-2.ensures.value ∙ c.in-Ok.ensures in
    applied_takes a.problem.now a.setting.now a.ray.now c.args.node.0 c.call.result.now c.call.ensures c.requires.moves
    c.is_first_fixed.result c.value_side-side.result (positions c.deref-2.result.now) c.deref-in-Ok-arguments.result.now ids
    (c.is_first_fixed.ensures ∙ ap (first_in a.problem.now) (own ∙ sym ids)) c.value_side-side.ensures
    (subst (AreArguments a.problem.now a.setting.now a.ray.now c.value_side-side.result (positions c.deref-2.result.now)) (sym c.deref-in-Ok-arguments.ensures.value) c.in-Ok-arguments.ensures)
