-- The marked nodes before the node are formed, and then the node.
use Rattle.std.proofs.Common.{ℕ, ◌<◌, ◌∷◌, [], ◌↔◌, Bool, List, Option, IsSome, length, sym, subst, ap, ◌∙◌}
use Rattle.std.proofs.lemmas.Result.{IfErr-weaker}
use Rattle.dcx_atom.specs.declared.array.Array.{Array}
use Rattle.dcx_arena.specs.Unfold.{IsReached}
use Rattle.dcx_tree.specs.Values.{IsMarked, array_at, AreValues}
use Rattle.dcx_tree.proofs.Forming.{args_there, first_stop}
use Rattle.dcx_tree.proofs.Marks.{reached_self}
use Rattle.dcx_tree.proofs.tree.Tree.value.Goals as goal

pub form_earlier-requires-clause-count : goal.form_earlier-requires-clause-count
form_earlier-requires-clause-count c = ap length c.deref.ensures.value ∙ c.in-Ok.ensures.count

pub form_earlier-requires-clause-marked : goal.form_earlier-requires-clause-marked
form_earlier-requires-clause-marked c =
    subst (λ (ms : List Bool). (i : ℕ) → IsMarked ms i ↔ IsReached c.args.self.now (c.args.node.0 ∷ []) i) (sym c.deref.ensures.value) c.in-Ok.ensures.marked

pub node_value-requires-clause-given : goal.node_value-requires-clause-given
node_value-requires-clause-given c = λ n at. c.requires.given c.args.node.0 n (reached_self c.args.self.now c.args.node.0) at

pub node_value-requires-clause-args : goal.node_value-requires-clause-args
node_value-requires-clause-args c =
    let nodes = c.args.self.now in
    let root = c.args.node.0 in
    let some = subst (λ (xs : List (Option Array)). (k : ℕ) → k < root → IsReached nodes (root ∷ []) k → IsSome (array_at xs k)) (sym c.deref-2.ensures.value) c.in_ok-arrays.ensures.some in
    args_there nodes c.in-Ok.ensures.nodes c.args.setting.now c.args.point.now root c.deref-2.result.now root (reached_self nodes root) some

pub node_value-requires-clause-values : goal.node_value-requires-clause-values
node_value-requires-clause-values c = subst (AreValues c.args.self.now c.args.setting.now c.args.point.now) (sym c.deref-2.ensures.value) c.in_ok-arrays.ensures.values

pub returns-clause-stop : goal.returns-clause-stop
returns-clause-stop c =
    let nodes = c.args.self.now in
    let root = c.args.node.0 in
    IfErr-weaker c.node_value.result _ _
    (λ e h. first_stop nodes c.in-Ok.ensures.nodes c.args.setting.now c.args.point.now root c.in_ok-arrays.arrays.items root e c.requires.there
    (reached_self nodes root) c.in_ok-arrays.ensures.some c.in_ok-arrays.ensures.values h)
    c.node_value.ensures.stop
