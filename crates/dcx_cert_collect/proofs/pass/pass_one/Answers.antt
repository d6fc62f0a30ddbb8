-- The node takes the last coefficients off, and is passed with its own weights.
use Rattle.std.proofs.Common.{◌≡◌, ◌∙◌, ◌≤◌, sym, length, get_or, subst, Ok, OnOk, IfErr, Vec, Global, vec_len}
use Rattle.std.proofs.lemmas.Result.{on_ok_weaker}
use Rattle.dcx_tree.specs.Values.{array_at}
use Rattle.dcx_cert_collect.specs.Pass.{Kept, kept_of, IsOrMemory}
use Rattle.dcx_cert_collect.proofs.Starting.{start_there, start_is}
use Rattle.dcx_cert_collect.proofs.Passing.{own_count, start_inside, step_told, passed_count}
use Rattle.dcx_cert_collect.proofs.pass.pass_one.Goals as goal

length_of : {A : Type 0} (v : Vec A Global) → length v.items ≡ vec_len v
length_of v = sym v.ok.0

pub bounds-given-node : goal.bounds-given-node
bounds-given-node g c = start_there c.args.given.now.tree.now c.args.given.now.starts.now c.args.node.0 c.requires.given.starts c.requires.there

pub split_off-requires : goal.split_off-requires
split_off-requires g c =
    let nodes = c.args.given.now.tree.now in
    let i = c.args.node.0 in
    subst (λ n. get_or c.args.given.now.starts.now i 0 ≤ n) (length_of c.args.state.now.below)
    (start_inside nodes c.args.state.now.below.items i _ c.requires.there (start_is nodes c.args.given.now.starts.now i c.requires.given.starts c.requires.there) c.requires.below)

pub pass_node-requires-clause-coefficients : goal.pass_node-requires-clause-coefficients
pass_node-requires-clause-coefficients g c =
    let nodes = c.args.given.now.tree.now in
    let i = c.args.node.0 in
    own_count nodes c.args.state.now.below.items c.in-Ok.own.items i _ c.requires.there
    (start_is nodes c.args.given.now.starts.now i c.requires.given.starts c.requires.there) c.requires.below c.in-Ok.ensures.tail

pub returns-in-Ok-clause-ok : goal.returns-in-Ok-clause-ok
returns-in-Ok-clause-ok g c =
    let nodes = c.args.given.now.tree.now in
    let i = c.args.node.0 in
    subst (λ r. OnOk c.pass_node.result (r ≡ Ok (kept_of c.pass_node.new.state)))
    (step_told nodes c.args.given.now.values.now (g.W.CallWeights.weights c.args.weights.now) c.of_node.result.now i (get_or c.args.given.now.starts.now i 0)
    (kept_of c.args.state.now) c.split_off.new.self.items c.in-Ok.own.items
    c.of_node.ensures (start_is nodes c.args.given.now.starts.now i c.requires.given.starts c.requires.there) c.in-Ok.ensures.items c.in-Ok.ensures.tail)
    c.pass_node.ensures.ok

pub returns-in-Ok-clause-below : goal.returns-in-Ok-clause-below
returns-in-Ok-clause-below g c =
    let nodes = c.args.given.now.tree.now in
    let i = c.args.node.0 in
    let before : Kept = record { below = c.split_off.new.self.items; reached = c.args.state.now.reached.items; total = c.args.state.now.total } in
    on_ok_weaker c.pass_node.result
    (λ h. passed_count nodes c.args.given.now.values.now (λ _. c.of_node.result.now) i (array_at c.args.given.now.values.now i) c.in-Ok.own.items before (kept_of c.pass_node.new.state) h
    ∙ length_of c.split_off.new.self ∙ c.in-Ok.ensures.len ∙ start_is nodes c.args.given.now.starts.now i c.requires.given.starts c.requires.there)
    c.pass_node.ensures.ok

pub returns-in-Ok-clause-stop : goal.returns-in-Ok-clause-stop
returns-in-Ok-clause-stop g c =
    let nodes = c.args.given.now.tree.now in
    let i = c.args.node.0 in
    subst (λ r. IfErr c.pass_node.result (IsOrMemory r))
    (step_told nodes c.args.given.now.values.now (g.W.CallWeights.weights c.args.weights.now) c.of_node.result.now i (get_or c.args.given.now.starts.now i 0)
    (kept_of c.args.state.now) c.split_off.new.self.items c.in-Ok.own.items
    c.of_node.ensures (start_is nodes c.args.given.now.starts.now i c.requires.given.starts c.requires.there) c.in-Ok.ensures.items c.in-Ok.ensures.tail)
    c.pass_node.ensures.stop
