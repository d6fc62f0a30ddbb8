-- What is kept stays so, and the push is that of the definition.
use Rattle.std.proofs.Common.{◌≡◌, Err, sym, ap, ◌∙◌, subst}
use Rattle.dcx_arena.specs.Nodes.{positions}
use Rattle.dcx_tree.specs.Problems.{IsListed}
use Rattle.dcx_script_values.specs.Values.{State}
use Rattle.dcx_script_state.specs.Kept.{state_of}
use Rattle.dcx_script_state.proofs.Grown.{push_comes, kept_after}
use Rattle.dcx_script_state.proofs.Pushes.{seen_at, pushed_gives}
use Rattle.dcx_script_state.proofs.state.State.put.Goals as goal
use Rattle.dcx_script_state.proofs.state.State.put.Goals.{in-Ok, in-Err}

pub invariant_of-self : goal.invariant_of-self
invariant_of-self c =
    let listed = subst (λ (s : State). IsListed s.variables s.parameters c.args.call) (sym c.self.view_is) c.requires in
    let come = push_comes c.self.inside.tree c.args.call (positions c.args.args.now) c.args.place c.push.result c.push.new.self c.push.ensures.pushed c.push.ensures.same in
    kept_after c.self.inside.tree c.push.new.self c.self.inside.declared.variables c.self.inside.declared.parameters c.self.inside.asked c.args.call come listed
    c.are_there.ensures.nodes c.self.invariant

pub returns : goal.returns
returns c =
    let there = sym c.are_there.ensures.told ∙ c.if-not-are_there.false in
    let is = elim c.match-push.branch as (λ _. c.match-push.result ≡ seen_at c.args.place c.push.result) [
      | in-Ok w ↦ w.result-is ∙ sym (ap (seen_at c.args.place) w.in-Ok.is)
      | in-Err w ↦ w.result-is ∙ ap Err w.tree_fault.ensures ∙ sym (ap (seen_at c.args.place) w.in-Err.is)
    ] in
    pushed_gives (state_of c.self.inside) c.args.self.now c.args.place c.args.call
    (positions c.args.args.now) c.self.view_is c.are_there.ensures.nodes there c.push.result c.match-push.result c.push.new.self
    c.push.ensures.pushed is
