-- A call that may stand where it is has its arguments, and then does what it does.
use Rattle.std.proofs.Common.{◌≡◌, ◌∙◌, true, List, map, Result, Ok, sym, ap₂, subst}
use Rattle.std.specs.Option.{option_copied}
use Rattle.std.proofs.lemmas.Result.{err_from_is_err_and}
use Rattle.dcx_arena.specs.Nodes.{Node}
use Rattle.dcx_call.specs.declared.call.Call.{Call}
use Rattle.dcx_script_values.specs.declared.fault.ElabFault.{ElabFault}
use Rattle.dcx_script_values.specs.Values.{Value, State}
use Rattle.dcx_script_values.specs.Meant.{meant}
use Rattle.dcx_script_values.specs.View.{Fails, Gives}
use Rattle.dcx_signature.specs.Table.{Row, row}
use Rattle.dcx_signature.specs.Arguments.{Bound, arguments}
use Rattle.dcx_signature.specs.View.{row_seen, given_seen}
use Rattle.dcx_functions.specs.Calls.{is_placed, function_called}
use Rattle.dcx_functions.proofs.Steps.{argument_fault, bound_is}
use Rattle.dcx_functions.proofs.calls.function_called.Goals as goal
use Rattle.dcx_script_values.proofs.Acts.{Gives-err}

pub returns-in_err-bound : goal.returns-in_err-bound
returns-in_err-bound c =
    let target = option_copied c.args.target in
    let gs = map given_seen c.args.given.items in
    let s = c.args.state.now in
    let placed : is_placed target c.args.function ≡ true = sym c.is_placed.ensures ∙ c.if-not-is_placed.false in
    let asked : arguments c.tree.result.now c.args.place (row_seen c.row_of.result) gs s ≡ arguments s.nodes c.args.place (row c.args.function) gs s =
    ap₂ (λ (n : List (Node Call)) (r : Row). arguments n c.args.place r gs s) c.tree.ensures c.row_of.ensures in
    let e = c.in_err-bound.field-0.0 in
    let p = err_from_is_err_and c.from_residual.result c.from_residual.ensures.1 in
    Gives-err meant c.from_residual.result s (function_called target c.args.place c.args.function gs s) p.0 e p.1 p.2
    (argument_fault target c.args.place c.args.function gs s placed e (subst (λ (m : Result (Bound × State) ElabFault). Fails e m) asked (c.in_err-bound.ensures s)))

pub returns : goal.returns
returns c =
    let target = option_copied c.args.target in
    let gs = map given_seen c.args.given.items in
    let s = c.args.state.now in
    let placed : is_placed target c.args.function ≡ true = sym c.is_placed.ensures ∙ c.if-not-is_placed.false in
    let asked : arguments c.tree.result.now c.args.place (row_seen c.row_of.result) gs s ≡ arguments s.nodes c.args.place (row c.args.function) gs s =
    ap₂ (λ (n : List (Node Call)) (r : Row). arguments n c.args.place r gs s) c.tree.ensures c.row_of.ensures in
    let bound : arguments s.nodes c.args.place (row c.args.function) gs s ≡ Ok (c.in_ok-bound.bound, s) = sym asked ∙ c.in_ok-bound.ensures s in
    subst (λ (m : Result (Value × State) ElabFault). Gives meant c.perform-performed.result c.perform-performed.new.state m)
    (sym (bound_is target c.args.place c.args.function gs s placed c.in_ok-bound.bound bound))
    c.perform-performed.ensures
