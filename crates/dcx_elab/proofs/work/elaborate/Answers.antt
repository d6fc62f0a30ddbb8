-- What is asked at the end is what the lines leave.
use Rattle.std.proofs.Common.{◌≡◌, List, Some, Ok, map, subst, ap, sym, ◌∙◌}
use Rattle.dcx_syntax.specs.declared.tree.Line as code_line
use Rattle.dcx_syntax.specs.Statements.{Lines}
use Rattle.dcx_syntax.specs.View.{line_view, lines_of, script_view}
use Rattle.dcx_script_values.specs.Values.{Asked, State}
use Rattle.dcx_script_state.specs.Declarations.{start}
use Rattle.dcx_elab.specs.Statements.{lines_mean}
use Rattle.dcx_elab.specs.Meaning.{ended_with, ended, meaning}
use Rattle.dcx_elab.proofs.work.elaborate.Goals as goal

-- there is a problem at the end
asked-means : (ls : Lines) (s : State) (q : Asked) → lines_mean ls start ≡ Ok (tt, s) → s.asked ≡ Some q → meaning ls ≡ Ok (s, q)
asked-means ls s q means asked = ap ended means ∙ ap (ended_with s) asked

pub returns : goal.returns
returns c =
    let asking = c.in_ok-asking.ensures in
    let s = c.lines.new.state in
    let ls = script_view c.args.script.now in
    let means : lines_mean ls c.new-state.result ≡ Ok (tt, s) =
    subst (λ (xs : List code_line.Line). lines_mean (lines_of (map line_view xs)) c.new-state.result ≡ Ok (tt, s)) c.deref.ensures.value c.in_ok-lines.ensures in (
      s,
      (
        asking.0,
        (
          asked-means ls s asking.0 (ap (lines_mean ls) (sym c.new-state.ensures) ∙ means) asking.1,
          record { problem = asking.2.problem; events = c.from_vec.ensures ∙ asking.2.events; last = asking.2.last },
        ),
      ),
    )
