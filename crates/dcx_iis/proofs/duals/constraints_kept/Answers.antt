-- A constraint that is kept is added, and any other is not.
use Rattle.std.proofs.Common.{◌+◌, ◌++◌, ◌∙◌, false, drop, ap, arith}
use Rattle.dcx_iis.specs.Steps.{flagged, kept_from, kept_of}
use Rattle.dcx_iis.proofs.Flags.{flag_read}
use Rattle.dcx_iis.proofs.Loops.{kept_more, kept_less, kept_last}
use Rattle.dcx_iis.proofs.duals.constraints_kept.Goals as goal
use Rattle.dcx_iis.proofs.duals.constraints_kept.Goals.{then-kept-index+in_ok-push, else-kept-index}

pub constraints-preserved : goal.constraints-preserved
constraints-preserved c =
    let flags = c.args.kept.now in
    let cs = c.args.constraints.now in
    let i = c.constraints.index in
    let d = c.index-constraints-index.result in
    elim c.if-kept-index.branch [
      | then-kept-index+in_ok-push w ↦
          kept_more (flagged flags) cs i d (omega arith) c.index-constraints-index.is c.constraints.members.items c.if-kept-index.members.items (kept_of (flagged flags) cs)
          (flag_read flags i false (omega (arith, c.requires)) ∙ w.if-kept-index.true) c.constraints.invariant (ap (λ v. v.items) w.members-is ∙ w.in_ok-push.ensures.items)
      | else-kept-index w ↦
          ap (λ v. v.items ++ kept_from (flagged flags) (i + 1) (drop (i + 1) cs)) w.members-is
          ∙ kept_less (flagged flags) cs i d (omega arith) c.index-constraints-index.is c.constraints.members.items (kept_of (flagged flags) cs)
          (flag_read flags i false (omega (arith, c.requires)) ∙ w.if-kept-index.false) c.constraints.invariant
    ]

pub returns : goal.returns
returns c = kept_last (flagged c.args.kept.now) c.args.constraints.now c.constraints.index c.constraints.members.items (kept_of (flagged c.args.kept.now) c.args.constraints.now)
    (omega arith) c.constraints.invariant
