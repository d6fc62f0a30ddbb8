-- One more number, where the flag is set.
use Rattle.std.proofs.Common.{◌+◌, ◌++◌, ◌∙◌, false, drop, get_or, ap, arith}
use Rattle.std.proofs.lemmas.List.{get_or_default}
use Rattle.dcx_iis.specs.Runs.{numbers_from}
use Rattle.dcx_iis.proofs.Loops.{numbers_more, numbers_less, numbers_last}
use Rattle.dcx_iis.proofs.filtering.members_of.Goals as goal
use Rattle.dcx_iis.proofs.filtering.members_of.Goals.{then-flag+in_ok-push, else-flag}

pub kept-preserved : goal.kept-preserved
kept-preserved c =
    let flags = c.args.kept.now in
    let i = c.kept.index in
    let b = get_or flags i false in
    let is = get_or_default flags i false b (omega arith) in
    elim c.if-flag.branch [
      | then-flag+in_ok-push w ↦
          numbers_more flags i b (omega arith) is c.kept.members.items c.if-flag.members.items (numbers_from 0 flags) w.if-flag.true c.kept.invariant
          (ap (λ v. v.items) w.members-is ∙ w.in_ok-push.ensures.items)
      | else-flag w ↦
          ap (λ v. v.items ++ numbers_from (i + 1) (drop (i + 1) flags)) w.members-is
          ∙ numbers_less flags i b (omega arith) is c.kept.members.items (numbers_from 0 flags) w.if-flag.false c.kept.invariant
    ]

pub returns : goal.returns
returns c = c.from_vec.ensures ∙ numbers_last c.args.kept.now c.kept.index c.kept.members.items (numbers_from 0 c.args.kept.now) (omega arith) c.kept.invariant
