-- Two runs that tell the range of a parameter are one.
use Rattle.std.proofs.Common.{◌≡◌, ℕ, List, Some, sym, ap, subst, ◌∙◌}
use Rattle.std.proofs.lemmas.Option.{same_Some}
use Rattle.dcx_tree.specs.declared.constraint.Sense.{Sense}
use Rattle.dcx_declared.specs.Whole.{HasNoWhole}
use Rattle.dcx_host.specs.Files.{Files}
use Rattle.dcx_answer.specs.declared.range_outcome.RangeOutcome.{RangeOutcome}
use Rattle.dcx_words.specs.Commands.{Command, range}
use Rattle.dcx_outcomes.specs.Ranges.{AreRangeOutcomes}
use Rattle.dcx_outcomes.specs.RangeLaws.{AreAlikeRanges}
use Rattle.dcx_outcomes.proofs.RangeEnds.{ranges_are_one}
use Rattle.dcx_top.specs.Commands.{limit_of, parameter_name}
use Rattle.dcx_top.specs.Runs.{IsRangedRun}
use Rattle.dcx_top.proofs.OneAsked.{asked_of_one, asked_once}

module _ (words : List (List ℕ)) (files : Files) where
  pub ranged_once : (old new was now : ℕ) (name other : List ℕ) (sense way : Sense) (os qs : List RangeOutcome) → IsRangedRun words (Some files) old new name sense os
      → IsRangedRun words (Some files) was now other way qs
      → (name ≡ other) × (sense ≡ way) × AreAlikeRanges os qs
  ranged_once old new was now name other sense way os qs h k = (
    called,
    h.sense_is ∙ sym (asked_once words files HasNoWhole HasNoWhole (λ c w ss. way ≡ w.problem.sense) here there h.asked k.asked k.sense_is),
    ranges_are_one h.asked.work.problem name h.limit h.asked.settings os qs h.are
        (asked_once words files HasNoWhole HasNoWhole (λ c w ss. AreRangeOutcomes w.problem name (limit_of c) ss qs) here there h.asked k.asked
        (subst (λ n. AreRangeOutcomes k.asked.work.problem n k.limit k.asked.settings qs) (sym called) k.are)),
  )
    where
      here : Command
      here = range h.script h.name name h.limit

      there : Command
      there = range k.script k.name other k.limit

      called : name ≡ other
      called = same_Some name other (ap parameter_name (asked_of_one words files HasNoWhole HasNoWhole here there h.asked k.asked))
