-- Two runs at which constraints are filtered are one.
use Rattle.std.proofs.Common.{ℕ, List, Some}
use Rattle.dcx_declared.specs.Whole.{HasNoWhole}
use Rattle.dcx_host.specs.Files.{Files}
use Rattle.dcx_answer.specs.declared.filter_outcome.FilterOutcome.{FilterOutcome}
use Rattle.dcx_words.specs.Commands.{iis}
use Rattle.dcx_outcomes.specs.Filters.{AreFilterOutcomes}
use Rattle.dcx_outcomes.specs.FilterLaws.{AreAlikeFilters}
use Rattle.dcx_outcomes.proofs.FilterEnds.{filters_are_one}
use Rattle.dcx_top.specs.Commands.{limit_of}
use Rattle.dcx_top.specs.Runs.{IsFilteredRun}
use Rattle.dcx_top.proofs.OneAsked.{asked_once}

pub filtered_once : (words : List (List ℕ)) (files : Files) (old new was now : ℕ) (os qs : List FilterOutcome) → IsFilteredRun words (Some files) old new os
    → IsFilteredRun words (Some files) was now qs → AreAlikeFilters os qs
filtered_once words files old new was now os qs h k =
    filters_are_one h.asked.work.problem h.limit h.asked.settings os qs h.asked.problem.accepted h.are
    (asked_once words files HasNoWhole HasNoWhole (λ c w ss. AreFilterOutcomes w.problem (limit_of c) ss qs) (iis h.script h.name h.limit) (iis k.script k.name k.limit) h.asked k.asked k.are)
