-- The ink that stands first is the text of the number.
use Rattle.std.proofs.Common.{ap₂, ◌++◌, sym, ◌∙◌, subst}
use Rattle.std.proofs.lemmas.List.{take-append-drop}
use Rattle.std.proofs.lemmas.Option.{same_Some, none-some}
use Rattle.std.specs.List.{AllByRecursion}
use Rattle.dcx_frac.specs.Text.{frac_text}
use Rattle.dcx_lines.specs.Reading.{IsInk}
use Rattle.dcx_lines.proofs.FracText.{frac_ink}
use Rattle.dcx_lines.proofs.Runs.{Ends, ends_at, one_run}
use Rattle.dcx_lines.proofs.numbers.read_ink.Goals as goal

pub returns-in-Some-clause-every : goal.returns-in-Some-clause-every
returns-in-Some-clause-every c = λ f rest begins e.
    let bytes = c.args.bytes.now in
    let i = c.ink_in.result in
    let front = c.split_at.ensures.front in
    let back = c.split_at.ensures.back in
    let run = one_run IsInk c.split_at.result.0.now (frac_text f) c.split_at.result.1.now rest (subst (AllByRecursion IsInk) (sym front) c.ink_in.ensures.before) (frac_ink f)
    (subst (Ends IsInk) (sym back) (ends_at IsInk bytes i c.ink_in.ensures.within c.ink_in.ensures.found)) begins (ap₂ (◌++◌) front back ∙ take-append-drop i bytes ∙ e) in
    let same = c.in-Some.ensures.every f run.0 in
    (same_Some _ _ same, run.1)

pub returns-in-None-clause-every : goal.returns-in-None-clause-every
returns-in-None-clause-every c = λ f rest begins e.
    let bytes = c.args.bytes.now in
    let i = c.ink_in.result in
    let front = c.split_at.ensures.front in
    let back = c.split_at.ensures.back in
    let run = one_run IsInk c.split_at.result.0.now (frac_text f) c.split_at.result.1.now rest (subst (AllByRecursion IsInk) (sym front) c.ink_in.ensures.before) (frac_ink f)
    (subst (Ends IsInk) (sym back) (ends_at IsInk bytes i c.ink_in.ensures.within c.ink_in.ensures.found)) begins (ap₂ (◌++◌) front back ∙ take-append-drop i bytes ∙ e) in
    none-some f (c.in-None.ensures.every f run.0)
