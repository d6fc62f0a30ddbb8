-- The parts are read, and the fraction is made of them.
use Rattle.std.proofs.Common.{ap₂, ◌++◌, sym, ◌∙◌, subst}
use Rattle.std.proofs.lemmas.List.{take-append-drop}
use Rattle.std.specs.List.{AllByRecursion}
use Rattle.dcx_lines.specs.Reading.{IsNoSlash}
use Rattle.dcx_lines.proofs.Runs.{Ends, ends_at}
use Rattle.dcx_lines.proofs.Written.{parts_of, read_quotient, read_whole}
use Rattle.dcx_lines.proofs.numbers.written.Goals as goal

pub returns-in-Some : goal.returns-in-Some
returns-in-Some c = λ f e.
    let bytes = c.args.bytes.now in
    let i = c.slash_in.result in
    let front = c.split_at.ensures.front in
    let back = c.split_at.ensures.back in
    let parts = parts_of f c.split_at.result.0.now c.split_at.result.1.now (subst (AllByRecursion IsNoSlash) (sym front) c.slash_in.ensures.before)
    (subst (Ends IsNoSlash) (sym back) (ends_at IsNoSlash bytes i c.slash_in.ensures.within c.slash_in.ensures.found)) (ap₂ (◌++◌) front back ∙ take-append-drop i bytes ∙ e) in
    read_quotient f c.split_at.result.0.now c.split_at.result.1.now c.in-Some.den.now c.whole.result c.whole-in-Some.result c.of_parts.result parts c.in-Some.ensures c.whole.ensures
    c.whole-in-Some.ensures c.of_parts.ensures

pub returns-in-None : goal.returns-in-None
returns-in-None c = λ f e.
    let bytes = c.args.bytes.now in
    let i = c.slash_in.result in
    let front = c.split_at.ensures.front in
    let back = c.split_at.ensures.back in
    let parts = parts_of f c.split_at.result.0.now c.split_at.result.1.now (subst (AllByRecursion IsNoSlash) (sym front) c.slash_in.ensures.before)
    (subst (Ends IsNoSlash) (sym back) (ends_at IsNoSlash bytes i c.slash_in.ensures.within c.slash_in.ensures.found)) (ap₂ (◌++◌) front back ∙ take-append-drop i bytes ∙ e) in
    read_whole f c.split_at.result.0.now c.split_at.result.1.now c.whole-in-None.result c.of_parts-in-None.result parts c.in-None.ensures c.whole-in-None.ensures c.of_parts-in-None.ensures
