-- The others are asked where the first isn't met.
use Rattle.std.proofs.Common.{◌≡◌, ◌-◌, length, take, drop, length-drop, arith}
use Rattle.std.proofs.lemmas.List.{take_all}
use Rattle.dcx_case_files.specs.Judging.{BeginsWith, refusal_front}
use Rattle.dcx_case_files.proofs.Begins.{none_first}
use Rattle.dcx_case_files.proofs.fronts.+refuses_any.Goals as goal

pub returns-else-branch : goal.returns-else-branch
returns-else-branch t c =
    let numbers = c.args.numbers.now in
    let size = length-drop 1 numbers in
    let rest : take (length numbers - 1) (drop 1 numbers) ≡ drop 1 numbers = take_all (length numbers - 1) (drop 1 numbers) (omega (arith, size)) in
    none_first (λ n. BeginsWith (refusal_front n) c.args.report.now) numbers c.in_ok-refuses-in-len1-up.field-0 c.refuses_any.result c.in-len1-up.len_at_least c.in_ok-refuses-in-len1-up.ensures
    c.if-branch.false _ rest c.refuses_any.ensures
