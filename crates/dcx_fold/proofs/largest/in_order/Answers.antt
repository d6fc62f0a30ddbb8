-- The sort keeps the numbers, and puts them in order.
use Rattle.std.proofs.Common.{◌≡◌, subst, rules, List}
use Rattle.std.proofs.lemmas.Fn.{always_returns_same}
use Rattle.std.specs.List.Sorted.{IsPermutation}
use Rattle.dcx_frac.specs.declared.fraction.Frac.{Frac}
use Rattle.dcx_fold.proofs.FallingLists.{goes_before, goes_before-ordered, sorted_is}
use Rattle.dcx_fold.proofs.largest.in_order.Goals as goal

pub returns : goal.returns
returns c =
    let copied : c.in_ok-list.list.items ≡ c.args.numbers.now = search rules in
    let sorted = c.sort_unstable_by.ensures.sorted (goes_before c.args.bend) (goes_before-ordered c.args.bend) (always_returns_same _ _ _ (λ a r f k. search rules)) in
    sorted_is c.args.bend c.args.numbers.now c.sort_unstable_by.new.self.items
    (subst (λ (xs : List Frac). IsPermutation xs c.sort_unstable_by.new.self.items) copied c.sort_unstable_by.ensures.permutation) sorted
