-- One more number, from the columns of its unknown.
use Rattle.std.proofs.Common.{◌≡◌, ◌+◌, ◌≤◌, ◌++◌, length, map, drop, sym, subst}
use Rattle.std.specs.Prelude.{sum_by}
use Rattle.dcx_frac.specs.Frac.{value}
use Rattle.dcx_linear.specs.declared.row.UnknownKind.TheVariants.{Free}
use Rattle.dcx_linear.specs.Size.{columns_for}
use Rattle.dcx_postsolve.specs.Numbers.{numbers_from, unknown_numbers, AreOneSidedFrom}
use Rattle.dcx_postsolve.proofs.ColumnNumbers.{columns_there, sided_there, number_next}
use Rattle.dcx_postsolve.proofs.numbers.unknown_numbers.Goals as goal

pub unknown_number-requires-clause-there : goal.unknown_number-requires-clause-there
unknown_number-requires-clause-there c = (columns_there c.args.kinds.now c.kinds.kind-index Free c.kinds-test.true c.kinds.next (length c.args.columns.now) c.kinds.invariant.there).0

pub unknown_number-requires-clause-one_sided : goal.unknown_number-requires-clause-one_sided
unknown_number-requires-clause-one_sided c = (sided_there c.args.kinds.now c.kinds.kind-index Free c.kinds-test.true (map value c.args.columns.now) c.kinds.next c.kinds.invariant.one_sided).0

pub kinds-preserved : goal.kinds-preserved
kinds-preserved c =
    let kinds = c.args.kinds.now in
    let i = c.kinds.kind-index in
    let zs = map value c.args.columns.now in
    let next = c.kinds.next in
    let h = c.kinds.invariant in
    let count = sym c.columns.ensures in
    record {
      numbers = subst (λ n. map value c.push.new.self.items ++ numbers_from zs (next + n) (drop (i + 1) kinds) ≡ unknown_numbers kinds zs) count
          (number_next kinds i Free c.kinds-test.true zs next c.kinds.numbers.items c.push.new.self.items c.unknown_number.result
          (unknown_numbers kinds zs) c.unknown_number.ensures c.in_ok-push.ensures.items h.numbers);
      there = subst (λ n. (next + n) + sum_by columns_for (drop (i + 1) kinds) ≤ length c.args.columns.now) count
          (columns_there kinds i Free c.kinds-test.true next (length c.args.columns.now) h.there).1;
      one_sided = subst (λ n. AreOneSidedFrom zs (next + n) (drop (i + 1) kinds)) count (sided_there kinds i Free c.kinds-test.true zs next h.one_sided).1;
    }
