-- The entries so far are formed of their pairs: one more is formed, or it is the first that stops.
use Rattle.std.proofs.Common.{◌≡◌, ◌+◌, [], Ok, sym, ◌∙◌, subst, arith}
use Rattle.std.specs.List.{All}
use Rattle.std.proofs.lemmas.Result.{err_from_is_err_and}
use Rattle.dcx_entries.specs.Forming.{FormsEach}
use Rattle.dcx_entries.specs.Standing.{args_of, HasNumbersFor}
use Rattle.dcx_entries.proofs.Each.{at_index}
use Rattle.dcx_entries.proofs.PairEntries.{PairGives, pair_more, pair_stops}
use Rattle.dcx_entries.proofs.pairs.pair_entries.Goals as goal

pub pair_entry-requires-clause-numbers : goal.pair_entry-requires-clause-numbers
pair_entry-requires-clause-numbers g c =
    let t = g.C.Coef in
    subst (λ ps. All (HasNumbersFor t.number_of c.args.scaling (args_of t.of_number c.args.args.now)) ps) (sym c.index-pairs-j.is ∙ sym c.as_slice.ensures)
    (c.requires.numbers c.entries.j c.index-pairs-j.result (omega (arith, c.requires.size)))

pub returns-in_err-entry : goal.returns-in_err-entry
returns-in_err-entry g c =
    let t = g.C.Coef in
    let here = at_index c.args.pairs.now c.entries.j c.index-pairs-j.result [] (omega (arith, c.requires.size)) c.index-pairs-j.is ∙ sym c.as_slice.ensures in
    let p = err_from_is_err_and c.from_residual.result c.from_residual.ensures.1 in
    rw (p.1, p.2)
    (pair_stops t.of_number t.number_of t.sum_gives t.change_gives c.args.scaling (args_of t.of_number c.args.args.now) c.args.pairs.now c.entries.j c.as_slice.result.now here
    c.args.size (omega arith) c.entries.entries.items _ c.entries.invariant.formed c.in_err-entry.ensures.entry)

pub entries-preserved : goal.entries-preserved
entries-preserved g c =
    let t = g.C.Coef in
    let here = at_index c.args.pairs.now c.entries.j c.index-pairs-j.result [] (omega (arith, c.requires.size)) c.index-pairs-j.is ∙ sym c.as_slice.ensures in
    record {
      zero = c.in_ok-entry.ensures.zero;
      formed = subst (λ es. FormsEach (PairGives t.of_number t.number_of t.sum_gives t.change_gives c.args.scaling (args_of t.of_number c.args.args.now) c.args.pairs.now) (c.entries.j + 1) (Ok es))
          (sym c.in_ok-push_entry.ensures.ok)
          (pair_more t.of_number t.number_of t.sum_gives t.change_gives c.args.scaling (args_of t.of_number c.args.args.now) c.args.pairs.now c.entries.j c.as_slice.result.now here
          c.entries.entries.items c.in_ok-entry.entry c.entries.invariant.formed c.in_ok-entry.ensures.entry);
    }

pub returns : goal.returns
returns g c =
    let t = g.C.Coef in
    let all : c.entries.j ≡ c.args.size = omega (arith, c.entries.auto.j-end) in
    subst (λ es. FormsEach (PairGives t.of_number t.number_of t.sum_gives t.change_gives c.args.scaling (args_of t.of_number c.args.args.now) c.args.pairs.now) c.args.size (Ok es))
    (sym c.from_vec.ensures)
    (subst (λ n. FormsEach (PairGives t.of_number t.number_of t.sum_gives t.change_gives c.args.scaling (args_of t.of_number c.args.args.now) c.args.pairs.now) n
    (Ok c.entries.entries.items)) all c.entries.invariant.formed)
