-- The entries so far are formed of their terms: one more is formed, or it is the first that stops.
use Rattle.std.proofs.Common.{◌≡◌, ◌+◌, [], Ok, Err, map, sym, ◌∙◌, subst, arith}
use Rattle.dcx_atom.specs.Linear.{linear_term}
use Rattle.dcx_entries.specs.Forming.{FormsEach, OnStop}
use Rattle.dcx_entries.specs.Parts.{term_part}
use Rattle.dcx_entries.specs.Entries.{LinearEntry}
use Rattle.dcx_entries.specs.Standing.{args_of}
use Rattle.dcx_entries.proofs.Each.{at_index, EntryOf, entry_more, entry_stops}
use Rattle.dcx_entries.proofs.linear.linear_entries.Goals as goal

pub returns-in-Err : goal.returns-in-Err
returns-in-Err g c =
    let t = g.C.Coef in
    let here = at_index c.args.terms.now c.entries.j c.index-terms-j.result [] (omega arith) c.index-terms-j.is ∙ sym c.as_slice.ensures in
    subst (λ s. OnStop s (λ e. FormsEach
    (EntryOf c.args.terms.now [] (λ ts r. LinearEntry t.of_number t.number_of t.sum_gives t.change_gives (map (term_part (args_of t.of_number c.args.args.now)) (map linear_term ts)) r)) c.args.size
    (Err e)))
    (sym c.stop_at.ensures)
    (entry_stops c.args.terms.now [] (λ ts r. LinearEntry t.of_number t.number_of t.sum_gives t.change_gives (map (term_part (args_of t.of_number c.args.args.now)) (map linear_term ts)) r)
    c.entries.j c.as_slice.result.now here c.args.size (omega arith) c.entries.entries.items c.in-Err.stop c.entries.invariant.formed c.in-Err.ensures.entry)

pub entries-preserved : goal.entries-preserved
entries-preserved g c =
    let t = g.C.Coef in
    let here = at_index c.args.terms.now c.entries.j c.index-terms-j.result [] (omega arith) c.index-terms-j.is ∙ sym c.as_slice.ensures in
    record {
      zero = c.in-Ok.ensures.zero;
      formed = subst (λ es. FormsEach
          (EntryOf c.args.terms.now [] (λ ts r. LinearEntry t.of_number t.number_of t.sum_gives t.change_gives (map (term_part (args_of t.of_number c.args.args.now)) (map linear_term ts)) r))
          (c.entries.j + 1) (Ok es))
          (sym c.in_ok-push_entry-in-Ok.ensures.ok)
          (entry_more c.args.terms.now [] (λ ts r. LinearEntry t.of_number t.number_of t.sum_gives t.change_gives (map (term_part (args_of t.of_number c.args.args.now)) (map linear_term ts)) r)
          c.entries.j c.as_slice.result.now here c.entries.entries.items c.in-Ok.entry c.entries.invariant.formed c.in-Ok.ensures.entry);
    }

pub returns : goal.returns
returns g c =
    let t = g.C.Coef in
    let all : c.entries.j ≡ c.args.size = omega (arith, c.entries.auto.j-end) in
    subst (λ es. FormsEach
    (EntryOf c.args.terms.now [] (λ ts r. LinearEntry t.of_number t.number_of t.sum_gives t.change_gives (map (term_part (args_of t.of_number c.args.args.now)) (map linear_term ts)) r)) c.args.size
    (Ok es)) (sym c.from_vec.ensures)
    (subst (λ n. FormsEach
    (EntryOf c.args.terms.now [] (λ ts r. LinearEntry t.of_number t.number_of t.sum_gives t.change_gives (map (term_part (args_of t.of_number c.args.args.now)) (map linear_term ts)) r)) n
    (Ok c.entries.entries.items)) all c.entries.invariant.formed)
