-- Each entry takes its own rows from those that are left, and is formed or stops as the graph's meaning says.
use Rattle.std.proofs.Common.{◌≡◌, ◌+◌, ◌≤◌, [], Ok, Err, take, drop, length, get_or, slice_index_or, sym, ap, ◌∙◌, subst, arith}
use Rattle.std.specs.List.{All}
use Rattle.std.proofs.lemmas.List.Elements.{All-take, All-drop}
use Rattle.dcx_entries.specs.Forming.{FormsEach, OnStop}
use Rattle.dcx_entries.specs.Standing.{args_of}
use Rattle.dcx_entries.proofs.AtomEntries.{AtomGives, atom_more, atom_stops}
use Rattle.dcx_entries.proofs.Each.{at_index, each_none}
use Rattle.dcx_entries.proofs.OwnRows.{AreLeft, own_then_left, own_count_le, all_left}
use Rattle.dcx_entries.proofs.Places.{RowIsThere, AuxFits}
use Rattle.dcx_entries.proofs.atom.atom_entries.Goals as goal

pub entries-init : goal.entries-init
entries-init g c =
    let t = g.C.Coef in
    record {
      zero = c.new-sum.ensures;
      there = subst (λ rs. All (RowIsThere c.args.first) rs) (sym c.as_slice-rows.ensures) c.requires.there;
      left = λ m sides is. subst (λ rs. AreLeft (m.rows sides) 0 c.args.size rs) (sym c.as_slice-rows.ensures) (all_left (m.rows sides) c.args.size c.args.graph.now.rows is.rows);
      formed = λ m sides is. subst (λ es. FormsEach (AtomGives t.of_number t.number_of t.sum_gives t.change_gives (args_of t.of_number c.args.args.now) c.args.first m sides) 0 (Ok es))
          (sym c.new-entries.ensures.items)
          (each_none (AtomGives t.of_number t.number_of t.sum_gives t.change_gives (args_of t.of_number c.args.args.now) c.args.first m sides));
    }

pub returns-in-Err : goal.returns-in-Err
returns-in-Err g c m sides is =
    let t = g.C.Coef in
    let many : length c.as_slice-results.result.now ≡ c.args.size = ap length c.as_slice-results.ensures ∙ c.requires.size in
    let at = ap (λ l. slice_index_or l c.entries.j []) (sym c.as_slice-results.ensures)
    ∙ at_index c.as_slice-results.result.now c.entries.j c.index-results-j.result [] (omega (arith, many)) c.index-results-j.is ∙ sym c.as_slice.ensures in
    let own = c.split_at.ensures.front ∙ ap (λ n. take n c.entries.rows.now) c.own_rows.ensures in
    subst (λ s. OnStop s (λ e. FormsEach (AtomGives t.of_number t.number_of t.sum_gives t.change_gives (args_of t.of_number c.args.args.now) c.args.first m sides) c.args.size (Err e)))
    (sym c.stop_at.ensures)
    (atom_stops t.of_number t.number_of t.sum_gives t.change_gives (args_of t.of_number c.args.args.now) c.args.first m sides c.args.size c.args.graph.now is c.requires.size c.entries.j (omega arith)
    c.entries.rows.now (c.entries.invariant.left m sides is) c.as_slice.result.now at c.split_at.result.0.now own c.entries.entries.items c.in-Err.stop
    (c.entries.invariant.formed m sides is) c.in-Err.ensures.entry)

pub split_at-requires : goal.split_at-requires
split_at-requires g c = subst (λ n. n ≤ length c.entries.rows.now) (sym c.own_rows.ensures) (own_count_le c.entries.j c.entries.rows.now)

pub atom_entry-requires-clause-few : goal.atom_entry-requires-clause-few
atom_entry-requires-clause-few g c =
    let many : length c.as_slice-results.result.now ≡ c.args.size = ap length c.as_slice-results.ensures ∙ c.requires.size in
    subst (λ ts. All (AuxFits c.args.first) ts)
    (ap (λ l. get_or l c.entries.j c.index-results-j.result) (sym c.as_slice-results.ensures) ∙ sym c.index-results-j.is ∙ sym c.as_slice.ensures)
    (c.requires.few c.entries.j c.index-results-j.result (omega (arith, c.requires.size)))

pub atom_entry-requires-clause-there : goal.atom_entry-requires-clause-there
atom_entry-requires-clause-there g c =
    let t = g.C.Coef in
    subst (λ rs. All (RowIsThere c.args.first) rs) (sym c.split_at.ensures.front)
    (All-take (RowIsThere c.args.first) c.own_rows.result c.entries.rows.now c.entries.invariant.there)

pub entries-preserved : goal.entries-preserved
entries-preserved g c =
    let t = g.C.Coef in
    let many : length c.as_slice-results.result.now ≡ c.args.size = ap length c.as_slice-results.ensures ∙ c.requires.size in
    let at = ap (λ l. slice_index_or l c.entries.j []) (sym c.as_slice-results.ensures)
    ∙ at_index c.as_slice-results.result.now c.entries.j c.index-results-j.result [] (omega (arith, many)) c.index-results-j.is ∙ sym c.as_slice.ensures in
    let own = c.split_at.ensures.front ∙ ap (λ n. take n c.entries.rows.now) c.own_rows.ensures in
    record {
      zero = c.in-Ok.ensures.zero;
      there = subst (λ rs. All (RowIsThere c.args.first) rs) (sym c.split_at.ensures.back)
          (All-drop (RowIsThere c.args.first) c.own_rows.result c.entries.rows.now c.entries.invariant.there);
      left = λ m sides is. subst (λ rs. AreLeft (m.rows sides) (c.entries.j + 1) c.args.size rs) (ap (λ n. drop n c.entries.rows.now) (sym c.own_rows.ensures) ∙ sym c.split_at.ensures.back)
          (own_then_left (m.rows sides) c.entries.j c.args.size c.entries.rows.now (omega arith) (c.entries.invariant.left m sides is)).left;
      formed = λ m sides is. subst (λ es. FormsEach (AtomGives t.of_number t.number_of t.sum_gives t.change_gives (args_of t.of_number c.args.args.now) c.args.first m sides) (c.entries.j + 1) (Ok es))
          (sym c.in_ok-push_entry-in-Ok.ensures.ok)
          (atom_more t.of_number t.number_of t.sum_gives t.change_gives (args_of t.of_number c.args.args.now) c.args.first m sides c.args.size c.args.graph.now is c.requires.size c.entries.j
          (omega arith)
          c.entries.rows.now (c.entries.invariant.left m sides is) c.as_slice.result.now at c.split_at.result.0.now own c.entries.entries.items c.in-Ok.entry
          (c.entries.invariant.formed m sides is) c.in-Ok.ensures.entry);
    }

pub returns : goal.returns
returns g c m sides is =
    let t = g.C.Coef in
    let all : c.entries.j ≡ c.args.size = omega (arith, c.entries.auto.j-end) in
    subst (λ es. FormsEach (AtomGives t.of_number t.number_of t.sum_gives t.change_gives (args_of t.of_number c.args.args.now) c.args.first m sides) c.args.size (Ok es)) (sym c.from_vec.ensures)
    (subst (λ n. FormsEach (AtomGives t.of_number t.number_of t.sum_gives t.change_gives (args_of t.of_number c.args.args.now) c.args.first m sides) n (Ok c.entries.entries.items)) all
    (c.entries.invariant.formed m sides is))
