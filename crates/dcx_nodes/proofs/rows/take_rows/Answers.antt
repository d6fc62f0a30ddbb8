-- One more entry gives its rows and keeps its form.
use Rattle.std.proofs.Common.{◌≡◌, ◌<◌, ◌++◌, length, refl, sym, ap, ◌∙◌, arith}
use Rattle.std.proofs.lemmas.List.{append-nil}
use Rattle.dcx_entries.specs.Parts.{zero_form}
use Rattle.dcx_entries.specs.Entries.{alone}
use Rattle.dcx_nodes.proofs.PairNodes.{same_get}
use Rattle.dcx_nodes.proofs.GraphRows.{rows_to, entry_more, forms_set, later_same}
use Rattle.dcx_nodes.proofs.rows.take_rows.Goals as goal

pub entries-init : goal.entries-init
entries-init g c = record { forms = refl; later = λ j d b. refl; rows_are = sym (append-nil c.args.rows.now.items) }

pub entries-preserved : goal.entries-preserved
entries-preserved g c =
    let t = g.C.Coef in
    let es = c.args.entries.now in
    let now = c.entries.entries in
    let j = c.entries.j in
    let lt : j < length now = omega (arith, c.entries-test.true, c.entries.auto.entries) in
    record {
      forms = forms_set t.of_number now j c.take_entry.new.entry lt (c.in_ok-take_entry.ensures.form ∙ ap (λ e. e.form) (same_get now j c.index-entries-j.result c.take_entry.new.entry lt))
          ∙ c.entries.invariant.forms;
      later = later_same t.of_number es now j c.take_entry.new.entry c.entries.invariant.later;
      rows_are = entry_more t.of_number c.args.node.0 es j _ c.args.rows.now.items c.entries.rows.items c.take_entry.new.rows.items
          (same_get now j c.index-entries-j.result (alone (zero_form t.of_number)) lt ∙ c.entries.invariant.later j (alone (zero_form t.of_number)) (omega arith)) c.entries.invariant.rows_are
          c.in_ok-take_entry.ensures.rows;
    }

pub returns : goal.returns
returns g c =
    let t = g.C.Coef in
    let all : c.entries.j ≡ length c.args.entries.now = omega (arith, c.entries.auto.j-end, c.entries-test.false) in
    record { forms = c.entries.invariant.forms; rows = c.entries.invariant.rows_are ∙ ap (λ n. c.args.rows.now.items ++ rows_to t.of_number c.args.node.0 c.args.entries.now n) all }
