-- The next row has its note.
use Rattle.std.proofs.Common.{◌≡◌, ℕ, ◌+◌, ◌<◌, [], ◌∷◌, length, map, get_or, arith, refl, sym, ap, ◌∙◌, subst, List, true}
use Rattle.std.proofs.lemmas.List.{length-append, length-map, map-append}
use Rattle.dcx_math.specs.Sums.{rat_at}
use Rattle.dcx_frac.specs.Frac.{value}
use Rattle.dcx_tab.specs.Program.{is_negated}
use Rattle.dcx_lp_answer.specs.declared.answer.RowNote.{RowNote}
use Rattle.dcx_lp_answer.specs.Notes.{reduced_cost_of, factor_of, was_negated, row_factor}
use Rattle.dcx_simplex.specs.Reading.{reduced_cost_at}
use Rattle.dcx_lp_answer.specs.Right.{turned_if}
use Rattle.dcx_simplex.proofs.ReadLists.{rat_at-more, along_more}
use Rattle.dcx_simplex.proofs.read.row_notes.Goals as goal

pub rows-preserved : goal.rows-preserved
rows-preserved g c =
    let t = g.T.Tableau.table c.args.tableau.now in
    let i = c.rows.i in
    let rows = c.args.rows.now in
    let row = c.index-rows-i.result in
    let own = get_or c.args.own.now i 0 in
    let v : value c.turned.result ≡ reduced_cost_at t c.args.cost own = c.turned.ensures ∙ ap (turned_if true) c.ratio-rate.ensures in
    let notes = c.rows.notes.items in
    let note : RowNote = record { reduced_cost = c.turned.result; factor = row.factor; negated = row.negated } in
    let items = c.in_ok-push.ensures.items in
    let in_rows : i < length rows = omega arith in
    record {
      count = (let l = length-append notes (note ∷ []) in let n = ap length items in let k = c.rows.invariant.count in omega (arith, l, n, k));
      reduced_costs = subst (λ (ns : List RowNote). (k : ℕ) → k < i + 1 → rat_at (map reduced_cost_of ns) k ≡ reduced_cost_at t c.args.cost (get_or c.args.own.now k 0)) (sym items)
          (λ k l. ap (λ xs. rat_at xs k) (map-append reduced_cost_of notes (note ∷ []))
          ∙ rat_at-more (map reduced_cost_of notes) (reduced_cost_of note) i (λ k. reduced_cost_at t c.args.cost (get_or c.args.own.now k 0))
          (length-map notes reduced_cost_of ∙ c.rows.invariant.count) c.rows.invariant.reduced_costs v k l);
      factors = ap (map factor_of) items ∙ along_more factor_of row_factor notes rows note row i in_rows c.index-rows-i.is c.rows.invariant.factors refl;
      negated = ap (map was_negated) items ∙ along_more was_negated is_negated notes rows note row i in_rows c.index-rows-i.is c.rows.invariant.negated refl;
    }
