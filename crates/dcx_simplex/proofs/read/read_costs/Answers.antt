-- The parts of the answer are the numbers that the tableau shows.
use Rattle.std.proofs.Common.{ℕ, ◌+◌, length, map, get_or, arith, refl, sym, ap, ap₂, ◌∙◌, subst, List}
use Rattle.dcx_math.specs.Rational.{whole, ◌/ℚ◌}
use Rattle.dcx_math.specs.Sums.{rat_at}
use Rattle.dcx_frac.specs.declared.fraction.Frac.{Frac}
use Rattle.dcx_tab.specs.Table.{entry_at}
use Rattle.dcx_tab.specs.Program.{is_negated}
use Rattle.dcx_lp_answer.specs.declared.answer.RowNote.{RowNote}
use Rattle.dcx_lp_answer.specs.Notes.{numbers, reduced_cost_of, factor_of, was_negated, row_factor}
use Rattle.dcx_simplex.specs.Basis.{lead_at}
use Rattle.dcx_simplex.specs.Reading.{IsColumnNumber, reduced_cost_at, read_row}
use Rattle.dcx_simplex.proofs.Owns.{own_low, own_unique}
use Rattle.dcx_simplex.proofs.read.read_costs.Goals as goal

pub row_notes-requires-clause-own : goal.row_notes-requires-clause-own
row_notes-requires-clause-own g c = λ i h.
    let p = c.args.program.now in
    let own = c.in_ok-own.ensures.own i (omega (arith, h, ap length c.as_slice.ensures)) in
    let low = own_low p.columns i _ own in
    let e = ap (λ (xs : List ℕ). get_or xs i 0) c.deref.ensures.value in
    omega (arith, low, e, c.requires.columns)

pub returns-clause-reading : goal.returns-clause-reading
returns-clause-reading g c =
    let t = g.T.Tableau.table c.args.tableau.now in
    let p = c.args.program.now in
    let row = read_row c.args.status t in
    let cost = c.cost_row-cost.ensures in
    let columns = c.from_vec.ensures in
    let notes = c.from_vec-2.ensures in
    let slice = c.as_slice.ensures in
    record {
      status = refl;
      columns = ap length columns ∙ c.in_ok-columns.ensures.len ∙ c.requires.columns;
      column = λ j h. subst (λ (xs : List Frac). IsColumnNumber t j (rat_at (numbers xs) j)) (sym columns) (c.in_ok-columns.ensures.numbers j (omega (arith, h, c.requires.columns)));
      number = c.cost_ratio.ensures ∙ ap (λ n. whole (entry_at t row (n + 2)) /ℚ whole (lead_at t row)) c.columns-right.ensures;
      notes = ap length notes ∙ c.in_ok-notes.ensures.len ∙ ap length slice;
      reduced_costs = λ i j h own.
          let mine = c.in_ok-own.ensures.own i h in
          let same = ap (λ (xs : List ℕ). get_or xs i 0) c.deref.ensures.value ∙ own_unique p.rows p.columns p.objective p.phase p.form i _ j mine own in
          ap (λ (ns : List RowNote). rat_at (map reduced_cost_of ns) i) notes ∙ c.in_ok-notes.ensures.reduced_costs i (omega (arith, h, ap length slice)) ∙ ap₂ (reduced_cost_at t) cost same;
      factors = ap (map factor_of) notes ∙ c.in_ok-notes.ensures.factors ∙ ap (map row_factor) slice;
      negated = ap (map was_negated) notes ∙ c.in_ok-notes.ensures.negated ∙ ap (map is_negated) slice;
    }
