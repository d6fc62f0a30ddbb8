-- The ray is read at the column that enters.
use Rattle.std.proofs.Common.{length, arith, sym, ap, ◌∙◌, subst, List}
use Rattle.dcx_math.specs.Sums.{rat_at}
use Rattle.dcx_frac.specs.declared.fraction.Frac.{Frac}
use Rattle.dcx_lp_answer.specs.Notes.{numbers}
use Rattle.dcx_simplex.specs.Reading.{IsColumnChange}
use Rattle.dcx_simplex.proofs.read.read_ray.Goals as goal

pub returns-clause-reading : goal.returns-clause-reading
returns-clause-reading g c =
    let h = c.in_ok-answer.ensures.reading in
    record {
      status = h.status;
      columns = h.columns;
      column = h.column;
      number = h.number;
      notes = h.notes;
      reduced_costs = h.reduced_costs;
      factors = h.factors;
      negated = h.negated;
    }

pub returns-clause-ray : goal.returns-clause-ray
returns-clause-ray g c =
    let t = g.T.Tableau.table c.args.tableau.now in
    record {
      ray = ap length c.from_vec.ensures ∙ c.in_ok-changes.ensures.len ∙ c.requires.columns;
      change = λ j h. subst (λ (xs : List Frac). IsColumnChange t c.args.column j (rat_at (numbers xs) j)) (sym c.from_vec.ensures)
          (c.in_ok-changes.ensures.changes j (omega (arith, h, c.requires.columns)));
      slope = c.cost_ratio-answer.ensures;
    }
