-- The link that ends the search leads nowhere, so no cell of the column stands at the row or below it.
use Rattle.std.proofs.Common.{arith, ◌≡◌, sym, subst}
use Rattle.dcx_links.specs.Lines.{none, IsNext}
use Rattle.dcx_links.specs.Cells.{InColumn, bound_in_column}
use Rattle.dcx_links.proofs.Lines.{nothing_from}
use Rattle.dcx_links.proofs.Numbers.{at_within}
use Rattle.dcx_links.proofs.search.column_spot_from.Goals as goal

pub returns-clause-spot : goal.returns-clause-spot
returns-clause-spot c =
    let b = bound_in_column c.args.cells.now c.loop-link.from in
    let v = c.loop-link.invariant in
    let n : IsNext (InColumn c.args.cells.now) c.args.column b c.loop-link.link = subst (λ x. IsNext (InColumn c.args.cells.now) c.args.column b x) (sym v.leads)
    (c.requires.lines.linked c.args.column c.loop-link.from b v.from) in
    let e : c.loop-link.link ≡ none = c.loop-link-test.false in
    record {
      next = n;
      from = v.from;
      within = v.below;
      gap = λ i q at le.
          let lt = nothing_from (InColumn c.args.cells.now) c.args.column b c.args.row c.loop-link.link n v.below
          (λ i m q at. let z = at_within c.args.cells.now i at.number in omega (arith, z, c.requires.few)) e i q at in
          omega (arith, lt, le);
    }
