-- One more row has a narrow size, and those before it keep theirs.
use Rattle.std.proofs.Common.{arith, sym, subst, inl, inr}
use Rattle.std.proofs.lemmas.Bool.{cases_eq}
use Rattle.dcx_links.specs.Matrix.{row_of}
use Rattle.dcx_chained.specs.Narrow.{IsSized, size_at}
use Rattle.dcx_chained.proofs.Sizes.{sized_where}
use Rattle.dcx_chained.proofs.narrow.note_sizes.Goals as goal

pub rows-preserved : goal.rows-preserved
rows-preserved c =
    let m = c.args.links.now in
    let v = c.rows.invariant in
    let i = c.rows.i in
    let n = c.note_size.ensures in
    let now = c.note_size.new.sizes in
    record {
      sized = λ k lt. elim (cases_eq k i) [
        | inl e ↦ subst (λ q. IsSized (size_at now q) (row_of m q)) (sym e) (sized_where (size_at now i) (row_of m i) c.size_of-size.result (n.narrow c.if-not-note_size.false)
            (n.there c.if-not-note_size.false) c.size_of-size.ensures)
        | inr d ↦ subst (λ z. IsSized z (row_of m k)) (sym (n.others k d)) (v.sized k (omega (arith, lt, d)))
      ];
    }
