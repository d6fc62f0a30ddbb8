-- The next entry is put behind those so far.
use Rattle.std.proofs.Common.{rules, arith, ◌≡◌, ◌<◌, sym, ◌∙◌, subst, inl, inr, to_z-of_z, SFits}
use Rattle.std.specs.Int.{w128}
use Rattle.std.proofs.lemmas.Bool.{cases_eq}
use Rattle.dcx_tab.specs.Rows.{entry}
use Rattle.dcx_links.specs.Matrix.{number_at}
use Rattle.dcx_chained.proofs.RowReads.{entry-row_of}
use Rattle.dcx_chained.proofs.build.put_entries.Goals as goal

pub overflow_cast-j : goal.overflow_cast-j
overflow_cast-j c = let t = c.entries-test.true in let f = c.requires.few in record { fits = omega (arith, t, f) }

pub put_number-requires-clause-row : goal.put_number-requires-clause-row
put_number-requires-clause-row c = let h = c.entries.invariant.height in let r = c.requires.row in omega (arith, h, r)

pub put_number-requires-clause-column : goal.put_number-requires-clause-column
put_number-requires-clause-column c = let t = c.entries-test.true in let w = c.entries.invariant.width in let r = c.requires.within in omega (arith, t, w, r)

pub put_number-requires-clause-zero : goal.put_number-requires-clause-zero
put_number-requires-clause-zero c =
    let j = c.entries.j in
    let t = c.entries-test.true in
    let r = c.requires.within in
    let lt : j < c.args.links.now.width = omega (arith, t, r) in
    c.entries.invariant.same c.args.i j (λ e. omega arith) ∙ sym (entry-row_of c.args.links.now c.args.i j lt) ∙ c.requires.zeros j

pub entries-preserved : goal.entries-preserved
entries-preserved c =
    let v = c.entries.invariant in
    let n = c.put_number.ensures in
    let es = c.args.entries.now in
    let i = c.entries.j in
    let f : SFits w128 (entry es i) = search rules in
    let here : number_at c.put_number.new.links c.args.i i ≡ entry es i = n.there ∙ to_z-of_z f in
    record {
      height = n.height ∙ v.height;
      width = n.width ∙ v.width;
      there = λ j lt. elim (cases_eq j i) [
        | inl e ↦ subst (λ x. number_at c.put_number.new.links c.args.i x ≡ entry es x) (sym e) here
        | inr d ↦ n.same c.args.i j (λ h. d h.1) ∙ v.there j (omega (arith, lt, d))
      ];
      same = λ k j h. n.same k j (λ e. let z = h e.0 in let y = e.1 in omega (arith, z, y)) ∙ v.same k j (λ e. let z = h e in omega (arith, z));
    }

pub returns-clause-same : goal.returns-clause-same
returns-clause-same c = λ k j h. c.entries.invariant.same k j (λ e. let y = h e in let z = c.entries.auto.j-end in omega (arith, y, z))
