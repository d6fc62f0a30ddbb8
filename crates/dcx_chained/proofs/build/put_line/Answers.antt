-- The row is put entry by entry.
use Rattle.std.proofs.Common.{arith, ◌+◌, ◌<◌, ◌∷◌, ◌++◌, [], length, refl, sym, ◌∙◌, to_z-of_z, length-append}
use Rattle.dcx_links.specs.Matrix.{number_at}
use Rattle.dcx_chained.proofs.RowReads.{entry-row_of, row_is, row_same}
use Rattle.dcx_chained.proofs.Lines.{line_read}
use Rattle.dcx_chained.proofs.build.put_line.Goals as goal

pub returns-clause-row : goal.returns-clause-row
returns-clause-row c =
    let xs = c.args.entries.now in
    let i = c.args.i in
    let m = c.put_number-3.new.links in
    let n = length xs in
    let fz = c.ranges.z in
    let fw = c.ranges.w in
    let fr = c.ranges.right in
    let a = c.put_number.ensures in
    let b = c.put_number-2.ensures in
    let d = c.put_number-3.ensures in
    let l = length-append xs (c.args.z ∷ c.args.w ∷ c.args.right ∷ []) in
    let w = d.width ∙ b.width ∙ a.width ∙ c.put_entries.ensures.width ∙ c.requires.width in
    row_is m i (xs ++ c.args.z ∷ c.args.w ∷ c.args.right ∷ []) (omega (arith, l, w))
    (λ j lt. line_read (λ k. number_at m i k) xs c.args.z c.args.w c.args.right n (n + 1) (n + 2) refl refl refl
    (λ k k_in. d.same i k (λ h. let e = h.1 in omega (arith, e, k_in)) ∙ b.same i k (λ h. let e = h.1 in omega (arith, e, k_in))
    ∙ a.same i k (λ h. let e = h.1 in omega (arith, e, k_in)) ∙ c.put_entries.ensures.there k k_in)
    (d.same i n (λ h. let e = h.1 in omega (arith, e)) ∙ b.same i n (λ h. let e = h.1 in omega (arith, e)) ∙ a.there ∙ to_z-of_z fz)
    (d.same i (n + 1) (λ h. let e = h.1 in omega (arith, e)) ∙ b.there ∙ to_z-of_z fw)
    (d.there ∙ to_z-of_z fr) j (omega (arith, lt, w)))

pub returns-clause-same : goal.returns-clause-same
returns-clause-same c = λ k other.
    let a = c.put_number.ensures in
    let b = c.put_number-2.ensures in
    let d = c.put_number-3.ensures in
    row_same c.args.links.now c.put_number-3.new.links k (d.width ∙ b.width ∙ a.width ∙ c.put_entries.ensures.width)
    (λ j. d.same k j (λ h. other h.0) ∙ b.same k j (λ h. other h.0) ∙ a.same k j (λ h. other h.0) ∙ c.put_entries.ensures.same k j (λ h. absurd (other h)))

pub put_number-requires-clause-zero : goal.put_number-requires-clause-zero
put_number-requires-clause-zero c =
    let n = length c.args.entries.now in
    let w = c.requires.width in
    let lt : n < c.args.links.now.width = omega (arith, w) in
    c.put_entries.ensures.same c.args.i n (λ e. omega arith) ∙ sym (entry-row_of c.args.links.now c.args.i n lt) ∙ c.requires.zeros n

pub put_number-requires-2-clause-zero : goal.put_number-requires-2-clause-zero
put_number-requires-2-clause-zero c =
    let n = length c.args.entries.now in
    let w = c.requires.width in
    let lt : n + 1 < c.args.links.now.width = omega (arith, w) in
    c.put_number.ensures.same c.args.i (n + 1) (λ h. let e = h.1 in omega (arith, e))
    ∙ c.put_entries.ensures.same c.args.i (n + 1) (λ e. omega arith) ∙ sym (entry-row_of c.args.links.now c.args.i (n + 1) lt) ∙ c.requires.zeros (n + 1)

pub put_number-requires-3-clause-zero : goal.put_number-requires-3-clause-zero
put_number-requires-3-clause-zero c =
    let n = length c.args.entries.now in
    let w = c.requires.width in
    let lt : n + 2 < c.args.links.now.width = omega (arith, w) in
    c.put_number-2.ensures.same c.args.i (n + 2) (λ h. let e = h.1 in omega (arith, e)) ∙ c.put_number.ensures.same c.args.i (n + 2) (λ h. let e = h.1 in omega (arith, e))
    ∙ c.put_entries.ensures.same c.args.i (n + 2) (λ e. omega arith) ∙ sym (entry-row_of c.args.links.now c.args.i (n + 2) lt) ∙ c.requires.zeros (n + 2)
