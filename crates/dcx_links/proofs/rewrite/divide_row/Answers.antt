-- The next number is divided, and what is left has none.
use Rattle.std.proofs.Common.{rules, arith, ◌≡◌, ◌≢◌, ℕ, ◌+◌, ◌<◌, length, pos, unsigned_abs, None, Some, refl, sym, ap, ◌∙◌, subst, to_z-of_z, SFits}
use Rattle.std.specs.Int.{w128}
use Rattle.std.proofs.lemmas.List.{get_or_read}
use Prim.Native.Nat.{◌∣◌}
use Rattle.dcx_math.specs.Divisors.{divided}
use Rattle.dcx_math.proofs.Divisors.{divided-zero}
use Rattle.dcx_links.specs.declared.store.Cell.{Cell}
use Rattle.dcx_links.specs.Lines.{IsNext}
use Rattle.dcx_links.specs.Cells.{InRow, head_at, cell_at, IsAt, number_in}
use Rattle.dcx_links.proofs.Numbers.{at_within}
use Rattle.dcx_links.proofs.Rewrites.{rewritten, at_beyond, number_first, done_on, left_on, divided_some}
use Rattle.dcx_links.proofs.Stores.{cell_read, walk_within, walk_here}
use Rattle.dcx_links.proofs.rewrite.divide_row.Goals as goal

pub cells-init : goal.cells-init
cells-init c =
    let s = c.args.store.now in
    let e : head_at s.row_heads.items c.args.row ≡ c.index-link.result.now = sym (get_or_read s.row_heads.items c.args.row c.index-link.result.now c.requires.row c.index-link.ensures 4294967295) in
    record {
      sound = c.requires.sound;
      rows = refl;
      columns = refl;
      next = subst (λ x. IsNext (InRow s.cells.items) c.args.row 0 x) e (c.requires.sound.rows_linked.linked c.args.row None 0 refl);
      done = λ k lt. absurd (omega arith);
      left = λ k le. refl;
      same = λ r k d. refl;
    }

pub returns-clause-there : goal.returns-clause-there
returns-clause-there c = λ k.
    let v = c.cells.invariant in
    let fb : SFits w128 c.args.by = search rules in
    rewritten (divided (unsigned_abs c.args.by)) (divided-zero (unsigned_abs c.args.by)) c.args.store.now c.cells.store c.args.row c.cells.from c.cells.link v.sound v.next
    (simp to_z-of_z at v.done) v.left c.cells-test.false k

pub change_at-requires-clause-number : goal.change_at-requires-clause-number
change_at-requires-clause-number c =
    let v = c.cells.invariant in
    let s = c.cells.store in
    let lt : c.cells.link < length s.cells.items = walk_within s.cells.items s.row_heads.items s.column_heads.items s.free v.sound c.args.row c.cells.from c.cells.link v.next c.cells-test.true in
    let x = c.index-cell.result.now in
    let e : x ≡ cell_at s.cells.items c.cells.link = cell_read s.cells.items c.cells.link x lt c.index-cell.ensures in
    let fb : SFits w128 c.args.by = search rules in
    let fx : SFits w128 x.value = search rules in
    let fq : SFits w128 c.quotient.result = search rules in
    let here = walk_here s.cells.items s.row_heads.items s.column_heads.items s.free v.sound c.args.row c.cells.from c.cells.link v.next c.cells-test.true in
    let in_row = v.sound.column_within c.cells.link c.args.row (cell_at s.cells.items c.cells.link).column here in
    let w = v.columns in
    let is = number_first (divided (unsigned_abs c.args.by)) (divided-zero (unsigned_abs c.args.by)) c.args.store.now s c.args.row c.cells.from c.cells.link v.sound v.next
    (simp to_z-of_z at v.done) v.left c.cells-test.true ∙ ap (λ (y : Cell). y.value) (sym e) in
    let d : unsigned_abs c.args.by ∣ unsigned_abs x.value = subst (λ z. unsigned_abs c.args.by ∣ unsigned_abs z) is (c.requires.divides (cell_at s.cells.items c.cells.link).column
    (omega (arith, in_row, w))) in
    let some : x.value ≢ pos 0 = λ z. here.number (ap (λ (y : Cell). y.value) (sym e) ∙ z) in
    let f : c.quotient.result ≡ divided (unsigned_abs c.args.by) x.value = simp to_z-of_z at c.quotient.ensures in
    simp to_z-of_z (λ z. divided_some (unsigned_abs c.args.by) x.value some d (sym f ∙ z))

pub cells-smaller : goal.cells-smaller
cells-smaller c =
    let v = c.cells.invariant in
    let fb : SFits w128 c.args.by = search rules in
    let s = c.cells.store in
    let lt : c.cells.link < length s.cells.items = walk_within s.cells.items s.row_heads.items s.column_heads.items s.free v.sound c.args.row c.cells.from c.cells.link v.next c.cells-test.true in
    let e : c.index-cell.result.now ≡ cell_at s.cells.items c.cells.link = cell_read s.cells.items c.cells.link c.index-cell.result.now lt c.index-cell.ensures in
    let q = ap (λ (y : Cell). y.column) e in
    let here = walk_here s.cells.items s.row_heads.items s.column_heads.items s.free v.sound c.args.row c.cells.from c.cells.link v.next c.cells-test.true in
    let in_row = v.sound.column_within c.cells.link c.args.row (cell_at s.cells.items c.cells.link).column here in
    let b = at_beyond (divided (unsigned_abs c.args.by)) (divided-zero (unsigned_abs c.args.by)) c.args.store.now s c.args.row c.cells.from c.cells.link v.sound v.next
    (simp to_z-of_z at v.done) v.left c.cells-test.true in
    let w = c.change_at.ensures.columns in
    omega (arith, q, in_row, b, w)

pub cells-preserved : goal.cells-preserved
cells-preserved c =
    let v = c.cells.invariant in
    let s = c.cells.store in
    let n = c.change_at.new.store in
    let ch = c.change_at.ensures in
    let lt : c.cells.link < length s.cells.items = walk_within s.cells.items s.row_heads.items s.column_heads.items s.free v.sound c.args.row c.cells.from c.cells.link v.next c.cells-test.true in
    let x = c.index-cell.result.now in
    let e : x ≡ cell_at s.cells.items c.cells.link = cell_read s.cells.items c.cells.link x lt c.index-cell.ensures in
    let q : x.column ≡ (cell_at s.cells.items c.cells.link).column = ap (λ (y : Cell). y.column) e in
    let fb : SFits w128 c.args.by = search rules in
    let fx : SFits w128 x.value = search rules in
    let fq : SFits w128 c.quotient.result = search rules in
    let here : IsAt n.cells.items c.cells.link c.args.row x.column = ch.here in
    let lt' : c.cells.link < length n.cells.items = at_within n.cells.items c.cells.link here.number in
    let e' : c.index.result.now ≡ cell_at n.cells.items c.cells.link = cell_read n.cells.items c.cells.link c.index.result.now lt' c.index.ensures in
    let link_is : (cell_at n.cells.items c.cells.link).next_in_row ≡ c.index.result.now.next_in_row = ap (λ (y : Cell). y.next_in_row) (sym e') in
    let next : IsNext (InRow n.cells.items) c.args.row (x.column + 1) c.index.result.now.next_in_row =
    subst (λ k. IsNext (InRow n.cells.items) c.args.row (x.column + 1) k) link_is (ch.sound.rows_linked.linked c.args.row (Some c.cells.link) (x.column + 1) (x.column, here, refl)) in
    let there : number_in n c.args.row (cell_at s.cells.items c.cells.link).column ≡ divided (unsigned_abs c.args.by) (cell_at s.cells.items c.cells.link).value =
    subst (λ k. number_in n c.args.row k ≡ divided (unsigned_abs c.args.by) (cell_at s.cells.items c.cells.link).value) q ((simp to_z-of_z at ch.there)
    ∙ (simp to_z-of_z at c.quotient.ensures) ∙ ap (λ (y : Cell). divided (unsigned_abs c.args.by) y.value) e) in
    let same : (r k : ℕ) → ¬ ((r ≡ c.args.row) × (k ≡ (cell_at s.cells.items c.cells.link).column)) → number_in n r k ≡ number_in s r k = λ r k other. ch.same r k (λ h. other (h.0, h.1 ∙ q)) in
    record {
      sound = ch.sound;
      rows = ch.rows ∙ v.rows;
      columns = ch.columns ∙ v.columns;
      next = next;
      done = simp to_z-of_z (λ k k_in. done_on (divided (unsigned_abs c.args.by)) (divided-zero (unsigned_abs c.args.by)) c.args.store.now s c.args.row c.cells.from c.cells.link
          v.sound v.next (simp to_z-of_z at v.done) v.left c.cells-test.true n there same k (omega (arith, k_in, q)));
      left = λ k le. left_on (divided (unsigned_abs c.args.by)) (divided-zero (unsigned_abs c.args.by)) c.args.store.now s c.args.row c.cells.from c.cells.link v.sound v.next
          (simp to_z-of_z at v.done) v.left c.cells-test.true n there same k (omega (arith, le, q));
      same = λ r k d. ch.same r k (λ h. d h.0) ∙ v.same r k d;
    }
