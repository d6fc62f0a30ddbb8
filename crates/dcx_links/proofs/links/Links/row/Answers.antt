-- The head of a row leads to its first number.
use Rattle.std.proofs.Common.{rules, ◌≡◌, ◌∙◌, ap, refl, sym, subst, None, List, ℤ}
use Rattle.std.proofs.lemmas.List.{get_or_read}
use Rattle.dcx_links.specs.Lines.{IsNext}
use Rattle.dcx_links.specs.Cells.{InRow, head_at}
use Rattle.dcx_links.specs.Matrix.{Matrix, row_of}
use Rattle.dcx_links.proofs.Matrices.{row_of-matrix_of}
use Rattle.dcx_links.proofs.Passes.{walk_at}
use Rattle.dcx_links.proofs.links.Links.row.Goals as goal

pub invariant_of-result : goal.invariant_of-result
invariant_of-result c =
    let s = c.self.inside.store in
    let e : head_at s.row_heads.items c.args.row ≡ c.index.result.now = sym (get_or_read s.row_heads.items c.args.row c.index.result.now (search rules) c.index.ensures 4294967295) in
    (c.self.invariant.sound, subst (λ x. IsNext (InRow s.cells.items) c.args.row 0 x) e (c.self.invariant.sound.rows_linked.linked c.args.row None 0 refl))

pub returns : goal.returns
returns c = ap (λ (ns : List ℤ). walk_at ns 0) (row_of-matrix_of c.self.inside.store c.self.invariant.sound c.args.row ∙ ap (λ (m : Matrix). row_of m c.args.row) c.self.view_is)
